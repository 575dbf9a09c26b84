use Rattle.std.proofs.Common.{◌≡◌, ℕ, ◌≤◌, List, ◌++◌, length, ap, ◌∙◌, arith}
use Rattle.std.proofs.lemmas.List.{take_all, length-take-le}
use Rattle.device.specs.Room.{items}
use Rattle.device.proofs.RoomLemmas.{grown}
use Rattle.device.proofs.room.Room.copy.Goals as goal

pub returns-clause-items : goal.returns-clause-items
returns-clause-items c =
    let r = c.args.self.now in
    let n = c.min-count.result in
    let copied = c.copy_from_slice.new.self in
    let within : r.end ≤ length r.bytes = omega arith in
    let fits : n ≤ length c.args.bytes.now = omega arith in
    let len : length copied ≡ n = ap length c.copy_from_slice.ensures.after ∙ length-take-le n c.args.bytes.now fits in
    grown r.bytes copied r.start r.end _ n r.ordered within (omega (arith, len))
    ∙ ap (λ (t : List ℕ). items r ++ t) (take_all n copied (omega (arith, len)) ∙ c.copy_from_slice.ensures.after)
