use Rattle.std.proofs.Common.{◌-◌, ◌∙◌, ap, arith, drop, length, length-drop}
use Rattle.std.proofs.lemmas.List.{length-take-le}
use Rattle.wire.specs.Held.{Held}
use Rattle.wire.proofs.Rooms.{held_after}
use Rattle.wire.proofs.inbox.Inbox.done.Goals as goal

pub returns-clause-held : goal.returns-clause-held
returns-clause-held c =
    let i = c.self.inside in
    let size = length-take-le (i.end - i.start) (drop i.start i.buffer.items) (omega
    (arith, length-drop i.start i.buffer.items, c.self.invariant)) in
    let here = ap (λ (h : Held). h.held) c.self.view_is in
    held_after i.buffer.items i.start i.end c.args.count (omega (arith, size, ap length here, c.requires, c.self.invariant.0)) ∙ ap
    (drop c.args.count) here
