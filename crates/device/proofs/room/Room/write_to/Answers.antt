use Rattle.std.proofs.Common.{◌≡◌, ℕ, List, ◌++◌, take, take-append-drop, ap, sym, ◌∙◌}
use Rattle.std.proofs.KnownBytes.{Keeps-trans, append_known-moved}
use Rattle.device.specs.Room.{items}
use Rattle.device.proofs.Beginnings.{is_beginning-step}
use Rattle.device.proofs.room.Room.write_to.Goals as goal

pub loop-writer-preserved : goal.loop-writer-preserved
loop-writer-preserved g c =
    let n = c.in-Ok.count in
    let held = items c.loop-writer.self in
    let wrote = rw c.as_slice.ensures at c.in-Ok.ensures.bytes in
    let whole : held ≡ take n held ++ items c.consume.new.self =
    sym (ap (λ (l : List ℕ). take n held ++ l) c.consume.ensures ∙ take-append-drop n held) in
    record {
      bytes = Keeps-trans _ _ _ c.loop-writer.invariant.bytes (append_known-moved _ _ (take n held) (items c.consume.new.self) held wrote whole);
      front = is_beginning-step _ _ _ _ c.loop-writer.invariant.front wrote;
    }
