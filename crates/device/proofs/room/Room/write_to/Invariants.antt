use Rattle.std.proofs.Common.{length}
use Rattle.std.specs.Io.KnownBytes.{Keeps, append_known}
use Rattle.device.specs.Given.{IsBeginning}
use Rattle.device.specs.Room.{items}
use Rattle.device.proofs.room.Room.write_to.Given as goal

abbrev pub invariant-loop-writer : goal.invariant-loop-writer
invariant-loop-writer g l = record {
  bytes : Keeps (append_known (g.W.Write.contents l.fn.writer) (items l.fn.self)) (append_known (g.W.Write.contents l.writer) (items l.self));
  front : IsBeginning (g.W.Write.contents l.fn.writer) (g.W.Write.contents l.writer);
}

abbrev pub decreases-loop-writer : goal.decreases-loop-writer
decreases-loop-writer g l = length (items l.self)
