-- whether each byte so far stands for itself
use Rattle.json_plain.proofs.Plain.{AreSeen}
use Rattle.json_plain.proofs.are_plain.Given as goal

abbrev pub invariant-loop-byte : goal.invariant-loop-byte
invariant-loop-byte l = AreSeen l.bytes l.byte-index l.plain
