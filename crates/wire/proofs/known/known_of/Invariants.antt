-- what is known is of the fields so far
use Rattle.std.proofs.Common.{map, take}
use Rattle.httparse.specs.Spans.{header_bytes}
use Rattle.wire.specs.Known.{IsKnown}
use Rattle.wire.proofs.known.known_of.Given as goal

abbrev pub invariant-loop-span : goal.invariant-loop-span
invariant-loop-span l = IsKnown (map (header_bytes l.bytes) (take l.span-index l.spans)) l.known
