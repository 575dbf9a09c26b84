-- each byte so far stands for itself
use Rattle.std.proofs.Common.{◌≡◌, take}
use Rattle.json.specs.Print.{escape}
use Rattle.site_bodies.proofs.lone.plain_text.Given as goal

abbrev pub invariant-loop-byte : goal.invariant-loop-byte
invariant-loop-byte l = escape (take l.byte-index l.bytes) ≡ take l.byte-index l.bytes
