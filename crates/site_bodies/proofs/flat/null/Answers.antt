use Rattle.std.proofs.Common.{refl}
use Rattle.site_bodies.proofs.Walked.{null_value}
use Rattle.site_bodies.proofs.flat.null.Goals as goal

pub returns-then-ends_word : goal.returns-then-ends_word
returns-then-ends_word c = null_value c.in_ok-after.ensures (c.if-ends_word.ensures refl)
