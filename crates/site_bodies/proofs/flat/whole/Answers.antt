use Rattle.std.proofs.Common.{refl}
use Rattle.site_bodies.proofs.Walked.{size_at}
use Rattle.site_bodies.proofs.flat.whole.Goals as goal

pub returns : goal.returns
returns c = size_at c.digits_length-end.result c.in_ok-number.number c.in_ok-number.ensures
    (c.if-not-ends_word.ensures refl)
