use Rattle.std.proofs.Common.{refl}
use Rattle.std.proofs.lemmas.Str.{IsUtf8-from_ascii}
use Rattle.site_bodies.proofs.Walked.{quoted_passed}
use Rattle.site_bodies.proofs.flat.name.Goals as goal

pub returns : goal.returns
returns c = quoted_passed c.name_length-end.result _ c.in_ok-inside.ensures
    c.name_length-end.ensures.plain c.in_ok-after.ensures refl (IsUtf8-from_ascii _ c.name_length-end.ensures.ascii)
