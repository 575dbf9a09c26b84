use Rattle.site_bodies.proofs.Walked.{quoted_passed}
use Rattle.site_bodies.proofs.flat.text.Goals as goal

pub returns : goal.returns
returns c = quoted_passed c.plain_length-end.result c.in_ok-text.text.now c.in_ok-inside.ensures
    c.plain_length-end.ensures.plain c.in_ok-after.ensures c.in_ok-text.ensures.0 c.in_ok-text.ensures.1
