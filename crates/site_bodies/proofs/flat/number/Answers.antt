use Rattle.site_bodies.proofs.Walked.{whole_value}
use Rattle.site_bodies.proofs.flat.number.Goals as goal

pub returns : goal.returns
returns c = whole_value c.in_ok-number.number c.in_ok-number.ensures
