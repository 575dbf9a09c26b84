use Rattle.site_bodies.proofs.Walked.{closed}
use Rattle.site_bodies.proofs.flat.ends.Goals as goal

pub returns-in-Some : goal.returns-in-Some
returns-in-Some c = closed c.after_spaces.ensures c.in-Some.ensures c.after_spaces-in-Some.ensures c.is_empty.ensures
