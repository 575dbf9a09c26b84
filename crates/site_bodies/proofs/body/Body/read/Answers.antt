use Rattle.site_bodies.specs.Body.{fields_of}
use Rattle.site_bodies.proofs.body.Body.read.Goals as goal

pub returns-in-Some : goal.returns-in-Some
unfolding fields_of
returns-in-Some c = c.in-Some.ensures

pub returns-in-Ok : goal.returns-in-Ok
unfolding fields_of
returns-in-Ok c = c.in-Ok.ensures
