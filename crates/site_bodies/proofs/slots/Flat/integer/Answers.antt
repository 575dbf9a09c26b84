use Rattle.std.proofs.Common.{ap, ◌∙◌}
use Rattle.site_bodies.specs.Fields.{integer_at}
use Rattle.site_bodies.specs.Values.{integer_in}
use Rattle.site_bodies.proofs.slots.Flat.integer.Goals as goal

pub returns-in-Some : goal.returns-in-Some
unfolding integer_at
returns-in-Some c = c.integer.ensures ∙ ap integer_in c.in-Some.ensures

pub returns-in-None : goal.returns-in-None
unfolding integer_at
returns-in-None c = ap integer_in c.in-None.ensures
