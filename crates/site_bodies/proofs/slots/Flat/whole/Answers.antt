use Rattle.std.proofs.Common.{ap, ◌∙◌}
use Rattle.site_bodies.specs.Fields.{whole_at}
use Rattle.site_bodies.specs.Values.{whole_in}
use Rattle.site_bodies.proofs.slots.Flat.whole.Goals as goal

pub returns-in-Some : goal.returns-in-Some
unfolding whole_at
returns-in-Some c = c.whole.ensures ∙ ap whole_in c.in-Some.ensures

pub returns-in-None : goal.returns-in-None
unfolding whole_at
returns-in-None c = ap whole_in c.in-None.ensures
