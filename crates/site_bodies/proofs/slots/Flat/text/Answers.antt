use Rattle.std.proofs.Common.{ap, ◌∙◌}
use Rattle.site_bodies.specs.Fields.{text_at}
use Rattle.site_bodies.specs.Values.{text_in}
use Rattle.site_bodies.proofs.slots.Flat.text.Goals as goal

pub returns-in-Some : goal.returns-in-Some
unfolding text_at
returns-in-Some c = c.text.ensures ∙ ap text_in c.in-Some.ensures

pub returns-in-None : goal.returns-in-None
unfolding text_at
returns-in-None c = ap text_in c.in-None.ensures
