use Rattle.std.proofs.Common.{ap, ◌∙◌}
use Rattle.site_bodies.specs.Fields.{maybe_whole_at}
use Rattle.site_bodies.specs.Values.{maybe_whole_in}
use Rattle.site_bodies.proofs.slots.Flat.maybe_whole.Goals as goal

pub returns-in-Some : goal.returns-in-Some
unfolding maybe_whole_at
returns-in-Some c = c.maybe_whole.ensures ∙ ap maybe_whole_in c.in-Some.ensures

pub returns-in-None : goal.returns-in-None
unfolding maybe_whole_at
returns-in-None c = ap maybe_whole_in c.in-None.ensures
