use Rattle.std.proofs.Common.{Some, None, ◌∙◌}
use Rattle.json.specs.Value.{value_view}
use Rattle.site_bodies.specs.Fields.{whole_at}
use Rattle.site_bodies.specs.Values.{whole_in}
use Rattle.site_bodies.proofs.Report.{report}
use Rattle.site_bodies.proofs.tree.Tree.whole.Goals as goal

pub returns-in-Some : goal.returns-in-Some
unfolding whole_at
returns-in-Some c =
    c.whole_of.ensures ∙ report whole_in c.args.name.now (value_view c.args.self.now.value) (Some
    (value_view c.in-Some.value.now)) c.args.self.now.read c.in-Some.ensures

pub returns-in-None : goal.returns-in-None
unfolding whole_at
returns-in-None c = report whole_in c.args.name.now
    (value_view c.args.self.now.value) None c.args.self.now.read c.in-None.ensures
