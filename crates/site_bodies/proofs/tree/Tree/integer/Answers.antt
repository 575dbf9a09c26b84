use Rattle.std.proofs.Common.{Some, None, ◌∙◌}
use Rattle.json.specs.Value.{value_view}
use Rattle.site_bodies.specs.Fields.{integer_at}
use Rattle.site_bodies.specs.Values.{integer_in}
use Rattle.site_bodies.proofs.Report.{report}
use Rattle.site_bodies.proofs.tree.Tree.integer.Goals as goal

pub returns-in-Some : goal.returns-in-Some
unfolding integer_at
returns-in-Some c =
    c.integer_of.ensures ∙ report integer_in c.args.name.now (value_view c.args.self.now.value) (Some
    (value_view c.in-Some.value.now)) c.args.self.now.read c.in-Some.ensures

pub returns-in-None : goal.returns-in-None
unfolding integer_at
returns-in-None c = report integer_in c.args.name.now
    (value_view c.args.self.now.value) None c.args.self.now.read c.in-None.ensures
