use Rattle.std.proofs.Common.{Some, None, ◌∙◌}
use Rattle.json.specs.Value.{value_view}
use Rattle.site_bodies.specs.Fields.{maybe_whole_at}
use Rattle.site_bodies.specs.Values.{maybe_whole_in}
use Rattle.site_bodies.proofs.Readable.{value_readable}
use Rattle.site_bodies.proofs.Report.{report}
use Rattle.site_bodies.proofs.tree.Tree.maybe_whole.Goals as goal

pub maybe_whole_of-requires : goal.maybe_whole_of-requires
maybe_whole_of-requires c = value_readable c.args.name.now (value_view c.args.self.now.value)
    (value_view c.in-Some.value.now) c.args.self.now.read c.in-Some.ensures

pub returns-in-Some : goal.returns-in-Some
unfolding maybe_whole_at
returns-in-Some c =
    c.maybe_whole_of.ensures ∙ report maybe_whole_in c.args.name.now (value_view c.args.self.now.value) (Some
    (value_view c.in-Some.value.now)) c.args.self.now.read c.in-Some.ensures

pub returns-in-None : goal.returns-in-None
unfolding maybe_whole_at
returns-in-None c = report maybe_whole_in c.args.name.now
    (value_view c.args.self.now.value) None c.args.self.now.read c.in-None.ensures
