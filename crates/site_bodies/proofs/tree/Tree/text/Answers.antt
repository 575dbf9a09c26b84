use Rattle.std.proofs.Common.{Some, None, ◌∙◌, sym}
use Rattle.json.specs.Value.{value_view}
use Rattle.site_bodies.specs.Fields.{text_at}
use Rattle.site_bodies.specs.Values.{text_in}
use Rattle.site_bodies.proofs.Report.{text_same, report}
use Rattle.site_bodies.proofs.tree.Tree.text.Goals as goal

pub returns-in-Some : goal.returns-in-Some
unfolding text_at
returns-in-Some c =
    let i = value_view c.in-Some.value.now in
    c.as_str.ensures ∙ sym (text_same i)
    ∙ report text_in c.args.name.now (value_view c.args.self.now.value) (Some i) c.args.self.now.read c.in-Some.ensures

pub returns-in-None : goal.returns-in-None
unfolding text_at
returns-in-None c = report text_in c.args.name.now
    (value_view c.args.self.now.value) None c.args.self.now.read c.in-None.ensures
