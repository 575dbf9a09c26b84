use Rattle.std.proofs.Common.{◌∙◌, ap, sym, subst}
use Rattle.json.specs.Value.{members_view, value_view}
use Rattle.json.specs.Json as json
use Rattle.json.proofs.Trees.{view-Object}
use Rattle.site_bodies.specs.Members.{IsJudged}
use Rattle.site_bodies.proofs.Readable.{seen_object}
use Rattle.site_bodies.proofs.judged.seen.Goals as goal

pub returns-in-Object : goal.returns-in-Object
returns-in-Object c =
    let r = c.seen_members.result in
    let viewed = ap value_view c.in-Object.is ∙ view-Object c.in-Object.found in
    subst (λ (j : json.Json). IsJudged r j) (sym viewed) (seen_object r (members_view c.in-Object.found.items)
    (rw c.deref.ensures.value at c.seen_members.ensures))
