use Rattle.std.proofs.lemmas.Result.{IfOk-weaker}
use Rattle.house_views.proofs.Public.{public_reported}
use Rattle.house_views.proofs.views.have_same_public.Goals as goal

pub returns-clause-views : goal.returns-clause-views
returns-clause-views g c = λ left right.
    let content = g.K.Keep.content in
    IfOk-weaker c.have_same_rows.result _ _
    (λ same alike settings h k e d.
    public_reported settings h k (content c.args.left.now) (content c.args.right.now) same e d alike)
    (c.have_same_rows.ensures.report left right)
