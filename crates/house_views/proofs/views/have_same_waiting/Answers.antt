use Rattle.std.proofs.lemmas.Result.{IfOk-weaker}
use Rattle.house_views.proofs.Waits.{waiting_reported}
use Rattle.house_views.proofs.views.have_same_waiting.Goals as goal

pub returns-clause-views : goal.returns-clause-views
returns-clause-views g c = λ left right.
    let content = g.K.Keep.content in
    IfOk-weaker c.have_same_open.result _ _
    (λ same alike settings h k e d.
    waiting_reported settings h k c.args.member (content c.args.left.now) (content c.args.right.now) same e d alike)
    (c.have_same_open.ensures.report left right)
