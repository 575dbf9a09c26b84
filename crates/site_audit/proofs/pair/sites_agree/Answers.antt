use Rattle.std.proofs.Common.{◌∙◌, ap, Ok}
use Rattle.house_rows.specs.Runs.{Agrees}
use Rattle.site_audit.specs.Places.{keep_of}
use Rattle.site_audit.proofs.Pairs.{keep_gave, seen_err, seen_from, seen_gave, seen_ok, sound_if}
use Rattle.site_audit.proofs.pair.sites_agree.Goals as goal

pub returns-in_err-agree-clause-report : goal.returns-in_err-agree-clause-report
returns-in_err-agree-clause-report g c = λ honest honest' settings h k is is' e d.
    let n = g.K.Keep in
    let same = ap n.content c.keep_mut.ensures.keep in
    let same' = ap n.content c.keep_mut-2.ensures.keep in
    let a = c.keep_mut.result.now in
    let b = c.keep_mut-2.result.now in
    let f = c.in_err-agree.field-0.0 in
    seen_from n.content n.is_failed (Agrees settings c.args.caller h k) a b
    (keep_of c.args.left.now) (keep_of c.args.right.now) c.agree.new.left c.agree.new.right
    c.from_residual.result same same'
    (seen_gave n.content n.is_failed (Agrees settings c.args.caller h k) a b c.agree.new.left
    c.agree.new.right f c.from_residual.result c.from_residual.ensures
    (seen_err n.content n.is_failed (Agrees settings c.args.caller h k) _ a b c.agree.new.left
    c.agree.new.right f c.in_err-agree.ensures.tables.faults (honest, honest')
    (sound_if settings h (n.content a) is (same ∙ e))
    (sound_if settings k (n.content b) is' (same' ∙ d))))

pub returns-clause-report : goal.returns-clause-report
returns-clause-report g c = λ honest honest' settings h k is is' e d.
    let n = g.K.Keep in
    let same = ap n.content c.keep_mut.ensures.keep in
    let same' = ap n.content c.keep_mut-2.ensures.keep in
    let a = c.keep_mut.result.now in
    let b = c.keep_mut-2.result.now in
    seen_from n.content n.is_failed (Agrees settings c.args.caller h k) a b
    (keep_of c.args.left.now) (keep_of c.args.right.now) c.agree.new.left c.agree.new.right
    (Ok c.in_ok-agree.field-0) same same'
    (seen_ok n.content n.is_failed n.is_honest n.may_leave (Agrees settings c.args.caller h k) a b
    c.agree.new.left c.agree.new.right c.in_ok-agree.field-0 c.in_ok-agree.ensures.tables.faults
    c.in_ok-agree.ensures.tables.left c.in_ok-agree.ensures.tables.right honest honest'
    (c.in_ok-agree.ensures.views honest honest' settings h k (same ∙ e) (same' ∙ d)))

pub returns-in_err-agree-clause-never : goal.returns-in_err-agree-clause-never
returns-in_err-agree-clause-never g c =
    keep_gave c.in_err-agree.field-0.0 c.from_residual.result c.from_residual.ensures
