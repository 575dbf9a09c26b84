use Rattle.std.proofs.Common.{◌≡◌, ◌∙◌, subst, true}
use Rattle.std.proofs.lemmas.Result.{IfOk-weaker}
use Rattle.steps.specs.Table.{IsBandTable}
use Rattle.house.proofs.Unchanged.{still_there}
use Rattle.house_rows.specs.Tables.{Tables}
use Rattle.site_audit.specs.Audits.{MayBegin}
use Rattle.site_audit.specs.Places.{keep_of}
use Rattle.site_audit.proofs.Pairs.{begun, left_err, read_twice, right_err, seen_gave, sound_if}
use Rattle.site_audit.proofs.pair.may_begin.Goals as goal

pub returns-in_err-is_new-clause-report : goal.returns-in_err-is_new-clause-report
returns-in_err-is_new-clause-report g c = λ honest honest' settings others h k is is' e d.
    let n = g.K.Keep in
    let a = keep_of c.args.left.now in
    let b = keep_of c.args.right.now in
    let f = c.in_err-is_new.field-0.0 in
    seen_gave n.content n.is_failed (MayBegin (n.content a) (n.content b)) a b
    (keep_of c.is_new.new.self) b f c.from_residual.result c.from_residual.ensures
    (left_err n.content n.is_failed (MayBegin (n.content a) (n.content b)) _ a b
    (keep_of c.is_new.new.self) f c.in_err-is_new.ensures.faults honest
    (sound_if settings h (n.content a) is e))

pub returns-in_err-is_new-2-clause-report : goal.returns-in_err-is_new-2-clause-report
returns-in_err-is_new-2-clause-report g c = λ honest honest' settings others h k is is' e d.
    let n = g.K.Keep in
    let a = keep_of c.args.left.now in
    let b = keep_of c.args.right.now in
    let f = c.in_err-is_new-2.field-0.0 in
    seen_gave n.content n.is_failed (MayBegin (n.content a) (n.content b)) a b
    (keep_of c.is_new.new.self) (keep_of c.is_new-2.new.self) f
    c.from_residual-in_err-is_new-2.result c.from_residual-in_err-is_new-2.ensures
    (right_err n.content n.is_failed (MayBegin (n.content a) (n.content b)) _ a b
    (keep_of c.is_new.new.self) (keep_of c.is_new-2.new.self) f c.in_err-is_new-2.ensures.faults
    honest' (sound_if others k (n.content b) is' d))

pub returns-clause-report : goal.returns-clause-report
returns-clause-report g c = λ honest honest' settings others h k is is' e d.
    let n = g.K.Keep in
    let a = keep_of c.args.left.now in
    let b = keep_of c.args.right.now in
    let a' = keep_of c.is_new.new.self in
    let b' = keep_of c.is_new-2.new.self in
    let before = c.are_alike.ensures.left.honest honest in
    let before' = c.are_alike.ensures.right.honest honest' in
    let same = still_there c.in_ok-is_new.field-0 n.content n.is_failed n.is_honest n.may_leave a a'
    c.in_ok-is_new.ensures.faults c.in_ok-is_new.ensures.read before in
    let same' = still_there c.in_ok-is_new-2.field-0 n.content n.is_failed n.is_honest n.may_leave b
    b' c.in_ok-is_new-2.ensures.faults c.in_ok-is_new-2.ensures.read before' in
    begun n.content n.is_failed settings others h k a b a' b' (keep_of c.are_alike.new.left)
    (keep_of c.are_alike.new.right) c.are_alike.result e d
    ((c.in_ok-is_new.ensures.report before settings h is e).0 c.if-not-branch.false)
    ((c.in_ok-is_new-2.ensures.report before' others k is' d).0 c.if-not-branch-2.false) same same'
    (c.are_alike.ensures.report honest honest' settings others h k is is' (same ∙ e) (same' ∙ d))

pub returns-clause-valid : goal.returns-clause-valid
returns-clause-valid g c = λ honest.
    let n = g.K.Keep in
    let a = keep_of c.args.left.now in
    let a' = keep_of c.is_new.new.self in
    let same = still_there c.in_ok-is_new.field-0 n.content n.is_failed n.is_honest n.may_leave a a'
    c.in_ok-is_new.ensures.faults c.in_ok-is_new.ensures.read
    (c.are_alike.ensures.left.honest honest) in
    IfOk-weaker c.are_alike.result (λ _. IsBandTable (n.content a').settings.bands)
    (λ begins. begins ≡ true → IsBandTable (n.content a).settings.bands)
    (λ begins valid yes. subst (λ (t : Tables). IsBandTable t.settings.bands) same valid)
    (c.are_alike.ensures.valid honest)

-- both keeps were looked at twice
pub returns-clause-left_read : goal.returns-clause-left_read
returns-clause-left_read g c =
    let n = g.K.Keep in
    read_twice n.content n.is_failed n.is_honest n.may_leave (keep_of c.args.left.now)
    (keep_of c.is_new.new.self) (keep_of c.are_alike.new.left) c.in_ok-is_new.ensures.read
    c.are_alike.ensures.left_read

pub returns-clause-right_read : goal.returns-clause-right_read
returns-clause-right_read g c =
    let n = g.K.Keep in
    read_twice n.content n.is_failed n.is_honest n.may_leave (keep_of c.args.right.now)
    (keep_of c.is_new-2.new.self) (keep_of c.are_alike.new.right) c.in_ok-is_new-2.ensures.read
    c.are_alike.ensures.right_read
