use Rattle.std.proofs.Common.{◌∙◌, [], ap, refl, sym}
use Rattle.house_rows.specs.Tables.{tables_of}
use Rattle.site.specs.Replies.{zone_of}
use Rattle.site_audit.specs.AuditsFrom.{StopsUnanswered}
use Rattle.site_audit.specs.Places.{keep_of}
use Rattle.site_audit.proofs.Pairs.{left_new, right_new, same_settings}
use Rattle.site_audit.proofs.RaisedRuns.{fault_gave}
use Rattle.site_audit.proofs.Runs.{found_new, verdict_of}
use Rattle.site_audit.proofs.verdict.audit.Goals as goal

pub returns-clause-verdict : goal.returns-clause-verdict
returns-clause-verdict g c =
    λ honest honest' settings others h k is is' e d lefts rights are others_are.
    let n = g.K.Keep in
    let t = n.content (keep_of c.args.left.now) in
    let u = n.content (keep_of c.args.right.now) in
    let before = c.audit_from.ensures.left.honest honest in
    let before' = c.audit_from.ensures.right.honest honest' in
    let seen = c.in_ok-may_begin.ensures.report before before' settings others h k is is' e d in
    let may = seen.0.0 c.if-not-branch.false in
    let same = same_settings settings others h k t u e d may in
    verdict_of n.content n.is_failed settings (zone_of c.may_begin.new.left)
    (zone_of c.args.left.now) c.args.caller lefts rights (keep_of c.args.left.now)
    (keep_of c.args.right.now) (keep_of c.audit_from.new.left) (keep_of c.audit_from.new.right)
    c.audit_from.result may c.in_ok-may_begin.ensures.left.zone
    (found_new n.content n.is_failed settings (zone_of c.may_begin.new.left) c.args.caller lefts
    rights (keep_of c.audit_from.new.left) (keep_of c.audit_from.new.right) c.audit_from.result
    (c.audit_from.ensures.found honest honest' settings [] [] tt tt
    (record { public = refl; own = refl; waiting = refl })
    (seen.1 ∙ left_new settings h t u e may)
    (seen.2 ∙ right_new others k t u d may ∙ ap (λ s. tables_of s []) (sym same)) lefts rights are
    others_are))

-- texts that may not be at a place are not answered
pub returns-clause-unanswered : goal.returns-clause-unanswered
returns-clause-unanswered g c =
    λ honest honest' settings others h k is is' e d lefts rights are others_are.
    let n = g.K.Keep in
    let t = n.content (keep_of c.args.left.now) in
    let u = n.content (keep_of c.args.right.now) in
    let before = c.audit_from.ensures.left.honest honest in
    let before' = c.audit_from.ensures.right.honest honest' in
    let seen = c.in_ok-may_begin.ensures.report before before' settings others h k is is' e d in
    let may = seen.0.0 c.if-not-branch.false in
    let same = same_settings settings others h k t u e d may in
    c.audit_from.ensures.unanswered honest honest' settings [] [] tt tt
    (seen.1 ∙ left_new settings h t u e may)
    (seen.2 ∙ right_new others k t u d may ∙ ap (λ s. tables_of s []) (sym same)) lefts rights are
    others_are

pub returns-in_err-may_begin-clause-unanswered : goal.returns-in_err-may_begin-clause-unanswered
returns-in_err-may_begin-clause-unanswered g c =
    λ honest honest' settings others h k is is' e d lefts rights are others_are.
    let n = g.K.Keep in
    fault_gave (λ r. StopsUnanswered n.content settings c.args.caller [] [] lefts rights
    (keep_of c.may_begin.new.left) (keep_of c.may_begin.new.right) r)
    c.in_err-may_begin.field-0.0 c.from_residual.result c.from_residual.ensures tt

-- where none begins, both houses were only looked at
pub returns-in_err-may_begin-clause-unbegun : goal.returns-in_err-may_begin-clause-unbegun
returns-in_err-may_begin-clause-unbegun g c = λ e.
    (c.in_err-may_begin.ensures.left_read, c.in_err-may_begin.ensures.right_read)

pub returns-then-not-branch-clause-unbegun : goal.returns-then-not-branch-clause-unbegun
returns-then-not-branch-clause-unbegun g c = λ e.
    (c.in_ok-may_begin.ensures.left_read, c.in_ok-may_begin.ensures.right_read)

pub returns-clause-unbegun : goal.returns-clause-unbegun
returns-clause-unbegun g c = λ e. absurd (c.audit_from.ensures.never e)
