use Rattle.std.proofs.Common.{◌∙◌, [], ap, subst, sym}
use Rattle.steps.specs.Table.{IsBandTable}
use Rattle.house_rows.specs.declared.settings.Settings.{Settings}
use Rattle.house_rows.specs.Tables.{tables_of}
use Rattle.site.specs.Replies.{zone_of}
use Rattle.site_audit.specs.Places.{keep_of}
use Rattle.site_audit.proofs.Pairs.{left_new, right_new, same_settings, settings_if}
use Rattle.site_audit.proofs.RaisedRuns.{result_of}
use Rattle.site_audit.proofs.raised_bid.surplus.Goals as goal

pub returns-clause-surplus : goal.returns-clause-surplus
returns-clause-surplus g c =
    λ honest honest' settings others h k is is' e d heards are.
    let n = g.K.Keep in
    let left = keep_of c.args.left.now in
    let right = keep_of c.args.right.now in
    let t = n.content left in
    let u = n.content right in
    let before = c.surplus_from.ensures.left.honest honest in
    let before' = c.surplus_from.ensures.right.honest honest' in
    let seen = c.in_ok-may_begin.ensures.report before before' settings others h k is is' e d in
    let begins = seen.0.0 c.if-not-branch.false in
    let same = same_settings settings others h k t u e d begins in
    let valid : IsBandTable settings.bands = subst (λ (s : Settings). IsBandTable s.bands)
    (settings_if settings h t e) (c.in_ok-may_begin.ensures.valid before c.if-not-branch.false) in
    result_of n.content n.is_failed settings (zone_of c.may_begin.new.left)
    (zone_of c.args.left.now) c.args.other c.args.place c.args.maximum heards left right
    (keep_of c.surplus_from.new.left) (keep_of c.surplus_from.new.right) c.surplus_from.result begins
    c.in_ok-may_begin.ensures.left.zone
    (c.surplus_from.ensures.found honest honest' settings valid [] tt
    (seen.1 ∙ left_new settings h t u e begins)
    (seen.2 ∙ right_new others k t u d begins ∙ ap (λ s. tables_of s []) (sym same)) heards are)

-- where none begins, both houses were only looked at
pub returns-in_err-may_begin-clause-unbegun : goal.returns-in_err-may_begin-clause-unbegun
returns-in_err-may_begin-clause-unbegun g c = λ e.
    (c.in_err-may_begin.ensures.left_read, c.in_err-may_begin.ensures.right_read)

pub returns-then-not-branch-clause-unbegun : goal.returns-then-not-branch-clause-unbegun
returns-then-not-branch-clause-unbegun g c = λ e.
    (c.in_ok-may_begin.ensures.left_read, c.in_ok-may_begin.ensures.right_read)

pub returns-clause-unbegun : goal.returns-clause-unbegun
returns-clause-unbegun g c = λ e. absurd (c.surplus_from.ensures.never e)
