use Rattle.std.proofs.Common.{true, refl, ◌∙◌, ap, sym, Some, None}
use Rattle.house_rows.specs.declared.command.Command.TheVariants.{Settle}
use Rattle.house_rows.specs.Verdict.{settlement_rules}
use Rattle.house.proofs.Decides.{accepts, refuses}
use Rattle.house.proofs.Settlements.{settle_accepts, settle_fits, settle_refusal, settle_unnamed}
use Rattle.house.proofs.OnItems.{row_there}
use Rattle.house.proofs.Rows.{own_reported}
use Rattle.house.proofs.settlement.settle.Goals as goal

pub returns-in-Err : goal.returns-in-Err
returns-in-Err g c = refuses c.in_ok-terms.ensures.answers.faults c.in_ok-terms.ensures.answers.read (λ honest settings h is e.
    settle_unnamed (g.K.Keep.content c.args.keep.now) settings h c.args.moment c.args.caller c.args.item c.in-Err.refusal e
    (rw c.in-Err.is at (c.in_ok-terms.ensures.answers.value honest) settlement_rules))
    (λ honest rows. sym (rw c.in-Err.is at (c.in_ok-terms.ensures.answers.value honest) settlement_rules))

pub returns-in-Some : goal.returns-in-Some
returns-in-Some g c = refuses c.in_ok-terms.ensures.answers.faults c.in_ok-terms.ensures.answers.read (λ honest settings h is e.
    settle_refusal (g.K.Keep.content c.args.keep.now) settings h c.args.moment c.args.caller c.args.item c.in-Ok.terms c.in-Some.refusal e
    (rw c.in-Ok.is at (c.in_ok-terms.ensures.answers.value honest)) (sym c.in-Some.is ∙ c.settlement_refused.ensures))
    (λ honest rows. sym (own_reported (g.K.Keep.content c.args.keep.now) c.args.moment c.args.caller true c.args.item c.in-Ok.terms settlement_rules (Some c.in-Some.refusal)
    (rw c.in-Ok.is at (c.in_ok-terms.ensures.answers.value honest)) (sym c.in-Some.is ∙ c.settlement_refused.ensures)))

pub returns-in-None : goal.returns-in-None
returns-in-None g c = accepts c.in_ok-terms.ensures.answers.faults c.in_ok-terms.ensures.answers.read
    (λ honest settings h is e.
    settle_accepts (g.K.Keep.content c.args.keep.now) settings h c.args.moment c.args.caller c.args.item c.in-Ok.terms e
    (rw c.in-Ok.is at (c.in_ok-terms.ensures.answers.value honest)) (sym c.in-None.is ∙ c.settlement_refused.ensures))
    (λ honest rows. sym (own_reported (g.K.Keep.content c.args.keep.now) c.args.moment c.args.caller true c.args.item c.in-Ok.terms settlement_rules None
    (rw c.in-Ok.is at (c.in_ok-terms.ensures.answers.value honest)) (sym c.in-None.is ∙ c.settlement_refused.ensures)))
    (λ honest rows change_rows.
    settle_fits (g.K.Keep.content c.args.keep.now) c.args.moment c.args.caller c.args.item c.in-Ok.terms
    (rw c.in-Ok.is at (c.in_ok-terms.ensures.answers.value honest)) (sym c.in-None.is ∙ c.settlement_refused.ensures))
    (λ honest.
    let there = rw c.in-Ok.is at (c.in_ok-terms.ensures.answers.value honest) in
    record { same_command = ap Settle (row_there (g.K.Keep.content c.args.keep.now) c.args.item c.in-Ok.terms there.found).numbered; same_caller = tt; same_moment = refl })
