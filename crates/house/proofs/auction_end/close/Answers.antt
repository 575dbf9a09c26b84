use Rattle.std.proofs.Common.{rules, ◌∙◌, sym}
use Rattle.house.proofs.Decides.{accepts, refuses}
use Rattle.house.proofs.Closings.{close_accepts, close_fits, close_refusal}
use Rattle.house.proofs.auction_end.close.Goals as goal

pub returns-in-Some : goal.returns-in-Some
returns-in-Some g c = refuses c.in_ok-refusal.ensures.answers.faults c.in_ok-refusal.ensures.answers.read (λ honest settings h is e.
    close_refusal (g.K.Keep.content c.args.keep.now) settings h c.args.moment c.args.caller c.in-Some.refusal e (sym c.in-Some.is ∙ c.in_ok-refusal.ensures.answers.value honest))
    (λ honest rows. sym c.in-Some.is ∙ c.in_ok-refusal.ensures.answers.value honest)

pub returns-in-None : goal.returns-in-None
returns-in-None g c = accepts c.in_ok-refusal.ensures.answers.faults c.in_ok-refusal.ensures.answers.read
    (λ honest settings h is e.
    close_accepts (g.K.Keep.content c.args.keep.now) settings h c.args.moment c.args.caller is e (sym c.in-None.is ∙ c.in_ok-refusal.ensures.answers.value honest))
    (λ honest rows. sym c.in-None.is ∙ c.in_ok-refusal.ensures.answers.value honest)
    (λ honest rows change_rows.
    close_fits (g.K.Keep.content c.args.keep.now) c.args.moment c.args.caller (sym c.in-None.is ∙ c.in_ok-refusal.ensures.answers.value honest))
    (search rules)
