use Rattle.std.proofs.Common.{refl, ap, sym}
use Rattle.house_rows.specs.declared.command.Command.TheVariants.{Buy}
use Rattle.house_rows.specs.Verdict.{purchase_rules}
use Rattle.house.proofs.Decides.{accepts, refuses}
use Rattle.house.proofs.OnItems.{row_there}
use Rattle.house.proofs.Reported.{bought, not_bought}
use Rattle.house.proofs.Purchases.{buy_accepts, buy_fits, buy_refusal, buy_unnamed}
use Rattle.house.proofs.purchase.buy.Goals as goal

pub returns-in-Err : goal.returns-in-Err
returns-in-Err g c = refuses c.in_ok-terms.ensures.answers.faults c.in_ok-terms.ensures.answers.read (λ honest settings h is e.
    buy_unnamed (g.K.Keep.content c.args.keep.now) settings h c.args.moment c.args.caller c.args.item c.in-Err.refusal e
    (rw c.in-Err.is at (c.in_ok-terms.ensures.answers.value honest) (purchase_rules c.args.moment c.args.caller)))
    (λ honest rows. sym (rw c.in-Err.is at (c.in_ok-terms.ensures.answers.value honest) (purchase_rules c.args.moment c.args.caller)))

pub returns-in-Ok-purchase_price : goal.returns-in-Ok-purchase_price
returns-in-Ok-purchase_price g c = accepts c.in_ok-terms.ensures.answers.faults c.in_ok-terms.ensures.answers.read
    (λ honest settings h is e.
    buy_accepts (g.K.Keep.content c.args.keep.now) settings h c.args.moment c.args.caller c.args.item c.in-Ok-purchase_price.price c.in-Ok.terms e
    (rw c.in-Ok.is at (c.in_ok-terms.ensures.answers.value honest)) c.in-Ok-purchase_price.ensures)
    (λ honest rows.
    bought (g.K.Keep.content c.args.keep.now) c.args.moment c.args.caller c.args.item c.in-Ok-purchase_price.price c.in-Ok.terms
    (rw c.in-Ok.is at (c.in_ok-terms.ensures.answers.value honest)) c.in-Ok-purchase_price.ensures)
    (λ honest rows change_rows.
    buy_fits (g.K.Keep.content c.args.keep.now) c.args.moment c.args.caller c.args.item c.in-Ok-purchase_price.price c.in-Ok.terms
    (rw c.in-Ok.is at (c.in_ok-terms.ensures.answers.value honest)) c.in-Ok-purchase_price.ensures)
    (λ honest.
    let there = rw c.in-Ok.is at (c.in_ok-terms.ensures.answers.value honest) in
    record { same_command = ap Buy (row_there (g.K.Keep.content c.args.keep.now) c.args.item c.in-Ok.terms there.found).numbered; same_caller = refl; same_moment = refl })

pub returns-in-Err-purchase_price : goal.returns-in-Err-purchase_price
returns-in-Err-purchase_price g c = refuses c.in_ok-terms.ensures.answers.faults c.in_ok-terms.ensures.answers.read (λ honest settings h is e.
    buy_refusal (g.K.Keep.content c.args.keep.now) settings h c.args.moment c.args.caller c.args.item c.in-Ok.terms c.in-Err-purchase_price.refusal e
    (rw c.in-Ok.is at (c.in_ok-terms.ensures.answers.value honest)) c.in-Err-purchase_price.ensures)
    (λ honest rows.
    not_bought (g.K.Keep.content c.args.keep.now) c.args.moment c.args.caller c.args.item c.in-Ok.terms c.in-Err-purchase_price.refusal
    (rw c.in-Ok.is at (c.in_ok-terms.ensures.answers.value honest)) c.in-Err-purchase_price.ensures)
