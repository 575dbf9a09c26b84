use Rattle.site_results.proofs.Bids.{bid_reported}
use Rattle.site_results.proofs.Numbers.{add_reported, list_reported, register_reported, set_reported}
use Rattle.site_results.proofs.Sales.{buy_reported, close_reported, settle_reported}
use Rattle.site_results.proofs.Talk.{ask_reported, feedback_reported}
use Rattle.site_results.proofs.results.tell.Goals as goal

pub returns-in-Register-clause-report : goal.returns-in-Register-clause-report
returns-in-Register-clause-report g c = λ honest settings h valid e moment caller command is own.
    register_reported (g.K.Keep.content c.args.keep.now) settings h moment caller command c.tell_member.result c.in-Register.moment c.in-Register.name e
    (rw c.in-Register.is at is) (rw c.in-Register.is at own) (c.tell_member.ensures.value honest)

pub returns-in-AddCategory-clause-report : goal.returns-in-AddCategory-clause-report
returns-in-AddCategory-clause-report g c = λ honest settings h valid e moment caller command is own.
    add_reported (g.K.Keep.content c.args.keep.now) settings h moment caller command c.tell_category.result c.in-AddCategory.moment c.in-AddCategory.name e
    (rw c.in-AddCategory.is at is) (rw c.in-AddCategory.is at own) (c.tell_category.ensures.value honest)

pub returns-in-List-clause-report : goal.returns-in-List-clause-report
returns-in-List-clause-report g c = λ honest settings h valid e moment caller command is own.
    let offer = c.in-List in
    list_reported (g.K.Keep.content c.args.keep.now) settings h moment caller command c.tell_listing.result offer.moment offer.item e
    (rw offer.is at is) (rw offer.is at own) (c.tell_listing.ensures.value honest)

pub returns-in-Bid-clause-report : goal.returns-in-Bid-clause-report
returns-in-Bid-clause-report g c = λ honest settings h valid e moment caller command is own.
    bid_reported (g.K.Keep.content c.args.keep.now) settings h moment caller command c.tell_bid.result c.in-Bid.moment c.in-Bid.item c.in-Bid.placed c.in-Bid.standing e
    (rw c.in-Bid.is at is) (rw c.in-Bid.is at own) (c.tell_bid.ensures.value honest)

pub returns-in-Buy-clause-report : goal.returns-in-Buy-clause-report
returns-in-Buy-clause-report g c = λ honest settings h valid e moment caller command is own.
    buy_reported settings h moment caller command c.in-Buy.moment c.in-Buy.item c.in-Buy.buyer c.in-Buy.price (rw c.in-Buy.is at is) (rw c.in-Buy.is at own)

pub returns-in-Close-clause-report : goal.returns-in-Close-clause-report
returns-in-Close-clause-report g c = λ honest settings h valid e moment caller command is own.
    close_reported (g.K.Keep.content c.args.keep.now) settings h moment caller command c.tell_close.result c.in-Close.moment e
    (rw c.in-Close.is at own) (c.tell_close.ensures.value honest)

pub returns-in-Settle-clause-report : goal.returns-in-Settle-clause-report
returns-in-Settle-clause-report g c = λ honest settings h valid e moment caller command is own.
    settle_reported (g.K.Keep.content c.args.keep.now) settings h moment caller command c.tell_settlement.result c.in-Settle.moment c.in-Settle.item e
    (rw c.in-Settle.is at is) (rw c.in-Settle.is at own) (c.tell_settlement.ensures.value honest)

pub returns-in-Ask-clause-report : goal.returns-in-Ask-clause-report
returns-in-Ask-clause-report g c = λ honest settings h valid e moment caller command is own.
    ask_reported settings h moment caller command c.in-Ask.item c.in-Ask.asker c.in-Ask.number c.in-Ask.text (rw c.in-Ask.is at is) (rw c.in-Ask.is at own)

pub returns-in-Feedback-clause-report : goal.returns-in-Feedback-clause-report
returns-in-Feedback-clause-report g c = λ honest settings h valid e moment caller command is own.
    feedback_reported settings h moment caller command c.in-Feedback.moment c.in-Feedback.item c.in-Feedback.from c.in-Feedback.to c.in-Feedback.rating c.in-Feedback.text
    (rw c.in-Feedback.is at is) (rw c.in-Feedback.is at own)

pub returns-in-SetBands-clause-report : goal.returns-in-SetBands-clause-report
returns-in-SetBands-clause-report g c = λ honest settings h valid e moment caller command is own.
    set_reported (g.K.Keep.content c.args.keep.now) settings h moment caller command c.next_edition.result c.in-SetBands.moment c.in-SetBands.bands e
    (rw c.in-SetBands.is at is) (rw c.in-SetBands.is at own) (c.next_edition.ensures.value honest)
