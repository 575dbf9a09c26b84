use Rattle.std.proofs.Common.{◌≡◌, ◌∙◌, refl, subst, sym, false, true}
use Rattle.house_laws.specs.Covered.{Sealed, raised}
use Rattle.site.specs.Replies.{zone_of}
use Rattle.site_bids.specs.Spelt.{bid_text}
use Rattle.site_audit.specs.Places.{IsHeard, keep_of}
use Rattle.site_audit.specs.SealedBids.{IsBidAt, MayRaise}
use Rattle.site_audit.specs.SurplusFrom.{IsSurplusFoundFrom}
use Rattle.site_audit.proofs.Pairs.{memory_gave, never_gave}
use Rattle.site_audit.proofs.RaisedRuns.{fault_gave, found_gives, no_bid, not_raised}
use Rattle.site_audit.proofs.SealedBids.{raise_of}
use Rattle.site_audit.proofs.raised_bid.surplus_from.Goals as goal

pub returns-in_default-clause-found : goal.returns-in_default-clause-found
returns-in_default-clause-found g c = λ honest honest' settings valid h is e d heards are.
    let none = rw c.in_default.is at (c.in_ok-bid.ensures.found heards are) in
    no_bid settings h c.args.other c.args.place c.args.maximum heards none

pub returns-then-not-may_raise-clause-found : goal.returns-then-not-may_raise-clause-found
returns-then-not-may_raise-clause-found g c =
    λ honest honest' settings valid h is e d heards are.
    let there : IsBidAt c.args.place c.in-Some.bid heards =
    rw c.in-Some.is at (c.in_ok-bid.ensures.found heards are) in
    not_raised settings h c.args.other c.args.place c.args.maximum c.in-Some.bid heards is there
    (λ may. let wrong : true ≡ false = sym (c.may_raise.ensures.1 may) ∙ c.if-not-may_raise.true in
    absurd cc)

pub returns-in_err-verdict-clause-found : goal.returns-in_err-verdict-clause-found
returns-in_err-verdict-clause-found g c = λ honest honest' settings valid h is e d heards are.
    let n = g.K.Keep in
    let zone = zone_of c.args.left.now in
    let place = c.args.place in
    let may : MayRaise c.args.other c.args.maximum c.in-Some.bid =
    c.may_raise.ensures.0 c.if-not-may_raise.false in
    let text = raise_of c.args.maximum c.in-Some.bid may.sent in
    let found = c.in_err-verdict.ensures.found honest honest' settings h is e d heards are text.0
    (subst (λ (b : Sealed). IsHeard (bid_text b) text.0) (sym c.with_maximum-raised.ensures)
    text.1.spelt) in
    let fault = c.in_err-verdict.field-0.0 in
    let left_now = keep_of c.compare_with.new.left in
    let right_now = keep_of c.compare_with.new.right in
    fault_gave (λ r. IsSurplusFoundFrom n.content n.is_failed settings zone c.args.other h place
    c.args.maximum heards left_now right_now r) fault c.from_residual-in_err-verdict.result
    c.from_residual-in_err-verdict.ensures
    (found_gives n.content n.is_failed settings zone h c.args.other place c.args.maximum heards
    (raised place text.0 heards) left_now right_now fault found)

pub returns-clause-found : goal.returns-clause-found
returns-clause-found g c = λ honest honest' settings valid h is e d heards are.
    let there : IsBidAt c.args.place c.in-Some.bid heards =
    rw c.in-Some.is at (c.in_ok-bid.ensures.found heards are) in
    let may : MayRaise c.args.other c.args.maximum c.in-Some.bid =
    c.may_raise.ensures.0 c.if-not-may_raise.false in
    let text = raise_of c.args.maximum c.in-Some.bid may.sent in
    let found = c.in_ok-verdict.ensures.found (c.judge.ensures.left.honest honest)
    (c.judge.ensures.right.honest honest') settings h is e d heards are text.0
    (subst (λ (b : Sealed). IsHeard (bid_text b) text.0) (sym c.with_maximum-raised.ensures)
    text.1.spelt) in
    c.judge.ensures.found honest honest' settings valid h is (zone_of c.args.left.now) c.args.other
    c.args.place heards text.0 there may text.1 found

-- nothing is answered unless a bid is there that may be raised
pub returns-in_err-bid-clause-unasked : goal.returns-in_err-bid-clause-unasked
returns-in_err-bid-clause-unasked g c = λ heards are none. (refl, refl)

pub returns-in_default-clause-unasked : goal.returns-in_default-clause-unasked
returns-in_default-clause-unasked g c = λ heards are none. (refl, refl)

pub returns-then-not-may_raise-clause-unasked : goal.returns-then-not-may_raise-clause-unasked
returns-then-not-may_raise-clause-unasked g c = λ heards are none. (refl, refl)

pub returns-in_err-verdict-clause-unasked : goal.returns-in_err-verdict-clause-unasked
returns-in_err-verdict-clause-unasked g c = λ heards are none.
    let there : IsBidAt c.args.place c.in-Some.bid heards =
    rw c.in-Some.is at (c.in_ok-bid.ensures.found heards are) in
    let may : MayRaise c.args.other c.args.maximum c.in-Some.bid =
    c.may_raise.ensures.0 c.if-not-may_raise.false in
    absurd (none c.in-Some.bid there may)

pub returns-clause-unasked : goal.returns-clause-unasked
returns-clause-unasked g c = λ heards are none.
    let there : IsBidAt c.args.place c.in-Some.bid heards =
    rw c.in-Some.is at (c.in_ok-bid.ensures.found heards are) in
    let may : MayRaise c.args.other c.args.maximum c.in-Some.bid =
    c.may_raise.ensures.0 c.if-not-may_raise.false in
    absurd (none c.in-Some.bid there may)

-- neither out of memory nor a fault of the comparison is that a house isn't new
pub returns-in_err-bid-clause-never : goal.returns-in_err-bid-clause-never
returns-in_err-bid-clause-never g c =
    memory_gave c.in_err-bid.field-0.0 c.from_residual.result c.from_residual.ensures
    c.in_err-bid.ensures.err

pub returns-in_err-verdict-clause-never : goal.returns-in_err-verdict-clause-never
returns-in_err-verdict-clause-never g c =
    never_gave c.in_err-verdict.field-0.0 c.from_residual-in_err-verdict.result
    c.from_residual-in_err-verdict.ensures c.in_err-verdict.ensures.never
