use Rattle.std.proofs.Common.{◌≡◌, ◌∙◌, Err, IfOk, Ok, OnOk, Result, subst, sym}
use Rattle.house_rows.specs.Editions.{BandTables}
use Rattle.house_rows.specs.Fits.{TermsFit}
use Rattle.house_rows.specs.Keeping.{IsKeptItemBy}
use Rattle.house_rows.specs.declared.auction.Auction.{Auction}
use Rattle.house_rows.specs.declared.fault.KeepFault.{KeepFault}
use Rattle.store_rows.specs.ItemRows.{auction_by}
use Rattle.store_rows.proofs.StateLemmas.{ok_then}
use Rattle.store_items.proofs.StandingLemmas.{auction_reported}
use Rattle.store_items.proofs.reads.auction_read.Goals as goal

-- what is so of the auction that is given is so of that of the row
shown_of : (editions : BandTables) (shown : Auction) (r : Result Auction KeepFault) → IfOk r (λ a. a ≡ shown) → IfOk r (λ a. IsKeptItemBy editions a.terms a.standing) → OnOk r (IsKeptItemBy editions shown.terms shown.standing)
shown_of editions shown (Ok a) is kept = subst (λ (b : Auction). IsKeptItemBy editions b.terms b.standing) is kept
shown_of editions shown (Err e) is kept = tt

pub returns-clause-value : goal.returns-clause-value
returns-clause-value c =
    let terms = c.in_ok-terms.ensures.value in
    ok_then c.with_sealed.result c.with_sealed.ensures.value (λ _ e. rw (terms, c.in_ok-top.ensures.value, c.in_ok-second.ensures.value) at e ∙ sym (auction_reported c.args.rules.now.reserves c.args.row.now (subst TermsFit terms c.in_ok-terms.ensures.fits)))

pub returns-clause-shown : goal.returns-clause-shown
returns-clause-shown c =
    let reserves = c.args.rules.now.reserves in
    let terms = c.in_ok-terms.ensures.value in
    let fits = subst TermsFit terms c.in_ok-terms.ensures.fits in
    let value : IfOk c.with_sealed.result (λ (a : Auction). a ≡ auction_by reserves c.args.row.now) = ok_then c.with_sealed.result c.with_sealed.ensures.value (λ _ e. rw (terms, c.in_ok-top.ensures.value, c.in_ok-second.ensures.value) at e ∙ sym (auction_reported reserves c.args.row.now fits)) in
    shown_of c.args.rules.now.editions (auction_by reserves c.args.row.now) c.with_sealed.result value c.with_sealed.ensures.kept
