use Rattle.std.proofs.Common.{◌≡◌, ℕ, List, Option, Some, true, ◌<◌, ◌^◌, ap, arith, refl, rules, sym, subst, ◌∙◌, true≢false}
use Rattle.std.proofs.lemmas.Bool.{eq-eqb}
use Rattle.sqlite.specs.Held.{state}
use Rattle.proxy.specs.Kept.{opening_of}
use Rattle.proxy.specs.Rows.{is_standing}
use Rattle.store_rows.specs.declared.reserve.ReserveRow.{ReserveRow}
use Rattle.store_rows.specs.ItemRows.{amount_of}
use Rattle.store_rows.specs.Rows.{reserves_in}
use Rattle.store_bids.proofs.Begins.{bid_begins, bid_is_consistent, both, row_begun, same_option}
use Rattle.store_items.proofs.Auctions.{terms_found}
use Rattle.store_items.proofs.Rows.{standing_checked}
use Rattle.store_items.proofs.ConsistentRows.{has_standing_item}
use Rattle.store_bids.proofs.bidding.check_standing.Goals as goal

pub returns-in_err-terms-clause-finds : goal.returns-in_err-terms-clause-finds
returns-in_err-terms-clause-finds g c = record {
  value = search rules;
  damaged = λ clean fit is. c.in_err-terms.ensures.damaged clean (record { row = fit.row; there = (fit.bid.row, fit.bid.row_there) }) (search rules);
  read = search rules;
}

pub returns-then-eq-clause-finds : goal.returns-then-eq-clause-finds
returns-then-eq-clause-finds g c = record {
  value = λ clean. (
      let before = c.requires.serves (omega (arith, c.auction_seen.ensures.read.crash.clean, clean)) in
      let low : c.args.item < 2 ^ 32 = omega (arith, c.ranges.item) in
      let db = (state g.S.Store c.args.conn.now).now in
      let auction = c.in_ok-terms.field-0 in
      let terms = auction.terms in
      let known = c.in_ok-terms.ensures.value clean in
      let found = terms_found _ auction known.found in
      let same : c.amount-reserve.result ≡ amount_of (reserves_in db.trees) terms.item = rw c.from-2.ensures at c.amount-reserve.ensures ∙ ap (λ (l : List ReserveRow). amount_of l terms.item) before.2 in
      let begins : opening_of c.args.standing.now ≡ record { start = terms.start; reserve = c.amount-reserve.result } = search rules in
      record {
        there = has_standing_item c.args.rules.now.editions db.trees c.args.item auction known.found known.fits known.is_consistent known.kept;
        start = standing_checked db before.1 c.args.item low terms (opening_of c.args.standing.now) found known.fits
            (begins ∙ ap (λ (r : Option ℕ). record { start = terms.start; reserve = r }) same);
      });
  damaged = search rules;
  read = search rules;
}

pub returns-else-eq-clause-finds : goal.returns-else-eq-clause-finds
returns-else-eq-clause-finds g c = record {
  value = search rules;
  damaged = λ clean fit _. (
      let db = (state g.S.Store c.args.conn.now).now.trees in
      let before = c.requires.serves (omega (arith, c.auction_seen.ensures.read.crash.clean, clean)) in
      let auction = c.in_ok-terms.field-0 in
      let terms = auction.terms in
      let same : c.amount-reserve.result ≡ amount_of (reserves_in db) terms.item = rw c.from-2.ensures at c.amount-reserve.ensures ∙ ap (λ (l : List ReserveRow). amount_of l terms.item) before.2 in
      let start : opening_of c.args.standing.now ≡ record { start = terms.start; reserve = c.amount-reserve.result } = bid_begins db fit.moment c.args.item fit.placed c.args.standing.now terms fit.bid (terms_found _ auction (c.in_ok-terms.ensures.value clean).found) ∙ ap (λ (r : Option ℕ). record { start = terms.start; reserve = r }) (sym same) in
      let is_consistent : is_standing c.bands_for-bands.result.now c.args.standing.now ≡ true = subst (λ (b : List (ℕ × ℕ)). is_standing b c.args.standing.now ≡ true) (sym (rw c.from.ensures at c.bands_for-bands.ensures)) (bid_is_consistent db c.args.rules.now.editions fit.moment c.args.item fit.placed c.args.standing.now fit.editions_are fit.bid) in
      let k = c.args.standing.now in
      let shape = rw (c.price.ensures, c.leader.ensures, c.top.ensures, c.second.ensures, c.count.ensures) at c.of_row-begun.ensures.fits in
      let value = rw (c.price.ensures, c.leader.ensures, c.top.ensures, c.second.ensures, c.count.ensures) at c.of_row-begun.ensures.value in
      let row : c.of_row-begun.result ≡ Some k = row_begun c.bands_for-bands.result.now terms.start c.amount-reserve.result k c.of_row-begun.result shape value start is_consistent in
      let judged = rw row at c.eq.ensures in
      let holds : c.eq.result ≡ true = judged ∙ both (eq-eqb k.start _ refl) (both (same_option _ (λ n. eq-eqb _ _ refl) k.reserve) (both (eq-eqb k.price _ refl)
      (both (same_option _ (λ n. eq-eqb n _ refl) k.leader) (both (same_option _ (λ n. eq-eqb _ _ refl) k.top) (both (same_option _ (λ n. eq-eqb _ _ refl) k.second) (eq-eqb k.count _ refl)))))) in
      true≢false (sym holds ∙ c.if-eq.false));
  read = search rules;
}
