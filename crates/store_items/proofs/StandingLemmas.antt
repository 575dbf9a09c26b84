-- What the columns of an item whose row fits say of its standing.
use Rattle.std.proofs.Common.{◌≡◌, ◌≤◌, ℕ, true, nat_le, List, [], ◌∷◌, slice_get, Option, Some, None, IfSome, refl, sym, subst, arith, true≢false}
use Rattle.std.specs.List.{AllByRecursion}
use Rattle.sqlite_value.specs.Order.{Row, column}
use Rattle.sqlite_keyed.proofs.RuleLemmas.{first_of_both, second_of_both}
use Rattle.proxy.specs.Rows.{is_standing}
use Rattle.proxy.proofs.Shapes.{accepted_shape}
use Rattle.house_rows.specs.declared.item.Terms.{Terms}
use Rattle.house_rows.specs.Fits.{IsMember, StandingFits, TermsFit}
use Rattle.house_rows.specs.Found.{auction_of}
use Rattle.house_rows.specs.Keeping.{ItemRowFits}
use Rattle.house_rows.specs.Limits.{most_bids, most_cents}
use Rattle.store_rows.specs.Rows.{maybe_number_in, number_in}
use Rattle.store_rows.specs.declared.reserve.ReserveRow.{ReserveRow}
use Rattle.store_rows.specs.ItemRows.{amount_of, auction_by, is_state, item_row_in, kept_from, row_by, terms_of, with_met}
use Rattle.store_items.proofs.ItemLemmas.{fits_state}

-- top and second are amounts, where the top that is reported is one
amounts : (bands : List (ℕ × ℕ)) (start : ℕ) (reserve : Option ℕ) (at : ℕ) (led top next : Option ℕ) (count : ℕ) → is_standing bands (kept_from start reserve at led top next count) ≡ true
    → IfSome (kept_from start reserve at led top next count).top (λ n. n ≤ most_cents) → IfSome top (λ n. n ≤ most_cents) × IfSome next (λ n. n ≤ most_cents)
amounts bands start reserve at None None None count h low = (tt, tt)
amounts bands start reserve at None None (Some s) count h low = absurd (true≢false (sym h))
amounts bands start reserve at None (Some t) None count h low = absurd (true≢false (sym h))
amounts bands start reserve at None (Some t) (Some s) count h low = absurd (true≢false (sym h))
amounts bands start reserve at (Some l) None None count h low = (tt, tt)
amounts bands start reserve at (Some l) None (Some s) count h low = absurd (true≢false (sym h))
amounts bands start reserve at (Some l) (Some t) None count h low = (low, tt)
amounts bands start reserve at (Some l) (Some t) (Some s) count h low =
    let shape = second_of_both (nat_le start s) _ (second_of_both (nat_le count 10000) _ (second_of_both (nat_le 2 count) _ h)) in
    let below : s ≤ t = grind (arith, first_of_both (nat_le s t) _ shape) in
    (low, omega (arith, low, below))

-- who leads by the bids is who leads
leads : (P : ℕ → Type 0) (start : ℕ) (reserve : Option ℕ) (at : ℕ) (led top next : Option ℕ) (count : ℕ) → IfSome led P → IfSome (kept_from start reserve at led top next count).leader P
leads P start reserve at None top next count h = h
leads P start reserve at (Some l) None next count h = tt
leads P start reserve at (Some l) (Some t) next count h = h

pub counts : (start : ℕ) (reserve : Option ℕ) (at : ℕ) (led top next : Option ℕ) (count : ℕ) → (kept_from start reserve at led top next count).count ≡ count
counts start reserve at None top next count = refl
counts start reserve at (Some l) None next count = refl
counts start reserve at (Some l) (Some t) next count = refl

-- what is sealed of an item whose row fits
pub record IsSealed (bands : List (ℕ × ℕ)) (reserves : List ReserveRow) (r : Row) : Type 0 where
  pub top : IfSome (maybe_number_in (column r 14)) (λ n. n ≤ most_cents)
  pub second : IfSome (maybe_number_in (column r 15)) (λ n. n ≤ most_cents)
  pub is_consistent : is_standing bands (item_row_in reserves r).standing ≡ true

pub is_sealed : (bands : List (ℕ × ℕ)) (reserves : List ReserveRow) (r : Row) → ItemRowFits bands (item_row_in reserves r) → IsSealed bands reserves r
is_sealed bands reserves r h =
    let start = number_in (column r 7) in
    let reserve = amount_of reserves (number_in (column r 0)) in
    let at = number_in (column r 12) in
    let led = maybe_number_in (column r 13) in
    let top = maybe_number_in (column r 14) in
    let next = maybe_number_in (column r 15) in
    let count = number_in (column r 16) in
    let is_consistent = subst (λ k. is_standing bands k ≡ true) (sym h.is_consistent) (accepted_shape bands _ h.bids h.accepted h.few) in
    let both = amounts bands start reserve at led top next count is_consistent h.top in
    record { top = both.0; second = both.1; is_consistent = is_consistent }

-- the standing of terms that fit does so
pub report_fits : (t : Terms) (reserve top second : Option ℕ) → TermsFit t → StandingFits (kept_from t.start reserve t.price t.leader top second t.count)
report_fits t reserve top second fits = record {
  leader = leads IsMember t.start reserve t.price t.leader top second t.count fits.leader;
  count = subst (λ n. n ≤ most_bids) (sym (counts t.start reserve t.price t.leader top second t.count)) fits.count;
}

-- what a query shows of terms that fit gives its auction
pub auction_reported : (reserves : List ReserveRow) (r : Row) → TermsFit (terms_of r) → auction_by reserves r ≡ record {
  terms = with_met (amount_of reserves (terms_of r).item) (maybe_number_in (column r 11)) (terms_of r);
  standing = kept_from (terms_of r).start (amount_of reserves (terms_of r).item) (terms_of r).price (terms_of r).leader (maybe_number_in (column r 11)) (maybe_number_in (column r 12)) (terms_of r).count;
}
auction_reported reserves r fits = rw (fits_state (is_state (column r 6)) (number_in (column r 3)) fits.start.1) refl

pub first : {A : Type 0} (P : A → Type 0) (xs : List A) → AllByRecursion P xs → IfSome (slice_get xs 0) P
first P [] all = tt
first P (x ∷ xs) all = all.0

-- and what it shows of an item that fits gives its row
pub item_reported : (reserves : List ReserveRow) (r : Row) → TermsFit (terms_of r) → auction_of (row_by reserves r) ≡ record {
  terms = with_met (amount_of reserves (terms_of r).item) (maybe_number_in (column r 14)) (terms_of r);
  standing = kept_from (terms_of r).start (amount_of reserves (terms_of r).item) (terms_of r).price (terms_of r).leader (maybe_number_in (column r 14)) (maybe_number_in (column r 15)) (terms_of r).count;
}
item_reported reserves r fits = rw (fits_state (is_state (column r 6)) (number_in (column r 3)) fits.start.1) refl
