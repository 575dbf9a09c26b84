-- A bid that was added had a free number, by UNIQUE.
use Rattle.std.proofs.Common.{◌≡◌, ◌==◌, ◌≤◌, ◌<◌, ◌^◌, ◌&&◌, ℕ, Bool, true, false, not, List, [], ◌∷◌, ◌++◌, filter, length, ap, refl, sym, subst, ◌∙◌, arith, inl, inr, true≢false}
use Rattle.std.specs.List.{AllByRecursion, list_any}
use Rattle.std.proofs.lemmas.Bool.Decides.{nat_tests}
use Rattle.std.proofs.lemmas.List.{length-map}
use Rattle.sqlite_value.specs.Order.{Row, column}
use Rattle.sqlite_trees.specs.Tree.{Trees}
use Rattle.sqlite_keyed.proofs.ListLemmas.{all_weaker, filter-map}
use Rattle.sqlite_keyed.proofs.RuleLemmas.{first_of_both, second_of_both}
use Rattle.sqlite.specs.Effect.{Database}
use Rattle.house_rows.specs.Bids.{BidRow, bid_key}
use Rattle.house_rows.proofs.Put.{by_test}
use Rattle.list_rows.specs.Blocks.{same_key}
use Rattle.store_rows.specs.House.{AddsBid, IsHouse}
use Rattle.store_rows.specs.Rows.{bid_in, bids_in, number_in}
use Rattle.store_rows.specs.Sorted.{sorted_bids}
use Rattle.store_rows.specs.Tables.{tables_in}
use Rattle.store_rows.proofs.Apart.{keys_apart}
use Rattle.store_rows.proofs.Found.{some_counted}
use Rattle.store_rows.proofs.PairKeys.{HasPair, pair_agrees}
use Rattle.store_rows.proofs.Sorting.{AreApart, count-sorted}
use Rattle.store_rows.proofs.TextLemmas.{same_number}
use Rattle.store_rows.proofs.Update.{numbered_passes}
use Rattle.store_bids.proofs.Begins.{bids_sorted}
use Rattle.store_bids.proofs.BidLists.{unique}

-- where one element at most passes a test and the last does, no other does
one_more : {X : Type 0} (p : X → Bool) (xs : List X) (x : X) → p x ≡ true → 1 ≤ length (filter p (xs ++ x ∷ []))
one_more p [] x is = rw is (omega arith)
one_more p (y ∷ xs) x is = let more = one_more p xs x is in elim (by_test (p y)) [ inl here ↦ rw here (omega arith) | inr other ↦ rw other more ]

none_before : {X : Type 0} (p : X → Bool) (xs : List X) (x : X) → p x ≡ true → length (filter p (xs ++ x ∷ [])) ≤ 1 → list_any p xs ≡ false
none_before p [] x is few = refl
none_before p (y ∷ xs) x is few =
    let more = one_more p xs x is in
    elim (by_test (p y)) [
      | inl here ↦ absurd (let many = rw here at few in omega (arith, many, more))
      | inr other ↦ rw other (none_before p xs x is (rw other at few))
    ]

module _ (item number : ℕ) (low : item < 2 ^ 32) (small : number < 2 ^ 32) where
  abbrev pub is_bid : BidRow → Bool
  is_bid b = (b.item == item) && (b.bid.no == number)

  abbrev IsNumbered : Row → Type 0
  IsNumbered r = is_bid (bid_in r) ≡ true

  item_is : (r : Row) → IsNumbered r → number_in (column r 1) ≡ item
  item_is r is = same_number (number_in (column r 1)) item (first_of_both (number_in (column r 1) == item) (number_in (column r 2) == number) is)

  number_is : (r : Row) → IsNumbered r → number_in (column r 2) ≡ number
  number_is r is = same_number (number_in (column r 2)) number (second_of_both (number_in (column r 1) == item) (number_in (column r 2) == number) is)

  abbrev Pair : Row → Type 0
  Pair r = HasPair (bid_key (bid_in r)) r

  has_pair : (r : Row) → IsNumbered r → Pair r
  has_pair r is = let first = item_is r is in let second = number_is r is in record { is = refl; first = omega (arith, first, low); second = omega (arith, second, small) }

  same_keys : (r s : Row) → IsNumbered r → IsNumbered s → same_key (bid_key (bid_in r)) (bid_key (bid_in s)) ≡ true
  same_keys r s r_is s_is =
      let first = item_is r r_is in
      let second = number_is r r_is in
      let item' = item_is s s_is in
      let number' = number_is s s_is in
      grind (arith, nat_tests, first, second, item', number')

  one_key : (rows : List Row) → AllByRecursion IsNumbered rows → AreApart (λ r. bid_key (bid_in r)) rows → length rows ≤ 1
  one_key [] are apart = omega arith
  one_key (r ∷ []) are apart = omega arith
  one_key (r ∷ s ∷ rows) are apart = absurd (true≢false (sym (same_keys r s are.0 are.1.0) ∙ apart.0.0))

  -- one bid at most has a number on an item
  one_bid : (db : Database) → IsHouse db → length (filter is_bid (bids_in db.trees)) ≤ 1
  one_bid db house =
      let table = db.trees 8 in
      let test : Row → Bool = λ r. is_bid (bid_in r) in
      let are = numbered_passes test table in
      let apart = keys_apart bid_key bid_in (1 ∷ 2 ∷ []) Pair (pair_agrees bid_key bid_in) table house.shaped.1.1.1.1.1.0 (unique db house) test (all_weaker IsNumbered Pair has_pair (filter test table) are) in
      rw (filter-map is_bid bid_in table, length-map (filter test table) bid_in) (one_key (filter test table) are apart)

  none_sorted : (db : Trees) → list_any is_bid (bids_in db) ≡ false → list_any is_bid (tables_in db).bids ≡ false
  none_sorted db none =
      sym (bids_sorted db item number) ∙ sym (some_counted is_bid (sorted_bids db)) ∙ ap (λ n. not (n == 0)) (count-sorted bid_key is_bid (bids_in db)) ∙ some_counted is_bid (bids_in db) ∙ none

-- no bid had the number before
pub number_free : (row : BidRow) (old new : Database) → row.item < 2 ^ 32 → row.bid.no < 2 ^ 32 → AddsBid row old new → list_any (λ b. (b.item == row.item) && (b.bid.no == row.bid.no)) (tables_in old.trees).bids ≡ false
number_free row old new low small w =
    let test = is_bid row.item row.bid.no low small in
    let few = subst (λ bids. length (filter test bids) ≤ 1) w.bids (one_bid row.item row.bid.no low small new w.house) in
    let item : (row.item == row.item) ≡ true = grind (arith, nat_tests) in
    let number : (row.bid.no == row.bid.no) ≡ true = grind (arith, nat_tests) in
    none_sorted row.item row.bid.no low small old.trees (none_before test (bids_in old.trees) row (rw (item, number) refl) few)
