-- What the query of the items of a member's bids means and shows.
use Rattle.std.proofs.Common.{◌≡◌, ◌==◌, ◌≤◌, ◌<◌, ◌^◌, ◌&&◌, ◌||◌, ℕ, suc, pos, negsuc, Bool, true, false, not, cond, List, [], ◌∷◌, map, filter, take, codes, eqb, refl, sym, ap, subst, subst₂, ◌∙◌, arith, add-one, inl, inr, IsPermutation, IsSorted, Less, is_lt, is_le, is_gt, int_cmp, true≢false}
use Rattle.std.specs.Prelude.{nat_le, nat_lt}
use Rattle.std.specs.List.{AllByRecursion}
use Rattle.std.specs.Ordering.{ordering_reverse}
use Rattle.std.proofs.lemmas.Bool.Decides.{nat_tests}
use Rattle.std.proofs.lemmas.Int.{ints}
use Rattle.std.proofs.lemmas.Grind.{common_steps}
use Rattle.std.proofs.lemmas.List.{take-map}
use Rattle.std.proofs.lemmas.List.Sorted.{length_permutation, IsPermutation-map, IsPermutation-trans}
use Rattle.sqlite_value.specs.declared.value.Value.{Value}
use Rattle.sqlite_value.specs.declared.value.Value.TheVariants.{Null, Int, Real, Text, Blob}
use Rattle.sqlite_value.specs.declared.keys.Collation.TheVariants.{Binary}
use Rattle.sqlite_value.specs.declared.keys.Key.{Key as Sorting}
use Rattle.sqlite_value.specs.Order.{Row, column, value_cmp}
use Rattle.sqlite_value.proofs.OrderLemmas.{then-Equal, value_cmp-Int, value_cmp_total}
use Rattle.sqlite_sql.specs.declared.ops.BinaryOp.TheVariants.{Compare}
use Rattle.sqlite_sql.specs.declared.ops.CompareOp.TheVariants.{Gt, Le}
use Rattle.sqlite_sql.specs.Ops.{binary, is_true}
use Rattle.sqlite_sql.specs.Query.{Output, output_cmp}
use Rattle.sqlite_trees.specs.Tree.{IsAscending, rowid}
use Rattle.sqlite_trees.specs.View.{is_int}
use Rattle.sqlite_keyed.proofs.ListLemmas.{all-filter, all_both, all_map, all_unmap, all_weaker, ascending-filter, ascending-map, filter-map, map-map, IsPermutation-filter}
use Rattle.sqlite_keyed.proofs.RuleLemmas.{first_of_both, second_of_both}
use Rattle.sqlite_tied.specs.Compute.{everything}
use Rattle.sqlite.specs.Term.{Term, lit, col, op2}
use Rattle.sqlite.specs.Listing.{understood}
use Rattle.sqlite.specs.State.{State, Shown}
use Rattle.house_rows.specs.Bids.{BidRow, bid_key}
use Rattle.house_rows.proofs.Put.{by_test}
use Rattle.store_rows.specs.House.{IsHouse}
use Rattle.store_rows.specs.ItemRows.{item_row_in, items_in}
use Rattle.store_rows.specs.Plain.{plain_query, passes}
use Rattle.store_rows.specs.Rows.{bid_in, bids_in, number_in, reserves_in}
use Rattle.store_rows.specs.Schema.{house_by}
use Rattle.store_rows.specs.Sorted.{sorted_bids}
use Rattle.store_rows.specs.First.{IsFinite, ShowsFirst, ShowsSome}
use Rattle.store_rows.proofs.Apart.{ascending_on}
use Rattle.store_rows.proofs.Asked.{Asks, from_second, lists, under_zero}
use Rattle.store_rows.proofs.ByKey.{by_columns}
use Rattle.store_rows.proofs.Compared.{at_least, below_zero, fits_not_negative, is_negative}
use Rattle.store_rows.proofs.Firsts.{none_passes, some_passes}
use Rattle.store_rows.proofs.Grouped.{firsts_rise}
use Rattle.store_rows.proofs.RowLemmas.{alone, equals_number, filter_same_on, truth_back}
use Rattle.store_rows.proofs.Select.{IsListOf, by_rowid, equals}
use Rattle.store_rows.proofs.Shown.{moved, output_row}
use Rattle.store_rows.proofs.Sorting.{sorted_in_order, sorted_moves}
use Rattle.store_rows.proofs.Tested.{filter_both}
use Rattle.store_rows.proofs.Update.{numbered_passes}
use Rattle.store_items.proofs.ItemLemmas.{IsRow, are_rows}
use Rattle.store_items.proofs.ItemRising.{number_of}
use Rattle.store_bids.specs.OwnBids.{items_bid_on}
use Rattle.store_bids.specs.Strays.{far_items_text, low_items_text}
use Rattle.store_bids.proofs.BidLemmas.{IsBid, are_bids}
use Rattle.store_bids.proofs.Numbers.{same_rising}

-- ---- the queries

abbrev pub items_bid_text : List ℕ
items_bid_text = codes "SELECT item FROM bid WHERE member = ?1 AND item >= ?2 AND item <= 4294967295 ORDER BY item"

abbrev to_last : ℕ → Term
to_last at = op2 (Compare Le Binary) (col 1 at) (lit (Int (pos 4294967295)))

abbrev over_last : ℕ → Term
over_last at = op2 (Compare Gt Binary) (col 1 at) (lit (Int (pos 4294967295)))

abbrev bid_test : List Term
bid_test = equals 3 ∷ from_second 1 ∷ to_last 1 ∷ []

abbrev item_alone : List Term
item_alone = col 1 1 ∷ []

abbrev by_item : List (Term × Sorting)
by_item = by_columns (1 ∷ [])

pub items_bid_is : Asks items_bid_text 8 bid_test item_alone by_item (codes "item" ∷ [])
unfolding understood everything
items_bid_is b = (refl, refl, (refl, refl))

pub items_bid_finite : (b : Bool) → IsFinite (understood (house_by b) items_bid_text)
unfolding understood everything
items_bid_finite b = refl

pub low_items_is : Asks low_items_text 6 (under_zero 0 ∷ []) (col 1 0 ∷ []) by_rowid (codes "id" ∷ [])
unfolding understood everything
low_items_is b = (refl, refl, (refl, refl))

pub low_items_finite : (b : Bool) → IsFinite (understood (house_by b) low_items_text)
unfolding understood everything
low_items_finite b = refl

pub far_items_is : Asks far_items_text 6 (over_last 0 ∷ []) (col 1 0 ∷ []) by_rowid (codes "id" ∷ [])
unfolding understood everything
far_items_is b = (refl, refl, (refl, refl))

pub far_items_finite : (b : Bool) → IsFinite (understood (house_by b) far_items_text)
unfolding understood everything
far_items_finite b = refl

-- ---- the tests

at_most : (m : ℕ) → is_le (int_cmp (pos m) (pos 4294967295)) ≡ nat_lt m (2 ^ 32)
at_most m = grind (arith, ints, common_steps, nat_tests)

over : (m : ℕ) → is_gt (int_cmp (pos m) (pos 4294967295)) ≡ not (nat_lt m (2 ^ 32))
over m = grind (arith, ints, common_steps, nat_tests)

report_low : (m : ℕ) → nat_lt (number_in (Int (pos m))) (2 ^ 32) ≡ nat_lt m (2 ^ 32)
report_low m = go (nat_lt m (2 ^ 32)) refl
  where
    go : (b : Bool) → nat_lt m (2 ^ 32) ≡ b → nat_lt (cond b m (2 ^ 64)) (2 ^ 32) ≡ b
    go true e = e
    go false e = refl

-- <= the last number
up_to_last : (v : Value) → is_int v ≡ true → is_true (binary (Compare Le Binary) v (Int (pos 4294967295))) ≡ (is_negative v || nat_lt (number_in v) (2 ^ 32))
unfolding binary
up_to_last Null is = absurd (true≢false (sym is))
up_to_last (Int (pos m)) is = truth_back _ ∙ ap is_le (value_cmp-Int (pos m) (pos 4294967295)) ∙ at_most m ∙ sym (report_low m)
up_to_last (Int (negsuc m)) is = truth_back _ ∙ ap is_le (value_cmp-Int (negsuc m) (pos 4294967295)) ∙ grind (arith, ints, common_steps)
up_to_last (Real x) is = absurd (true≢false (sym is))
up_to_last (Text t) is = absurd (true≢false (sym is))
up_to_last (Blob b) is = absurd (true≢false (sym is))

-- > the last number
past_last : (v : Value) → is_int v ≡ true → is_true (binary (Compare Gt Binary) v (Int (pos 4294967295))) ≡ (not (is_negative v) && not (nat_lt (number_in v) (2 ^ 32)))
unfolding binary
past_last Null is = absurd (true≢false (sym is))
past_last (Int (pos m)) is = truth_back _ ∙ ap is_gt (value_cmp-Int (pos m) (pos 4294967295)) ∙ over m ∙ ap not (sym (report_low m))
past_last (Int (negsuc m)) is = truth_back _ ∙ ap is_gt (value_cmp-Int (negsuc m) (pos 4294967295)) ∙ grind (arith, ints, common_steps)
past_last (Real x) is = absurd (true≢false (sym is))
past_last (Text t) is = absurd (true≢false (sym is))
past_last (Blob b) is = absurd (true≢false (sym is))

negative_far : (v : Value) → is_negative v ≡ true → nat_lt (number_in v) (2 ^ 32) ≡ false
negative_far (Int (negsuc n)) is = refl
negative_far (Int (pos n)) is = absurd (true≢false (sym is))
negative_far Null is = absurd (true≢false (sym is))
negative_far (Real x) is = absurd (true≢false (sym is))
negative_far (Text t) is = absurd (true≢false (sym is))
negative_far (Blob b) is = absurd (true≢false (sym is))

bid_bits : (a negative from low : Bool) → (negative ≡ true → low ≡ false) → (a && ((not negative && from) && ((negative || low) && true))) ≡ ((a && low) && from)
bid_bits true true from low far = rw (far refl) refl
bid_bits true false true true far = refl
bid_bits true false true false far = refl
bid_bits true false false true far = refl
bid_bits true false false false far = refl
bid_bits false negative from low far = refl

-- ---- the order

not_over : (m n : ℕ) → is_lt (int_cmp (pos n) (pos m)) ≡ false → m ≤ n
not_over m n not_less = grind (arith, ints, common_steps)

report_rise : (m n : ℕ) → m ≤ n → number_in (Int (pos m)) ≤ number_in (Int (pos n))
report_rise m n le = go (nat_lt m (2 ^ 32)) (nat_lt n (2 ^ 32)) refl refl
  where
    go : (b d : Bool) → nat_lt m (2 ^ 32) ≡ b → nat_lt n (2 ^ 32) ≡ d → cond b m (2 ^ 64) ≤ cond d n (2 ^ 64)
    go true true p q = le
    go true false p q = grind (arith, nat_tests, p)
    go false true p q = absurd (grind (arith, nat_tests, p, q, le))
    go false false p q = omega arith

abbrev IsCounted : Value → Type 0
IsCounted v = (is_int v ≡ true) × (is_negative v ≡ false)

numbers_rise : (v w : Value) → IsCounted v → IsCounted w → is_lt (value_cmp w v) ≡ false → number_in v ≤ number_in w
numbers_rise (Int (pos m)) (Int (pos n)) p q less = report_rise m n (not_over m n (sym (ap is_lt (value_cmp-Int (pos n) (pos m))) ∙ less))
numbers_rise (Int (pos m)) (Int (negsuc n)) p q less = absurd (true≢false q.1)
numbers_rise (Int (pos m)) Null p q less = absurd (true≢false (sym q.0))
numbers_rise (Int (pos m)) (Real x) p q less = absurd (true≢false (sym q.0))
numbers_rise (Int (pos m)) (Text x) p q less = absurd (true≢false (sym q.0))
numbers_rise (Int (pos m)) (Blob x) p q less = absurd (true≢false (sym q.0))
numbers_rise (Int (negsuc m)) w p q less = absurd (true≢false p.1)
numbers_rise Null w p q less = absurd (true≢false (sym p.0))
numbers_rise (Real x) w p q less = absurd (true≢false (sym p.0))
numbers_rise (Text x) w p q less = absurd (true≢false (sym p.0))
numbers_rise (Blob x) w p q less = absurd (true≢false (sym p.0))

abbrev shown_number : Output → ℕ
shown_number o = number_in (column o.1 0)

module _ (params : Row) where
  abbrev cmp : Output → Output → Rattle.std.proofs.Common.Ordering
  cmp = output_cmp (plain_query 0 bid_test item_alone by_item)

  abbrev show : Row → Output
  show = output_row item_alone by_item params

  abbrev IsShown : Output → Type 0
  IsShown o = (r : Row) × IsCounted (column r 1) × (o ≡ show r)

  step : (o p : Output) → IsShown o → IsShown p → is_lt (cmp p o) ≡ false → shown_number o ≤ shown_number p
  step o p here there not_less =
      let apart : is_lt (cmp (show there.0) (show here.0)) ≡ false = subst₂ (λ x y. is_lt (cmp x y) ≡ false) there.2 here.2 not_less in
      let rises = numbers_rise (column here.0 1) (column there.0 1) here.1 there.1 (sym (ap is_lt (then-Equal (value_cmp (column there.0 1) (column here.0 1)))) ∙ apart) in
      subst₂ (λ x y. shown_number x ≤ shown_number y) (sym here.2) (sym there.2) rises

  over_all : (o : Output) (os : List Output) → IsShown o → AllByRecursion IsShown os → IsSorted cmp (o ∷ os) → IsAscending (λ x y. shown_number x ≤ shown_number y) os → AllByRecursion (λ p. shown_number o ≤ shown_number p) os
  over_all o [] here shown sorted up = tt
  over_all o (p ∷ os) here shown sorted up =
      let first = step o p here shown.0 (sorted 0 o (omega arith) (omega arith)) in
      (first, all_weaker (λ q. shown_number p ≤ shown_number q) (λ q. shown_number o ≤ shown_number q) (λ q le. omega (arith, first, le)) os up.0)

  rising : (os : List Output) → AllByRecursion IsShown os → IsSorted cmp os → IsAscending (λ x y. shown_number x ≤ shown_number y) os
  rising [] shown sorted = tt
  rising (o ∷ os) shown sorted =
      let tail : IsSorted cmp os = λ k d p q. rw add-one (rw add-one at (sorted (suc k) d (omega arith) (omega arith))) in
      let up = rising os shown.1 tail in
      (over_all o os shown.0 shown.1 sorted up, up)

-- ---- what is shown

abbrev pub report : Row → ℕ
report r = number_in (column r 0)

abbrev item_of : BidRow → ℕ
item_of b = b.item

pub low_items : (bids : List BidRow) (member : ℕ) → AllByRecursion (λ n. n < 2 ^ 32) (items_bid_on bids member)
low_items [] member = tt
low_items (b ∷ bids) member =
    elim (by_test ((b.bid.member == member) && nat_lt b.item (2 ^ 32))) [
      | inl is ↦ (let low = second_of_both (b.bid.member == member) (nat_lt b.item (2 ^ 32)) is in let less : b.item < 2 ^ 32 = grind (arith, nat_tests, low) in rw is (less, low_items bids member))
      | inr not ↦ rw not (low_items bids member)
    ]

module _ (member from : ℕ) (low : member < 2 ^ 32) (small : from < 2 ^ 32) (old new : State) (house : IsHouse old.now) where
  abbrev table : List Row
  table = old.now.trees 8

  abbrev params : Row
  params = Int (pos member) ∷ Int (pos from) ∷ []

  abbrev kept : List Row
  kept = filter (passes bid_test params) table

  abbrev of_member : BidRow → Bool
  of_member b = (b.bid.member == member) && nat_lt b.item (2 ^ 32)

  abbrev keeps : BidRow → Bool
  keeps b = of_member b && nat_le from b.item

  passing : (r : Row) → IsBid r → passes bid_test params r ≡ keeps (bid_in r)
  passing r is =
      rw (equals_number (column r 3) member is.1 low, at_least (column r 1) from is.0 small, up_to_last (column r 1) is.0)
      (bid_bits (eqb (number_in (column r 3)) member) (is_negative (column r 1)) (nat_le from (number_in (column r 1))) (nat_lt (number_in (column r 1)) (2 ^ 32)) (negative_far (column r 1)))

  is_low : (r : Row) → IsBid r → passes bid_test params r ≡ true → number_in (column r 1) < 2 ^ 32
  is_low r is p =
      let mine = first_of_both (of_member (bid_in r)) (nat_le from (number_in (column r 1))) (sym (passing r is) ∙ p) in
      let less = second_of_both (eqb (number_in (column r 3)) member) (nat_lt (number_in (column r 1)) (2 ^ 32)) mine in
      grind (arith, nat_tests, less)

  counted : (r : Row) → IsBid r → passes bid_test params r ≡ true → IsCounted (column r 1)
  counted r is p = (is.0, fits_not_negative (column r 1) (is_low r is p))

  kept_counted : AllByRecursion (λ r. IsCounted (column r 1)) kept
  kept_counted = all_both IsBid (λ r. passes bid_test params r ≡ true) (λ r. IsCounted (column r 1)) counted kept (all-filter IsBid (passes bid_test params) table (are_bids old.now house)) (numbered_passes (passes bid_test params) table)

  -- the items of all rows that are shown
  all_shown : (all : List Row) → IsListOf table bid_test item_alone by_item params all → map report all ≡ filter (nat_le from) (items_bid_on (sorted_bids old.now.trees) member)
  all_shown all a =
      let sorted = sorted_bids old.now.trees in
      let wanted = filter (nat_le from) (items_bid_on sorted member) in
      let shown = map (show params) kept in
      let are : map report all ≡ map shown_number a.ordered = ap (map report) a.shown ∙ map-map report (λ (o : Output). o.1) a.ordered in
      let there = moved (IsShown params) shown a.ordered a.same (all_map (IsShown params) (show params) kept (all_weaker (λ r. IsCounted (column r 1)) (λ r. IsShown params (show params r)) (λ r is. (r, is, refl)) kept kept_counted)) in
      let up = ascending-map (λ m n. m ≤ n) shown_number a.ordered (rising params a.ordered there a.sorted) in
      let typed : wanted ≡ map item_of (filter keeps sorted) = filter-map (nat_le from) item_of (filter of_member sorted) ∙ ap (map item_of) (filter_both of_member (λ b. nat_le from b.item) sorted) in
      let also_up = ascending-map (λ m n. m ≤ n) item_of (filter keeps sorted) (ascending-filter (λ (b : BidRow) (d : BidRow). b.item ≤ d.item) keeps sorted (firsts_rise bid_key sorted (sorted_in_order bid_key (bids_in old.now.trees)))) in
      let rows : map item_of (filter keeps (bids_in old.now.trees)) ≡ map shown_number shown =
      ap (map item_of) (filter-map keeps bid_in table ∙ ap (map bid_in) (sym (filter_same_on IsBid (passes bid_test params) (λ r. keeps (bid_in r)) passing table (are_bids old.now house))))
      ∙ map-map item_of bid_in kept ∙ sym (map-map shown_number (show params) kept) in
      let front = IsPermutation-map shown_number shown a.ordered a.same in
      let back = IsPermutation-map item_of (filter keeps sorted) (filter keeps (bids_in old.now.trees)) (IsPermutation-filter keeps sorted (bids_in old.now.trees) (sorted_moves bid_key (bids_in old.now.trees))) in
      let same = IsPermutation-trans (map item_of (filter keeps sorted)) (map shown_number shown) (map shown_number a.ordered) (subst (IsPermutation (map item_of (filter keeps sorted))) rows back) front in
      are ∙ same_rising (map shown_number a.ordered) (map item_of (filter keeps sorted)) up also_up
      (λ n. length_permutation (filter (λ m. m == n) (map item_of (filter keeps sorted))) (filter (λ m. m == n) (map shown_number a.ordered)) (IsPermutation-filter (λ m. m == n) (map item_of (filter keeps sorted)) (map shown_number a.ordered) same))
      ∙ sym typed

  pub items_shown : (rows : List Row) → ShowsFirst 50 items_bid_text params old new rows → map report rows ≡ take 50 (filter (nat_le from) (items_bid_on (sorted_bids old.now.trees) member))
  items_shown rows first =
      ap (map report) first.are ∙ sym (take-map report 50 first.all)
      ∙ ap (take 50) (all_shown first.all (lists items_bid_text 8 bid_test item_alone by_item _ items_bid_is (λ db. refl) old new params first.all house first.shown))

-- ---- items with no number of ours

is_ours : (v : Value) → is_negative v ≡ false → (not (is_negative v) && not (nat_lt (number_in v) (2 ^ 32))) ≡ false → number_in v < 2 ^ 32
is_ours v none within = elim (by_test (nat_lt (number_in v) (2 ^ 32))) [
  | inl low ↦ grind (arith, nat_tests, low)
  | inr far ↦ absurd (let e : true ≡ false = rw (none, far) at within in cc)
]

module _ (old new : State) (house : IsHouse old.now) where
  abbrev items : List Row
  items = old.now.trees 6

  pub none_low : Shown low_items_text [] old new [] → AllByRecursion (λ r. is_negative (rowid r) ≡ false) items
  none_low none =
      all_both IsRow (λ r. passes (under_zero 0 ∷ []) [] r ≡ false) (λ r. is_negative (rowid r) ≡ false) (λ r is p. sym (alone (is_negative (rowid r))) ∙ sym (ap (λ b. b && true) (below_zero (rowid r) is.number)) ∙ p) items (are_rows old.now house)
      (none_passes (under_zero 0 ∷ []) (col 1 0 ∷ []) by_rowid [] items [] (lists low_items_text 6 (under_zero 0 ∷ []) (col 1 0 ∷ []) by_rowid _ low_items_is (λ db. refl) old new [] [] house none) refl)

  pub none_far : Shown far_items_text [] old new [] → AllByRecursion (λ r. (not (is_negative (rowid r)) && not (nat_lt (number_in (rowid r)) (2 ^ 32))) ≡ false) items
  none_far none =
      all_both IsRow (λ r. passes (over_last 0 ∷ []) [] r ≡ false) (λ r. (not (is_negative (rowid r)) && not (nat_lt (number_in (rowid r)) (2 ^ 32))) ≡ false)
      (λ r is p. sym (alone (not (is_negative (rowid r)) && not (nat_lt (number_in (rowid r)) (2 ^ 32)))) ∙ sym (ap (λ b. b && true) (past_last (rowid r) is.number)) ∙ p) items (are_rows old.now house)
      (none_passes (over_last 0 ∷ []) (col 1 0 ∷ []) by_rowid [] items [] (lists far_items_text 6 (over_last 0 ∷ []) (col 1 0 ∷ []) by_rowid _ far_items_is (λ db. refl) old new [] [] house none) refl)

  -- without those below 0 the numbers do not fall
  pub items_up : Shown low_items_text [] old new [] → IsAscending (λ a b. number_of a ≤ number_of b) (items_in old.now.trees)
  items_up none =
      let ours = all_both IsRow (λ r. is_negative (rowid r) ≡ false) (λ r. IsCounted (rowid r)) (λ r is p. (is.number, p)) items (are_rows old.now house) (none_low none) in
      ascending-map (λ a b. number_of a ≤ number_of b) (item_row_in (reserves_in old.now.trees)) items
      (ascending_on (λ r. IsCounted (rowid r)) (λ r s. value_cmp (rowid r) (rowid s) ≡ Less) (λ r s. number_of (item_row_in (reserves_in old.now.trees) r) ≤ number_of (item_row_in (reserves_in old.now.trees) s))
      (λ r s p q less. numbers_rise (rowid r) (rowid s) p q (ap is_lt (value_cmp_total.antisymm (rowid s) (rowid r) ∙ ap ordering_reverse less))) items ours house.shaped.1.1.1.1.0.0)

  never_low : (r : Row) → IsRow r → number_in (rowid r) < 2 ^ 32 → passes (under_zero 0 ∷ []) [] r ≡ false
  never_low r is low = ap (λ b. b && true) (below_zero (rowid r) is.number) ∙ alone (is_negative (rowid r)) ∙ fits_not_negative (rowid r) low

  never_far : (r : Row) → IsRow r → number_in (rowid r) < 2 ^ 32 → passes (over_last 0 ∷ []) [] r ≡ false
  never_far r is low =
      let ours : nat_lt (number_in (rowid r)) (2 ^ 32) ≡ true = grind (arith, nat_tests, low) in
      ap (λ b. b && true) (past_last (rowid r) is.number) ∙ alone (not (is_negative (rowid r)) && not (nat_lt (number_in (rowid r)) (2 ^ 32))) ∙ rw (fits_not_negative (rowid r) low, ours) refl

  pub no_low_item : ShowsSome low_items_text [] old new → AllByRecursion (λ row. number_of row < 2 ^ 32) (items_in old.now.trees) → ⊥
  no_low_item some low =
      some_passes (under_zero 0 ∷ []) (col 1 0 ∷ []) by_rowid [] items (some.first ∷ some.others) (lists low_items_text 6 (under_zero 0 ∷ []) (col 1 0 ∷ []) by_rowid _ low_items_is (λ db. refl) old new [] _ house some.shown) some.first some.others refl
      (all_both IsRow (λ r. number_in (rowid r) < 2 ^ 32) (λ r. passes (under_zero 0 ∷ []) [] r ≡ false) never_low items (are_rows old.now house) (all_unmap (λ row. number_of row < 2 ^ 32) (item_row_in (reserves_in old.now.trees)) items low))

  pub no_far_item : ShowsSome far_items_text [] old new → AllByRecursion (λ row. number_of row < 2 ^ 32) (items_in old.now.trees) → ⊥
  no_far_item some low =
      some_passes (over_last 0 ∷ []) (col 1 0 ∷ []) by_rowid [] items (some.first ∷ some.others) (lists far_items_text 6 (over_last 0 ∷ []) (col 1 0 ∷ []) by_rowid _ far_items_is (λ db. refl) old new [] _ house some.shown) some.first some.others refl
      (all_both IsRow (λ r. number_in (rowid r) < 2 ^ 32) (λ r. passes (over_last 0 ∷ []) [] r ≡ false) never_far items (are_rows old.now house) (all_unmap (λ row. number_of row < 2 ^ 32) (item_row_in (reserves_in old.now.trees)) items low))

pub all_ours : (old first new : State) → IsHouse old.now → Shown low_items_text [] old first [] → Shown far_items_text [] old new [] → AllByRecursion (λ row. number_of row < 2 ^ 32) (items_in old.now.trees)
all_ours old first new house low far =
    all_map (λ row. number_of row < 2 ^ 32) (item_row_in (reserves_in old.now.trees)) (old.now.trees 6)
    (all_both (λ r. is_negative (rowid r) ≡ false) (λ r. (not (is_negative (rowid r)) && not (nat_lt (number_in (rowid r)) (2 ^ 32))) ≡ false) (λ r. number_in (rowid r) < 2 ^ 32) (λ r. is_ours (rowid r)) (old.now.trees 6) (none_low old first house low) (none_far old new house far))
