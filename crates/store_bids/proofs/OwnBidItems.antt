-- A member's bids taken together by item are what it has bid on each.
use Rattle.std.proofs.Common.{◌≡◌, ◌≤◌, ◌<◌, ◌^◌, ℕ, suc, Bool, true, false, not, ◌&&◌, List, [], ◌∷◌, ◌++◌, append_assoc, map, filter, find, flat_map, length, option_map, take, Option, Some, None, refl, ap, sym, subst, ◌∙◌, arith, inl, inr}
use Rattle.std.specs.Prelude.{◌==◌, nat_le, nat_lt}
use Rattle.std.specs.List.{AllByRecursion, list_any}
use Rattle.std.proofs.lemmas.Bool.Decides.{nat_tests}
use Rattle.std.proofs.lemmas.List.{append-nil, length-append, length-take, map-append, take-append-le}
use Rattle.std.proofs.lemmas.List.Concat.{flat_map-append}
use Rattle.std.proofs.lemmas.List.Elements.{filter-append}
use Rattle.sqlite_trees.specs.Tree.{IsAscending, Trees}
use Rattle.sqlite_keyed.proofs.ListLemmas.{all-append, all-filter, all_weaker, ascending-filter, ascending-map, filter-map, filter_all, filter_none, filter_same, map-map}
use Rattle.sqlite_keyed.proofs.RuleLemmas.{second_of_both}
use Rattle.house_rows.specs.Bids.{BidRow}
use Rattle.house_rows.specs.Changed.{is_item}
use Rattle.house_rows.specs.Found.{all_items, best_of, own_bid, own_bids}
use Rattle.house_rows.specs.History.{counted}
use Rattle.house_rows.specs.Limits.{most_shown}
use Rattle.house_rows.specs.Tables.{ItemRow, Tables}
use Rattle.house_rows.specs.declared.item.OwnBest.{OwnBest}
use Rattle.house_rows.specs.declared.item.OwnBid.{OwnBid}
use Rattle.house_rows.specs.declared.item.Terms.{Terms}
use Rattle.house_rows.specs.Editions.{BandTables}
use Rattle.house_rows.proofs.Put.{by_test}
use Rattle.house_rows.proofs.Every.{found_is}
use Rattle.store_rows.specs.ItemRows.{items_in}
use Rattle.store_rows.specs.Tables.{tables_in}
use Rattle.store_rows.proofs.Tested.{filter_both}
use Rattle.store_rows.specs.Joined.{found_of}
use Rattle.store_rows.proofs.Joined.{IsRisingBy, among, found_part, joined}
use Rattle.store_items.proofs.After.{parts}
use Rattle.store_items.proofs.ItemRising.{number_of}
use Rattle.store_bids.specs.OwnBids.{bid_reported, items_bid_on, numbers_from, own_found}
use Rattle.house_rows.specs.Reached.{FitsSoFar, IsReached}
use Rattle.store_bids.specs.Reached.{FitInTurn}
use Rattle.store_bids.proofs.ItemsBid.{low_items}
use Rattle.store_bids.proofs.Numbers.{has, none_both, numbers_above, numbers_all, numbers_have, numbers_up}

-- ---- on which items a member has bid

abbrev has_item : ℕ → List BidRow → Bool
has_item n bids = list_any (λ b. b.item == n) bids

positive : (n : ℕ) → nat_lt 0 (suc n) ≡ true
positive n = grind (arith, nat_tests)

-- where one of its bids is on the item
has_bid : (member n : ℕ) (bids : List BidRow) → nat_lt 0 (length (filter (λ b. (b.bid.member == member) && (b.item == n)) bids)) ≡ has_item n (filter (λ b. b.bid.member == member) bids)
has_bid member n [] = refl
has_bid member n (b ∷ bids) =
    let rest = has_bid member n bids in
    elim (by_test (b.bid.member == member)) [
      | inl is ↦ elim (by_test (b.item == n)) [
        | inl here ↦ rw (is, here) (positive (length (filter (λ x. (x.bid.member == member) && (x.item == n)) bids)))
        | inr other ↦ rw (is, other) rest
      ]
      | inr not ↦ rw not rest
    ]

-- which has a number of ours
has_low : (member n : ℕ) (bids : List BidRow) → has n (items_bid_on bids member) ≡ (nat_lt n (2 ^ 32) && has_item n (filter (λ b. b.bid.member == member) bids))
has_low member n [] = none_both false (nat_lt n (2 ^ 32))
has_low member n (b ∷ bids) =
    let rest = has_low member n bids in
    elim (by_test (b.bid.member == member)) [
      | inl is ↦ elim (by_test (nat_lt b.item (2 ^ 32))) [
        | inl low ↦ elim (by_test (b.item == n)) [
          | inl here ↦ (let also : nat_lt n (2 ^ 32) ≡ true = grind (arith, nat_tests, low, here) in rw (is, low, here, also) refl)
          | inr other ↦ rw (is, low, other) rest
        ]
        | inr far ↦ elim (by_test (b.item == n)) [
          | inl here ↦ (let also : nat_lt n (2 ^ 32) ≡ false = grind (arith, nat_tests, far, here) in rw (is, far, here, also) (rest ∙ rw also refl))
          | inr other ↦ rw (is, far, other) rest
        ]
      ]
      | inr not ↦ rw not rest
    ]

-- ---- what is found by their numbers

filter_each : {A B : Type 0} (p : B → Bool) (f : A → List B) (xs : List A) → flat_map (λ x. filter p (f x)) xs ≡ filter p (flat_map f xs)
filter_each p f [] = refl
filter_each p f (x ∷ xs) = ap (λ l. filter p (f x) ++ l) (filter_each p f xs) ∙ sym (filter-append p (f x) (flat_map f xs))

turned_about : (from low here : Bool) → ((from && (low && here)) && here) ≡ (low && (here && from))
turned_about true true true = refl
turned_about true true false = refl
turned_about true false true = refl
turned_about true false false = refl
turned_about false true true = refl
turned_about false true false = refl
turned_about false false true = refl
turned_about false false false = refl

all_found : {A : Type 0} (P : OwnBid → Type 0) (Q : A → Type 0) (f : A → List OwnBid) → ((x : A) → Q x → AllByRecursion P (f x)) → (xs : List A) → AllByRecursion Q xs → AllByRecursion P (flat_map f xs)
all_found P Q f each [] all = tt
all_found P Q f each (x ∷ xs) all = all-append P (f x) (flat_map f xs) (each x all.0) (all_found P Q f each xs all.1)

all_front : {A : Type 0} (P : A → Type 0) (xs ys : List A) → AllByRecursion P (xs ++ ys) → AllByRecursion P xs × AllByRecursion P ys
all_front P [] ys all = (tt, all)
all_front P (x ∷ xs) ys all = let more = all_front P xs ys all.1 in ((all.0, more.0), more.1)

-- of numbers that rise those before one are under it, and those after it over it
around : (before : List ℕ) (n : ℕ) (rest : List ℕ) → IsAscending (λ a b. a < b) (before ++ n ∷ rest) → AllByRecursion (λ m. m < n) before × AllByRecursion (λ m. n < m) rest
around [] n rest up = (tt, up.0)
around (m ∷ before) n rest up = let more = around before n rest up.1 in let here = all_front (λ k. m < k) before (n ∷ rest) up.0 in ((here.1.0, more.0), more.1)

some_there : (n : ℕ) (before rest : List ℕ) → list_any (λ m. n == m) (before ++ n ∷ rest) ≡ true
some_there n [] rest = let here : (n == n) ≡ true = grind (arith, nat_tests) in rw here refl
some_there n (m ∷ before) rest = elim (by_test (n == m)) [ inl is ↦ rw is refl | inr other ↦ rw other (some_there n before rest) ]

module _ (t : Tables) (member from : ℕ) (rising : IsRisingBy number_of t.items) (ordered : IsAscending (λ (a : BidRow) (b : BidRow). a.item ≤ b.item) t.bids) where
  abbrev bid : ItemRow → OwnBid
  bid row = own_bid t member row.item

  abbrev is_bid : OwnBid → Bool
  is_bid b = nat_lt 0 b.mine

  abbrev shows : OwnBid → Bool
  shows b = is_bid b && nat_le from b.item

  abbrev listed : List ℕ
  listed = items_bid_on t.bids member

  abbrev numbers : List ℕ
  numbers = numbers_from from listed

  abbrev found : ℕ → List OwnBid
  found = own_found t member

  abbrev is_low : ItemRow → Bool
  is_low row = nat_lt (number_of row) (2 ^ 32)

  listed_up : IsAscending (λ m n. m ≤ n) listed
  listed_up =
      ascending-map (λ m n. m ≤ n) (λ (b : BidRow). b.item) (filter (λ b. (b.bid.member == member) && nat_lt b.item (2 ^ 32)) t.bids)
      (ascending-filter (λ (a : BidRow) (b : BidRow). a.item ≤ b.item) (λ b. (b.bid.member == member) && nat_lt b.item (2 ^ 32)) t.bids ordered)

  there : (n : ℕ) → list_any (λ m. n == m) numbers ≡ (nat_le from n && (nat_lt n (2 ^ 32) && nat_lt 0 (best_of t member n).mine))
  there n = numbers_have n from listed listed_up ∙ ap (λ b. nat_le from n && b) (has_low member n t.bids ∙ ap (λ b. nat_lt n (2 ^ 32) && b) (sym (has_bid member n t.bids)))

  same : (row : ItemRow) → (among number_of numbers row && is_bid (bid row)) ≡ (is_low row && shows (bid row))
  same row = ap (λ b. b && is_bid (bid row)) (there (number_of row)) ∙ turned_about (nat_le from (number_of row)) (is_low row) (is_bid (bid row))

  -- what is found by the numbers is the list's part of the items with a number of ours
  low_part : flat_map found numbers ≡ filter shows (map bid (filter is_low t.items))
  low_part =
      filter_each is_bid (found_part number_of bid t.items) numbers
      ∙ ap (filter is_bid) (joined number_of bid numbers t.items (numbers_up from listed) (all_weaker (λ n. n < 2 ^ 32) (λ n. n < 2 ^ 64) (λ n low. omega (arith, low)) numbers (numbers_all (λ n. n < 2 ^ 32) from listed (low_items t.bids member))) rising)
      ∙ filter-map is_bid bid (filter (among number_of numbers) t.items)
      ∙ ap (map bid) (filter_both (among number_of numbers) (λ row. is_bid (bid row)) t.items ∙ filter_same (λ row. among number_of numbers row && is_bid (bid row)) (λ row. is_low row && shows (bid row)) same t.items
      ∙ sym (filter_both is_low (λ row. shows (bid row)) t.items))
      ∙ sym (filter-map shows bid (filter is_low t.items))

  each_bid : map bid t.items ≡ map (own_bid t member) (all_items t)
  each_bid = sym (map-map (own_bid t member) (λ (row : ItemRow). row.item) t.items)

  -- a full list shows nothing of what has no number of ours, and lies after
  pub full : (shown : List OwnBid) → IsAscending (λ a b. number_of a ≤ number_of b) t.items → shown ≡ take most_shown (flat_map found numbers) → most_shown ≤ length shown → shown ≡ own_bids t member from
  full shown up are many =
      let low = filter is_low t.items in
      let high = filter (λ row. not (is_low row)) t.items in
      let rest = filter shows (map bid high) in
      let whole : filter shows (map bid t.items) ≡ flat_map found numbers ++ rest =
      ap (λ l. filter shows (map bid l)) (parts number_of (2 ^ 32) t.items up) ∙ ap (filter shows) (map-append bid low high) ∙ filter-append shows (map bid low) (map bid high) ∙ ap (λ l. l ++ rest) (sym low_part) in
      let long : most_shown ≤ length (flat_map found numbers) = (let l = length-take most_shown (flat_map found numbers) in let e = rw are at many in omega (arith, l, e)) in
      are ∙ sym (take-append-le most_shown (flat_map found numbers) rest long) ∙ ap (take most_shown) (sym whole ∙ ap (filter shows) each_bid)

  module _ (ours : AllByRecursion (λ row. number_of row < 2 ^ 32) t.items) where
    all_low : filter is_low t.items ≡ t.items
    all_low = filter_all is_low t.items (all_weaker (λ row. number_of row < 2 ^ 32) (λ row. is_low row ≡ true) (λ row low. grind (arith, nat_tests, low)) t.items ours)

    whole : flat_map found numbers ≡ filter shows (map (own_bid t member) (all_items t))
    whole = low_part ∙ ap (λ l. filter shows (map bid l)) all_low ∙ ap (filter shows) each_bid

    pub fewer : (shown : List OwnBid) → shown ≡ take most_shown (flat_map found numbers) → shown ≡ own_bids t member from
    fewer shown are = are ∙ ap (take most_shown) whole

    -- ---- how far the list reaches

    found_there : (n : ℕ) (row : Option ItemRow) → find (is_item n) t.items ≡ row → AllByRecursion (λ (b : OwnBid). b.item ≡ n) (found_of (option_map (λ (r : ItemRow). own_bid t member r.item) row))
    found_there n None is = tt
    found_there n (Some row) is = (let passes = found_is (is_item n) t.items row is in let e : row.item.terms.item ≡ n = grind (arith, nat_tests, passes) in (e, tt))

    found_here : (n : ℕ) → AllByRecursion (λ (b : OwnBid). b.item ≡ n) (found n)
    found_here n = all-filter (λ (b : OwnBid). b.item ≡ n) is_bid (found_of (option_map (λ (r : ItemRow). own_bid t member r.item) (find (is_item n) t.items))) (found_there n (find (is_item n) t.items) refl)

    abbrev is_before : ℕ → OwnBid → Bool
    is_before n b = nat_lt b.item n

    before_it : (n m : ℕ) → m < n → AllByRecursion (λ b. is_before n b ≡ true) (found m)
    before_it n m less = all_weaker (λ (b : OwnBid). b.item ≡ m) (λ b. is_before n b ≡ true) (λ b is. grind (arith, nat_tests, is, less)) (found m) (found_here m)

    not_before : (n m : ℕ) → n ≤ m → AllByRecursion (λ b. is_before n b ≡ false) (found m)
    not_before n m le = all_weaker (λ (b : OwnBid). b.item ≡ m) (λ b. is_before n b ≡ false) (λ b is. grind (arith, nat_tests, is, le)) (found m) (found_here m)

    -- as many are shown before an item as were found on those before it
    so_many : (before : List ℕ) (n : ℕ) (rest : List ℕ) → numbers ≡ before ++ n ∷ rest → counted (λ b. shows b && is_before n b) (map (own_bid t member) (all_items t)) ≡ length (flat_map found before)
    so_many before n rest is =
        let sides = around before n rest (subst (IsAscending (λ a b. a < b)) is (numbers_up from listed)) in
        let front = all_found (λ b. is_before n b ≡ true) (λ m. m < n) found (before_it n) before sides.0 in
        let back = all-append (λ b. is_before n b ≡ false) (found n) (flat_map found rest) (not_before n n (omega arith)) (all_found (λ b. is_before n b ≡ false) (λ m. n < m) found (λ m less. not_before n m (omega (arith, less))) rest sides.1) in
        let split : flat_map found numbers ≡ flat_map found before ++ (found n ++ flat_map found rest) = ap (flat_map found) is ∙ flat_map-append found before (n ∷ rest) in
        ap length (sym (filter_both shows (is_before n) (map (own_bid t member) (all_items t))) ∙ ap (filter (is_before n)) (sym whole ∙ split) ∙ filter-append (is_before n) (flat_map found before) (found n ++ flat_map found rest))
        ∙ ap length (ap (λ l. l ++ filter (is_before n) (found n ++ flat_map found rest)) (filter_all (is_before n) (flat_map found before) front) ∙ ap (λ l. flat_map found before ++ l) (filter_none (is_before n) (found n ++ flat_map found rest) back) ∙ append-nil (flat_map found before))

    reached : (before : List ℕ) (n : ℕ) (rest : List ℕ) → numbers ≡ before ++ n ∷ rest → length (flat_map found before) < most_shown → IsReached t member from n
    reached before n rest is few =
        let known = sym (there n) ∙ ap (list_any (λ m. n == m)) is ∙ some_there n before rest in
        let low = second_of_both (nat_le from n) (nat_lt n (2 ^ 32) && nat_lt 0 (best_of t member n).mine) known in
        record {
          bid_on = second_of_both (nat_lt n (2 ^ 32)) (nat_lt 0 (best_of t member n).mine) low;
          begun = (all_front (λ m. from ≤ m) before (n ∷ rest) (subst (AllByRecursion (λ m. from ≤ m)) is (numbers_above from listed))).1.0;
          few = subst (λ k. k < most_shown) (sym (so_many before n rest is)) few;
        }

    in_turn : (editions : BandTables) → FitsSoFar editions t member from → (before rest : List ℕ) → numbers ≡ before ++ rest → FitInTurn editions t member (length (flat_map found before)) rest
    in_turn editions fit before [] is = tt
    in_turn editions fit before (n ∷ rest) is =
        let one : flat_map found (before ++ n ∷ []) ≡ flat_map found before ++ found n = flat_map-append found before (n ∷ []) ∙ ap (λ l. flat_map found before ++ l) (append-nil (found n)) in
        let more = in_turn editions fit (before ++ n ∷ []) rest (is ∙ sym (append_assoc before (n ∷ []) rest)) in (
          λ few. fit.reached n (reached before n rest is few),
          subst (λ many. FitInTurn editions t member many rest) (ap length one ∙ length-append (flat_map found before) (found n)) more,
        )

    pub all_in_turn : (editions : BandTables) → FitsSoFar editions t member from → FitInTurn editions t member 0 numbers
    all_in_turn editions fit = in_turn editions fit [] numbers refl

-- ---- one item

-- the terms of an item with a number and the member's best bid on that number
report : (t : Tables) (member n : ℕ) (found : Option ItemRow) → find (is_item n) t.items ≡ found
    → option_map (bid_reported member (best_of t member n)) (option_map (λ (row : ItemRow). row.item.terms) found) ≡ option_map (λ (row : ItemRow). own_bid t member row.item) found
report t member n None is = refl
report t member n (Some row) is =
    let passes = found_is (is_item n) t.items row is in
    let same : row.item.terms.item ≡ n = grind (arith, nat_tests, passes) in
    ap (λ (k : ℕ). Some (bid_reported member (best_of t member k) row.item.terms)) (sym same)

pub bid_is : (t : Tables) (member n : ℕ) → option_map (bid_reported member (best_of t member n)) (option_map (λ (row : ItemRow). row.item.terms) (find (is_item n) t.items)) ≡ option_map (λ (row : ItemRow). own_bid t member row.item) (find (is_item n) t.items)
bid_is t member n = report t member n (find (is_item n) t.items) refl

pub bid_found : (db : Trees) (member item : ℕ) (terms : Option Terms) (best : OwnBest) → terms ≡ option_map (λ (row : ItemRow). row.item.terms) (find (is_item item) (items_in db)) → best ≡ best_of (tables_in db) member item
    → filter (λ b. nat_lt 0 b.mine) (found_of (option_map (bid_reported member best) terms)) ≡ own_found (tables_in db) member item
unfolding tables_in
bid_found db member item terms best terms_are best_is =
    let t = tables_in db in
    let shown = λ (o : Option OwnBid). filter (λ (b : OwnBid). nat_lt 0 b.mine) (found_of o) in
    ap (λ b. shown (option_map (bid_reported member b) terms)) best_is
    ∙ ap (λ o. shown (option_map (bid_reported member (best_of t member item)) o)) terms_are
    ∙ ap shown (bid_is t member item)
