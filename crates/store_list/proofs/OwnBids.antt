-- What a member has bid, item by item, as its tallies give it.
use Rattle.std.proofs.Common.{◌≡◌, ℕ, zero, suc, ◌+◌, ◌≤◌, ◌<◌, List, [], ◌∷◌, ◌++◌, length, take, drop, map, filter, get_or, Bool, true, false, refl, ◌∙◌, ap, sym, subst, arith, inl, inr, Option, Some, None}
use Rattle.std.specs.Prelude.{◌==◌, ◌&&◌, if◌then◌else◌, find, option_map, nat_le, nat_lt}
use Rattle.std.specs.List.{AllByRecursion, AllWithin}
use Rattle.std.specs.List.Sorted.{IsPartitionedBy, IsPartitionPoint}
use Rattle.std.proofs.lemmas.Bool.Decides.{nat_tests}
use Rattle.std.proofs.lemmas.List.{get_or-map, get_or_default}
use Rattle.proxy.specs.Bids.{is_leader}
use Rattle.house_rows.specs.declared.item.OwnBest.{OwnBest}
use Rattle.house_rows.specs.declared.item.OwnBid.{OwnBid}
use Rattle.house_rows.specs.declared.item.Terms.{Terms}
use Rattle.house_rows.specs.Found.{best_of, own_bid, own_bids}
use Rattle.house_rows.specs.Keeping.{AreInTurn}
use Rattle.house_rows.specs.Limits.{most_shown}
use Rattle.house_rows.specs.Tables.{ItemRow, Tables}
use Rattle.house_rows.proofs.Every.{found_is}
use Rattle.house_rows.proofs.Put.{by_test}
use Rattle.list_rows.proofs.Growing.{made_long, map_twice}
use Rattle.list_rows.proofs.Order.{every_filtered}
use Rattle.list_rows.proofs.Placed.{every_at}
use Rattle.list_bids.specs.declared.tally.Tally.{Tally}
use Rattle.list_bids.specs.Tallies.{AreRisingFrom, AreTallies, numbers_in}
use Rattle.list_items.specs.Indexed.{number_of}
use Rattle.list_items.specs.Rising.{HasAll, IsRisingFrom, is_among}
use Rattle.list_items.proofs.Fronts.{page_more, passed_all, passed_at, passed_less, passed_more, passed_none}
use Rattle.list_items.proofs.Joined.{same_number}

-- rows by rising numbers, from a number on

least_at : {A : Type 0} (number : A → ℕ) (least : ℕ) (xs : List A) (j : ℕ) (d : A) → AreRisingFrom least (map number xs) → j < length xs → least ≤ number (get_or xs j d)
least_at number least [] j d rising lt = absurd (omega arith)
least_at number least (x ∷ xs) zero d rising lt = rising.0
least_at number least (x ∷ xs) (suc j) d rising lt =
    let first : least ≤ number x = rising.0 in
    let rest : number x + 1 ≤ number (get_or xs j d) = least_at number (number x + 1) xs j d rising.1 (omega arith) in omega arith

ordered : {A : Type 0} (number : A → ℕ) (least : ℕ) (xs : List A) (i j : ℕ) (d : A) → AreRisingFrom least (map number xs) → i ≤ j → j < length xs → number (get_or xs i d) ≤ number (get_or xs j d)
ordered number least [] i j d rising le lt = absurd (omega arith)
ordered number least (x ∷ xs) zero zero d rising le lt = omega arith
ordered number least (x ∷ xs) zero (suc j) d rising le lt = let rest : number x + 1 ≤ number (get_or xs j d) = least_at number (number x + 1) xs j d rising.1 (omega arith) in omega arith
ordered number least (x ∷ xs) (suc i) zero d rising le lt = absurd (omega arith)
ordered number least (x ∷ xs) (suc i) (suc j) d rising le lt = ordered number (number x + 1) xs i j d rising.1 (omega arith) (omega arith)

pub parted : {A : Type 0} (number : A → ℕ) (xs : List A) (from : ℕ) → AreRisingFrom 0 (map number xs) → IsPartitionedBy (λ x. nat_lt (number x) from) xs
parted number xs from rising i j d le lt small =
    let order : number (get_or xs i d) ≤ number (get_or xs j d) = ordered number 0 xs i j d rising le lt in
    let below : number (get_or xs j d) < from = grind (arith, nat_tests, small) in
    grind (arith, nat_tests, order, below)

all_pass : {A : Type 0} (p : A → Bool) (xs : List A) → AllWithin (λ x. p x ≡ true) xs 0 (length xs) → filter p xs ≡ xs
all_pass p [] all = refl
all_pass p (x ∷ xs) all =
    let here : p x ≡ true = all 0 x (omega arith) (omega arith) in
    rw here (ap (λ rest. x ∷ rest) (all_pass p xs (λ j d le lt. all (suc j) d (omega arith) (omega arith))))

cut : {A : Type 0} (p : A → Bool) (xs : List A) (i : ℕ) → AllWithin (λ x. p x ≡ false) xs 0 i → AllWithin (λ x. p x ≡ true) xs i (length xs) → i ≤ length xs → drop i xs ≡ filter p xs
cut p xs zero none all le = sym (all_pass p xs all)
cut p [] (suc i) none all le = refl
cut p (x ∷ xs) (suc i) none all le =
    let here : p x ≡ false = none 0 x (omega arith) (omega arith) in
    rw here (cut p xs i (λ j d low lt. none (suc j) d (omega arith) (omega arith)) (λ j d low lt. all (suc j) d (omega arith) (omega arith)) (omega arith))

not_below : (k from : ℕ) → nat_lt k from ≡ true → nat_le from k ≡ false
not_below k from below = grind (arith, nat_tests, below)

not_above : (k from : ℕ) → nat_lt k from ≡ false → nat_le from k ≡ true
not_above k from above = grind (arith, nat_tests, above)

-- what is left from the partition point on
pub from_point : {A : Type 0} (number : A → ℕ) (xs : List A) (from i : ℕ) → IsPartitionPoint (λ x. nat_lt (number x) from ≡ true) (λ x. nat_lt (number x) from ≡ false) xs i → i ≤ length xs → drop i xs ≡ filter (λ x. nat_le from (number x)) xs
from_point number xs from i point le =
    cut (λ x. nat_le from (number x)) xs i (λ j d low lt. not_below (number (get_or xs j d)) from (point.0 j d low lt)) (λ j d low lt. not_above (number (get_or xs j d)) from (point.1 j d low lt)) le

-- the tallies that are gone through

-- a member's tallies from a number on
pub record AreShown (t : Tables) (member from : ℕ) (tallies : List Tally) : Type 0 where
  pub report : AllByRecursion (λ tally. tally.best ≡ best_of t member tally.item) tallies
  pub high : AllByRecursion (λ tally. nat_le from tally.item ≡ true) tallies
  pub rising : IsRisingFrom 0 (numbers_in tallies)
  pub complete : (item : ℕ) → 0 < (best_of t member item).mine → nat_le from item ≡ true → is_among (numbers_in tallies) item ≡ true

rising_low : (low least : ℕ) (ks : List ℕ) → low ≤ least → IsRisingFrom least ks → IsRisingFrom low ks
rising_low low least [] le rising = tt
rising_low low least (k ∷ ks) le rising = (let first : least ≤ k = rising.0 in omega arith, rising.1)

rising_filtered : (from least : ℕ) (tallies : List Tally) → AreRisingFrom least (numbers_in tallies) → IsRisingFrom least (numbers_in (filter (λ tally. nat_le from tally.item) tallies))
rising_filtered from least [] rising = tt
rising_filtered from least (tally ∷ tallies) rising =
    elim (by_test (nat_le from tally.item)) [
      | inl is ↦ rw is (rising.0, rising_filtered from (tally.item + 1) tallies rising.1)
      | inr not ↦ rw not (rising_low least (tally.item + 1) (numbers_in (filter (λ tally. nat_le from tally.item) tallies)) (let first : least ≤ tally.item = rising.0 in omega arith) (rising_filtered from (tally.item + 1) tallies rising.1))
    ]

high_filtered : (from : ℕ) (tallies : List Tally) → AllByRecursion (λ tally. nat_le from tally.item ≡ true) (filter (λ tally. nat_le from tally.item) tallies)
high_filtered from [] = tt
high_filtered from (tally ∷ tallies) = elim (by_test (nat_le from tally.item)) [ inl is ↦ rw is (is, high_filtered from tallies) | inr not ↦ rw not (high_filtered from tallies) ]

among_filtered : (from n : ℕ) (tallies : List Tally) → nat_le from n ≡ true → is_among (numbers_in tallies) n ≡ true → is_among (numbers_in (filter (λ tally. nat_le from tally.item) tallies)) n ≡ true
among_filtered from n [] high among = among
among_filtered from n (tally ∷ tallies) high among =
    elim (by_test (tally.item == n)) [
      | inl here ↦ (let same : tally.item ≡ n = same_number tally.item n here in rw (ap (nat_le from) same ∙ high) (rw here refl))
      | inr other ↦ (let rest = among_filtered from n tallies high (rw other at among) in
          elim (by_test (nat_le from tally.item)) [ inl is ↦ rw is (rw other rest) | inr not ↦ rw not rest ])
    ]

pub shown_from : (t : Tables) (member from : ℕ) (tallies shown : List Tally) → AreTallies t member tallies → (AreRisingFrom 0 (numbers_in tallies) → shown ≡ filter (λ tally. nat_le from tally.item) tallies) → AreShown t member from shown
shown_from t member from tallies shown are is = rw (is are.rising) record {
  report = every_filtered (λ tally. tally.best ≡ best_of t member tally.item) (λ tally. nat_le from tally.item) tallies are.report;
  high = high_filtered from tallies;
  rising = rising_filtered from 0 tallies are.rising;
  complete = λ item bid high. among_filtered from item tallies high (are.complete item bid);
}

-- what is reported of a row, and whether it is listed

abbrev pub report_by : Tables → ℕ → ItemRow → OwnBid
report_by t member = λ (row : ItemRow). own_bid t member row.item

abbrev pub is_listed : ℕ → OwnBid → Bool
is_listed from = λ (b : OwnBid). nat_lt 0 b.mine && nat_le from b.item

abbrev pub listed_at : Tables → ℕ → ℕ → List ℕ → List OwnBid
listed_at t member from ks = passed_at (report_by t member) (is_listed from) number_of t.items ks

some_is : {A : Type 0} (x y : A) → Some x ≡ Some y → x ≡ y
some_is x y e = cc

nothing : {A : Type 0} (x : A) → Some x ≡ None → ⊥
nothing x e = cc

listed_is : (t : Tables) (member from k : ℕ) (best : OwnBest) (row : ItemRow) (test : Bool) → number_of row ≡ k → best ≡ best_of t member k → nat_le from k ≡ true → nat_lt 0 best.mine ≡ test → is_listed from (report_by t member row) ≡ test
listed_is t member from k best row test same is high mine =
    let report : (best_of t member (number_of row)).mine ≡ best.mine = ap (λ n. (best_of t member n).mine) same ∙ sym (ap (λ (b : OwnBest). b.mine) is) in
    rw (report, same, high) (and_true (nat_lt 0 best.mine) ∙ mine) where
      and_true : (b : Bool) → b && true ≡ b
      and_true true = refl
      and_true false = refl

row_number : (k : ℕ) (rows : List ItemRow) (row : ItemRow) → find (λ row. number_of row == k) rows ≡ Some row → number_of row ≡ k
row_number k rows row found = same_number (number_of row) k (found_is (λ row. number_of row == k) rows row found)

-- what a tally says of the row that it names
pub bid_reported : (t : Tables) (member k : ℕ) (best : OwnBest) (terms : Terms) (bid : OwnBid) (o : Option ItemRow) → find (λ row. number_of row == k) t.items ≡ o → Some terms ≡ option_map (λ (row : ItemRow). row.item.terms) o
    → best ≡ best_of t member k → bid ≡ record { item = terms.item; leading = is_leader terms.leader member; maximum = best.maximum; mine = best.mine; price = terms.price; state = terms.state }
    → Some bid ≡ option_map (report_by t member) o
bid_reported t member k best terms bid None found some is made = absurd (nothing terms some)
bid_reported t member k best terms bid (Some row) found some is made =
    let same : terms ≡ row.item.terms = some_is terms row.item.terms some in
    let number : number_of row ≡ k = row_number k t.items row found in
    let best_is : best ≡ best_of t member (number_of row) = is ∙ ap (best_of t member) (sym number) in
    ap Some (made
    ∙ ap (λ (x : Terms). record { item = x.item; leading = is_leader x.leader member; maximum = best.maximum; mine = best.mine; price = x.price; state = x.state }) same
    ∙ ap (λ (b : OwnBest). record { item = row.item.terms.item; leading = is_leader row.item.terms.leader member; maximum = b.maximum; mine = b.mine; price = row.item.terms.price; state = row.item.terms.state }) best_is)

pub bid_none : (t : Tables) (member : ℕ) (o : Option ItemRow) → None ≡ option_map (λ (row : ItemRow). row.item.terms) o → None ≡ option_map (report_by t member) o
bid_none t member None none = refl
bid_none t member (Some row) none = absurd (nothing row.item.terms (sym none))

-- from tally to tally

pub tally_reported : (t : Tables) (member from : ℕ) (tallies : List Tally) (i : ℕ) (tally : Tally) → AreShown t member from tallies → i < length tallies → tally ≡ get_or tallies i tally → tally.best ≡ best_of t member tally.item
tally_reported t member from tallies i tally shown lt at' = subst (λ (x : Tally). x.best ≡ best_of t member x.item) (sym at') (every_at (λ (x : Tally). x.best ≡ best_of t member x.item) tallies i tally shown.report lt)

tally_high : (t : Tables) (member from : ℕ) (tallies : List Tally) (i : ℕ) (tally : Tally) → AreShown t member from tallies → i < length tallies → tally ≡ get_or tallies i tally → nat_le from tally.item ≡ true
tally_high t member from tallies i tally shown lt at' = subst (λ (x : Tally). nat_le from x.item ≡ true) (sym at') (every_at (λ (x : Tally). nat_le from x.item ≡ true) tallies i tally shown.high lt)

number_at : (tallies : List Tally) (i : ℕ) (tally : Tally) → i < length tallies → tally ≡ get_or tallies i tally → tally.item ≡ get_or (numbers_in tallies) i 0
number_at tallies i tally lt at' =
    ap (λ (x : Tally). x.item) at' ∙ sym (get_or-map (λ (x : Tally). x.item) tallies i tally tally.item lt) ∙ get_or_default (numbers_in tallies) i tally.item 0 (made_long (λ (x : Tally). x.item) tallies i lt)

-- what a tally says: nothing, where it has no bid
abbrev pub by_tally : Tables → ℕ → Tally → Option OwnBid
by_tally t member tally = if nat_lt 0 tally.best.mine then option_map (report_by t member) (find (λ row. number_of row == tally.item) t.items) else None

listed_row : (t : Tables) (member from k : ℕ) (best : OwnBest) (bid : OwnBid) (o : Option ItemRow) → find (λ row. number_of row == k) t.items ≡ o → Some bid ≡ option_map (report_by t member) o → best ≡ best_of t member k
    → nat_le from k ≡ true → nat_lt 0 best.mine ≡ true → is_listed from bid ≡ true
listed_row t member from k best bid None found some is high mine = absurd (nothing bid some)
listed_row t member from k best bid (Some row) found some is high mine =
    ap (is_listed from) (some_is bid (report_by t member row) some) ∙ listed_is t member from k best row true (row_number k t.items row found) is high mine

pub bid_more : (t : Tables) (member from : ℕ) (tallies : List Tally) (i : ℕ) (tally : Tally) (bid : OwnBid) (found : List OwnBid) → AreShown t member from tallies → i < length tallies → tally ≡ get_or tallies i tally
    → found ≡ take most_shown (listed_at t member from (take i (numbers_in tallies))) → Some bid ≡ by_tally t member tally → length found < most_shown
    → found ++ bid ∷ [] ≡ take most_shown (listed_at t member from (take (i + 1) (numbers_in tallies)))
bid_more t member from tallies i tally bid found shown lt at' is some room =
    elim (by_test (nat_lt 0 tally.best.mine)) [
      | inl mine ↦ (let there : Some bid ≡ option_map (report_by t member) (find (λ row. number_of row == tally.item) t.items) = rw mine at some in
          let passes : is_listed from bid ≡ true = listed_row t member from tally.item tally.best bid (find (λ row. number_of row == tally.item) t.items) refl there (tally_reported t member from tallies i tally shown lt at') (tally_high t member from tallies i tally shown lt at') mine in
          page_more most_shown (listed_at t member from (take i (numbers_in tallies))) (listed_at t member from (take (i + 1) (numbers_in tallies))) found bid is
          (passed_more (report_by t member) (is_listed from) number_of t.items (numbers_in tallies) i tally.item bid (made_long (λ (x : Tally). x.item) tallies i lt) (number_at tallies i tally lt at') there passes) room)
      | inr none ↦ absurd (nothing bid (rw none at some))
    ]

unlisted : (t : Tables) (member from k i : ℕ) (best : OwnBest) (ks : List ℕ) (o : Option ItemRow) → find (λ row. number_of row == k) t.items ≡ o → i < length ks → k ≡ get_or ks i 0 → best ≡ best_of t member k
    → nat_le from k ≡ true → nat_lt 0 best.mine ≡ false → listed_at t member from (take (i + 1) ks) ≡ listed_at t member from (take i ks)
unlisted t member from k i best ks None found lt at' is high none =
    passed_none (report_by t member) (is_listed from) number_of t.items ks i k lt at' (sym (ap (option_map (report_by t member)) found))
unlisted t member from k i best ks (Some row) found lt at' is high none =
    passed_less (report_by t member) (is_listed from) number_of t.items ks i k (report_by t member row) lt at' (sym (ap (option_map (report_by t member)) found))
    (listed_is t member from k best row false (row_number k t.items row found) is high none)

pub bid_less : (t : Tables) (member from : ℕ) (tallies : List Tally) (i : ℕ) (tally : Tally) (found : List OwnBid) → AreShown t member from tallies → i < length tallies → tally ≡ get_or tallies i tally
    → found ≡ take most_shown (listed_at t member from (take i (numbers_in tallies))) → None ≡ by_tally t member tally
    → found ≡ take most_shown (listed_at t member from (take (i + 1) (numbers_in tallies)))
bid_less t member from tallies i tally found shown lt at' is none =
    let lt' = made_long (λ (x : Tally). x.item) tallies i lt in
    is ∙ ap (take most_shown) (sym (elim (by_test (nat_lt 0 tally.best.mine)) [
      | inl mine ↦ passed_none (report_by t member) (is_listed from) number_of t.items (numbers_in tallies) i tally.item lt' (number_at tallies i tally lt at') (rw mine at none)
      | inr less ↦ unlisted t member from tally.item i tally.best (numbers_in tallies) (find (λ row. number_of row == tally.item) t.items) refl lt' (number_at tallies i tally lt at')
          (tally_reported t member from tallies i tally shown lt at') (tally_high t member from tallies i tally shown lt at') less
    ]))

-- every item on which the member has bid is among the numbers
both_of : (n from k : ℕ) → nat_lt 0 n && nat_le from k ≡ true → (0 < n) × (nat_le from k ≡ true)
both_of n from k passes = (grind (arith, nat_tests, passes), grind (arith, nat_tests, passes))

have_all : (t : Tables) (member from : ℕ) (tallies : List Tally) (rows : List ItemRow) → AreShown t member from tallies → HasAll number_of (λ row. is_listed from (report_by t member row)) (numbers_in tallies) rows
have_all t member from tallies [] shown = tt
have_all t member from tallies (row ∷ rows) shown = (
  λ passes. let both = both_of (best_of t member (number_of row)).mine from (number_of row) passes in shown.complete (number_of row) both.0 both.1,
  have_all t member from tallies rows shown,
)

pub bids_all : (t : Tables) (member from : ℕ) (tallies : List Tally) → AreShown t member from tallies → AreInTurn number_of 1 t.items → take most_shown (listed_at t member from (numbers_in tallies)) ≡ own_bids t member from
bids_all t member from tallies shown in_turn =
    ap (take most_shown) (passed_all (report_by t member) (is_listed from) number_of t.items (numbers_in tallies) in_turn shown.rising (have_all t member from tallies t.items shown))
    ∙ ap (λ (bids : List OwnBid). take most_shown (filter (is_listed from) bids)) (map_twice (own_bid t member) (λ (row : ItemRow). row.item) t.items)
