-- Lists that grow from number to number, and pages of rising numbers.
use Rattle.std.proofs.Common.{◌≡◌, ℕ, suc, zero, ◌+◌, ◌≤◌, ◌<◌, List, [], ◌∷◌, ◌++◌, length, take, drop, map, filter, get_or, Bool, true, false, refl, ◌∙◌, ap, sym, arith, inl, inr, Option, Some, None}
use Rattle.std.specs.Prelude.{◌==◌, ◌&&◌, find, option_map, nat_le, nat_lt, unwrap_or}
use Rattle.std.specs.List.{AllByRecursion, AllWithin, filter_map}
use Rattle.std.specs.List.Sorted.{IsPartitionedBy, IsPartitionPoint}
use Rattle.std.proofs.lemmas.Bool.Decides.{nat_tests}
use Rattle.std.proofs.lemmas.List.{append-nil, length-take, map-append, take-append-drop, take-append-le, take_more}
use Rattle.std.proofs.lemmas.List.Elements.{filter-append, filter_map-append}
use Rattle.settle.specs.Statement.{is_party}
use Rattle.settle.specs.declared.sale.Sold.{Sold}
use Rattle.house_rows.specs.Found.{sales_in, sales_to}
use Rattle.house_rows.specs.Keeping.{AreInTurn}
use Rattle.house_rows.specs.Tables.{ItemRow, Tables}
use Rattle.house_rows.specs.Verdict.{was_sold}
use Rattle.house_rows.proofs.Put.{by_test}
use Rattle.list_rows.proofs.Growing.{front_more}
use Rattle.list_items.specs.Indexed.{number_of}
use Rattle.list_items.specs.Rising.{HasAll, IsRisingFrom, is_among, rows_at}
use Rattle.list_items.specs.Sales.{is_sold_with, sale_if_sold, sale_of_row, sale_with}
use Rattle.list_items.proofs.Joined.{both_ways, joined, rising_as, same_number}

pub rows_more : {A : Type 0} (number : A → ℕ) (ks : List ℕ) (i k : ℕ) (rows : List A) (x : A) → i < length ks → k ≡ get_or ks i 0 → find (λ row. number row == k) rows ≡ Some x
    → rows_at number (take (i + 1) ks) rows ≡ rows_at number (take i ks) rows ++ x ∷ []
rows_more number ks i k rows x lt at' found =
    ap (λ js. rows_at number js rows) (take_more ks i 0 lt ∙ ap (λ j. take i ks ++ j ∷ []) (sym at')) ∙ filter_map-append (λ j. find (λ row. number row == j) rows) (take i ks) (k ∷ []) ∙ rw found refl

pub rows_less : {A : Type 0} (number : A → ℕ) (ks : List ℕ) (i k : ℕ) (rows : List A) → i < length ks → k ≡ get_or ks i 0 → find (λ row. number row == k) rows ≡ None
    → rows_at number (take (i + 1) ks) rows ≡ rows_at number (take i ks) rows
rows_less number ks i k rows lt at' none =
    ap (λ js. rows_at number js rows) (take_more ks i 0 lt ∙ ap (λ j. take i ks ++ j ∷ []) (sym at')) ∙ filter_map-append (λ j. find (λ row. number row == j) rows) (take i ks) (k ∷ []) ∙ rw none (append-nil (rows_at number (take i ks) rows))

-- what is reported of the rows of some numbers, where it passes
abbrev pub passed_at : {A B : Type 0} → (A → B) → (B → Bool) → (A → ℕ) → List A → List ℕ → List B
passed_at report test number rows ks = filter test (map report (rows_at number ks rows))

report_of : {A B : Type 0} (report : A → B) (o : Option A) (y : B) → Some y ≡ option_map report o → (x : A) × (o ≡ Some x) × (report x ≡ y)
report_of report None y some = absurd (nothing y some) where
  nothing : {B : Type 0} (y : B) → Some y ≡ None → ⊥
  nothing y e = cc
report_of report (Some x) y some = (x, refl, one (report x) y some) where
  one : {B : Type 0} (x y : B) → Some y ≡ Some x → x ≡ y
  one x y e = cc

not_reported : {A B : Type 0} (report : A → B) (o : Option A) → None ≡ option_map report o → o ≡ None
not_reported report None none = refl
not_reported report (Some x) none = absurd (nothing (report x) none) where
  nothing : {B : Type 0} (y : B) → None ≡ Some y → ⊥
  nothing y e = cc

-- a number's row passes, doesn't pass, or isn't there
pub passed_more : {A B : Type 0} (report : A → B) (test : B → Bool) (number : A → ℕ) (rows : List A) (ks : List ℕ) (i k : ℕ) (y : B) → i < length ks → k ≡ get_or ks i 0 → Some y ≡ option_map report (find (λ row. number row == k) rows) → test y ≡ true
    → passed_at report test number rows (take (i + 1) ks) ≡ passed_at report test number rows (take i ks) ++ y ∷ []
passed_more report test number rows ks i k y lt at' some passes =
    let there = report_of report (find (λ row. number row == k) rows) y some in
    ap (λ js. filter test (map report js)) (rows_more number ks i k rows there.0 lt at' there.1) ∙ ap (filter test) (map-append report (rows_at number (take i ks) rows) (there.0 ∷ []))
    ∙ filter-append test (map report (rows_at number (take i ks) rows)) (report there.0 ∷ []) ∙ rw (there.2, passes) refl

pub passed_less : {A B : Type 0} (report : A → B) (test : B → Bool) (number : A → ℕ) (rows : List A) (ks : List ℕ) (i k : ℕ) (y : B) → i < length ks → k ≡ get_or ks i 0 → Some y ≡ option_map report (find (λ row. number row == k) rows) → test y ≡ false
    → passed_at report test number rows (take (i + 1) ks) ≡ passed_at report test number rows (take i ks)
passed_less report test number rows ks i k y lt at' some fails =
    let there = report_of report (find (λ row. number row == k) rows) y some in
    ap (λ js. filter test (map report js)) (rows_more number ks i k rows there.0 lt at' there.1) ∙ ap (filter test) (map-append report (rows_at number (take i ks) rows) (there.0 ∷ []))
    ∙ filter-append test (map report (rows_at number (take i ks) rows)) (report there.0 ∷ []) ∙ rw (there.2, fails) (append-nil (passed_at report test number rows (take i ks)))

pub passed_none : {A B : Type 0} (report : A → B) (test : B → Bool) (number : A → ℕ) (rows : List A) (ks : List ℕ) (i k : ℕ) → i < length ks → k ≡ get_or ks i 0 → None ≡ option_map report (find (λ row. number row == k) rows)
    → passed_at report test number rows (take (i + 1) ks) ≡ passed_at report test number rows (take i ks)
passed_none report test number rows ks i k lt at' none =
    ap (λ js. filter test (map report js)) (rows_less number ks i k rows lt at' (not_reported report (find (λ row. number row == k) rows) none))

-- a page with room takes one more
pub page_more : {B : Type 0} (most : ℕ) (front next found : List B) (y : B) → found ≡ take most front → next ≡ front ++ y ∷ [] → length found < most → found ++ y ∷ [] ≡ take most next
page_more most front next found y is more room =
    ap (λ ys. ys ++ y ∷ []) is ∙ sym (front_more most front y (rw is at room)) ∙ ap (take most) (sym more)

filter_reported : {A B : Type 0} (report : A → B) (test : B → Bool) (xs : List A) → filter test (map report xs) ≡ map report (filter (λ x. test (report x)) xs)
filter_reported report test [] = refl
filter_reported report test (x ∷ xs) = elim (by_test (test (report x))) [ inl is ↦ rw is (ap (λ rest. report x ∷ rest) (filter_reported report test xs)) | inr not ↦ rw not (filter_reported report test xs) ]

-- at the end the page has what a search of all rows would have
pub passed_all : {A B : Type 0} (report : A → B) (test : B → Bool) (number : A → ℕ) (rows : List A) (ks : List ℕ) → AreInTurn number 1 rows → IsRisingFrom 0 ks → HasAll number (λ row. test (report row)) ks rows
    → passed_at report test number rows ks ≡ filter test (map report rows)
passed_all report test number rows ks are rising has =
    filter_reported report test (rows_at number ks rows) ∙ ap (map report) (sym (joined number (λ row. test (report row)) rows ks are rising has)) ∙ sym (filter_reported report test rows)

-- a full page is the front of what all the numbers give
pub page_full : {A B : Type 0} (report : A → B) (test : B → Bool) (number : A → ℕ) (rows : List A) (ks : List ℕ) (i most : ℕ) (found : List B) → found ≡ take most (passed_at report test number rows (take i ks)) → most ≤ length found
    → found ≡ take most (passed_at report test number rows ks)
page_full report test number rows ks i most found is full =
    let front = passed_at report test number rows (take i ks) in
    let long : most ≤ length front = (let l = length-take most front in let f : length found ≡ length (take most front) = ap length is in omega arith) in
    let split : passed_at report test number rows ks ≡ front ++ passed_at report test number rows (drop i ks) =
    ap (passed_at report test number rows) (sym (take-append-drop i ks))
    ∙ ap (λ js. filter test (map report js)) (filter_map-append (λ j. find (λ row. number row == j) rows) (take i ks) (drop i ks))
    ∙ ap (filter test) (map-append report (rows_at number (take i ks) rows) (rows_at number (drop i ks) rows))
    ∙ filter-append test (map report (rows_at number (take i ks) rows)) (map report (rows_at number (drop i ks) rows)) in
    is ∙ sym (take-append-le most front (passed_at report test number rows (drop i ks)) long) ∙ ap (take most) (sym split)

-- sales, from number to number
abbrev pub sold_at : ℕ → List ItemRow → List ℕ → List Sold
sold_at member rows ks = filter_map (λ (row : ItemRow). sale_with member (sale_if_sold row.item.terms)) (rows_at number_of ks rows)

sale_there : (member : ℕ) (o : Option ItemRow) (sale : Sold) → Some sale ≡ sale_of_row member o → (row : ItemRow) × (o ≡ Some row) × (sale_with member (sale_if_sold row.item.terms) ≡ Some sale)
sale_there member None sale some = absurd (nothing sale some) where
  nothing : {B : Type 0} (y : B) → Some y ≡ None → ⊥
  nothing y e = cc
sale_there member (Some row) sale some = (row, refl, sym some)

pub sold_more : (member : ℕ) (rows : List ItemRow) (ks : List ℕ) (i k : ℕ) (sale : Sold) → i < length ks → k ≡ get_or ks i 0 → Some sale ≡ sale_of_row member (find (λ row. number_of row == k) rows)
    → sold_at member rows (take (i + 1) ks) ≡ sold_at member rows (take i ks) ++ sale ∷ []
sold_more member rows ks i k sale lt at' some =
    let there = sale_there member (find (λ row. number_of row == k) rows) sale some in
    ap (filter_map (λ (row : ItemRow). sale_with member (sale_if_sold row.item.terms))) (rows_more number_of ks i k rows there.0 lt at' there.1)
    ∙ filter_map-append (λ (row : ItemRow). sale_with member (sale_if_sold row.item.terms)) (rows_at number_of (take i ks) rows) (there.0 ∷ []) ∙ rw there.2 refl

pub sold_none : (member : ℕ) (rows : List ItemRow) (ks : List ℕ) (i k : ℕ) → i < length ks → k ≡ get_or ks i 0 → None ≡ sale_of_row member (find (λ row. number_of row == k) rows)
    → sold_at member rows (take (i + 1) ks) ≡ sold_at member rows (take i ks)
sold_none member rows ks i k lt at' none = by_row (find (λ row. number_of row == k) rows) refl none where
  by_row : (o : Option ItemRow) → find (λ row. number_of row == k) rows ≡ o → None ≡ sale_of_row member o → sold_at member rows (take (i + 1) ks) ≡ sold_at member rows (take i ks)
  by_row None is none = ap (filter_map (λ (row : ItemRow). sale_with member (sale_if_sold row.item.terms))) (rows_less number_of ks i k rows lt at' is)
  by_row (Some row) is none =
      ap (filter_map (λ (r : ItemRow). sale_with member (sale_if_sold r.item.terms))) (rows_more number_of ks i k rows row lt at' is)
      ∙ filter_map-append (λ (r : ItemRow). sale_with member (sale_if_sold r.item.terms)) (rows_at number_of (take i ks) rows) (row ∷ []) ∙ rw (← none) (append-nil (sold_at member rows (take i ks)))

-- only what is sold with the member gives a sale
sold_kept : (member : ℕ) (rows : List ItemRow) → filter_map (λ (row : ItemRow). sale_with member (sale_if_sold row.item.terms)) rows ≡ filter_map (λ (row : ItemRow). sale_with member (sale_if_sold row.item.terms)) (filter (is_sold_with member) rows)
sold_kept member [] = refl
sold_kept member (row ∷ rows) =
    let sale : Sold = record { item = row.item.terms.item; seller = row.item.terms.seller; buyer = unwrap_or row.item.terms.leader 0; closed = unwrap_or row.item.terms.closed 0; price = row.item.terms.price } in
    elim (by_test (was_sold row.item.terms.state)) [
      | inl sold ↦ elim (by_test (is_party member sale)) [
        | inl party ↦ rw (sold, party) (rw (sold, party) (ap (λ rest. sale ∷ rest) (sold_kept member rows)))
        | inr other ↦ rw (sold, other) (sold_kept member rows)
      ]
      | inr unsold ↦ rw unsold (sold_kept member rows)
    ]

-- they are those that pages give
sold_reported : (member : ℕ) (rows : List ItemRow) → filter_map (λ (row : ItemRow). sale_with member (sale_if_sold row.item.terms)) rows ≡ filter (is_party member) (sales_in (map (λ (row : ItemRow). row.item) rows))
sold_reported member [] = refl
sold_reported member (row ∷ rows) =
    let sale : Sold = record { item = row.item.terms.item; seller = row.item.terms.seller; buyer = unwrap_or row.item.terms.leader 0; closed = unwrap_or row.item.terms.closed 0; price = row.item.terms.price } in
    elim (by_test (was_sold row.item.terms.state)) [
      | inl sold ↦ elim (by_test (is_party member sale)) [
        | inl party ↦ rw (sold, party) (ap (λ rest. sale ∷ rest) (sold_reported member rows))
        | inr other ↦ rw (sold, other) (sold_reported member rows)
      ]
      | inr unsold ↦ rw unsold (sold_reported member rows)
    ]

pub sold_all : (member : ℕ) (t : Tables) (rows : List ItemRow) (ks : List ℕ) → t.items ≡ rows → AreInTurn number_of 1 rows → IsRisingFrom 0 ks → HasAll number_of (is_sold_with member) ks rows → sold_at member rows ks ≡ sales_to t member
sold_all member t rows ks same are rising has =
    sold_kept member (rows_at number_of ks rows)
    ∙ ap (filter_map (λ (row : ItemRow). sale_with member (sale_if_sold row.item.terms))) (sym (joined number_of (is_sold_with member) rows ks are rising has))
    ∙ sym (sold_kept member rows) ∙ sold_reported member rows ∙ ap (λ rs. filter (is_party member) (sales_in (map (λ (row : ItemRow). row.item) rs))) (sym same)

-- rising numbers are at least the least
rising_least : (least : ℕ) (ks : List ℕ) (j d : ℕ) → IsRisingFrom least ks → j < length ks → least ≤ get_or ks j d
rising_least least [] j d rising lt = absurd (omega arith)
rising_least least (k ∷ ks) zero d rising lt = rising.0
rising_least least (k ∷ ks) (suc j) d rising lt =
    let first : least ≤ k = rising.0 in
    let rest : k + 1 ≤ get_or ks j d = rising_least (k + 1) ks j d rising.1 (omega arith) in omega arith

rising_ordered : (least : ℕ) (ks : List ℕ) (i j d : ℕ) → IsRisingFrom least ks → i ≤ j → j < length ks → get_or ks i d ≤ get_or ks j d
rising_ordered least [] i j d rising le lt = absurd (omega arith)
rising_ordered least (k ∷ ks) zero zero d rising le lt = omega arith
rising_ordered least (k ∷ ks) zero (suc j) d rising le lt = let rest : k + 1 ≤ get_or ks j d = rising_least (k + 1) ks j d rising.1 (omega arith) in omega arith
rising_ordered least (k ∷ ks) (suc i) zero d rising le lt = absurd (omega arith)
rising_ordered least (k ∷ ks) (suc i) (suc j) d rising le lt = rising_ordered (k + 1) ks i j d rising.1 (omega arith) (omega arith)

pub rising_parted : (ks : List ℕ) (from : ℕ) → IsRisingFrom 0 ks → IsPartitionedBy (λ k. nat_lt k from) ks
rising_parted ks from rising i j d le lt small =
    let order : get_or ks i d ≤ get_or ks j d = rising_ordered 0 ks i j d rising le lt in
    let below : get_or ks j d < from = grind (arith, nat_tests, small) in
    grind (arith, nat_tests, order, below)

all_pass : (p : ℕ → Bool) (ks : List ℕ) → AllWithin (λ k. p k ≡ true) ks 0 (length ks) → filter p ks ≡ ks
all_pass p [] all = refl
all_pass p (k ∷ ks) all =
    let here : p k ≡ true = all 0 k (omega arith) (omega arith) in
    rw here (ap (λ rest. k ∷ rest) (all_pass p ks (λ j d le lt. all (suc j) d (omega arith) (omega arith))))

cut : (p : ℕ → Bool) (ks : List ℕ) (i : ℕ) → AllWithin (λ k. p k ≡ false) ks 0 i → AllWithin (λ k. p k ≡ true) ks i (length ks) → i ≤ length ks → drop i ks ≡ filter p ks
cut p ks zero none all le = sym (all_pass p ks all)
cut p [] (suc i) none all le = refl
cut p (k ∷ ks) (suc i) none all le =
    let here : p k ≡ false = none 0 k (omega arith) (omega arith) in
    rw here (cut p ks i (λ j d low lt. none (suc j) d (omega arith) (omega arith)) (λ j d low lt. all (suc j) d (omega arith) (omega arith)) (omega arith))

not_below : (k from : ℕ) → nat_lt k from ≡ true → nat_le from k ≡ false
not_below k from below = grind (arith, nat_tests, below)

not_above : (k from : ℕ) → nat_lt k from ≡ false → nat_le from k ≡ true
not_above k from above = grind (arith, nat_tests, above)

-- what is left from the partition point on
pub from_point : (ks : List ℕ) (from i : ℕ) → IsPartitionPoint (λ k. nat_lt k from ≡ true) (λ k. nat_lt k from ≡ false) ks i → i ≤ length ks → drop i ks ≡ filter (nat_le from) ks
from_point ks from i point le =
    cut (nat_le from) ks i (λ j d low lt. not_below (get_or ks j d) from (point.0 j d low lt)) (λ j d low lt. not_above (get_or ks j d) from (point.1 j d low lt)) le

pub rising_filter : (p : ℕ → Bool) (least : ℕ) (ks : List ℕ) → IsRisingFrom least ks → IsRisingFrom least (filter p ks)
rising_filter p least [] rising = tt
rising_filter p least (k ∷ ks) rising =
    elim (by_test (p k)) [
      | inl is ↦ rw is (rising.0, rising_filter p (k + 1) ks rising.1)
      | inr not ↦ rw not (rising_as least (k + 1) (filter p ks) (let le : least ≤ k = rising.0 in omega arith) (rising_filter p (k + 1) ks rising.1))
    ]

pub among_filter : (p : ℕ → Bool) (ks : List ℕ) (n : ℕ) → is_among ks n ≡ true → p n ≡ true → is_among (filter p ks) n ≡ true
among_filter p [] n among passes = among
among_filter p (k ∷ ks) n among passes =
    elim (by_test (k == n)) [
      | inl here ↦ (let same : k ≡ n = same_number k n here in rw (ap p same ∙ passes) (rw here refl))
      | inr other ↦ (let rest : is_among (filter p ks) n ≡ true = among_filter p ks n (rw other at among) passes in
          elim (by_test (p k)) [ inl is ↦ rw is (rw other rest) | inr not ↦ rw not rest ])
    ]

first_of : (a b : Bool) → (a && b) ≡ true → a ≡ true
first_of true b is = refl
first_of false b is = is

second_of : (a b : Bool) → (a && b) ≡ true → b ≡ true
second_of true b is = is
second_of false b is = absurd (both_ways false is refl)

-- the numbers of a group have every item of the group
pub group_has : (shared : ItemRow → ℕ) (rows : List ItemRow) (numbers : ℕ → List ℕ) (k : ℕ) → AllByRecursion (λ row. is_among (numbers (shared row)) (number_of row) ≡ true) rows
    → HasAll number_of (λ row. shared row == k) (numbers k) rows
group_has shared [] numbers k has = tt
group_has shared (row ∷ rows) numbers k has =
    (λ is. (let same : shared row ≡ k = same_number (shared row) k is in rw same at has.0), group_has shared rows numbers k has.1)

-- the numbers of a category, from one on, have every item that its page may show
pub page_has : (rows : List ItemRow) (in_category : ℕ → List ℕ) (category from : ℕ) → AllByRecursion (λ row. is_among (in_category row.item.terms.category) (number_of row) ≡ true) rows
    → HasAll number_of (λ row. (row.item.terms.category == category) && nat_le from row.item.terms.item) (filter (nat_le from) (in_category category)) rows
page_has [] in_category category from has = tt
page_has (row ∷ rows) in_category category from has = (
  λ passes.
      let is_in : row.item.terms.category ≡ category = same_number row.item.terms.category category (first_of (row.item.terms.category == category) (nat_le from row.item.terms.item) passes) in
      let is_from : nat_le from row.item.terms.item ≡ true = second_of (row.item.terms.category == category) (nat_le from row.item.terms.item) passes in
      among_filter (nat_le from) (in_category category) (number_of row) (rw is_in at has.0) is_from,
  page_has rows in_category category from has.1,
)
