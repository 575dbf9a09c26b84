-- What is due at a moment, by the ends up to it.
use Rattle.std.proofs.Common.{◌≡◌, ℕ, suc, ◌≤◌, ◌<◌, List, [], ◌∷◌, length, map, Bool, true, false, refl, ◌∙◌, ap, sym, arith, inl, inr, ◌⊎◌, Option, Some, None}
use Rattle.std.specs.Prelude.{◌==◌, ◌&&◌, ◌||◌, find, nat_le, take_while}
use Rattle.std.specs.BTreeSet.{BTreeSet, IsOrdered}
use Rattle.std.specs.List.{AllByRecursion, list_any}
use Rattle.std.specs.List.Sorted.{IsStrictlySortedBy}
use Rattle.std.specs.Option.{option_map_or}
use Rattle.std.specs.Ordering.{is_eq, nat_cmp, ordering_then}
use Rattle.std.specs.declared.cmp.Ordering.{Ordering}
use Rattle.std.specs.declared.cmp.Ordering.TheVariants.{Less}
use Rattle.std.proofs.lemmas.Bool.Decides.{nat_tests}
use Rattle.std.proofs.lemmas.List.Sums.{take_while-cons}
use Rattle.std.proofs.lemmas.Map.Keys.{sorted_head, sorted_tail}
use Rattle.house_rows.specs.Changed.{is_item}
use Rattle.house_rows.specs.Found.{due_at}
use Rattle.house_rows.specs.History.{counted}
use Rattle.house_rows.specs.Items.{is_due, is_open}
use Rattle.house_rows.specs.Keeping.{AreInTurn}
use Rattle.house_rows.specs.Tables.{ItemRow, Tables}
use Rattle.house_rows.proofs.Every.{some_has}
use Rattle.house_rows.proofs.Put.{by_test}
use Rattle.list_items.specs.Closing.{is_due_with}
use Rattle.list_items.specs.Groups.{has_end}
use Rattle.list_items.specs.Indexed.{number_of}
use Rattle.list_items.specs.Rising.{HasAll, IsRising, IsRisingFrom, is_among, rows_at}
use Rattle.list_items.proofs.Among.{or_left, or_right}
use Rattle.list_items.proofs.Joined.{both_ways, is_number, joined}

abbrev by_end : ℕ × ℕ → ℕ × ℕ → Ordering
by_end x y = ordering_then (nat_cmp x.0 y.0) (nat_cmp x.1 y.1)

abbrev ended : ℕ → List (ℕ × ℕ) → List ℕ
ended moment keys = map (λ (k : ℕ × ℕ). k.1) (take_while (λ k. nat_le k.0 moment) keys)

or_cases : (a b : Bool) → (a || b) ≡ true → (a ≡ true) ⊎ (b ≡ true)
or_cases true b is = inl refl
or_cases false b is = inr is

pair_end : (a b c d : ℕ) → is_eq (ordering_then (nat_cmp a b) (nat_cmp c d)) ≡ true → a ≡ b
pair_end a b c d is = grind (arith, nat_tests, is)

pair_number : (a b c d : ℕ) → is_eq (ordering_then (nat_cmp a b) (nat_cmp c d)) ≡ true → c ≡ d
pair_number a b c d is = grind (arith, nat_tests, is)

pair_before : (a b c d : ℕ) → ordering_then (nat_cmp a b) (nat_cmp c d) ≡ Less → a ≤ b
pair_before a b c d is = grind (arith, nat_tests, is)

-- in order, the ends up to the moment come first
ended_keys : (moment e n : ℕ) (keys : List (ℕ × ℕ)) → IsStrictlySortedBy by_end keys → list_any (λ k. is_eq (by_end (e, n) k)) keys ≡ true → e ≤ moment → is_among (ended moment keys) n ≡ true
ended_keys moment e n [] sorted has le = absurd (both_ways false has refl)
ended_keys moment e n (k ∷ keys) sorted has le =
    elim (by_test (nat_le k.0 moment)) [
      | inl within ↦ rw (take_while-cons (λ (key : ℕ × ℕ). nat_le key.0 moment) k keys, within) (elim (or_cases (is_eq (by_end (e, n) k)) (list_any (λ key. is_eq (by_end (e, n) key)) keys) has) [
        | inl here ↦ or_left (k.1 == n) (is_among (ended moment keys) n) (is_number k.1 n (sym (pair_number e k.0 n k.1 here)))
        | inr later ↦ or_right (k.1 == n) (is_among (ended moment keys) n) (ended_keys moment e n keys (sorted_tail by_end k keys sorted) later le)
      ])
      | inr beyond ↦ absurd (elim (or_cases (is_eq (by_end (e, n) k)) (list_any (λ key. is_eq (by_end (e, n) key)) keys) has) [
        | inl here ↦ (let same : e ≡ k.0 = pair_end e k.0 n k.1 here in let over : moment < k.0 = grind (arith, nat_tests, beyond) in omega arith)
        | inr later ↦ (let other = some_has (λ key. by_end k key ≡ Less) (λ key. is_eq (by_end (e, n) key)) keys (sorted_head by_end k keys sorted) later in
            let before : k.0 ≤ other.0.0 = pair_before k.0 other.0.0 k.1 other.0.1 other.1 in
            let same : e ≡ other.0.0 = pair_end e other.0.0 n other.0.1 other.2 in
            let over : moment < k.0 = grind (arith, nat_tests, beyond) in omega arith)
      ])
    ]

pub ended_all : (moment : ℕ) (ends : BTreeSet (ℕ × ℕ)) (ks : List ℕ) → ks ≡ ended moment ends.keys → IsOrdered by_end ends → (e n : ℕ) → has_end ends e n ≡ true → e ≤ moment → is_among ks n ≡ true
ended_all moment ends ks is ordered e n has le = rw is (ended_keys moment e n ends.keys ordered has le)

-- rows counted by their numbers
counted_one : {A : Type 0} (number : A → ℕ) (p : A → Bool) (rows : List A) (k : ℕ) (ks : List ℕ) (o : Option A) → find (λ row. number row == k) rows ≡ o
    → counted (λ j. option_map_or p (find (λ row. number row == j) rows) false) ks ≡ counted p (rows_at number ks rows)
    → counted (λ j. option_map_or p (find (λ row. number row == j) rows) false) (k ∷ ks) ≡ counted p (rows_at number (k ∷ ks) rows)
counted_one number p rows k ks None is rest = rw is rest
counted_one number p rows k ks (Some x) is rest =
    elim (by_test (p x)) [ inl passes ↦ rw (is, passes) (ap (λ n. suc n) rest) | inr fails ↦ rw (is, fails) rest ]

counted_found : {A : Type 0} (number : A → ℕ) (p : A → Bool) (rows : List A) (ks : List ℕ) → counted (λ k. option_map_or p (find (λ row. number row == k) rows) false) ks ≡ counted p (rows_at number ks rows)
counted_found number p rows [] = refl
counted_found number p rows (k ∷ ks) = counted_one number p rows k ks (find (λ row. number row == k) rows) refl (counted_found number p rows ks)

pub counted_joined : {A : Type 0} (number : A → ℕ) (p : A → Bool) (rows : List A) (ks : List ℕ) → AreInTurn number 1 rows → IsRisingFrom 0 ks → HasAll number p ks rows
    → counted (λ k. option_map_or p (find (λ row. number row == k) rows) false) ks ≡ counted p rows
counted_joined number p rows ks are rising has = counted_found number p rows ks ∙ ap length (sym (joined number p rows ks are rising has))

first_of : (a b : Bool) → (a && b) ≡ true → a ≡ true
first_of true b is = refl
first_of false b is = is

second_of : (a b : Bool) → (a && b) ≡ true → b ≡ true
second_of true b is = is
second_of false b is = absurd (both_ways false is refl)

-- the numbers of the ends up to the moment have every row that is due
pub due_has : (moment : ℕ) (led : Bool) (rows : List ItemRow) (ends_at : ℕ → ℕ → Bool) (ks : List ℕ) → AllByRecursion (λ row. is_open row.item.terms.state ≡ true → ends_at row.item.terms.end (number_of row) ≡ true) rows
    → ((e n : ℕ) → ends_at e n ≡ true → e ≤ moment → is_among ks n ≡ true) → HasAll number_of (is_due_with moment led) ks rows
due_has moment led [] ends_at ks open' all = tt
due_has moment led (row ∷ rows) ends_at ks open' all = (
  λ passes.
      let due : is_due moment row.item.terms ≡ true = first_of (is_due moment row.item.terms) _ passes in
      let opened : is_open row.item.terms.state ≡ true = first_of (is_open row.item.terms.state) (nat_le row.item.terms.end moment) due in
      let ended' : nat_le row.item.terms.end moment ≡ true = second_of (is_open row.item.terms.state) (nat_le row.item.terms.end moment) due in
      all row.item.terms.end (number_of row) (open'.0 opened) (grind (arith, nat_tests, ended')),
  due_has moment led rows ends_at ks open'.1 all,
)

pub due_is : (t : Tables) (rows : List ItemRow) (moment : ℕ) (ks : List ℕ) (ends_at : ℕ → ℕ → Bool) (sold unsold : ℕ) → t.items ≡ rows → AreInTurn number_of 1 rows → IsRising ks
    → AllByRecursion (λ row. is_open row.item.terms.state ≡ true → ends_at row.item.terms.end (number_of row) ≡ true) rows → ((e n : ℕ) → ends_at e n ≡ true → e ≤ moment → is_among ks n ≡ true)
    → sold ≡ counted (λ k. option_map_or (is_due_with moment true) (find (is_item k) rows) false) ks → unsold ≡ counted (λ k. option_map_or (is_due_with moment false) (find (is_item k) rows) false) ks
    → record { sold = sold; unsold = unsold } ≡ due_at t moment
due_is t rows moment ks ends_at sold unsold same are rising open' all counts others =
    let first : sold ≡ counted (is_due_with moment true) rows = counts ∙ counted_joined number_of (is_due_with moment true) rows ks are rising (due_has moment true rows ends_at ks open' all) in
    let second : unsold ≡ counted (is_due_with moment false) rows = others ∙ counted_joined number_of (is_due_with moment false) rows ks are rising (due_has moment false rows ends_at ks open' all) in
    rw (same, first, second) refl
