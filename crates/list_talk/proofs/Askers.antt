-- The questions on an item are ordered by asker, so that an asker's are a part of them.
use Rattle.std.proofs.Common.{◌≡◌, ◌≤◌, ◌<◌, ℕ, zero, suc, List, [], ◌∷◌, length, take, drop, filter, get_or, Bool, true, false, not, refl, ap, sym, ◌∙◌, arith, inl, inr}
use Rattle.std.specs.Prelude.{◌==◌, ◌&&◌, nat_le, nat_lt, is_some}
use Rattle.std.specs.List.{AllByRecursion, AllWithin}
use Rattle.std.specs.List.Sorted.{IsNonDecreasingBy, IsPartitionPoint}
use Rattle.std.proofs.lemmas.Bool.Decides.{nat_tests}
use Rattle.house_rows.specs.declared.talk.Question.{Question}
use Rattle.house_rows.specs.Changed.{question_key}
use Rattle.house_rows.specs.History.{counted, is_less}
use Rattle.house_rows.proofs.Put.{by_test, filter_alike, filter_swap}
use Rattle.list_rows.specs.Blocks.{IsRising}
use Rattle.list_rows.proofs.Growing.{filter_twice}
use Rattle.list_talk.specs.Sorted.{AreSorted}

-- a bound of all is one of each place
every_at : {A : Type 0} (number : A → ℕ) (n : ℕ) (xs : List A) (j : ℕ) (d : A) → AllByRecursion (λ y. n ≤ number y) xs → j < length xs → n ≤ number (get_or xs j d)
every_at number n [] j d all lt = absurd (omega arith)
every_at number n (x ∷ xs) zero d all lt = all.0
every_at number n (x ∷ xs) (suc j) d all lt = every_at number n xs j d all.1 (omega arith)

-- numbers that don't fall, by places
pub sorted_places : {A : Type 0} (number : A → ℕ) (xs : List A) → AreSorted number xs → IsNonDecreasingBy number xs
sorted_places number [] sorted i j d le lt = absurd (omega arith)
sorted_places number (x ∷ xs) sorted zero zero d le lt = omega arith
sorted_places number (x ∷ xs) sorted zero (suc j) d le lt = every_at number (number x) xs j d sorted.0 (omega arith)
sorted_places number (x ∷ xs) sorted (suc i) zero d le lt = absurd (omega arith)
sorted_places number (x ∷ xs) sorted (suc i) (suc j) d le lt = sorted_places number xs sorted.1 i j d (omega arith) (omega arith)

-- where none passes, all are left
none_front : {A : Type 0} (p : A → Bool) (xs : List A) → AllWithin (λ y. p y ≡ false) xs 0 (length xs) → ([] ≡ filter p xs) × (xs ≡ filter (λ x. not (p x)) xs)
none_front p [] fails = (refl, refl)
none_front p (x ∷ xs) fails =
    let here : p x ≡ false = fails 0 x (omega arith) (omega arith) in
    let rest = none_front p xs (λ k d low high. fails (suc k) d (omega arith) (omega arith)) in
    rw here (rest.0, ap (λ ys. x ∷ ys) rest.1)

-- what passes comes before what doesn't
pub parted : {A : Type 0} (p : A → Bool) (xs : List A) (i : ℕ) → AllWithin (λ y. p y ≡ true) xs 0 i → AllWithin (λ y. p y ≡ false) xs i (length xs) → (take i xs ≡ filter p xs) × (drop i xs ≡ filter (λ x. not (p x)) xs)
parted p xs zero passes fails = none_front p xs fails
parted p [] (suc i) passes fails = (refl, refl)
parted p (x ∷ xs) (suc i) passes fails =
    let here : p x ≡ true = passes 0 x (omega arith) (omega arith) in
    let rest = parted p xs i (λ k d low high. passes (suc k) d (omega arith) (omega arith)) (λ k d low high. fails (suc k) d (omega arith) (omega arith)) in
    rw here (ap (λ ys. x ∷ ys) rest.0, rest.1)

-- from a number on
pub after_point : {A : Type 0} (number : A → ℕ) (n : ℕ) (xs : List A) (i : ℕ) → IsPartitionPoint (λ y. nat_lt (number y) n ≡ true) (λ y. nat_lt (number y) n ≡ false) xs i
    → drop i xs ≡ filter (λ x. nat_le n (number x)) xs
after_point number n xs i point =
    (parted (λ x. nat_lt (number x) n) xs i point.0 point.1).1 ∙ filter_alike (λ x. not (nat_lt (number x) n)) (λ x. nat_le n (number x)) xs (λ x. grind (arith, nat_tests))

-- up to a number, of those from it on
pub before_point : {A : Type 0} (number : A → ℕ) (n : ℕ) (xs ys : List A) (i : ℕ) → xs ≡ filter (λ x. nat_le n (number x)) ys → IsPartitionPoint (λ y. nat_le (number y) n ≡ true) (λ y. nat_le (number y) n ≡ false) xs i
    → take i xs ≡ filter (λ x. number x == n) ys
before_point number n xs ys i is point =
    (parted (λ x. nat_le (number x) n) xs i point.0 point.1).0 ∙ ap (filter (λ x. nat_le (number x) n)) is
    ∙ sym (filter_twice (λ x. nat_le n (number x)) (λ x. nat_le (number x) n) ys) ∙ filter_alike (λ x. nat_le n (number x) && nat_le (number x) n) (λ x. number x == n) ys (λ x. grind (arith, nat_tests))

-- a bound of all is one of those that pass
every_filtered : {A : Type 0} (number : A → ℕ) (n : ℕ) (p : A → Bool) (xs : List A) → AllByRecursion (λ y. n ≤ number y) xs → AllByRecursion (λ y. n ≤ number y) (filter p xs)
every_filtered number n p [] all = tt
every_filtered number n p (x ∷ xs) all = elim (by_test (p x)) [ inl is ↦ rw is (all.0, every_filtered number n p xs all.1) | inr other ↦ rw other (every_filtered number n p xs all.1) ]

-- those that pass are sorted as all are
pub sorted_filter : {A : Type 0} (number : A → ℕ) (p : A → Bool) (xs : List A) → AreSorted number xs → AreSorted number (filter p xs)
sorted_filter number p [] sorted = tt
sorted_filter number p (x ∷ xs) sorted =
    elim (by_test (p x)) [ inl is ↦ rw is (every_filtered number (number x) p xs sorted.0, sorted_filter number p xs sorted.1) | inr other ↦ rw other (sorted_filter number p xs sorted.1) ]

-- after a question the askers of its item are no smaller
same_item : (item : ℕ) (q : Question) (rows : List Question) → (q.item == item) ≡ true → AllByRecursion (λ r. is_less (question_key q) (question_key r) ≡ true) rows
    → AllByRecursion (λ r. q.asker ≤ r.asker) (filter (λ r. r.item == item) rows)
same_item item q [] is all = tt
same_item item q (r ∷ rows) is all =
    elim (by_test (r.item == item)) [
      | inl also ↦ rw also (let less = all.0 in grind (arith, nat_tests, is, also, less), same_item item q rows is all.1)
      | inr other ↦ rw other (same_item item q rows is all.1)
    ]

-- an item's questions are by asker
pub by_asker : (item : ℕ) (rows : List Question) → IsRising question_key rows → AreSorted (λ q. q.asker) (filter (λ q. q.item == item) rows)
by_asker item [] rising = tt
by_asker item (q ∷ rows) rising =
    elim (by_test (q.item == item)) [
      | inl is ↦ rw is (same_item item q rows is rising.0, by_asker item rows rising.1)
      | inr other ↦ rw other (by_asker item rows rising.1)
    ]

-- an asker's questions on an item
pub asker_counted : (asker item : ℕ) (rows found : List Question) → found ≡ filter (λ q. q.asker == asker) (filter (λ q. q.item == item) rows)
    → length found ≡ counted (λ q. (q.asker == asker) && (q.item == item)) rows
asker_counted asker item rows found is =
    ap length (is ∙ filter_swap (λ (q : Question). q.asker == asker) (λ (q : Question). q.item == item) rows ∙ sym (filter_twice (λ (q : Question). q.asker == asker) (λ (q : Question). q.item == item) rows))

-- the published ones from an asker on
pub published_from : (item from : ℕ) (rows : List Question) → filter (λ q. is_some q.answer) (filter (λ q. nat_le from q.asker) (filter (λ q. q.item == item) rows))
    ≡ filter (λ q. (q.item == item) && nat_le from q.asker) (filter (λ q. is_some q.answer) rows)
published_from item from rows =
    ap (filter (λ (q : Question). is_some q.answer)) (sym (filter_twice (λ (q : Question). q.item == item) (λ (q : Question). nat_le from q.asker) rows))
    ∙ filter_swap (λ (q : Question). is_some q.answer) (λ (q : Question). (q.item == item) && nat_le from q.asker) rows

-- an asker's questions on an item, from an item on
pub asked_from : (member from item : ℕ) (rows : List Question) → filter (λ q. nat_le from q.item) (filter (λ q. q.asker == member) (filter (λ q. q.item == item) rows))
    ≡ filter (λ q. (q.asker == member) && nat_le from q.item) (filter (λ q. q.item == item) rows)
asked_from member from item rows = sym (filter_twice (λ (q : Question). q.asker == member) (λ (q : Question). nat_le from q.item) (filter (λ q. q.item == item) rows))
