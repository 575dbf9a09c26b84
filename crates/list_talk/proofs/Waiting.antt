-- Questions that wait for an answer, item by item.
use Rattle.std.proofs.Common.{◌≡◌, ℕ, ◌+◌, ◌<◌, List, [], ◌∷◌, ◌++◌, length, take, filter, get_or, Bool, true, false, not, refl, ap, sym, ◌∙◌, arith, inl, inr}
use Rattle.std.specs.Prelude.{◌==◌, ◌&&◌, is_some}
use Rattle.std.specs.List.{AllByRecursion, list_any}
use Rattle.std.proofs.lemmas.Bool.Decides.{nat_tests}
use Rattle.std.proofs.lemmas.List.{append-nil}
use Rattle.house_rows.specs.declared.talk.Question.{Question}
use Rattle.house_rows.specs.Changed.{question_key}
use Rattle.house_rows.proofs.Put.{by_test}
use Rattle.list_rows.specs.Blocks.{IsRising}
use Rattle.list_talk.specs.Sorted.{AreRisen}
use Rattle.list_rows.proofs.Growing.{front_twice}
use Rattle.list_talk.proofs.Gathered.{gathered, gathered_all, gathered_more, sorted_by_first}

-- whether a question waits, and its item passes
abbrev pub is_waiting : (ℕ → Bool) → Question → Bool
is_waiting test q = not (is_some q.answer) && test q.item

-- those of the items so far that pass
abbrev pub waiting_among : (ℕ → Bool) → List Question → List ℕ → List Question
waiting_among test rows items = gathered (λ (q : Question). q.item) (λ (item : ℕ). item) (is_waiting test) rows items

of_item : (test : ℕ → Bool) (q : Question) (item : ℕ) → (q.item == item) ≡ true → test q.item ≡ test item
of_item test q item same = ap test (grind (arith, nat_tests, same))

neither : (b : Bool) → (b && false) ≡ false
neither true = refl
neither false = refl

-- on an item that passes those wait that have no answer
here_waiting : (test : ℕ → Bool) (item : ℕ) (rows : List Question) → test item ≡ true
    → filter (is_waiting test) (filter (λ q. q.item == item) rows) ≡ filter (λ q. not (is_some q.answer)) (filter (λ q. q.item == item) rows)
here_waiting test item [] passes = refl
here_waiting test item (q ∷ rows) passes =
    let rest = here_waiting test item rows passes in
    elim (by_test (q.item == item)) [
      | inl same ↦ (let known : test q.item ≡ true = of_item test q item same ∙ passes in
          elim (by_test (not (is_some q.answer))) [
            | inl waits ↦ (let is : is_waiting test q ≡ true = rw (waits, known) refl in rw (same, is, waits) (ap (λ more. q ∷ more) rest))
            | inr done ↦ (let is : is_waiting test q ≡ false = rw done refl in rw (same, is, done) rest)
          ])
      | inr other ↦ rw other rest
    ]

-- and on one that doesn't, none
none_waiting : (test : ℕ → Bool) (item : ℕ) (rows : List Question) → test item ≡ false → filter (is_waiting test) (filter (λ q. q.item == item) rows) ≡ []
none_waiting test item [] fails = refl
none_waiting test item (q ∷ rows) fails =
    let rest = none_waiting test item rows fails in
    elim (by_test (q.item == item)) [
      | inl same ↦ (let known : test q.item ≡ false = of_item test q item same ∙ fails in
          let is : is_waiting test q ≡ false = rw known (neither (not (is_some q.answer))) in rw (same, is) rest)
      | inr other ↦ rw other rest
    ]

-- one item more that passes
pub waiting_more : (test : ℕ → Bool) (rows : List Question) (items : List ℕ) (i item : ℕ) (found after : List Question) → i < length items → item ≡ get_or items i 0 → found ≡ waiting_among test rows (take i items)
    → test item ≡ true → after ≡ found ++ filter (λ q. not (is_some q.answer)) (filter (λ q. q.item == item) rows) → after ≡ waiting_among test rows (take (i + 1) items)
waiting_more test rows items i item found after lt at' is passes made =
    made ∙ ap (λ ys. ys ++ filter (λ q. not (is_some q.answer)) (filter (λ q. q.item == item) rows)) is
    ∙ ap (λ ys. waiting_among test rows (take i items) ++ ys) (sym (here_waiting test item rows passes))
    ∙ sym (gathered_more (λ (q : Question). q.item) (λ (item : ℕ). item) (is_waiting test) rows items i 0 item lt at')

-- one that doesn't
pub waiting_less : (test : ℕ → Bool) (rows : List Question) (items : List ℕ) (i item : ℕ) (found : List Question) → i < length items → item ≡ get_or items i 0 → found ≡ waiting_among test rows (take i items)
    → test item ≡ false → found ≡ waiting_among test rows (take (i + 1) items)
waiting_less test rows items i item found lt at' is fails =
    is ∙ sym (append-nil (waiting_among test rows (take i items)))
    ∙ ap (λ ys. waiting_among test rows (take i items) ++ ys) (sym (none_waiting test item rows fails))
    ∙ sym (gathered_more (λ (q : Question). q.item) (λ (item : ℕ). item) (is_waiting test) rows items i 0 item lt at')

-- the same of the first of them
pub first_more : (most : ℕ) (test : ℕ → Bool) (rows : List Question) (items : List ℕ) (i item : ℕ) (found after : List Question) → i < length items → item ≡ get_or items i 0
    → found ≡ take most (waiting_among test rows (take i items)) → test item ≡ true
    → after ≡ take most (found ++ filter (λ q. not (is_some q.answer)) (filter (λ q. q.item == item) rows)) → after ≡ take most (waiting_among test rows (take (i + 1) items))
first_more most test rows items i item found after lt at' is passes made =
    let so_far : List Question = waiting_among test rows (take i items) in
    let more : List Question = filter (λ q. not (is_some q.answer)) (filter (λ q. q.item == item) rows) in
    made ∙ ap (λ ys. take most (ys ++ more)) is ∙ front_twice most so_far more
    ∙ ap (take most) (waiting_more test rows items i item so_far (so_far ++ more) lt at' refl passes refl)

pub first_less : (most : ℕ) (test : ℕ → Bool) (rows : List Question) (items : List ℕ) (i item : ℕ) (found : List Question) → i < length items → item ≡ get_or items i 0
    → found ≡ take most (waiting_among test rows (take i items)) → test item ≡ false → found ≡ take most (waiting_among test rows (take (i + 1) items))
first_less most test rows items i item found lt at' is fails = is ∙ ap (take most) (waiting_less test rows items i item (waiting_among test rows (take i items)) lt at' refl fails)

complete_waiting : (test : ℕ → Bool) (items : List ℕ) (rows : List Question) → AllByRecursion (λ q. test q.item ≡ true → list_any (λ item. item == q.item) items ≡ true) rows
    → AllByRecursion (λ q. is_waiting test q ≡ true → list_any (λ item. item == q.item) items ≡ true) rows
complete_waiting test items [] complete = tt
complete_waiting test items (q ∷ rows) complete = (λ is. complete.0 (passing (not (is_some q.answer)) (test q.item) is), complete_waiting test items rows complete.1) where
  passing : (a b : Bool) → (a && b) ≡ true → b ≡ true
  passing true b is = is
  passing false b is = absurd (let e : false ≡ true = is in cc)

-- at the end all that wait were found
pub waiting_all : (test : ℕ → Bool) (rows : List Question) (items : List ℕ) → IsRising question_key rows → AreRisen (λ (item : ℕ). item) items
    → AllByRecursion (λ q. test q.item ≡ true → list_any (λ item. item == q.item) items ≡ true) rows → waiting_among test rows items ≡ filter (is_waiting test) rows
waiting_all test rows items rising risen complete =
    gathered_all (λ (q : Question). q.item) (λ (item : ℕ). item) (is_waiting test) rows items (sorted_by_first question_key rows rising) risen (complete_waiting test items rows complete)
