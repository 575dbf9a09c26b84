-- A member's own items have the questions that wait for its answer.
use Rattle.std.proofs.Common.{◌≡◌, ◌+◌, ◌≤◌, ◌<◌, ℕ, List, [], ◌∷◌, true, false, arith, inl, inr}
use Rattle.std.specs.Prelude.{◌==◌, find}
use Rattle.std.specs.List.{AllByRecursion, list_any}
use Rattle.std.proofs.lemmas.Bool.Decides.{nat_tests}
use Rattle.house_rows.specs.declared.talk.Question.{Question}
use Rattle.house_rows.specs.Changed.{is_item}
use Rattle.house_rows.specs.Found.{sells}
use Rattle.house_rows.specs.Tables.{ItemRow}
use Rattle.house_rows.proofs.Every.{every_as}
use Rattle.house_rows.proofs.Put.{by_test}
use Rattle.list_items.specs.Rising.{HasAll, IsRising, IsRisingFrom, is_among}
use Rattle.list_talk.specs.Sorted.{AreRisen}

-- numbers that rise from one on are at least that one
at_least : (least : ℕ) (ks : List ℕ) → IsRisingFrom least ks → AllByRecursion (λ k. least ≤ k) ks
at_least least [] rising = tt
at_least least (k ∷ ks) rising =
    let le : least ≤ k = rising.0 in
    (le, every_as (λ n. k + 1 ≤ n) (λ n. least ≤ n) ks (λ n later. omega arith) (at_least (k + 1) ks rising.1))

risen_from : (least : ℕ) (ks : List ℕ) → IsRisingFrom least ks → AreRisen (λ (item : ℕ). item) ks
risen_from least [] rising = tt
risen_from least (k ∷ ks) rising =
    (every_as (λ n. k + 1 ≤ n) (λ n. k < n) ks (λ n later. omega arith) (at_least (k + 1) ks rising.1), risen_from (k + 1) ks rising.1)

pub risen : (ks : List ℕ) → IsRising ks → AreRisen (λ (item : ℕ). item) ks
risen ks rising = risen_from 0 ks rising

-- an item that the member sells is among its own
own_among : (member : ℕ) (numbers : List ℕ) (rows : List ItemRow) (item : ℕ) → HasAll (λ (row : ItemRow). row.item.terms.item) (λ row. row.item.terms.seller == member) numbers rows
    → sells (find (is_item item) rows) member ≡ true → is_among numbers item ≡ true
own_among member numbers [] item has own = absurd (let e : false ≡ true = own in cc)
own_among member numbers (row ∷ rows) item has own =
    elim (by_test (is_item item row)) [
      | inl here ↦ (let same : row.item.terms.item ≡ item = grind (arith, nat_tests, here) in rw same at (has.0 (rw here at own)))
      | inr other ↦ own_among member numbers rows item has.1 (rw other at own)
    ]

pub own_complete : (member : ℕ) (numbers : List ℕ) (rows : List ItemRow) (questions : List Question) → HasAll (λ (row : ItemRow). row.item.terms.item) (λ row. row.item.terms.seller == member) numbers rows
    → AllByRecursion (λ q. sells (find (is_item q.item) rows) member ≡ true → list_any (λ item. item == q.item) numbers ≡ true) questions
own_complete member numbers rows [] has = tt
own_complete member numbers rows (q ∷ questions) has = (λ own. own_among member numbers rows q.item has own, own_complete member numbers rows questions has)
