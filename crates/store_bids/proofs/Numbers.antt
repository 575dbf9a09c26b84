-- Numbers that rise, each taken once.
use Rattle.std.proofs.Common.{◌≡◌, ◌≤◌, ◌<◌, ◌+◌, ◌^◌, ℕ, zero, suc, Bool, true, false, ◌&&◌, List, [], ◌∷◌, ◌++◌, filter, length, take, slice_get, Some, refl, ap, ap₂, sym, subst, ◌∙◌, arith, inl, inr}
use Rattle.std.specs.Prelude.{◌==◌, nat_le, nat_lt}
use Rattle.std.specs.List.{AllByRecursion, list_any}
use Rattle.std.proofs.lemmas.Bool.Decides.{nat_tests}
use Rattle.std.proofs.lemmas.List.{append-nil, length-take, take_all}
use Rattle.sqlite_trees.specs.Tree.{IsAscending}
use Rattle.sqlite_keyed.proofs.ListLemmas.{all_weaker}
use Rattle.house_rows.proofs.Put.{by_test}
use Rattle.store_rows.proofs.Tested.{all-take}
use Rattle.store_rows.proofs.Update.{numbered_passes}
use Rattle.store_bids.specs.OwnBids.{rest_after, numbers_from}

-- ---- which are taken

pub numbers_above : (least : ℕ) (ns : List ℕ) → AllByRecursion (λ n. least ≤ n) (numbers_from least ns)
numbers_above least [] = tt
numbers_above least (n ∷ ns) =
    elim (by_test (nat_le least n)) [
      | inl is ↦ (let low : least ≤ n = grind (arith, nat_tests, is) in
          rw is (low, all_weaker (λ m. n + 1 ≤ m) (λ m. least ≤ m) (λ m up. omega (arith, up, low)) (numbers_from (n + 1) ns) (numbers_above (n + 1) ns)))
      | inr not ↦ rw not (numbers_above least ns)
    ]

pub numbers_up : (least : ℕ) (ns : List ℕ) → IsAscending (λ m n. m < n) (numbers_from least ns)
numbers_up least [] = tt
numbers_up least (n ∷ ns) =
    elim (by_test (nat_le least n)) [
      | inl is ↦ rw is (all_weaker (λ m. n + 1 ≤ m) (λ m. n < m) (λ m up. omega (arith, up)) (numbers_from (n + 1) ns) (numbers_above (n + 1) ns), numbers_up (n + 1) ns)
      | inr not ↦ rw not (numbers_up least ns)
    ]

pub numbers_all : (P : ℕ → Type 0) (least : ℕ) (ns : List ℕ) → AllByRecursion P ns → AllByRecursion P (numbers_from least ns)
numbers_all P least [] all = tt
numbers_all P least (n ∷ ns) all =
    elim (by_test (nat_le least n)) [
      | inl is ↦ rw is (all.0, numbers_all P (n + 1) ns all.1)
      | inr not ↦ rw not (numbers_all P least ns all.1)
    ]

abbrev pub has : ℕ → List ℕ → Bool
has n ns = list_any (λ m. m == n) ns

some_later : (m n : ℕ) (ns : List ℕ) → AllByRecursion (λ k. m ≤ k) ns → has n ns ≡ true → m ≤ n
some_later m n [] above some = absurd (let e : false ≡ true = some in cc)
some_later m n (k ∷ ns) above some =
    elim (by_test (k == n)) [
      | inl is ↦ (let low = above.0 in grind (arith, nat_tests, is, low))
      | inr other ↦ some_later m n ns above.1 (rw other at some)
    ]

pub none_both : (a b : Bool) → (a && false) ≡ (b && false)
none_both true true = refl
none_both true false = refl
none_both false true = refl
none_both false false = refl

pub numbers_have : (n least : ℕ) (ns : List ℕ) → IsAscending (λ a b. a ≤ b) ns → list_any (λ m. n == m) (numbers_from least ns) ≡ (nat_le least n && has n ns)
numbers_have n least [] up = none_both false (nat_le least n)
numbers_have n least (k ∷ ns) up =
    elim (by_test (nat_le least k)) [
      | inl is ↦ (let rest = numbers_have n (k + 1) ns up.1 in
          elim (by_test (k == n)) [
            | inl here ↦ (let there : (n == k) ≡ true = grind (arith, nat_tests, here) in
                let low : nat_le least n ≡ true = grind (arith, nat_tests, here, is) in
                rw (is, there, here, low) refl)
            | inr other ↦ (let apart : (n == k) ≡ false = grind (arith, nat_tests, other) in
                rw (is, apart, other) (rest ∙ elim (by_test (has n ns)) [
                  | inl some ↦ (let later = some_later k n ns up.0 some in
                      let more : nat_le (k + 1) n ≡ true = grind (arith, nat_tests, later, other) in
                      let low : nat_le least n ≡ true = grind (arith, nat_tests, later, is) in
                      rw (more, low) refl)
                  | inr none ↦ rw none (none_both (nat_le (k + 1) n) (nat_le least n))
                ]))
          ])
      | inr not ↦ (let rest = numbers_have n least ns up.1 in
          elim (by_test (k == n)) [
            | inl here ↦ (let below : nat_le least n ≡ false = grind (arith, nat_tests, here, not) in rw (not, here, below) (rest ∙ rw below refl))
            | inr other ↦ rw (not, other) rest
          ])
    ]

-- ---- in two parts

pub after_up : (least : ℕ) (ns : List ℕ) → least ≤ rest_after least (numbers_from least ns)
after_up least [] = omega arith
after_up least (n ∷ ns) =
    elim (by_test (nat_le least n)) [
      | inl is ↦ (let low : least ≤ n = grind (arith, nat_tests, is) in let more = after_up (n + 1) ns in rw is (omega (arith, low, more)))
      | inr not ↦ rw not (after_up least ns)
    ]

-- those of a front, and then those from after them on
pub numbers_cut : (least many : ℕ) (ns : List ℕ) → numbers_from least ns ≡ numbers_from least (take many ns) ++ numbers_from (rest_after least (numbers_from least (take many ns))) ns
numbers_cut least zero ns = refl
numbers_cut least (suc many) [] = refl
numbers_cut least (suc many) (n ∷ ns) =
    elim (by_test (nat_le least n)) [
      | inl is ↦ (let more = numbers_cut (n + 1) many ns in
          let far = after_up (n + 1) (take many ns) in
          let under : nat_le (rest_after (n + 1) (numbers_from (n + 1) (take many ns))) n ≡ false = grind (arith, nat_tests, far) in
          rw (is, under) (ap (λ l. n ∷ l) more))
      | inr not ↦ (let more = numbers_cut least many ns in
          let far = after_up least (take many ns) in
          let under : nat_le (rest_after least (numbers_from least (take many ns))) n ≡ false = grind (arith, nat_tests, far, not) in
          rw (not, under) more)
    ]

-- what is under a number is not among those from a later one on
pub numbers_there : (from least : ℕ) (ns : List ℕ) → from ≤ least → numbers_from least (filter (nat_le from) ns) ≡ numbers_from least ns
numbers_there from least [] low = refl
numbers_there from least (n ∷ ns) low =
    elim (by_test (nat_le from n)) [
      | inl kept ↦ elim (by_test (nat_le least n)) [
        | inl is ↦ (let later : from ≤ n + 1 = grind (arith, nat_tests, kept) in rw (kept, is) (ap (λ l. n ∷ l) (numbers_there from (n + 1) ns later)))
        | inr not ↦ rw (kept, not) (numbers_there from least ns low)
      ]
      | inr under ↦ (let also : nat_le least n ≡ false = grind (arith, nat_tests, under, low) in rw (under, also) (numbers_there from least ns low))
    ]

pub none_after : (least : ℕ) (ns : List ℕ) → AllByRecursion (λ n. n < least) ns → numbers_from least ns ≡ []
none_after least [] all = refl
none_after least (n ∷ ns) all = let under : nat_le least n ≡ false = grind (arith, nat_tests, all.0) in rw under (none_after least ns all.1)

pub after_last : (least i x : ℕ) (ns : List ℕ) → i + 1 ≡ length ns → slice_get ns i ≡ Some x → rest_after least ns ≡ x + 1
after_last least i x [] is found = absurd (omega (arith, is))
after_last least zero x (n ∷ []) is found = (let e : n ≡ x = cc in ap (λ m. m + 1) e)
after_last least (suc i) x (n ∷ []) is found = absurd (omega (arith, is))
after_last least zero x (n ∷ m ∷ ns) is found = absurd (omega (arith, is))
after_last least (suc i) x (n ∷ m ∷ ns) is found = after_last (n + 1) i x (m ∷ ns) (omega (arith, is)) found

after_any : (a b : ℕ) (ns : List ℕ) → 0 < length ns → rest_after a ns ≡ rest_after b ns
after_any a b [] some = absurd (omega (arith, some))
after_any a b (n ∷ ns) some = refl

some_taken : (from : ℕ) (ns : List ℕ) → AllByRecursion (λ n. nat_le from n ≡ true) ns → 0 < length ns → 0 < length (numbers_from from ns)
some_taken from [] all some = absurd (omega (arith, some))
some_taken from (n ∷ ns) all some = rw all.0 (omega arith)

front_whole : (many : ℕ) (ns : List ℕ) → length (take many ns) < many → take many ns ≡ ns
front_whole many ns few = take_all many ns (let l = length-take many ns in omega (arith, l, few))

-- fifty at a time
pub numbers_go_on : (from next : ℕ) (ns : List ℕ) → AllByRecursion (λ n. n < 2 ^ 32) ns
    → (length (take 50 (filter (nat_le from) ns)) < 50 → next ≡ 2 ^ 32)
    → (50 ≤ length (take 50 (filter (nat_le from) ns)) → 0 < length (numbers_from from (take 50 (filter (nat_le from) ns))) → next ≡ rest_after 0 (numbers_from from (take 50 (filter (nat_le from) ns))))
    → numbers_from from ns ≡ numbers_from from (take 50 (filter (nat_le from) ns)) ++ numbers_from next ns
numbers_go_on from next ns low at_end going =
    let all = filter (nat_le from) ns in
    let items = take 50 all in
    let numbers = numbers_from from items in
    let there = numbers_there from from ns (omega arith) in
    elim (by_test (nat_lt (length items) 50)) [
      | inl is ↦ (let few : length items < 50 = grind (arith, nat_tests, is) in
          let none : numbers_from next ns ≡ [] = ap (λ m. numbers_from m ns) (at_end few) ∙ none_after (2 ^ 32) ns low in
          sym there ∙ ap (numbers_from from) (sym (front_whole 50 all few)) ∙ sym (append-nil numbers) ∙ ap (λ l. numbers ++ l) (sym none))
      | inr not ↦ (let many : 50 ≤ length items = grind (arith, nat_tests, not) in
          let passed = all-take (λ n. nat_le from n ≡ true) 50 all (numbered_passes (nat_le from) ns) in
          let some = some_taken from items passed (omega (arith, many)) in
          let same : rest_after from numbers ≡ next = after_any from 0 numbers some ∙ sym (going many some) in
          sym there ∙ numbers_cut from 50 all ∙ ap (λ l. numbers ++ l) (numbers_there from (rest_after from numbers) ns (after_up from items) ∙ ap (λ m. numbers_from m ns) same))
    ]

pub go_on : (from next : ℕ) (all items numbers : List ℕ) → AllByRecursion (λ n. n < 2 ^ 32) all → items ≡ take 50 (filter (nat_le from) all) → numbers ≡ numbers_from from items
    → (length items < 50 → next ≡ 2 ^ 32) → (50 ≤ length items → 0 < length numbers → next ≡ rest_after 0 numbers) → numbers_from from all ≡ numbers ++ numbers_from next all
go_on from next all items numbers low are listed at_end going =
    let same : numbers_from from (take 50 (filter (nat_le from) all)) ≡ numbers = ap (numbers_from from) (sym are) ∙ sym listed in
    numbers_go_on from next all low (λ few. at_end (subst (λ l. length l < 50) (sym are) few))
    (λ many some. going (subst (λ l. 50 ≤ length l) (sym are) many) (subst (λ l. 0 < length l) same some) ∙ ap (rest_after 0) (sym same))
    ∙ ap (λ l. l ++ numbers_from next all) same

pub first_part : (from : ℕ) (all items numbers : List ℕ) → items ≡ take 50 (filter (nat_le from) all) → numbers ≡ numbers_from from items → numbers_from from all ≡ numbers ++ numbers_from (rest_after from numbers) all
first_part from all items numbers are listed =
    let some = filter (nat_le from) all in
    let same : numbers_from from (take 50 some) ≡ numbers = ap (numbers_from from) (sym are) ∙ sym listed in
    let up : from ≤ rest_after from numbers = subst (λ l. from ≤ rest_after from l) same (after_up from (take 50 some)) in
    sym (numbers_there from from all (omega arith)) ∙ numbers_cut from 50 some ∙ ap (λ l. l ++ numbers_from (rest_after from l) some) same ∙ ap (λ l. numbers ++ l) (numbers_there from (rest_after from numbers) all up)

-- ---- rising lists

none_under : (n : ℕ) (ns : List ℕ) → AllByRecursion (λ m. n < m) ns → filter (λ m. m == n) ns ≡ []
none_under n [] all = refl
none_under n (m ∷ ns) all = let other : (m == n) ≡ false = grind (arith, nat_tests, all.0) in rw other (none_under n ns all.1)

first_counted : (n : ℕ) (ns : List ℕ) → length (filter (λ m. m == n) (n ∷ ns)) ≡ suc (length (filter (λ m. m == n) ns))
first_counted n ns = let here : (n == n) ≡ true = grind (arith, nat_tests) in rw here refl

not_under : (x y : ℕ) (xs ys : List ℕ) → AllByRecursion (λ m. y ≤ m) ys → length (filter (λ m. m == x) (x ∷ xs)) ≡ length (filter (λ m. m == x) (y ∷ ys)) → x < y → ⊥
not_under x y xs ys up same less =
    let none = none_under x (y ∷ ys) (less, all_weaker (λ m. y ≤ m) (λ m. x < m) (λ m le. omega (arith, le, less)) ys up) in
    let e : suc (length (filter (λ m. m == x) xs)) ≡ 0 = sym (first_counted x xs) ∙ same ∙ ap length none in
    omega (arith, e)

-- lists that rise and have each number as often are the same
pub same_rising : (xs ys : List ℕ) → IsAscending (λ a b. a ≤ b) xs → IsAscending (λ a b. a ≤ b) ys → ((n : ℕ) → length (filter (λ m. m == n) xs) ≡ length (filter (λ m. m == n) ys)) → xs ≡ ys
same_rising [] [] up also same = refl
same_rising [] (y ∷ ys) up also same = absurd (let e = same y ∙ first_counted y ys in omega (arith, e))
same_rising (x ∷ xs) [] up also same = absurd (let e = sym (first_counted x xs) ∙ same x in omega (arith, e))
same_rising (x ∷ xs) (y ∷ ys) up also same =
    elim (by_test (nat_lt x y)) [
      | inl less ↦ absurd (not_under x y xs ys also.0 (same x) (grind (arith, nat_tests, less)))
      | inr nor ↦ elim (by_test (nat_lt y x)) [
        | inl less ↦ absurd (not_under y x ys xs up.0 (sym (same y)) (grind (arith, nat_tests, less)))
        | inr not ↦ (let e : x ≡ y = grind (arith, nat_tests, nor, not) in ap₂ ◌∷◌ e (same_rising xs ys up.1 also.1 (λ n. rest n e)))
      ]
    ]
  where
    rest : (n : ℕ) → x ≡ y → length (filter (λ m. m == n) xs) ≡ length (filter (λ m. m == n) ys)
    rest n e =
        elim (by_test (x == n)) [
          | inl is ↦ (let too : (y == n) ≡ true = rw (← e) is in let more = rw (is, too) at (same n) in omega (arith, more))
          | inr other ↦ (let too : (y == n) ≡ false = rw (← e) other in rw (other, too) at (same n))
        ]
