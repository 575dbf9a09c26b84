-- Numbers among others.
use Rattle.std.proofs.Common.{◌≡◌, ℕ, ◌+◌, ◌≤◌, ◌<◌, List, [], ◌∷◌, ◌++◌, length, get_or, suc, Bool, true, false, refl, ◌∙◌, sym, ap, arith, inl, inr}
use Rattle.std.specs.Prelude.{◌==◌, ◌||◌, AllPairs, Contains}
use Rattle.std.specs.List.Sorted.{IsStrictlyIncreasing}
use Rattle.std.proofs.lemmas.List.Folds.{Any-from_list_any, list_any-append, list_any_at}
use Rattle.std.proofs.lemmas.List.Kept.{AllPairs-from_increasing}
use Rattle.house_rows.proofs.Put.{by_test}
use Rattle.list_items.specs.Rising.{IsRising, IsRisingFrom, is_among}
use Rattle.list_items.proofs.Joined.{both_ways, is_number, same_number}

pub or_left : (a b : Bool) → a ≡ true → (a || b) ≡ true
or_left a b is = rw is refl

pub or_right : (a b : Bool) → b ≡ true → (a || b) ≡ true
or_right true b is = refl
or_right false b is = is

pub among_more : (ks : List ℕ) (j k : ℕ) → is_among ks j ≡ true → is_among (ks ++ k ∷ []) j ≡ true
among_more [] j k among = absurd (both_ways false among refl)
among_more (i ∷ ks) j k among =
    elim (by_test (i == j)) [ inl is ↦ or_left (i == j) (is_among (ks ++ k ∷ []) j) is | inr not ↦ or_right (i == j) (is_among (ks ++ k ∷ []) j) (among_more ks j k (rw not at among)) ]

pub among_last : (ks : List ℕ) (k : ℕ) → is_among (ks ++ k ∷ []) k ≡ true
among_last [] k = or_left (k == k) false (is_number k k refl)
among_last (i ∷ ks) k = or_right (i == k) (is_among (ks ++ k ∷ []) k) (among_last ks k)

-- what is among the numbers is at some place
pub among_there : (ks : List ℕ) (n : ℕ) → is_among ks n ≡ true → Contains ks n
among_there ks n among =
    let any = Any-from_list_any (λ k. k == n) ks among in
    let same : any.1 ≡ n = same_number any.1 n any.4 in
    (any.0, any.2, rw same at any.3)

pub among_from : (ks : List ℕ) (n : ℕ) → Contains ks n → is_among ks n ≡ true
among_from ks n there = list_any_at (λ k. k == n) ks there.0 n there.1 (is_number (get_or ks there.0 n) n there.2)

pub same_test : (a b : Bool) → (a ≡ true → b ≡ true) → (b ≡ true → a ≡ true) → a ≡ b
same_test true b to from = sym (to refl)
same_test false true to from = from refl
same_test false false to from = refl

rising_pairs : (least : ℕ) (ks : List ℕ) → ((j d : ℕ) → j < length ks → least ≤ get_or ks j d) → AllPairs (λ a b. a < b) ks → IsRisingFrom least ks
rising_pairs least [] low up = tt
rising_pairs least (k ∷ ks) low up = (
  low 0 0 (omega arith),
  rising_pairs (k + 1) ks (λ j d lt. let above : k < get_or ks j d = up 0 (suc j) d (omega arith) (omega arith) in omega arith) (λ i j d before lt. up (suc i) (suc j) d (omega arith) (omega arith)),
)

-- numbers each of which is below the next rise
pub rising_increasing : (ks : List ℕ) → IsStrictlyIncreasing ks → IsRising ks
rising_increasing ks up = rising_pairs 0 ks (λ j d lt. omega arith) (AllPairs-from_increasing ks up)

-- numbers of three lists
pub among_three : (a b c : List ℕ) (n : ℕ) → is_among ((a ++ b) ++ c) n ≡ (is_among a n || (is_among b n || is_among c n))
among_three a b c n =
    list_any-append (λ k. k == n) (a ++ b) c ∙ ap (λ t. t || is_among c n) (list_any-append (λ k. k == n) a b) ∙ or_three (is_among a n) (is_among b n) (is_among c n) where
      or_three : (x y z : Bool) → ((x || y) || z) ≡ (x || (y || z))
      or_three true y z = refl
      or_three false y z = refl
