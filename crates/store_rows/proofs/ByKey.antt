-- ORDER BY the columns of a key.
use Rattle.std.proofs.Common.{◌≡◌, ◌<◌, ◌^◌, ℕ, pos, negsuc, Bool, List, map, true, false, cond, refl, ap₂, ◌∙◌, arith, inl, inr, Less, Equal}
use Rattle.std.specs.Prelude.{nat_lt}
use Rattle.std.specs.Ordering.{ordering_then}
use Rattle.std.proofs.lemmas.Bool.Decides.{nat_tests}
use Rattle.std.proofs.lemmas.Cmp.{tied_itself}
use Rattle.std.proofs.lemmas.Int.{ints}
use Rattle.sqlite_value.specs.declared.value.Value.{Value}
use Rattle.sqlite_value.specs.declared.value.Value.TheVariants.{Null, Int, Real, Text, Blob}
use Rattle.sqlite_value.specs.declared.keys.Collation.TheVariants.{Binary}
use Rattle.sqlite_value.specs.declared.keys.Key.{Key as Sorting}
use Rattle.sqlite_value.specs.Keys.{ascending}
use Rattle.sqlite_value.specs.Order.{value_cmp}
use Rattle.sqlite_value.proofs.OrderLemmas.{value_cmp-Int, value_cmp_total}
use Rattle.sqlite_sql.specs.Term.{Term, col}
use Rattle.sqlite_keyed.proofs.KeyedLemmas.{Less-from_lt}
use Rattle.house_rows.specs.History.{is_less}
use Rattle.house_rows.proofs.Put.{by_test}
use Rattle.store_rows.specs.Rows.{number_in}

-- ORDER BY columns, in turn
abbrev pub by_columns : List ℕ → List (Term × Sorting)
by_columns places = map (λ at. (col 1 at, ascending Binary)) places

-- a value with a number of 32 bits is that number
pub number_is : (v : Value) → number_in v < 2 ^ 32 → v ≡ Int (pos (number_in v))
number_is (Int (pos n)) low = go (nat_lt n (2 ^ 32)) refl low
  where
    go : (b : Bool) → nat_lt n (2 ^ 32) ≡ b → cond b n (2 ^ 64) < 2 ^ 32 → Int (pos n) ≡ Int (pos (cond b n (2 ^ 64)))
    go true e h = refl
    go false e h = absurd (omega (arith, h))
number_is (Int (negsuc n)) low = absurd (omega (arith, low))
number_is Null low = absurd (omega (arith, low))
number_is (Real x) low = absurd (omega (arith, low))
number_is (Text x) low = absurd (omega (arith, low))
number_is (Blob x) low = absurd (omega (arith, low))

less_as : (m n : ℕ) → nat_lt m n ≡ true → value_cmp (Int (pos m)) (Int (pos n)) ≡ Less
less_as m n less = value_cmp-Int (pos m) (pos n) ∙ Less-from_lt (pos m) (pos n) (grind (arith, ints, nat_tests))

same_as : (m n : ℕ) → m ≡ n → value_cmp (Int (pos m)) (Int (pos n)) ≡ Equal
same_as m n e = rw e (tied_itself value_cmp_total (Int (pos n)))

three_rise : (a b d a' b' d' : ℕ) → is_less (record { first = a; second = b; third = d }) (record { first = a'; second = b'; third = d' }) ≡ true
    → ordering_then (value_cmp (Int (pos a)) (Int (pos a'))) (ordering_then (value_cmp (Int (pos b)) (Int (pos b'))) (ordering_then (value_cmp (Int (pos d)) (Int (pos d'))) Equal)) ≡ Less
three_rise a b d a' b' d' less =
    elim (by_test (nat_lt a a')) [
      | inl first ↦ rw (less_as a a' first) refl
      | inr not ↦ (let same : a ≡ a' = grind (arith, nat_tests) in
          rw (same_as a a' same) (elim (by_test (nat_lt b b')) [
            | inl second ↦ rw (less_as b b' second) refl
            | inr nor ↦ (let also : b ≡ b' = grind (arith, nat_tests) in
                let third : nat_lt d d' ≡ true = grind (arith, nat_tests) in
                rw (same_as b b' also, less_as d d' third) refl)
          ]))
    ]

two_rise : (a b a' b' : ℕ) → is_less (record { first = a; second = b; third = 0 }) (record { first = a'; second = b'; third = 0 }) ≡ true
    → ordering_then (value_cmp (Int (pos a)) (Int (pos a'))) (ordering_then (value_cmp (Int (pos b)) (Int (pos b'))) Equal) ≡ Less
two_rise a b a' b' less =
    elim (by_test (nat_lt a a')) [
      | inl first ↦ rw (less_as a a' first) refl
      | inr not ↦ (let same : a ≡ a' = grind (arith, nat_tests) in
          let second : nat_lt b b' ≡ true = grind (arith, nat_tests) in
          rw (same_as a a' same, less_as b b' second) refl)
    ]

-- the same of values that hold such numbers
pub three_values_rise : (u v w u' v' w' : Value) → number_in u < 2 ^ 32 → number_in v < 2 ^ 32 → number_in w < 2 ^ 32 → number_in u' < 2 ^ 32 → number_in v' < 2 ^ 32 → number_in w' < 2 ^ 32
    → is_less (record { first = number_in u; second = number_in v; third = number_in w }) (record { first = number_in u'; second = number_in v'; third = number_in w' }) ≡ true
    → ordering_then (value_cmp u u') (ordering_then (value_cmp v v') (ordering_then (value_cmp w w') Equal)) ≡ Less
three_values_rise u v w u' v' w' ul vl wl ul' vl' wl' less =
    ap₂ ordering_then (ap₂ value_cmp (number_is u ul) (number_is u' ul')) (ap₂ ordering_then (ap₂ value_cmp (number_is v vl) (number_is v' vl')) (ap₂ ordering_then (ap₂ value_cmp (number_is w wl) (number_is w' wl')) refl))
    ∙ three_rise (number_in u) (number_in v) (number_in w) (number_in u') (number_in v') (number_in w') less

pub two_values_rise : (u v u' v' : Value) → number_in u < 2 ^ 32 → number_in v < 2 ^ 32 → number_in u' < 2 ^ 32 → number_in v' < 2 ^ 32
    → is_less (record { first = number_in u; second = number_in v; third = 0 }) (record { first = number_in u'; second = number_in v'; third = 0 }) ≡ true
    → ordering_then (value_cmp u u') (ordering_then (value_cmp v v') Equal) ≡ Less
two_values_rise u v u' v' ul vl ul' vl' less =
    ap₂ ordering_then (ap₂ value_cmp (number_is u ul) (number_is u' ul')) (ap₂ ordering_then (ap₂ value_cmp (number_is v vl) (number_is v' vl')) refl)
    ∙ two_rise (number_in u) (number_in v) (number_in u') (number_in v') less
