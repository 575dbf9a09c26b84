-- A number that no query for others shows is within its range.
use Rattle.std.proofs.Common.{◌≡◌, ℕ, ◌<◌, ◌≤◌, ◌^◌, pos, negsuc, Bool, true, false, nat_lt, if◌then◌else◌, ltb, is_gt, is_lt, refl, sym, ap, subst, ◌∙◌, true≢false, arith}
use Rattle.std.proofs.lemmas.Bool.Decides.{nat_tests}
use Rattle.std.proofs.lemmas.Grind.{common_steps}
use Rattle.std.proofs.lemmas.Int.{ints}
use Rattle.sqlite_value.specs.declared.value.Value.{Value}
use Rattle.sqlite_value.specs.declared.value.Value.TheVariants.{Null, Int, Real, Text, Blob}
use Rattle.sqlite_value.specs.declared.keys.Collation.TheVariants.{Binary}
use Rattle.sqlite_value.proofs.OrderLemmas.{value_cmp-Int}
use Rattle.sqlite_sql.specs.declared.ops.BinaryOp.TheVariants.{Compare}
use Rattle.sqlite_sql.specs.declared.ops.CompareOp.TheVariants.{Gt, Lt}
use Rattle.sqlite_sql.specs.Ops.{binary, is_true}
use Rattle.sqlite_trees.specs.View.{is_int}
use Rattle.house_rows.specs.Fits.{IsWithin}
use Rattle.store_rows.specs.Rows.{number_in}
use Rattle.store_rows.proofs.RowLemmas.{small, truth_back}

above_is : (k n : ℕ) → is_true (binary (Compare Gt Binary) (Int (pos k)) (Int (pos n))) ≡ ltb n k
unfolding binary
above_is k n = truth_back _ ∙ ap is_gt (value_cmp-Int (pos k) (pos n)) ∙ grind (arith, ints, common_steps)

below_is : (m : ℕ) → is_true (binary (Compare Lt Binary) (Int (negsuc m)) (Int (pos 1))) ≡ true
unfolding binary
below_is m = truth_back _ ∙ ap is_lt (value_cmp-Int (negsuc m) (pos 1)) ∙ grind (arith, ints, common_steps)

less_is : (k : ℕ) → is_true (binary (Compare Lt Binary) (Int (pos k)) (Int (pos 1))) ≡ ltb k 1
unfolding binary
less_is k = truth_back _ ∙ ap is_lt (value_cmp-Int (pos k) (pos 1)) ∙ grind (arith, ints, common_steps)

not_above : (k n : ℕ) → ltb n k ≡ false → k ≤ n
not_above k n h = grind (arith, nat_tests)

not_less : (k : ℕ) → ltb k 1 ≡ false → 1 ≤ k
not_less k h = grind (arith, nat_tests)

-- a number that is neither below 1 nor above n is from 1 to n
pub number_within : (v : Value) (n : ℕ) → n < 2 ^ 32 → is_int v ≡ true → is_true (binary (Compare Lt Binary) v (Int (pos 1))) ≡ false → is_true (binary (Compare Gt Binary) v (Int (pos n))) ≡ false → IsWithin 1 n (number_in v)
number_within (Int (pos k)) n low is below above =
    let few = not_above k n (sym (above_is k n) ∙ above) in
    let some = not_less k (sym (less_is k) ∙ below) in
    subst (IsWithin 1 n) (sym (small k (omega arith))) (some, few)
number_within (Int (negsuc m)) n low is below above = absurd (true≢false (sym (below_is m) ∙ below))
number_within Null n low is below above = absurd (true≢false (sym is))
number_within (Real x) n low is below above = absurd (true≢false (sym is))
number_within (Text x) n low is below above = absurd (true≢false (sym is))
number_within (Blob x) n low is below above = absurd (true≢false (sym is))

-- a number of at most n is the one that is stored
stored_is : (k n : ℕ) → n < 2 ^ 32 → number_in (Int (pos k)) ≤ n → number_in (Int (pos k)) ≡ k
stored_is k n low few = go (nat_lt k (2 ^ 32)) few
  where
    go : (b : Bool) → (if b then k else 2 ^ 64) ≤ n → (if b then k else 2 ^ 64) ≡ k
    go true few = refl
    go false few = absurd (omega (arith, few, low))

at_least : (k : ℕ) → 1 ≤ k → ltb k 1 ≡ false
at_least k h = grind (arith, nat_tests)

at_most : (k n : ℕ) → k ≤ n → ltb n k ≡ false
at_most k n h = grind (arith, nat_tests)

-- a number from 1 to n is neither below 1 nor above n
pub number_between : (v : Value) (n : ℕ) → n < 2 ^ 32 → IsWithin 1 n (number_in v)
    → (is_true (binary (Compare Lt Binary) v (Int (pos 1))) ≡ false) × (is_true (binary (Compare Gt Binary) v (Int (pos n))) ≡ false)
number_between (Int (pos k)) n low between =
    let is = stored_is k n low between.1 in
    (less_is k ∙ at_least k (subst (λ m. 1 ≤ m) is between.0), above_is k n ∙ at_most k n (subst (λ m. m ≤ n) is between.1))
number_between (Int (negsuc m)) n low between = absurd (omega (arith, low, between.1))
number_between Null n low between = absurd (omega (arith, low, between.1))
number_between (Real x) n low between = absurd (omega (arith, low, between.1))
number_between (Text x) n low between = absurd (omega (arith, low, between.1))
number_between (Blob x) n low between = absurd (omega (arith, low, between.1))
