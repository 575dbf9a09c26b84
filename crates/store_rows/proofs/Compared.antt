-- Columns of numbers, as SQL compares them.
use Rattle.std.proofs.Common.{◌≡◌, ℕ, ◌^◌, ◌<◌, pos, negsuc, Bool, true, false, not, cond, ◌&&◌, refl, sym, ap, ◌∙◌, arith, true≢false}
use Rattle.std.specs.Prelude.{nat_le, nat_lt}
use Rattle.std.specs.Ordering.{int_cmp, is_ge, is_lt}
use Rattle.std.proofs.lemmas.Bool.Decides.{nat_tests}
use Rattle.std.proofs.lemmas.Int.{ints}
use Rattle.std.proofs.lemmas.Grind.{common_steps}
use Rattle.sqlite_value.specs.declared.value.Value.{Value}
use Rattle.sqlite_value.specs.declared.value.Value.TheVariants.{Null, Int, Real, Text, Blob}
use Rattle.sqlite_value.specs.declared.keys.Collation.TheVariants.{Binary}
use Rattle.sqlite_value.proofs.OrderLemmas.{value_cmp-Int}
use Rattle.sqlite_sql.specs.declared.ops.BinaryOp.TheVariants.{Compare}
use Rattle.sqlite_sql.specs.declared.ops.CompareOp.TheVariants.{Ge, Lt}
use Rattle.sqlite_sql.specs.Ops.{binary, is_true}
use Rattle.sqlite_trees.specs.View.{is_int}
use Rattle.store_rows.specs.Rows.{number_in}
use Rattle.store_rows.proofs.ByKey.{number_is}
use Rattle.store_rows.proofs.RowLemmas.{truth_back}

abbrev pub is_negative : Value → Bool
is_negative (Int (negsuc n)) = true
is_negative _ = false

pub report_at_least : (m n : ℕ) → n < 2 ^ 32 → nat_le n (number_in (Int (pos m))) ≡ nat_le n m
report_at_least m n low = go (nat_lt m (2 ^ 32)) refl
  where
    go : (b : Bool) → nat_lt m (2 ^ 32) ≡ b → nat_le n (cond b m (2 ^ 64)) ≡ nat_le n m
    go true e = refl
    go false e = grind (arith, nat_tests)

compares : (m n : ℕ) → is_ge (int_cmp (pos m) (pos n)) ≡ nat_le n m
compares m n = grind (arith, ints, common_steps, nat_tests)

-- >= a number
pub at_least : (v : Value) (n : ℕ) → is_int v ≡ true → n < 2 ^ 32 → is_true (binary (Compare Ge Binary) v (Int (pos n))) ≡ (not (is_negative v) && nat_le n (number_in v))
unfolding binary
at_least Null n is low = absurd (true≢false (sym is))
at_least (Int (pos m)) n is low = truth_back _ ∙ ap is_ge (value_cmp-Int (pos m) (pos n)) ∙ compares m n ∙ sym (report_at_least m n low)
at_least (Int (negsuc m)) n is low = truth_back _ ∙ ap is_ge (value_cmp-Int (negsuc m) (pos n)) ∙ grind (arith, ints, common_steps, nat_tests)
at_least (Real x) n is low = absurd (true≢false (sym is))
at_least (Text t) n is low = absurd (true≢false (sym is))
at_least (Blob b) n is low = absurd (true≢false (sym is))

-- < 0
pub below_zero : (v : Value) → is_int v ≡ true → is_true (binary (Compare Lt Binary) v (Int (pos 0))) ≡ is_negative v
unfolding binary
below_zero Null is = absurd (true≢false (sym is))
below_zero (Int (pos m)) is = truth_back _ ∙ ap is_lt (value_cmp-Int (pos m) (pos 0)) ∙ grind (arith, ints, common_steps)
below_zero (Int (negsuc m)) is = truth_back _ ∙ ap is_lt (value_cmp-Int (negsuc m) (pos 0)) ∙ grind (arith, ints, common_steps)
below_zero (Real x) is = absurd (true≢false (sym is))
below_zero (Text t) is = absurd (true≢false (sym is))
below_zero (Blob b) is = absurd (true≢false (sym is))

-- what fits is not negative
pub fits_not_negative : (v : Value) → number_in v < 2 ^ 32 → is_negative v ≡ false
fits_not_negative v low = ap is_negative (number_is v low)

-- the test of a list: no stray has the key, so WHERE decides as the numbers do
pub without_strays : (here negative over : Bool) → (here && negative) ≡ false → (here && (not negative && over)) ≡ (here && over)
without_strays true negative over none = rw none refl
without_strays false negative over none = refl
