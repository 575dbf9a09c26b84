-- SQL's comparisons of numbers by their order.
use Rattle.std.proofs.Common.{◌≡◌, ℕ, ◌^◌, ◌<◌, pos, negsuc, Bool, true, false, ◌&&◌, cond, nat_le, nat_lt, refl, sym, arith, true≢false}
use Rattle.std.specs.Ordering.{is_ge, is_le}
use Rattle.std.proofs.lemmas.Int.{ints}
use Rattle.std.proofs.lemmas.Grind.{common_steps}
use Rattle.sqlite_value.specs.declared.value.Value.{Value}
use Rattle.sqlite_value.specs.declared.value.Value.TheVariants.{Null, Int, Real, Text, Blob}
use Rattle.sqlite_value.specs.declared.keys.Collation.TheVariants.{Binary}
use Rattle.sqlite_value.specs.Order.{value_cmp}
use Rattle.sqlite_value.proofs.OrderLemmas.{value_cmp-Int}
use Rattle.sqlite_sql.specs.declared.ops.BinaryOp.TheVariants.{Compare}
use Rattle.sqlite_sql.specs.declared.ops.CompareOp.TheVariants.{Eq, Ge, Le}
use Rattle.sqlite_sql.specs.Ops.{binary, is_true}
use Rattle.sqlite_trees.specs.View.{is_int}
use Rattle.sqlite_schema.specs.Rules.{is_of}
use Rattle.sqlite_schema.specs.declared.schema.Kind.TheVariants as kind
use Rattle.proxy.specs.Bids.{is_leader}
use Rattle.store_rows.specs.Rows.{number_in, is_rating, maybe_number_in}
use Rattle.store_rows.proofs.RowLemmas.{equals_number, truth_back}

-- from -1 to 1 are the ratings
pub rated : (v : Value) → is_int v ≡ true → (is_true (binary (Compare Ge Binary) v (Int (negsuc 0))) && is_true (binary (Compare Le Binary) v (Int (pos 1)))) ≡ is_rating v
unfolding binary
rated Null is = absurd (true≢false (sym is))
rated (Int n) is = rw (truth_back (is_ge (value_cmp (Int n) (Int (negsuc 0)))), truth_back (is_le (value_cmp (Int n) (Int (pos 1)))), value_cmp-Int n (negsuc 0), value_cmp-Int n (pos 1)) (grind (arith, ints, common_steps))
rated (Real x) is = absurd (true≢false (sym is))
rated (Text t) is = absurd (true≢false (sym is))
rated (Blob b) is = absurd (true≢false (sym is))

-- what is reported is at most a number of ours just where the number is
report_at_most : (m n : ℕ) → n < 2 ^ 32 → nat_le (number_in (Int (pos m))) n ≡ nat_le m n
report_at_most m n low = go (nat_lt m (2 ^ 32)) refl
  where
    go : (b : Bool) → nat_lt m (2 ^ 32) ≡ b → nat_le (cond b m (2 ^ 64)) n ≡ nat_le m n
    go true e = refl
    go false e = grind arith

-- from 0 to a number of ours
pub within : (v : Value) (n : ℕ) → is_int v ≡ true → n < 2 ^ 32 → (is_true (binary (Compare Ge Binary) v (Int (pos 0))) && is_true (binary (Compare Le Binary) v (Int (pos n)))) ≡ nat_le (number_in v) n
unfolding binary
within Null n is low = absurd (true≢false (sym is))
within (Int (pos m)) n is low = rw (truth_back (is_ge (value_cmp (Int (pos m)) (Int (pos 0)))), truth_back (is_le (value_cmp (Int (pos m)) (Int (pos n)))), value_cmp-Int (pos m) (pos 0), value_cmp-Int (pos m) (pos n), report_at_most m n low) (grind (arith, ints, common_steps))
within (Int (negsuc m)) n is low = rw (truth_back (is_ge (value_cmp (Int (negsuc m)) (Int (pos 0)))), value_cmp-Int (negsuc m) (pos 0)) (grind (arith, common_steps))
within (Real x) n is low = absurd (true≢false (sym is))
within (Text t) n is low = absurd (true≢false (sym is))
within (Blob b) n is low = absurd (true≢false (sym is))

-- = of a column that may be NULL
pub equals_maybe : (v : Value) (n : ℕ) → is_of kind.Integer v ≡ true → n < 2 ^ 32 → is_true (binary (Compare Eq Binary) v (Int (pos n))) ≡ is_leader (maybe_number_in v) n
unfolding binary
equals_maybe Null n is low = refl
equals_maybe (Int m) n is low = equals_number (Int m) n refl low
equals_maybe (Real x) n is low = absurd (true≢false (sym is))
equals_maybe (Text t) n is low = absurd (true≢false (sym is))
equals_maybe (Blob b) n is low = absurd (true≢false (sym is))
