-- Comparisons of numbers and of rowids.
use Rattle.std.proofs.Common.{◌≡◌, ◌<◌, ◌^◌, ℕ, pos, ◌<ℤ◌, Bool, true, false, ◌&&◌, refl, sym, ap, ◌∙◌, arith, true≢false}
use Rattle.sqlite_value.specs.declared.value.Value.{Value}
use Rattle.sqlite_value.specs.declared.value.Value.TheVariants.{Null, Int, Real, Text, Blob}
use Rattle.sqlite_value.specs.declared.keys.Collation.TheVariants.{Binary}
use Rattle.sqlite_value.proofs.OrderLemmas.{value_cmp-Int}
use Rattle.sqlite_sql.specs.declared.ops.BinaryOp.TheVariants.{Compare}
use Rattle.sqlite_sql.specs.declared.ops.CompareOp.TheVariants.{Eq, Ne}
use Rattle.sqlite_sql.specs.Ops.{binary, is_true, test}
use Rattle.sqlite_trees.specs.View.{is_int}
use Rattle.sqlite_rules.specs.Edit.{id_in}
use Rattle.sqlite_schema.specs.Rules.{differ}
use Rattle.sqlite_keyed.proofs.KeyedLemmas.{Less-from_lt}
use Rattle.store_rows.proofs.RowLemmas.{equals_number, report_equal, truth_back}

pub both_true : (a b : Bool) → a ≡ true → b ≡ true → (a && b) ≡ true
both_true true b e f = f
both_true false b e f = absurd (true≢false (sym e))

-- rowids that rise differ
pub differs : (v w : Value) → is_int v ≡ true → is_int w ≡ true → id_in v <ℤ id_in w → differ v w ≡ true
unfolding binary
differs (Int a) (Int b) p q less = truth_back _ ∙ ap (λ o. test Ne o) (value_cmp-Int a b ∙ Less-from_lt a b less)
differs (Int a) Null p q less = absurd (true≢false (sym q))
differs (Int a) (Real x) p q less = absurd (true≢false (sym q))
differs (Int a) (Text x) p q less = absurd (true≢false (sym q))
differs (Int a) (Blob x) p q less = absurd (true≢false (sym q))
differs Null w p q less = absurd (true≢false (sym p))
differs (Real x) w p q less = absurd (true≢false (sym p))
differs (Text x) w p q less = absurd (true≢false (sym p))
differs (Blob x) w p q less = absurd (true≢false (sym p))

-- a number equals itself
pub self_equal : (n : ℕ) → n < 2 ^ 32 → is_true (binary (Compare Eq Binary) (Int (pos n)) (Int (pos n))) ≡ true
self_equal n low = equals_number (Int (pos n)) n refl low ∙ report_equal n n low ∙ grind arith
