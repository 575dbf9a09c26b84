-- Numbers that may be missing, as columns have them.
use Rattle.std.proofs.Common.{◌≡◌, ◌<◌, ◌^◌, ℕ, pos, true, Option, Some, None, IfSome, refl, sym, ap, true≢false}
use Rattle.sqlite_value.specs.declared.value.Value.{Value}
use Rattle.sqlite_value.specs.declared.value.Value.TheVariants.{Null, Int, Real, Text, Blob}
use Rattle.sqlite_trees.specs.View.{is_int}
use Rattle.sqlite_schema.specs.declared.schema.Kind.TheVariants as kind
use Rattle.sqlite_rules.specs.Cast.{cast}
use Rattle.sqlite.specs.Values.{or_null, bound_value}
use Rattle.store_rows.specs.Rows.{number_in, maybe_number_in}
use Rattle.store_rows.proofs.Insert.{cast_int, cast_null}
use Rattle.store_rows.proofs.RowLemmas.{small}

-- as a parameter has it
abbrev pub stored_maybe : Option ℕ → Value
stored_maybe = or_null (λ n. Int (pos n))

pub bound_maybe : (o : Option ℕ) → bound_value (stored_maybe o) ≡ stored_maybe o
bound_maybe None = refl
bound_maybe (Some n) = refl

pub cast_maybe : (o : Option ℕ) → cast kind.Integer (stored_maybe o) ≡ stored_maybe o
cast_maybe None = cast_null
cast_maybe (Some n) = cast_int (pos n)

-- none, or a number of 32 bits
abbrev pub IsSmall : Option ℕ → Type 0
IsSmall o = IfSome o (λ n. n < 2 ^ 32)

pub maybe_back : (o : Option ℕ) → IsSmall o → maybe_number_in (stored_maybe o) ≡ o
maybe_back None low = refl
maybe_back (Some n) low = ap Some (small n low)

pub present_number : (v : Value) → is_int v ≡ true → maybe_number_in v ≡ Some (number_in v)
present_number Null h = absurd (true≢false (sym h))
present_number (Int n) h = refl
present_number (Real x) h = absurd (true≢false (sym h))
present_number (Text x) h = absurd (true≢false (sym h))
present_number (Blob x) h = absurd (true≢false (sym h))
