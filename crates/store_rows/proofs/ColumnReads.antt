-- Which columns read as a text.
use Rattle.std.proofs.Common.{◌≡◌, ◌≢◌, ◌⊎◌, inl, inr, ℕ, suc, zero, ◌<◌, ◌≤◌, ◌^◌, pos, negsuc, cond, Bool, true, false, nat_lt, List, [], ◌∷◌, length, IfSome, refl, sym, ap, ◌∙◌, arith, IsUtf8, Option, Some, None, option_map, MatchOption, String, string_bytes}
use Rattle.std.proofs.lemmas.Str.{IsUtf8-from_is_utf8, IsUtf8-string_bytes}
use Rattle.std.specs.Str.{is_utf8}
use Rattle.sqlite_value.specs.declared.value.Value.{Value}
use Rattle.sqlite_value.specs.declared.value.Value.TheVariants.{Null, Int, Real, Text, Blob}
use Rattle.sqlite_value.specs.Order.{Row, column}
use Rattle.store_rows.specs.Rows.{maybe_text_in, no_text, number_in, text_in}
use Rattle.store_rows.proofs.RowLemmas.{small}
use Rattle.store_rows.proofs.TextLemmas.{text_back}

-- past the end there is nothing
past : (r : Row) (at : ℕ) → length r ≤ at → column r at ≡ Null
past [] at h = refl
past (v ∷ r) zero h = absurd (omega (arith, h))
past (v ∷ r) (suc at) h = past r at (omega (arith, h))

under : (a b : ℕ) → nat_lt a b ≡ true → a < b
under a b h = grind arith

over : (a b : ℕ) → nat_lt a b ≡ false → b ≤ a
over a b h = grind arith

-- a column that is not NULL is within the row
pub within : (r : Row) (at : ℕ) → column r at ≢ Null → at < length r
within r at there = go (nat_lt at (length r)) refl
  where
    go : (b : Bool) → nat_lt at (length r) ≡ b → at < length r
    go true e = under at (length r) e
    go false e = absurd (there (past r at (over at (length r) e)))

abbrev pub IsSomeText : Value → Type 0
IsSomeText v = (t : List ℕ) × (v ≡ Text t) × IsUtf8 t

is_text : (v : Value) → text_in v ≢ no_text → IsSomeText v
is_text (Text t) there = go (is_utf8 t) refl
  where
    go : (b : Bool) → is_utf8 t ≡ b → IsSomeText (Text t)
    go true e = (t, refl, IsUtf8-from_is_utf8 t e)
    go false e = absurd (there (rw e refl))
is_text (Int n) there = absurd (there refl)
is_text Null there = absurd (there refl)
is_text (Real x) there = absurd (there refl)
is_text (Blob b) there = absurd (there refl)

pub text_there : (r : Row) (at : ℕ) → text_in (column r at) ≢ no_text → (at < length r) × IsSomeText (column r at)
text_there r at there = (within r at (λ none. there (ap text_in none)), is_text (column r at) there)

pub maybe_text_there : (v : Value) → IfSome (maybe_text_in v) (λ t. t ≢ no_text) → (v ≡ Null) ⊎ IsSomeText v
maybe_text_there Null there = inl refl
maybe_text_there (Int n) there = absurd (there refl)
maybe_text_there (Real x) there = absurd (there refl)
maybe_text_there (Text t) there = inr (is_text (Text t) there)
maybe_text_there (Blob b) there = absurd (there refl)

-- what is read from a column that may be NULL
pub maybe_reported : {Z : Type 0} (v : Value) (o : Option (String Z)) → MatchOption o (v ≡ Null) (λ s. (v ≢ Null) × (v ≡ Text (string_bytes s))) → option_map string_bytes o ≡ maybe_text_in v
maybe_reported v None h = sym (ap maybe_text_in h)
maybe_reported v (Some s) h = sym (ap maybe_text_in h.1 ∙ ap Some (text_back _ (IsUtf8-string_bytes s)))

-- ---- numbers

abbrev pub IsNumber : Value → Type 0
IsNumber v = (n : ℕ) × (v ≡ Int (pos n)) × (n < 2 ^ 32)

-- a number is reported as it is read
pub number_reported : (v : Value) (n : ℕ) → v ≡ Int (pos n) → n < 2 ^ 32 → n ≡ number_in v
number_reported v n is low = sym (ap number_in is ∙ small n low)

-- what is reported as a number of 32 bits is one
pub is_number : (v : Value) → number_in v < 2 ^ 32 → IsNumber v
is_number (Int (pos n)) low = (n, refl, go (nat_lt n (2 ^ 32)) refl low)
  where
    go : (b : Bool) → nat_lt n (2 ^ 32) ≡ b → cond b n (2 ^ 64) < 2 ^ 32 → n < 2 ^ 32
    go true e h = h
    go false e h = absurd (omega (arith, h))
is_number (Int (negsuc n)) low = absurd (omega (arith, low))
is_number Null low = absurd (omega (arith, low))
is_number (Real x) low = absurd (omega (arith, low))
is_number (Text x) low = absurd (omega (arith, low))
is_number (Blob x) low = absurd (omega (arith, low))
