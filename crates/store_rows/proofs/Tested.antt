-- Tests, as SQL makes them and as lists do.
use Rattle.std.proofs.Common.{◌≡◌, ℕ, zero, suc, Bool, true, false, not, ◌&&◌, List, [], ◌∷◌, filter, take, cond, refl, ap, sym, ◌∙◌}
use Rattle.std.specs.List.{AllByRecursion}
use Rattle.std.specs.Prelude.{is_some}
use Rattle.sqlite_value.specs.declared.value.Value.{Value}
use Rattle.sqlite_value.specs.declared.value.Value.TheVariants.{Null, Int, Real, Text, Blob}
use Rattle.sqlite_value.specs.declared.keys.Collation.TheVariants.{Binary}
use Rattle.sqlite_value.proofs.OrderLemmas.{value_cmp-Null, value_cmp-apart}
use Rattle.sqlite_sql.specs.declared.ops.BinaryOp.TheVariants.{Is}
use Rattle.sqlite_sql.specs.declared.ops.UnaryOp.TheVariants.{Not}
use Rattle.sqlite_sql.specs.Ops.{binary, unary, is_true}
use Rattle.sqlite_keyed.proofs.ListLemmas.{filter_same}
use Rattle.store_rows.specs.Rows.{maybe_text_in}

-- IS NULL of a text that may be missing
pub is_missing : (v : Value) → is_true (binary (Is Binary) v Null) ≡ not (is_some (maybe_text_in v))
unfolding binary
is_missing Null = rw value_cmp-Null refl
is_missing (Int n) = rw (value_cmp-apart (Int n) Null (λ e. absurd (let h = e in cc))) refl
is_missing (Real x) = rw (value_cmp-apart (Real x) Null (λ e. absurd (let h = e in cc))) refl
is_missing (Text t) = rw (value_cmp-apart (Text t) Null (λ e. absurd (let h = e in cc))) refl
is_missing (Blob b) = rw (value_cmp-apart (Blob b) Null (λ e. absurd (let h = e in cc))) refl

-- and IS NOT NULL
pub is_there : (v : Value) → is_true (unary Not (binary (Is Binary) v Null)) ≡ is_some (maybe_text_in v)
unfolding binary unary
is_there Null = rw value_cmp-Null refl
is_there (Int n) = rw (value_cmp-apart (Int n) Null (λ e. absurd (let h = e in cc))) refl
is_there (Real x) = rw (value_cmp-apart (Real x) Null (λ e. absurd (let h = e in cc))) refl
is_there (Text t) = rw (value_cmp-apart (Text t) Null (λ e. absurd (let h = e in cc))) refl
is_there (Blob b) = rw (value_cmp-apart (Blob b) Null (λ e. absurd (let h = e in cc))) refl

-- two filters are one by both tests
pub filter_both : {A : Type 0} (p q : A → Bool) (xs : List A) → filter q (filter p xs) ≡ filter (λ x. p x && q x) xs
filter_both p q [] = refl
filter_both {A} p q (x ∷ xs) = go (p x) (filter_both p q xs)
  where
    go : (b : Bool) → filter q (filter p xs) ≡ filter (λ y. p y && q y) xs
        → filter q (cond b (x ∷ filter p xs) (filter p xs)) ≡ cond (b && q x) (x ∷ filter (λ y. p y && q y) xs) (filter (λ y. p y && q y) xs)
    go true e = ap (λ l. cond (q x) (x ∷ l) l) e
    go false e = e

regrouped : (a b d : Bool) → ((a && b) && d) ≡ (b && (a && d))
regrouped true true d = refl
regrouped true false d = refl
regrouped false true d = refl
regrouped false false d = refl

-- the middle test of three first
pub filter_regrouped : {A : Type 0} (p q s : A → Bool) (xs : List A) → filter s (filter (λ x. p x && q x) xs) ≡ filter (λ x. p x && s x) (filter q xs)
filter_regrouped p q s xs =
    filter_both (λ x. p x && q x) s xs ∙ filter_same (λ x. (p x && q x) && s x) (λ x. q x && (p x && s x)) (λ x. regrouped (p x) (q x) (s x)) xs ∙ sym (filter_both q (λ x. p x && s x) xs)

pub all-take : {A : Type 0} (P : A → Type 0) (n : ℕ) (xs : List A) → AllByRecursion P xs → AllByRecursion P (take n xs)
all-take P zero xs all = tt
all-take P (suc n) [] all = tt
all-take P (suc n) (x ∷ xs) all = (all.0, all-take P n xs all.1)
