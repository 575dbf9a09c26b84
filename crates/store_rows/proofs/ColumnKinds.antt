-- The kinds of the columns of a strict table, also of those that may be NULL.
use Rattle.std.proofs.Common.{◌≡◌, ◌+◌, ℕ, Bool, true, false, cond, List, [], ◌∷◌, drop, Option, refl, subst, true≢false}
use Rattle.std.specs.List.{AllByRecursion}
use Rattle.sqlite_value.specs.Order.{Row, column}
use Rattle.sqlite_sql.specs.Ops.{is_null}
use Rattle.sqlite_schema.specs.Names.{is_key}
use Rattle.sqlite_schema.specs.Rules.{are_typed, is_of, suits}
use Rattle.sqlite_schema.specs.declared.schema.Column.{Column}
use Rattle.sqlite_keyed.proofs.RuleLemmas.{first_of_both, second_of_both}
use Rattle.store_rows.proofs.Update.{IsStrict, column_drop, drop_one}

-- each column but the key, from a place on
abbrev pub OfKinds : Option ℕ → ℕ → List Column → Row → Type 0
OfKinds key at [] r = Unit {0}
OfKinds key at (c ∷ cs) r = (is_key key at ≡ false → is_of c.kind (column r (at + 1)) ≡ true) × OfKinds key (at + 1) cs r

head_kind : (key : Option ℕ) (at : ℕ) (c : Column) (cs : List Column) (vs : Row) → IsStrict c → are_typed key at (c ∷ cs) vs ≡ true → is_key key at ≡ false → is_of c.kind (column vs 0) ≡ true
head_kind key at c cs [] strict typed other = refl
head_kind key at c cs (v ∷ vs) strict typed other = go (is_key key at) (first_of_both _ _ typed) other
  where
    go : (b : Bool) → cond b (is_null v) (suits c v) ≡ true → b ≡ false → is_of c.kind v ≡ true
    go true h e = absurd (true≢false e)
    go false h e = rw strict.0 at h

rest_typed : (key : Option ℕ) (at : ℕ) (c : Column) (cs : List Column) (vs : Row) → are_typed key at (c ∷ cs) vs ≡ true → are_typed key (at + 1) cs (drop 1 vs) ≡ true
rest_typed key at c cs [] typed = second_of_both _ _ typed
rest_typed key at c cs (v ∷ vs) typed = second_of_both _ _ typed

of_kinds : (key : Option ℕ) (at : ℕ) (cs : List Column) (r : Row) → AllByRecursion IsStrict cs → are_typed key at cs (drop (at + 1) r) ≡ true → OfKinds key at cs r
of_kinds key at [] r strict typed = tt
of_kinds key at (c ∷ cs) r strict typed = (
  (λ other. subst (λ v. is_of c.kind v ≡ true) (column_drop (at + 1) r) (head_kind key at c cs (drop (at + 1) r) strict.0 typed other)),
  of_kinds key (at + 1) cs r strict.1 (subst (λ vs. are_typed key (at + 1) cs vs ≡ true) (drop_one (at + 1) r) (rest_typed key at c cs (drop (at + 1) r) typed)),
)

pub kinds_of : (key : Option ℕ) (cs : List Column) (r : Row) → AllByRecursion IsStrict cs → are_typed key 0 cs (drop 1 r) ≡ true → OfKinds key 0 cs r
kinds_of key cs r strict typed = of_kinds key 0 cs r strict typed
