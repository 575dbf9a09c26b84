-- What the columns of a strict table hold.
use Rattle.std.proofs.Common.{◌≡◌, ℕ, ◌+◌, Bool, true, false, not, ◌||◌, cond, List, [], ◌∷◌, drop, Option, refl, sym, subst, true≢false}
use Rattle.std.specs.List.{AllByRecursion}
use Rattle.sqlite_value.specs.declared.value.Value.{Value}
use Rattle.sqlite_value.specs.Order.{Row, column}
use Rattle.sqlite_sql.specs.Ops.{is_null}
use Rattle.sqlite_schema.specs.Names.{is_key}
use Rattle.sqlite_schema.specs.Rules.{are_typed, are_present, is_of, suits}
use Rattle.sqlite_schema.specs.declared.schema.Column.{Column}
use Rattle.sqlite_keyed.proofs.RuleLemmas.{first_of_both, second_of_both}
use Rattle.store_rows.proofs.Update.{IsStrict, column_drop, drop_one}

-- each column but the key has a value of its kind, from `at` on
abbrev Typed : Option ℕ → ℕ → List Column → List Value → Type 0
Typed key at [] vs = Unit {0}
Typed key at (c ∷ cs) vs = (is_key key at ≡ false → is_of c.kind (column vs 0) ≡ true) × Typed key (at + 1) cs (drop 1 vs)

typed_all : (key : Option ℕ) (at : ℕ) (cs : List Column) (vs : List Value) → AllByRecursion IsStrict cs → are_typed key at cs vs ≡ true → Typed key at cs vs
typed_all key at [] vs all h = tt
typed_all key at (c ∷ cs) [] all h = ((λ other. refl), typed_all key (at + 1) cs [] all.1 (second_of_both _ _ h))
typed_all key at (c ∷ cs) (v ∷ vs) all h = (go (is_key key at) c v all.0 (first_of_both _ _ h), typed_all key (at + 1) cs vs all.1 (second_of_both _ _ h))
  where
    go : (b : Bool) (c : Column) (v : Value) → IsStrict c → cond b (is_null v) (suits c v) ≡ true → b ≡ false → is_of c.kind v ≡ true
    go true c v strict h e = absurd (true≢false e)
    go false c v strict h e = rw strict.0 at h

-- and in the whole row, one that is there where NOT NULL says so
abbrev pub Holds : Option ℕ → ℕ → List Column → Row → Type 0
Holds key at [] r = Unit {0}
Holds key at (c ∷ cs) r = (is_key key at ≡ false → c.not_null ≡ true → (is_of c.kind (column r (at + 1)) ≡ true) × (not (is_null (column r (at + 1))) ≡ true)) × Holds key (at + 1) cs r

holds : (key : Option ℕ) (at : ℕ) (cs : List Column) (r : Row) → Typed key at cs (drop (at + 1) r) → are_present key at cs r ≡ true → Holds key at cs r
holds key at [] r t p = tt
holds key at (c ∷ cs) r t p = (
  (λ other present. (subst (λ v. is_of c.kind v ≡ true) (column_drop (at + 1) r) (t.0 other), go (is_key key at) c.not_null (not (is_null (column r (at + 1)))) (first_of_both _ _ p) other present)),
  holds key (at + 1) cs r (subst (Typed key (at + 1) cs) (drop_one (at + 1) r) t.1) (second_of_both _ _ p),
)
  where
    go : (a b x : Bool) → (a || not b || x) ≡ true → a ≡ false → b ≡ true → x ≡ true
    go true b x h e f = absurd (true≢false e)
    go false true x h e f = h
    go false false x h e f = absurd (true≢false (sym f))

pub holds_all : (key : Option ℕ) (cs : List Column) (r : Row) → AllByRecursion IsStrict cs → are_typed key 0 cs (drop 1 r) ≡ true → are_present key 0 cs r ≡ true → Holds key 0 cs r
holds_all key cs r strict typed present = holds key 0 cs r (typed_all key 0 cs (drop 1 r) strict typed) present
