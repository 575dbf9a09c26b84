-- The stored keys are apart, by UNIQUE.
use Rattle.std.proofs.Common.{◌≡◌, ◌<◌, ◌<ℤ◌, ◌^◌, ℕ, pos, Bool, true, false, not, ◌&&◌, List, [], ◌∷◌, filter, refl, sym, ap, ◌∙◌, inl, inr, IsTrue, true≢false}
use Rattle.std.specs.List.{AllByRecursion}
use Rattle.sqlite_value.specs.declared.value.Value.TheVariants.{Int}
use Rattle.sqlite_value.specs.Keys as keys
use Rattle.sqlite_value.specs.Keys.{first_key}
use Rattle.sqlite_value.specs.Order.{Row, column}
use Rattle.sqlite_trees.specs.Tree.{rowid, IsAscending}
use Rattle.sqlite_trees.specs.View.{is_int, IsShaped}
use Rattle.sqlite_trees.specs.declared.store.Shape.TheVariants.{Table}
use Rattle.sqlite_rules.specs.Lists.{Has}
use Rattle.sqlite_rules.proofs.ListLemmas.{some_from, all_from, all_has, has_filtered}
use Rattle.sqlite_schema.specs.Rules.{agree, clashes, differ}
use Rattle.sqlite_keyed.proofs.ListLemmas.{all_both, ascending-filter}
use Rattle.house_rows.specs.History.{Key}
use Rattle.house_rows.proofs.Put.{by_test}
use Rattle.list_rows.specs.Blocks.{same_key}
use Rattle.store_rows.proofs.RowLemmas.{row_key, keyed}
use Rattle.store_rows.proofs.Comparing.{both_true, differs, self_equal}
use Rattle.store_rows.proofs.Sorting.{AreApart}

pub agree_two : (r s : Row) (a b : ℕ) → a < 2 ^ 32 → b < 2 ^ 32 → column r 1 ≡ Int (pos a) → column r 2 ≡ Int (pos b) → column s 1 ≡ Int (pos a) → column s 2 ≡ Int (pos b)
    → agree keys.plain (1 ∷ 2 ∷ []) r (1 ∷ 2 ∷ []) s ≡ true
unfolding first_key
agree_two r s a b low small r1 r2 s1 s2 = rw (r1, r2, s1, s2, self_equal a low, self_equal b small) refl

-- a relation along a list, at elements of which a fact is known
pub ascending_on : {X : Type 0} (P : X → Type 0) (R S : X → X → Type 0) → ((a b : X) → P a → P b → R a b → S a b) → (xs : List X) → AllByRecursion P xs → IsAscending R xs → IsAscending S xs
ascending_on P R S f [] all up = tt
ascending_on P R S f (x ∷ xs) all up = (all_both P (R x) (S x) (λ y there rises. f x y all.0 there rises) xs all.1 up.0, ascending_on P R S f xs all.1 up.1)

-- rows that fit and have equal keys agree in the columns of the key, so there is one of them
module _ {T : Type 0} (key : T → Key) (inside : Row → T) (places : List ℕ) (Fits : Row → Type 0)
    (agrees : (r s : Row) → Fits r → Fits s → same_key (key (inside r)) (key (inside s)) ≡ true → agree keys.plain places r places s ≡ true)
    (rows : List Row) (shaped : IsShaped Table rows) (unique : AllByRecursion (λ s. not (clashes keys.plain places rows s) ≡ true) rows) where
  abbrev IsThere : Row → Type 0
  IsThere r = Has rows r × Fits r

  no_other : (r s : Row) → IsThere r → IsThere s → row_key r <ℤ row_key s → same_key (key (inside r)) (key (inside s)) ≡ false
  no_other r s r_is s_is rises =
      elim (by_test (same_key (key (inside r)) (key (inside s)))) [
        | inr apart ↦ apart
        | inl same ↦ (let r_int = all_has (λ x. IsTrue (is_int (rowid x))) rows r shaped.1 r_is.0 in
            let s_int = all_has (λ x. IsTrue (is_int (rowid x))) rows s shaped.1 s_is.0 in
            let both = both_true _ _ (agrees r s r_is.1 s_is.1 same) (differs (rowid r) (rowid s) r_int s_int rises) in
            let some = some_from (λ other. agree keys.plain places other places s && differ (rowid other) (rowid s)) rows r r_is.0 both in
            let none = all_has (λ x. not (clashes keys.plain places rows x) ≡ true) rows s unique s_is.0 in
            absurd (true≢false (sym (sym (ap not some) ∙ none))))
      ]

  pub keys_apart : (p : Row → Bool) → AllByRecursion Fits (filter p rows) → AreApart (λ r. key (inside r)) (filter p rows)
  keys_apart p fits =
      let there = all_from IsThere (filter p rows) (λ r has. ((has_filtered p rows r has).0, all_has Fits (filter p rows) r fits has)) in
      let rises = ascending-filter (λ a b. row_key a <ℤ row_key b) p rows (keyed rows shaped.0 shaped.1) in
      ascending_on IsThere (λ a b. row_key a <ℤ row_key b) (λ a b. same_key (key (inside a)) (key (inside b)) ≡ false) no_other (filter p rows) there rises
