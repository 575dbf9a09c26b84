-- A sorted list of what has no ties rises strictly.
use Rattle.std.proofs.Common.{◌≡◌, List, [], ◌∷◌, cond, refl, sym, ap, subst, ◌∙◌, Ordering, Less, Equal, Greater, is_gt, is_eq, true≢false, IsPermutation, IsSorted, true, false}
use Rattle.std.specs.List.{AllByRecursion}
use Rattle.std.specs.Cmp.{IsTotalOrder}
use Rattle.std.specs.Ordering.{ordering_reverse}
use Rattle.sqlite_trees.specs.Tree.{IsAscending}
use Rattle.sqlite_keyed.specs.Lists.{insert_sorted, sort_by}
use Rattle.sqlite_keyed.proofs.ListLemmas.{all_weaker}
use Rattle.sqlite_keyed.proofs.SortLemmas.{sorted_is-sort_by}

module _ {X : Type 0} (cmp : X → X → Ordering) (total : IsTotalOrder cmp) where
  all-insert_sorted : (P : X → Type 0) (new : X) (xs : List X) → P new → AllByRecursion P xs → AllByRecursion P (insert_sorted cmp new xs)
  all-insert_sorted P new [] h all = (h, tt)
  all-insert_sorted P new (x ∷ xs) h all =
      elim (is_gt (cmp new x)) as (λ b. AllByRecursion P (cond b (x ∷ insert_sorted cmp new xs) (new ∷ x ∷ xs))) [ true ↦ (all.0, all-insert_sorted P new xs h all.1) | false ↦ (h, all) ]

  all-sort_by : (P : X → Type 0) (xs : List X) → AllByRecursion P xs → AllByRecursion P (sort_by cmp xs)
  all-sort_by P [] all = tt
  all-sort_by P (x ∷ xs) all = all-insert_sorted P x _ all.0 (all-sort_by P xs all.1)

  rises-insert_sorted : (new : X) (xs : List X) → AllByRecursion (λ y. is_eq (cmp new y) ≡ false) xs → IsAscending (λ a b. cmp a b ≡ Less) xs → IsAscending (λ a b. cmp a b ≡ Less) (insert_sorted cmp new xs)
  rises-insert_sorted new [] apart up = (tt, tt)
  rises-insert_sorted new (x ∷ xs) apart up = go (cmp new x) refl (rises-insert_sorted new xs apart.1 up.1)
    where
      go : (o : Ordering) → cmp new x ≡ o → IsAscending (λ a b. cmp a b ≡ Less) (insert_sorted cmp new xs)
          → IsAscending (λ a b. cmp a b ≡ Less) (cond (is_gt o) (x ∷ insert_sorted cmp new xs) (new ∷ x ∷ xs))
      go Less e more = ((e, all_weaker _ (λ y. cmp new y ≡ Less) (λ y. total.trans new x y e) xs up.0), up)
      go Equal e more = absurd (true≢false (sym (ap is_eq e) ∙ apart.0))
      go Greater e more = (all-insert_sorted _ new xs (total.antisymm x new ∙ ap ordering_reverse e) up.0, more)

  rises-sort_by : (xs : List X) → IsAscending (λ a b. is_eq (cmp a b) ≡ false) xs → IsAscending (λ a b. cmp a b ≡ Less) (sort_by cmp xs)
  rises-sort_by [] apart = tt
  rises-sort_by (x ∷ xs) apart = rises-insert_sorted x _ (all-sort_by _ xs apart.0) (rises-sort_by xs apart.1)

  pub rises_strictly : (xs ys : List X) → IsAscending (λ a b. is_eq (cmp a b) ≡ false) xs → IsPermutation xs ys → IsSorted cmp ys → IsAscending (λ a b. cmp a b ≡ Less) ys
  rises_strictly xs ys apart same sorted = subst (IsAscending (λ a b. cmp a b ≡ Less)) (sym (sorted_is-sort_by cmp total xs ys apart same sorted)) (rises-sort_by xs apart)
