-- What a view under other numbers keeps of the view below.
use Rattle.std.proofs.Common.{◌≡◌, ◌≢◌, ℕ, suc, Bool, true, false, cond, eqb, List, [], ◌∷◌, map, refl, sym, ap, ◌∙◌, subst, subst₂, arith, inl, inr, ne_eqb}
use Rattle.std.proofs.lemmas.Bool.{cases_eq}
use Rattle.std.proofs.Math.Logic.{∥∥₁_map}
use mathlib.Core.Path.{fun_ext}
use Rattle.sqlite_value.specs.Order.{Row, column}
use Rattle.sqlite_trees.specs.declared.store.Shape.{Shape}
use Rattle.sqlite_trees.specs.declared.store.Shape.TheVariants.{Table}
use Rattle.sqlite_trees.specs.Tree.{Trees, no_trees}
use Rattle.sqlite_trees.specs.View.{Snapshot, View, IsOrdered, IsShaped}
use Rattle.sqlite_trees.specs.Objects.{catalog_tree, version_tree, number_in, row_for, IsListed}
use Rattle.tree_order.specs.Numbers.{number, AreInverse}
use Rattle.tree_order.specs.Rows.{renumbered_rows}
use Rattle.tree_order.specs.Renumbered.{renumbered_trees, renumbered_mark, renumbered}
use Rattle.tree_order.specs.NumberLaws.{number_high, never_high}
use Rattle.tree_order.specs.RowLaws.{renumbered_table, renumbered_once, row_for_renumbered, column_kept, rows-plain}

pub trees_at : (inner outer : List ℕ) (trees : Trees) (tree : ℕ) → tree ≢ catalog_tree → renumbered_trees inner outer trees tree ≡ trees (number inner tree)
trees_at inner outer trees tree other =
    ap (λ b. cond b (renumbered_rows outer (trees catalog_tree)) (trees (number inner tree))) (ne_eqb tree catalog_tree other)

module _ (inner outer : List ℕ) (h : AreInverse inner outer) where
  pub catalog_kept : number inner catalog_tree ≡ catalog_tree
  catalog_kept = number_high inner outer h catalog_tree (omega arith)

  pub version_kept : number inner version_tree ≡ version_tree
  version_kept = number_high inner outer h version_tree (omega arith)

  pub never_catalog : (tree : ℕ) → tree ≢ catalog_tree → number inner tree ≢ catalog_tree
  never_catalog tree = never_high inner outer h tree catalog_tree (omega arith)

  pub never_version : (tree : ℕ) → tree ≢ version_tree → number inner tree ≢ version_tree
  never_version tree = never_high inner outer h tree version_tree (omega arith)

  pub ordered_under : (below : View) → below.shape catalog_tree ≡ Table → IsOrdered below.shape below.trees
      → IsOrdered (renumbered inner outer below).shape (renumbered inner outer below).trees
  ordered_under below itself ordered tree = elim (cases_eq tree catalog_tree) [
    | inl same ↦
        let shape : Table ≡ below.shape (number inner tree) = sym (ap below.shape (ap (number inner) same ∙ catalog_kept) ∙ itself) in
        let rows : renumbered_rows outer (below.trees catalog_tree) ≡ renumbered_trees inner outer below.trees tree = ap (renumbered_trees inner outer below.trees) (sym same) in
        subst₂ IsShaped shape rows (renumbered_table outer _ (subst (λ s. IsShaped s (below.trees catalog_tree)) itself (ordered catalog_tree)))
    | inr other ↦ subst (IsShaped (below.shape (number inner tree))) (sym (trees_at inner outer below.trees tree other)) (ordered (number inner tree))
  ]

  pub listed_under : (rows : List Row) (shape : ℕ → Shape) (reals : ℕ → ℕ) → IsShaped Table rows → IsListed rows shape reals
      → IsListed (renumbered_rows outer rows) (λ tree. shape (number inner tree)) (λ tree. reals (number inner tree))
  listed_under rows shape reals table listed = record {
    itself = (ap shape catalog_kept ∙ listed.itself.0, ap reals catalog_kept ∙ listed.itself.1);
    version = (ap shape version_kept ∙ listed.version.0, ap reals version_kept ∙ listed.version.1);
    shapes = λ tree other apart.
        listed.shapes (number inner tree) (never_catalog tree other) (never_version tree apart) ∙ sym (cell tree 4);
    columns = λ tree other apart.
        listed.columns (number inner tree) (never_catalog tree other) (never_version tree apart) ∙ sym (cell tree 5);
  }
    where
      cell : (tree at : ℕ) → number_in (column (row_for (renumbered_rows outer rows) tree) (suc at)) ≡ number_in (column (row_for rows (number inner tree)) (suc at))
      cell tree at = ap (λ r. number_in (column r (suc at))) (row_for_renumbered inner outer h rows tree table) ∙ ap number_in (column_kept outer (row_for rows (number inner tree)) at)

  pub listed_view : (below : View) → IsOrdered below.shape below.trees → IsListed (below.trees catalog_tree) below.shape below.reals
      → IsListed ((renumbered inner outer below).trees catalog_tree) (renumbered inner outer below).shape (renumbered inner outer below).reals
  listed_view below ordered listed =
      listed_under _ below.shape below.reals (subst (λ s. IsShaped s (below.trees catalog_tree)) listed.itself.0 (ordered catalog_tree)) listed

  pub unaltered_under : (below : View)
      → (below.trees catalog_tree ≡ below.committed catalog_tree → (below.shape ≡ below.committed_shape) × (below.reals ≡ below.committed_reals))
      → (renumbered inner outer below).trees catalog_tree ≡ (renumbered inner outer below).committed catalog_tree
      → ((renumbered inner outer below).shape ≡ (renumbered inner outer below).committed_shape) × ((renumbered inner outer below).reals ≡ (renumbered inner outer below).committed_reals)
  unaltered_under below law same =
      let both = law (renumbered_once inner outer h _ _ same) in
      ((λ i tree. both.0 i (number inner tree)), (λ i tree. both.1 i (number inner tree)))

no_rows : (inner outer : List ℕ) (tree : ℕ) → renumbered_trees inner outer no_trees tree ≡ []
no_rows inner outer tree = go (eqb tree catalog_tree)
  where
    go : (b : Bool) → cond b (renumbered_rows outer []) [] ≡ []
    go true = refl
    go false = refl

pub nothing_under : (inner outer : List ℕ) → renumbered_trees inner outer no_trees ≡ no_trees
nothing_under inner outer = fun_ext (no_rows inner outer)

trees-plain : (trees : Trees) → renumbered_trees [] [] trees ≡ trees
trees-plain trees = fun_ext (λ tree. elim (cases_eq tree catalog_tree) [
  | inl same ↦ ap (renumbered_trees [] [] trees) same ∙ rows-plain (trees catalog_tree) ∙ ap trees (sym same)
  | inr other ↦ trees_at [] [] trees tree other
])

marks-plain : (marks : List Snapshot) → map (renumbered_mark [] []) marks ≡ marks
marks-plain [] = refl
marks-plain (mark ∷ marks) = λ i. record mark { trees = trees-plain mark.trees i } ∷ marks-plain marks i

-- With no other number the view is the one below.
pub renumbered-plain : (below : View) → renumbered [] [] below ≡ below
renumbered-plain below = λ i. record below {
  trees = trees-plain below.trees i;
  committed = trees-plain below.committed i;
  marks = marks-plain below.marks i;
}

pub empty_under : (inner outer : List ℕ) (below : View) → (below.trees ≡ no_trees) × (below.committed ≡ no_trees)
    → ((renumbered inner outer below).trees ≡ no_trees) × ((renumbered inner outer below).committed ≡ no_trees)
empty_under inner outer below none =
    (ap (renumbered_trees inner outer) none.0 ∙ nothing_under inner outer, ap (renumbered_trees inner outer) none.1 ∙ nothing_under inner outer)

pub survives_under : (inner outer : List ℕ) (recovers : Trees → Type 0) → ∥ ((db : Trees) × recovers db) ∥₁
    → ∥ ((db : Trees) × ((below : Trees) × recovers below × (db ≡ renumbered_trees inner outer below))) ∥₁
survives_under inner outer recovers some = ∥∥₁_map some (λ found. (renumbered_trees inner outer found.0, (found.0, found.1, refl)))
