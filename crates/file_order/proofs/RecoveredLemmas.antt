-- What a crash may leave of a file has its list of objects in order.
use Rattle.std.proofs.Common.{◌≡◌, ◌∙◌, ℕ, ◌+◌, true, cond, List, [], ◌∷◌, ◌++◌, map, IsTrue, refl, sym, ap, subst}
use Rattle.std.proofs.Math.Logic.{∥∥₁_elim}
use mathlib.Core.Bool.{Bool-set}
use Rattle.order_laws.proofs.TransferLemmas.{own_schema, own_sound}
use Rattle.sqlite.specs.Held.{AreDatabases}
use Rattle.sqlite_catalog.specs.Listing.{IsSound}
use Rattle.sqlite_disk.specs.declared.Disk.{Ghosts}
use Rattle.sqlite_pool.proofs.PoolLemmas.{pages_from}
use Rattle.sqlite_pool.specs.StoredLaws.{recovers_once}
use Rattle.sqlite_schema.specs.declared.schema.Schema.{Schema}
use Rattle.sqlite_store.proofs.ListingLemmas.{listing_shaped}
use Rattle.sqlite_store.specs.Catalog.{heads_of, is_in_order, is_present}
use Rattle.sqlite_store.specs.FileStore.{recovers, schema_in, view}
use Rattle.sqlite_store.specs.Listed.{catalog_rows}
use Rattle.sqlite_store.specs.Listing.{listed, listed_from}
use Rattle.sqlite_store.specs.declared.catalog.Wanted.{Wanted}
use Rattle.sqlite_store.specs.declared.store.FileStore.{FileStore}
use Rattle.sqlite_trees.specs.Objects.{catalog_tree}
use Rattle.sqlite_trees.specs.Sound.{are_in_order, head_at}
use Rattle.sqlite_trees.specs.Tree.{Trees}
use Rattle.sqlite_trees.specs.View.{IsShaped}
use Rattle.sqlite_trees.specs.declared.store.Shape.{Shape}
use Rattle.sqlite_trees.specs.declared.store.Shape.TheVariants.{Absent, Table, Index, Pageless, FrozenTable, FrozenIndex}
use Rattle.tree_order.specs.Numbers.{AreInverse}
use Rattle.tree_order.specs.Renumbered.{renumbered_trees}

-- the rows of a list have the heads by which a file is tested
heads_listed : (from : ℕ) (schema : List Wanted) → map (head_at 1) (listed_from from schema) ≡ heads_of schema
heads_listed from [] = refl
heads_listed from (w ∷ schema) = go w.shape (heads_listed (from + 1) schema)
  where
    go : (shape : Shape) → map (head_at 1) (listed_from (from + 1) schema) ≡ heads_of schema
        → map (head_at 1) (listed from w shape ++ listed_from (from + 1) schema)
        ≡ cond (is_present shape) (head_at 0 w.row ∷ heads_of schema) (heads_of schema)
    go Absent rest = rest
    go Table rest = ap (λ l. head_at 0 w.row ∷ l) rest
    go (Index o) rest = ap (λ l. head_at 0 w.row ∷ l) rest
    go Pageless rest = ap (λ l. head_at 0 w.row ∷ l) rest
    go FrozenTable rest = ap (λ l. head_at 0 w.row ∷ l) rest
    go (FrozenIndex o) rest = ap (λ l. head_at 0 w.row ∷ l) rest

module _ {D : Type 0} {g : Ghosts D} (it : FileStore D g) (below : Trees) (left : recovers it below) where
  -- the list is that of the schema, whatever the pages
  list_is : below catalog_tree ≡ listed_from 0 (schema_in it left.1)
  list_is = ap (λ (db : Trees). db catalog_tree) left.4 ∙ catalog_rows _ (schema_in it left.1) _

  pub list_shaped : IsShaped Table (below catalog_tree)
  list_shaped = subst (IsShaped Table) (sym list_is) (listing_shaped 0 (schema_in it left.1))

  schema_ordered : IsTrue (view it).is_numbered → is_in_order (schema_in it left.1) ≡ true
  schema_ordered numbered = ∥∥₁_elim it.safe (Bool-set _ _) (λ all.
      let found = all left.0 left.2 in
      let same : left.1 ≡ found.0 = pages_from _ _ left.3 (λ there. recovers_once _ left.0 _ _ there found.1) in
      ap (λ pages. is_in_order (schema_in it pages)) same
      ∙ ∥∥₁_elim found.2 (Bool-set _ _) (λ ours. (ours.numbered numbered).ordered))

  pub list_ordered : IsTrue (view it).is_numbered → are_in_order [] (map (head_at 1) (below catalog_tree)) ≡ true
  list_ordered numbered =
      ap (λ rows. are_in_order [] (map (head_at 1) rows)) list_is
      ∙ ap (are_in_order []) (heads_listed 0 (schema_in it left.1)) ∙ schema_ordered numbered

pub are_databases : {D : Type 0} {g : Ghosts D} (inner outer : List ℕ) (it : FileStore D g)
    → AreInverse inner outer → IsTrue (view it).is_numbered
    → ((below : Trees) → recovers it below
    → (schema : Schema) × IsSound schema (renumbered_trees inner outer below) × (schema.views ≡ []))
    → AreDatabases (recovers it)
are_databases inner outer it h numbered shown below left =
    let s = shown below left in
    let table = list_shaped it below left in
    let up = list_ordered it below left numbered in
    (own_schema inner outer h s.0 below table up s.2 s.1, own_sound inner outer h s.0 below table up s.2 s.1)
