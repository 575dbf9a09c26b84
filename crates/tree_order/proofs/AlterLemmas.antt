-- What making and dropping a tree does under other numbers.
use Rattle.std.proofs.Common.{◌≡◌, ◌≢◌, ℕ, ◌+◌, ◌<◌, pos, false, cond, List, [], ◌∷◌, length, drop, refl, sym, ap, ap₂, ◌∙◌, subst, arith, inl, inr, add-one, eq-eqb, ne_eqb}
use Rattle.std.proofs.lemmas.Bool.{cases_eq, cases_lt}
use mathlib.Core.Path.{fun_ext}
use Rattle.sqlite_value.specs.declared.value.Value.TheVariants.{Int, Text}
use Rattle.sqlite_value.specs.Order.{Row, column}
use Rattle.sqlite_trees.specs.declared.store.Shape.{Shape}
use Rattle.sqlite_trees.specs.declared.store.Shape.TheVariants.{Absent, Table}
use Rattle.sqlite_trees.specs.declared.schema.Object.{Object}
use Rattle.sqlite_trees.specs.Tree.{Trees, with_tree, put_row, without_rowid}
use Rattle.sqlite_trees.specs.View.{View, IsShaped}
use Rattle.sqlite_trees.specs.Objects.{catalog_tree, object_row, set_at, IsFreeFor, SetsObject, Creates, Destroys}
use Rattle.tree_order.specs.Numbers.{number, AreInverse}
use Rattle.tree_order.specs.Rows.{shifted, renumbered_row, renumbered_rows}
use Rattle.tree_order.specs.Renumbered.{renumbered_trees, renumbered}
use Rattle.tree_order.specs.NumberLaws.{number_back, number_past, same_number}
use Rattle.tree_order.specs.RowLaws.{all_back, renumbered-put_row, renumbered-without, column_kept}
use Rattle.tree_order.specs.Laws.{trees_at, never_catalog}
use Rattle.tree_order.proofs.ViewLemmas.{under, with_tree_under}

module _ (inner outer : List ℕ) (h : AreInverse inner outer) where
  with_catalog_under : (trees : Trees) (rows : List Row)
      → renumbered_trees inner outer (with_tree trees catalog_tree rows) ≡ with_tree (renumbered_trees inner outer trees) catalog_tree (renumbered_rows outer rows)
  with_catalog_under trees rows = fun_ext (λ t. elim (cases_eq t catalog_tree) [
    | inl same ↦
        ap (renumbered_trees inner outer (with_tree trees catalog_tree rows)) same
        ∙ ap (with_tree (renumbered_trees inner outer trees) catalog_tree (renumbered_rows outer rows)) (sym same)
    | inr apart ↦
        trees_at inner outer (with_tree trees catalog_tree rows) t apart
        ∙ ap (λ b. cond b rows (trees (number inner t))) (ne_eqb (number inner t) catalog_tree (never_catalog inner outer h t apart))
        ∙ sym (trees_at inner outer trees t apart)
        ∙ ap (λ b. cond b (renumbered_rows outer rows) (renumbered_trees inner outer trees t)) (sym (ne_eqb t catalog_tree apart))
  ])

  set_under : {X : Type 0} (f : ℕ → X) (tree : ℕ) (x : X) → under inner (set_at f (number inner tree) x) ≡ set_at (under inner f) tree x
  set_under f tree x = fun_ext (λ t. elim (cases_eq t tree) [
    | inl met ↦ ap (λ b. cond b x (f (number inner t))) (eq-eqb (number inner t) (number inner tree) (ap (number inner) met) ∙ sym (eq-eqb t tree met))
    | inr differ ↦ ap (λ b. cond b x (f (number inner t))) (ne_eqb (number inner t) (number inner tree) (λ e. differ (same_number inner outer h t tree e)) ∙ sym (ne_eqb t tree differ))
  ])

  object_under : (old new : View) (tree : ℕ) (shape : Shape) (reals : ℕ) (edit edit' : List Row → List Row) → tree ≢ catalog_tree
      → renumbered_rows outer (edit (old.trees catalog_tree)) ≡ edit' (renumbered_rows outer (old.trees catalog_tree))
      → SetsObject old new (number inner tree) shape reals edit → SetsObject (renumbered inner outer old) (renumbered inner outer new) tree shape reals edit'
  object_under old new tree shape reals edit edit' other same sets = record {
    sound = sets.sound;
    is = ap (renumbered inner outer) sets.is
        ∙ (λ i. record (renumbered inner outer old) {
          trees = made i;
          shape = set_under old.shape tree shape i;
          reals = set_under old.reals tree reals i;
          cursors = new.cursors;
        });
  }
    where
      made : renumbered_trees inner outer (with_tree (with_tree old.trees (number inner tree) []) catalog_tree (edit (old.trees catalog_tree)))
          ≡ with_tree (with_tree (renumbered_trees inner outer old.trees) tree []) catalog_tree (edit' (renumbered_rows outer (old.trees catalog_tree)))
      made = with_catalog_under (with_tree old.trees (number inner tree) []) (edit (old.trees catalog_tree))
          ∙ ap₂ (λ (db : Trees) rows. with_tree db catalog_tree rows) (with_tree_under inner outer h old.trees tree [] other) same

  id_under : (tree : ℕ) → shifted outer (pos (number inner tree + 1)) ≡ pos (tree + 1)
  id_under tree = ap (λ n. shifted outer (pos n)) (add-one (number inner tree)) ∙ ap (λ n. pos (n + 1)) (number_back inner outer h tree)

  pub row_under : (tree : ℕ) (o : Object) → renumbered_row outer (object_row (number inner tree) o) ≡ object_row tree o
  row_under tree o = ap (λ id. Int id ∷ described) (id_under tree)
    where
      described : Row
      described = drop 1 (object_row tree o)

  pub creates_under : (old new : View) (tree n : ℕ) (o : Object) → tree ≢ catalog_tree → n ≡ number inner tree
      → (old.is_broken ≡ false → IsShaped Table (old.trees catalog_tree)) → Creates old new n o → Creates (renumbered inner outer old) (renumbered inner outer new) tree o
  creates_under old new tree n o other is table made =
      let there = subst (λ k. Creates old new k o) is made in
      object_under old new tree o.shape o.reals (put_row (object_row (number inner tree) o)) (put_row (object_row tree o)) other
      (renumbered-put_row inner outer h (object_row (number inner tree) o) (old.trees catalog_tree) refl (table made.sound)
      ∙ ap (λ row. put_row row (renumbered_rows outer (old.trees catalog_tree))) (row_under tree o))
      there

  pub destroys_under : (old new : View) (tree n : ℕ) → tree ≢ catalog_tree → n ≡ number inner tree
      → (old.is_broken ≡ false → IsShaped Table (old.trees catalog_tree)) → Destroys old new n → Destroys (renumbered inner outer old) (renumbered inner outer new) tree
  destroys_under old new tree n other is table gone =
      let there = subst (λ k. Destroys old new k) is gone in
      object_under old new tree Absent 0 (without_rowid (pos (number inner tree + 1))) (without_rowid (pos (tree + 1))) other
      (renumbered-without inner outer h (pos (number inner tree + 1)) (old.trees catalog_tree) (table gone.sound)
      ∙ ap (λ id. without_rowid id (renumbered_rows outer (old.trees catalog_tree))) (id_under tree))
      there

  low_under : (tree : ℕ) → tree < 65536 → number inner tree < 65536
  low_under tree low = elim (cases_lt tree (length inner)) [
    | inl listed ↦ omega (arith, h.low tree listed, h.few)
    | inr past ↦ omega (arith, number_past inner tree past)
  ]

  pub free_under : (old : View) (tree n : ℕ) (o : Object) → n ≡ number inner tree → IsFreeFor (renumbered inner outer old) tree o → IsFreeFor old n o
  free_under old tree n o is free = subst (λ k. IsFreeFor old k o) (sym is) (record {
    numbered = free.numbered;
    low = low_under tree free.low;
    unused = free.unused;
    shaped = free.shaped;
    thawed = free.thawed;
    unnamed = all_back inner outer h (λ r. column r 2 ≢ Text o.name.now) (λ row apart same. apart (sym (column_kept inner row 1) ∙ same)) (old.trees catalog_tree) free.unnamed;
  })
