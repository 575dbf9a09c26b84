-- The rows of a list and those of the same list in another order.
use Rattle.std.proofs.Common.{◌≡◌, ◌<◌, ◌+◌, ◌∙◌, ℕ, suc, pos, cond, List, [], ◌∷◌, map, find, length, Option, Some, None, refl, sym, ap, subst, arith, inl, inr, add-one}
use Rattle.std.specs.Prelude.{unwrap_or}
use Rattle.std.specs.List.{AllByRecursion}
use Rattle.std.proofs.lemmas.Bool.{cases_lt}
use Rattle.sqlite_value.specs.declared.value.Value.TheVariants.{Int, Text}
use Rattle.sqlite_value.specs.Order.{Row, column}
use Rattle.sqlite_trees.proofs.TreeLemmas.{all-put_row}
use Rattle.sqlite_trees.specs.Objects.{row_for}
use Rattle.sqlite_trees.specs.Tree.{has_rowid, rowid}
use Rattle.sqlite_trees.specs.View.{IsShaped}
use Rattle.sqlite_trees.specs.declared.store.Shape.TheVariants.{Table}
use Rattle.sqlite_catalog.proofs.LayoutLemmas.{row_found}
use Rattle.sqlite_rules.proofs.ListLemmas.{all_has, has_found}
use Rattle.sqlite_rules.specs.Lists.{Has}
use Rattle.tree_order.specs.NumberLaws.{number_back, number_past, other_way}
use Rattle.tree_order.specs.Numbers.{AreInverse, number}
use Rattle.tree_order.specs.RowLaws.{column_kept, renumbered_table, row_for_renumbered, rows_back}
use Rattle.tree_order.specs.Rows.{in_order, renumbered_id, renumbered_row, renumbered_rows, shifted}
use Rattle.tree_order.specs.TableLaws.{test_from_table}

in_order_all : (P : Row → Type 0) (rows : List Row) → AllByRecursion P rows → AllByRecursion P (in_order rows)
in_order_all P [] all = tt
in_order_all P (row ∷ rows) all = all-put_row P row (in_order rows) all.0 (in_order_all P rows all.1)

row_there : (rows : List Row) (k : ℕ) (r : Row) (name : List ℕ) → row_for rows k ≡ r → column r 2 ≡ Text name → Has rows r
row_there rows k r name is named = go (find (has_rowid (pos (k + 1))) rows) refl
  where
    go : (o : Option Row) → find (has_rowid (pos (k + 1))) rows ≡ o → Has rows r
    go None e = absurd (let gone : [] ≡ r = ap (λ x. unwrap_or x []) (sym e) ∙ is in let h = ap (λ (row : Row). column row 2) gone ∙ named in cc)
    go (Some x) e =
        let same : x ≡ r = ap (λ y. unwrap_or y []) (sym e) ∙ is in
        subst (Has rows) same (has_found (has_rowid (pos (k + 1))) rows x e).0

pub low_number : (inner outer : List ℕ) → AreInverse inner outer → (tree : ℕ) → tree < 65536 → number inner tree < 65536
low_number inner outer h tree low = elim (cases_lt tree (length inner)) [
  | inl within ↦ omega (arith, h.low tree within, h.few)
  | inr past ↦ omega (arith, number_past inner tree past)
]

pub moved_id : (inner : List ℕ) (s : Row) (tree : ℕ) → rowid s ≡ Int (pos (tree + 1)) → rowid (renumbered_row inner s) ≡ Int (pos (suc (number inner tree)))
moved_id inner [] tree id = absurd (cc)
moved_id inner (v ∷ more) tree id = ap (renumbered_id inner) id ∙ ap (λ n. Int (shifted inner (pos n))) (add-one tree) ∙ ap (λ n. Int (pos n)) (add-one (number inner tree))

module _ (inner outer : List ℕ) (h : AreInverse inner outer) (rows : List Row) (table : IsShaped Table rows) where
  abbrev out : List Row
  out = renumbered_rows outer rows

  pub out_table : IsShaped Table out
  out_table = renumbered_table outer rows table

  back : renumbered_rows inner out ≡ rows
  back = rows_back inner outer h rows

  abbrev pub IsMoved : Row → Type 0
  IsMoved r = (s : Row) × Has out s × (r ≡ renumbered_row inner s)

  moved : (some : List Row) → ((s : Row) → Has some s → Has out s) → AllByRecursion IsMoved (map (renumbered_row inner) some)
  moved [] within = tt
  moved (s ∷ some) within = ((s, within s (inl refl), refl), moved some (λ x has. within x (inr has)))

  -- each row is one of the list in order, moved
  pub from_out : (r : Row) → Has rows r → IsMoved r
  from_out r has =
      let sorted : in_order (map (renumbered_row inner) out) ≡ rows = sym (ap (λ b. cond b (in_order (map (renumbered_row inner) out)) out) (test_from_table out out_table)) ∙ back in
      all_has IsMoved rows r (subst (AllByRecursion IsMoved) sorted (in_order_all IsMoved (map (renumbered_row inner) out) (moved out (λ s x. x)))) has

  -- and each row in order is there, moved
  pub moved_there : (s : Row) → Has out s → (tree : ℕ) → rowid s ≡ Int (pos (tree + 1)) → (name : List ℕ) → column s 2 ≡ Text name → Has rows (renumbered_row inner s)
  moved_there s has tree id name named =
      let at : row_for rows (number inner tree) ≡ renumbered_row inner s =
      ap (λ l. row_for l (number inner tree)) (sym back)
      ∙ row_for_renumbered outer inner (other_way inner outer h) out (number inner tree) out_table
      ∙ ap (λ t. renumbered_row inner (row_for out t)) (number_back inner outer h tree)
      ∙ ap (renumbered_row inner) (row_found out s tree out_table.0 has id) in
      row_there rows (number inner tree) (renumbered_row inner s) name at (column_kept inner s 1 ∙ named)
