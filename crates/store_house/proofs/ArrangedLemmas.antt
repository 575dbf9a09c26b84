-- A house that is shown in its order is found by its names.
use Rattle.std.proofs.Common.{◌≡◌, ◌<◌, ◌+◌, ◌∙◌, ℕ, suc, pos, true, cond, List, [], ◌∷◌, ◌++◌, map, filter, not, refl, sym, ap, subst, arith, inl, inr, true≢false, is_eq, lt-ltb, eqb, Bool}
use Rattle.std.specs.List.{list_any}
use Rattle.std.proofs.lemmas.Bool.{and_parts, cases_Bool}
use Rattle.std.proofs.lemmas.Cmp.{tied_itself}
use Rattle.std.proofs.lemmas.Map.Text.{is_eq-slice_cmp}
use Rattle.std.proofs.lemmas.Slice.Eq.{bytes_eq-Decides}
use Rattle.sqlite_value.specs.declared.value.Value.{Value}
use Rattle.sqlite_value.specs.declared.value.Value.TheVariants.{Null, Int, Real, Text, Blob}
use Rattle.sqlite_value.specs.Order.{Row, bytes, column, value_cmp}
use Rattle.sqlite_value.proofs.OrderLemmas.{value_cmp-Text, value_cmp-apart, value_cmp_total}
use Rattle.sqlite.specs.Effect.{Database}
use Rattle.sqlite_trees.specs.Objects.{catalog_tree}
use Rattle.sqlite_trees.specs.Sound as sound
use Rattle.sqlite_trees.specs.Sound.{Head, are_in_order, head_at, is_word, may_follow}
use Rattle.sqlite_trees.specs.Tree.{Trees, rowid}
use Rattle.sqlite_trees.specs.View.{IsShaped}
use Rattle.sqlite_trees.specs.declared.store.Shape.TheVariants.{Table}
use Rattle.sqlite_catalog.proofs.LayoutLemmas.{zipped_left}
use Rattle.sqlite_catalog.proofs.SoundLemmas.{list_parts, names_agree}
use Rattle.sqlite_catalog.proofs.StepLemmas.{same_itself}
use Rattle.sqlite_catalog.specs.Listing.{AreListed, IsTableRow, is_table_row}
use Rattle.sqlite_rules.proofs.ListLemmas.{has_filtered, has_left, has_right, some_from}
use Rattle.sqlite_rules.specs.Lists.{Has}
use Rattle.sqlite_schema.specs.declared.schema.Schema.{Schema}
use Rattle.sqlite_schema.specs.declared.schema.Table.{Table as SqlTable}
use Rattle.order_laws.proofs.MovedLemmas.{from_out, low_number, moved_id, moved_there}
use Rattle.store_house.specs.Named.{IsReordered, first_tables_held, house_names, tables_held}
use Rattle.store_house.specs.Opening.{first_tables_in}
use Rattle.store_house.specs.Places.{by_names, tree_named, tree_or}
use Rattle.store_rows.specs.House.{IsHouse}
use Rattle.store_rows.specs.Schema.{band_table, bid_table, category_table, edition_table, feedback_table, first_schema, house_by, house_table, item_table, later_band_table, member_table, question_table, reserve_table, watch_table}
use Rattle.store_rows.specs.Tables.{house_row_in, settings_in, tables_in}
use Rattle.tree_order.specs.Numbers.{AreInverse, number}
use Rattle.tree_order.specs.Renumbered.{renumbered_trees}
use Rattle.tree_order.specs.RowLaws.{column_kept}
use Rattle.tree_order.specs.Rows.{renumbered_row, renumbered_rows}

-- ---- a name comes once

same_text : (name : List ℕ) → sound.same_name (bytes (Text name)) (bytes (Text name)) ≡ true
same_text name = sym (names_agree name name) ∙ same_itself name

none_named : (earlier : List Head) (e : Head) (name : List ℕ) → Has earlier e → e.1 ≡ Text name → list_any (λ x. sound.same_name (bytes x.1) (bytes (Text name))) earlier ≡ true
none_named earlier e name has is = some_from (λ x. sound.same_name (bytes x.1) (bytes (Text name))) earlier e has (rw is (same_text name))

-- a row that comes after some has none of their names
follows_none : (earlier : List Head) (rows : List Row) → are_in_order earlier (map (head_at 1) rows) ≡ true → (e : Head) → Has earlier e
    → (r : Row) → Has rows r → (name : List ℕ) → e.1 ≡ Text name → column r 2 ≡ Text name → ⊥
unfolding may_follow
follows_none earlier [] up e has r none name named is = none
follows_none earlier (x ∷ rows) up e has r (inl same) name named is =
    let at : column x 2 ≡ Text name = ap (λ (row : Row). column row 2) (sym same) ∙ is in
    let fresh : not (list_any (λ (y : Head). sound.same_name (bytes y.1) (bytes (column x 2))) earlier) ≡ true = (and_parts _ _ (and_parts _ _ up).0).0 in
    let here : not (list_any (λ (y : Head). sound.same_name (bytes y.1) (bytes (Text name))) earlier) ≡ true =
    subst (λ v. not (list_any (λ (y : Head). sound.same_name (bytes y.1) (bytes v)) earlier) ≡ true) at fresh in
    true≢false (sym here ∙ ap not (none_named earlier e name has named))
follows_none earlier (x ∷ rows) up e has r (inr more) name named is =
    follows_none (earlier ++ head_at 1 x ∷ []) rows (and_parts _ _ up).1 e (has_left earlier (head_at 1 x ∷ []) e has) r more name named is

-- so two rows with one name are one row
one_named : (earlier : List Head) (rows : List Row) → are_in_order earlier (map (head_at 1) rows) ≡ true → (r s : Row) → Has rows r → Has rows s
    → (name : List ℕ) → column r 2 ≡ Text name → column s 2 ≡ Text name → r ≡ s
one_named earlier [] up r s none other name a b = absurd none
one_named earlier (x ∷ rows) up r s (inl p) (inl q) name a b = p ∙ sym q
one_named earlier (x ∷ rows) up r s (inl p) (inr q) name a b =
    absurd (follows_none (earlier ++ head_at 1 x ∷ []) rows (and_parts _ _ up).1 (head_at 1 x) (has_right earlier (head_at 1 x ∷ []) (head_at 1 x) (inl refl)) s q name (ap (λ (row : Row). column row 2) (sym p) ∙ a) b)
one_named earlier (x ∷ rows) up r s (inr p) (inl q) name a b =
    absurd (follows_none (earlier ++ head_at 1 x ∷ []) rows (and_parts _ _ up).1 (head_at 1 x) (has_right earlier (head_at 1 x ∷ []) (head_at 1 x) (inl refl)) r p name (ap (λ (row : Row). column row 2) (sym q) ∙ b) a)
one_named earlier (x ∷ rows) up r s (inr p) (inr q) name a b = one_named (earlier ++ head_at 1 x ∷ []) rows (and_parts _ _ up).1 r s p q name a b

-- ---- the rows of a list, and of the same list in order

-- a value that is a word is its text
text_is : (v : Value) (word : List ℕ) → is_word word v ≡ true → v ≡ Text word
text_is Null word h = absurd (true≢false (sym h ∙ ap is_eq (value_cmp-apart Null (Text word) (λ e. omega arith))))
text_is (Int n) word h = absurd (true≢false (sym h ∙ ap is_eq (value_cmp-apart (Int n) (Text word) (λ e. omega arith))))
text_is (Real x) word h = absurd (true≢false (sym h ∙ ap is_eq (value_cmp-apart (Real x) (Text word) (λ e. omega arith))))
text_is (Text t) word h = ap Text ((bytes_eq-Decides t word).0 (sym (is_eq-slice_cmp t word) ∙ ap is_eq (sym (value_cmp-Text t word)) ∙ h))
text_is (Blob b) word h = absurd (true≢false (sym h ∙ ap is_eq (value_cmp-apart (Blob b) (Text word) (λ e. omega arith))))

is_text : (v : Value) (word : List ℕ) → v ≡ Text word → is_word word v ≡ true
is_text v word is = ap (λ x. is_eq (value_cmp x (Text word))) is ∙ ap is_eq (tied_itself value_cmp_total (Text word))

-- of rows whose name is that of a tree, the first has it
named_is : (name : List ℕ) (n other : ℕ) (rows : List Row) → n < 65536
    → ((r : Row) → Has rows r → column r 2 ≡ Text name → rowid r ≡ Int (pos (suc n)))
    → (r : Row) → Has rows r → column r 2 ≡ Text name → tree_named name other rows ≡ n
named_is name n other [] low are r none is = absurd none
named_is name n other (x ∷ rows) low are r has is = elim (cases_Bool (is_word name (column x 2))) [
  | inl yes_it ↦
      let id : column x 0 ≡ Int (pos (suc n)) = are x (inl refl) (text_is (column x 2) name yes_it) in
      ap (λ b. cond b (tree_or other (column x 0)) (tree_named name other rows)) yes_it
      ∙ ap (tree_or other) id ∙ ap (λ b. cond b n other) (lt-ltb n 65536 low)
  | inr no_it ↦
      ap (λ b. cond b (tree_or other (column x 0)) (tree_named name other rows)) no_it
      ∙ elim has [
        | inl same ↦ absurd (true≢false (sym (is_text (column x 2) name (ap (λ (row : Row). column row 2) (sym same) ∙ is)) ∙ no_it))
        | inr more ↦ named_is name n other rows low (λ y h. are y (inr h)) r more is
      ]
]

-- where no row has the name, its tree is the one that is given
none_has : (name : List ℕ) (other : ℕ) (rows : List Row) → ((r : Row) → Has rows r → column r 2 ≡ Text name → ⊥) → tree_named name other rows ≡ other
none_has name other [] none = refl
none_has name other (x ∷ rows) none = elim (cases_Bool (is_word name (column x 2))) [
  | inl yes_it ↦ absurd (none x (inl refl) (text_is (column x 2) name yes_it))
  | inr no_it ↦ ap (λ b. cond b (tree_or other (column x 0)) (tree_named name other rows)) no_it ∙ none_has name other rows (λ r has. none r (inr has))
]

module _ (inner outer : List ℕ) (h : AreInverse inner outer) (rows : List Row) (table : IsShaped Table rows) where
  abbrev out : List Row
  out = renumbered_rows outer rows

  -- an object that the list in order doesn't have is not found
  pub not_by_name : (name : List ℕ) (other : ℕ) → ((s : Row) → Has out s → column s 2 ≡ Text name → ⊥) → tree_named name other rows ≡ other
  not_by_name name other none = none_has name other rows (λ x there same.
      let from = from_out inner outer h rows table x there in
      let its : column from.0 2 ≡ Text name = sym (column_kept inner from.0 1) ∙ ap (λ (row : Row). column row 2) (sym from.2) ∙ same in
      none from.0 from.1 its)

  -- so the tree of an object is found by its name
  pub found_by_name : are_in_order [] (map (head_at 1) out) ≡ true → (s : Row) → Has out s → (tree : ℕ) → tree < 65536 → rowid s ≡ Int (pos (tree + 1))
      → (name : List ℕ) → column s 2 ≡ Text name → (other : ℕ) → tree_named name other rows ≡ number inner tree
  found_by_name once s has tree low id name named other =
      let r = renumbered_row inner s in
      let is_named : column r 2 ≡ Text name = column_kept inner s 1 ∙ named in
      named_is name (number inner tree) other rows (low_number inner outer h tree low)
      (λ x there same.
      let from = from_out inner outer h rows table x there in
      let its : column from.0 2 ≡ Text name = sym (column_kept inner from.0 1) ∙ ap (λ (row : Row). column row 2) (sym from.2) ∙ same in
      let one : from.0 ≡ s = one_named [] out once from.0 s from.1 has name its named in
      ap rowid (from.2 ∙ ap (renumbered_row inner) one) ∙ moved_id inner s tree id)
      r (moved_there inner outer h rows table s has tree id name named) is_named

  -- and a table of a schema that the list in order has
  pub table_by_name : (schema : Schema) → AreListed out schema → (t : SqlTable) → Has schema.tables t → (other : ℕ) → tree_named t.name other rows ≡ number inner t.tree
  table_by_name schema are t has other =
      let found = zipped_left IsTableRow (filter is_table_row out) schema.tables t are.tables has in
      let d = found.2.described in
      found_by_name (list_parts out are.loads).1 found.0 (has_filtered is_table_row out found.0 found.1).0 t.tree d.low d.id t.name d.name_is other

-- ---- the tables of trees that agree in those of a house

of_rows : List Row → List Row → List Row → List Row → List Row → List Row → List Row → List Row → List Row → List Row → List Row → List Row → Trees
of_rows a b c d e f g h i j k l t =
    cond (eqb t 0) a (cond (eqb t 1) b (cond (eqb t 2) c (cond (eqb t 4) d (cond (eqb t 6) e (cond (eqb t 8) f
    (cond (eqb t 10) g (cond (eqb t 12) h (cond (eqb t 14) i (cond (eqb t 23) j (cond (eqb t 24) k (cond (eqb t 25) l [])))))))))))

same_tables : (x y : Trees) → x 0 ≡ y 0 → x 1 ≡ y 1 → x 2 ≡ y 2 → x 4 ≡ y 4 → x 6 ≡ y 6 → x 8 ≡ y 8 → x 10 ≡ y 10 → x 12 ≡ y 12 → x 14 ≡ y 14
    → x 23 ≡ y 23 → x 24 ≡ y 24 → x 25 ≡ y 25 → tables_in x ≡ tables_in y
unfolding tables_in settings_in house_row_in of_rows
same_tables x y a b c d e f g h j k l m = λ i. tables_in (of_rows (a i) (b i) (c i) (d i) (e i) (f i) (g i) (h i) (j i) (k i) (l i) (m i))

-- a house that is shown in its order has the tables that its names find
pub found_tables : (below db : Trees) (b : Bool) → IsShaped Table (below catalog_tree) → (order : IsReordered below db) → AreListed (db catalog_tree) (house_by b)
    → tables_in db ≡ tables_held below
unfolding house_names
found_tables below db b table order are =
    let rows = below catalog_tree in
    let shown = order.shown in
    let listed : AreListed (renumbered_rows order.outer rows) (house_by b) = subst (λ (d : Trees). AreListed (d catalog_tree) (house_by b)) shown are in
    let at = table_by_name order.inner order.outer order.inverse rows table (house_by b) listed in
    ap tables_in shown ∙ same_tables (renumbered_trees order.inner order.outer below) (by_names house_names below)
    (ap below (sym (at house_table (inl refl) 0)))
    (ap below (sym (at band_table (inr (inl refl)) 1)))
    (ap below (sym (at member_table (inr (inr (inl refl))) 2)))
    (ap below (sym (at category_table (inr (inr (inr (inl refl)))) 4)))
    (ap below (sym (at item_table (inr (inr (inr (inr (inl refl))))) 6)))
    (ap below (sym (at bid_table (inr (inr (inr (inr (inr (inl refl)))))) 8)))
    (ap below (sym (at watch_table (inr (inr (inr (inr (inr (inr (inl refl))))))) 10)))
    (ap below (sym (at question_table (inr (inr (inr (inr (inr (inr (inr (inl refl)))))))) 12)))
    (ap below (sym (at feedback_table (inr (inr (inr (inr (inr (inr (inr (inr (inl refl))))))))) 14)))
    (ap below (sym (at reserve_table (inr (inr (inr (inr (inr (inr (inr (inr (inr (inl refl)))))))))) 23)))
    (ap below (sym (at edition_table (inr (inr (inr (inr (inr (inr (inr (inr (inr (inr (inl refl))))))))))) 24)))
    (ap below (sym (at later_band_table (inr (inr (inr (inr (inr (inr (inr (inr (inr (inr (inr (inl refl)))))))))))) 25)))

-- and so has a house of version 1
same_first_tables : (x y : Trees) → x 0 ≡ y 0 → x 1 ≡ y 1 → x 2 ≡ y 2 → x 4 ≡ y 4 → x 6 ≡ y 6 → x 8 ≡ y 8 → x 10 ≡ y 10 → x 12 ≡ y 12 → x 14 ≡ y 14
    → first_tables_in x ≡ first_tables_in y
unfolding tables_in settings_in house_row_in of_rows
same_first_tables x y a b c d e f g h j = λ i. first_tables_in (of_rows (a i) (b i) (c i) (d i) (e i) (f i) (g i) (h i) (j i) [] [] [])

pub found_first_tables : (below db : Trees) → IsShaped Table (below catalog_tree) → (order : IsReordered below db) → AreListed (db catalog_tree) first_schema
    → first_tables_in db ≡ first_tables_held below
unfolding house_names
found_first_tables below db table order are =
    let rows = below catalog_tree in
    let shown = order.shown in
    let listed : AreListed (renumbered_rows order.outer rows) first_schema = subst (λ (d : Trees). AreListed (d catalog_tree) first_schema) shown are in
    let at = table_by_name order.inner order.outer order.inverse rows table first_schema listed in
    ap first_tables_in shown ∙ same_first_tables (renumbered_trees order.inner order.outer below) (by_names house_names below)
    (ap below (sym (at house_table (inl refl) 0)))
    (ap below (sym (at band_table (inr (inl refl)) 1)))
    (ap below (sym (at member_table (inr (inr (inl refl))) 2)))
    (ap below (sym (at category_table (inr (inr (inr (inl refl)))) 4)))
    (ap below (sym (at item_table (inr (inr (inr (inr (inl refl))))) 6)))
    (ap below (sym (at bid_table (inr (inr (inr (inr (inr (inl refl)))))) 8)))
    (ap below (sym (at watch_table (inr (inr (inr (inr (inr (inr (inl refl))))))) 10)))
    (ap below (sym (at question_table (inr (inr (inr (inr (inr (inr (inr (inl refl)))))))) 12)))
    (ap below (sym (at feedback_table (inr (inr (inr (inr (inr (inr (inr (inr (inl refl))))))))) 14)))

-- in a house that is shown in some order are the tables that its names find
pub found_in_order : (below : Trees) (db : Database) → IsShaped Table (below catalog_tree) → IsReordered below db.trees → IsHouse db → tables_in db.trees ≡ tables_held below
found_in_order below db table order house =
    found_tables below db.trees house.is_indexed table order (subst (AreListed (db.trees catalog_tree)) house.schema house.sound.lists.listed)
