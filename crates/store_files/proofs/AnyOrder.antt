-- A house whose trees lie in any order is found by their names.
use Rattle.std.proofs.Common.{◌≡◌, ◌≤◌, ◌+◌, ◌∙◌, ℕ, zero, suc, pos, negsuc, cond, List, [], ◌∷◌, map, filter, length, refl, sym, ap, ap₂, subst, arith, inl, inr, Bool, true, false, not, codes, true≢false}
use Rattle.std.specs.Prelude.{ℤ}
use Rattle.std.specs.Fmt.{digits}
use Rattle.std.specs.List.{range_with_len}
use Rattle.std.proofs.lemmas.Bool.{cases_eq, cases_lt, cases_Bool}
use Rattle.std.proofs.lemmas.List.{get_or-map}
use Rattle.std.proofs.lemmas.List.FromFn.{get_or-range_with_len, length-range_with_len}
use mathlib.Core.Path.{fun_ext}
use Rattle.sqlite_value.specs.declared.value.Value.TheVariants.{Null, Int, Real, Text, Blob}
use Rattle.sqlite_value.specs.Order.{Row, column}
use Rattle.sqlite.specs.Effect.{Database}
use Rattle.sqlite_trees.specs.Objects.{catalog_tree}
use Rattle.sqlite_trees.specs.Tree.{Trees}
use Rattle.sqlite_trees.specs.View.{IsShaped}
use Rattle.sqlite_trees.specs.declared.store.Shape.TheVariants.{Table}
use Rattle.sqlite_catalog.proofs.LayoutLemmas.{zipped_left, zipped_right}
use Rattle.sqlite_catalog.proofs.SoundLemmas.{list_parts}
use Rattle.sqlite_catalog.specs.Listing.{AreListed, IsIndexRow, automatic, is_index_row, IsTableRow, IsViewRow, is_table_row, is_view_row}
use Rattle.sqlite_rules.proofs.ListLemmas.{has_filtered, has_kept, test_has}
use Rattle.sqlite_rules.specs.Lists.{Has}
use Rattle.sqlite_schema.specs.declared.schema.Index.{Index}
use Rattle.sqlite_schema.specs.declared.schema.Schema.{Schema}
use Rattle.sqlite_schema.specs.declared.schema.Table.{Table as SqlTable}
use Rattle.store_house.proofs.ArrangedLemmas.{found_by_name, table_by_name, not_by_name}
use Rattle.store_house.specs.Named.{IsArranged, IsReordered, house_names, house_trees, trees_of}
use Rattle.store_house.specs.Places.{tree_named, trees_named}
use Rattle.store_rows.specs.House.{IsHouse}
use Rattle.store_rows.specs.Schema.{band_table, bid_by_member, bid_table, category_table, edition_table, feedback_by_receiver, feedback_table, house_schema, house_table, item_by_category, item_by_end, item_by_leader, item_by_seller, item_table, later_band_table, member_table, question_by_asker, question_table, reserve_table, watch_table, house_by, watch_by_item}
use Rattle.tree_order.specs.Laws.{trees_at}
use Rattle.tree_order.specs.NumberLaws.{number_back, number_past, other_way}
use Rattle.tree_order.specs.Numbers.{AreInverse, number}
use Rattle.tree_order.specs.Renumbered.{renumbered_trees}
use Rattle.tree_order.specs.Rows.{in_order, is_table, renumbered_row, renumbered_rows, shifted}
use Rattle.store_files.proofs.Orders.{stays_low}
use Rattle.std.proofs.lemmas.Slice.Eq.{bytes_eq-Decides}
use Rattle.sqlite_value.specs.declared.value.Value.{Value}
use Rattle.std.specs.Str.{bytes_eq}

-- ---- the trees of a house

module _ (inner outer : List ℕ) (h : AreInverse inner outer) (rows : List Row) (table : IsShaped Table rows) where
  abbrev out : List Row
  out = renumbered_rows outer rows

  -- a table or an index of a schema that the list in order has is found by its name
  at_table : (schema : Schema) → AreListed out schema → (t : SqlTable) → Has schema.tables t → (other : ℕ) → number inner t.tree ≡ tree_named t.name other rows
  at_table schema are t has other = sym (table_by_name inner outer h rows table schema are t has other)

  at_index : (schema : Schema) → AreListed out schema → (i : Index) → Has schema.indexes i → (other : ℕ) → number inner i.tree ≡ tree_named i.name other rows
  at_index schema are i has other =
      let found = zipped_left (IsIndexRow schema.tables) (filter is_index_row out) schema.indexes i are.indexes has in
      let d = found.2.described in
      sym (found_by_name inner outer h rows table (list_parts out are.loads).1 found.0 (has_filtered is_index_row out found.0 found.1).0 i.tree d.low d.id i.name d.name_is other)

-- ---- the name of an index that an older house doesn't have

abbrev index_name : List ℕ
index_name = codes "watch_by_item"

another : (name : List ℕ) → not (bytes_eq name index_name) ≡ true → (v : Value) → v ≡ Text name → v ≡ Text index_name → ⊥
another name other v is same =
    let e : Text name ≡ Text index_name = sym is ∙ same in
    let one : name ≡ index_name = cc in
    true≢false (sym other ∙ ap not ((bytes_eq-Decides name index_name).1 one))

other_names : (rows : List Row) → AreListed rows (house_by false) → (s : Row) → Has rows s → column s 2 ≡ Text index_name → ⊥
other_names rows are s has named = elim (cases_Bool (is_table_row s)) [
  | inl table ↦ (
      let at = zipped_right IsTableRow (filter is_table_row rows) house_schema.tables s are.tables (has_kept is_table_row rows s has table) in
      another at.0.name (test_has (λ (t : SqlTable). not (bytes_eq t.name index_name)) house_schema.tables at.0 refl at.1) (column s 2) at.2.described.name_is named)
  | inr no_table ↦ elim (cases_Bool (is_view_row s)) [
    | inl view ↦ absurd (zipped_right IsViewRow (filter is_view_row rows) [] s are.views (has_kept is_view_row rows s has view)).1
    | inr no_view ↦ (
        let index : is_index_row s ≡ true = rw (no_table, no_view) refl in
        let at = zipped_right (IsIndexRow house_schema.tables) (filter is_index_row rows) (house_by false).indexes s are.indexes (has_kept is_index_row rows s has index) in
        another at.0.name (test_has (λ (i : Index). not (bytes_eq i.name index_name)) (house_by false).indexes at.0 refl at.1) (column s 2) at.2.described.name_is named)
  ]
]

next : {x y : ℕ} {xs ys : List ℕ} → x ≡ y → xs ≡ ys → x ∷ xs ≡ y ∷ ys
next e more = ap₂ (λ z zs. z ∷ zs) e more

-- the numbers of a house's trees
abbrev pub house_places : List ℕ → List ℕ
house_places numbers = map (number numbers) (range_with_len 0 28)

-- the names find them, and an index that is not there is said to be where it would be
last_found : (inner outer : List ℕ) → AreInverse inner outer → (rows : List Row) → IsShaped Table rows → (b : Bool) → AreListed (renumbered_rows outer rows) (house_by b)
    → length inner ≤ trees_of b → number inner 27 ≡ tree_named index_name 27 rows
last_found inner outer h rows shape true are few = at_index inner outer h rows shape (house_by true) are watch_by_item (inr (inr (inr (inr (inr (inr (inr (inr (inr (inr (inr (inr (inr (inr (inr (inl refl)))))))))))))))) 27
last_found inner outer h rows shape false are few =
    number_past inner 27 (omega (arith, few)) ∙ sym (not_by_name inner outer h rows shape index_name 27 (other_names (renumbered_rows outer rows) are))

pub names_find : (inner outer : List ℕ) → AreInverse inner outer → (rows : List Row) → IsShaped Table rows → (b : Bool) → AreListed (renumbered_rows outer rows) (house_by b)
    → length inner ≤ trees_of b → (below : Trees) → below catalog_tree ≡ rows → house_places inner ≡ house_trees below
unfolding house_names digits
names_find inner outer h rows shape b are few below same =
    let table = at_table inner outer h rows shape (house_by b) are in
    let index = at_index inner outer h rows shape (house_by b) are in
    let found : house_places inner ≡ trees_named house_names 0 rows =
    (next (table house_table (inl refl) 0)
    (next (table band_table (inr (inl refl)) 1)
    (next (table member_table (inr (inr (inl refl))) 2)
    (next (index (automatic member_table 0 (2 ∷ []) 3) (inl refl) 3)
    (next (table category_table (inr (inr (inr (inl refl)))) 4)
    (next (index (automatic category_table 0 (2 ∷ []) 5) (inr (inl refl)) 5)
    (next (table item_table (inr (inr (inr (inr (inl refl))))) 6)
    (next (index (automatic item_table 0 (2 ∷ 4 ∷ []) 7) (inr (inr (inl refl))) 7)
    (next (table bid_table (inr (inr (inr (inr (inr (inl refl)))))) 8)
    (next (index (automatic bid_table 0 (1 ∷ 2 ∷ []) 9) (inr (inr (inr (inl refl)))) 9)
    (next (table watch_table (inr (inr (inr (inr (inr (inr (inl refl))))))) 10)
    (next (index (automatic watch_table 0 (1 ∷ 2 ∷ []) 11) (inr (inr (inr (inr (inl refl))))) 11)
    (next (table question_table (inr (inr (inr (inr (inr (inr (inr (inl refl)))))))) 12)
    (next (index (automatic question_table 0 (1 ∷ 2 ∷ 3 ∷ []) 13) (inr (inr (inr (inr (inr (inl refl)))))) 13)
    (next (table feedback_table (inr (inr (inr (inr (inr (inr (inr (inr (inl refl))))))))) 14)
    (next (index (automatic feedback_table 0 (1 ∷ 2 ∷ []) 15) (inr (inr (inr (inr (inr (inr (inl refl))))))) 15)
    (next (index item_by_category (inr (inr (inr (inr (inr (inr (inr (inl refl)))))))) 16)
    (next (index item_by_seller (inr (inr (inr (inr (inr (inr (inr (inr (inl refl))))))))) 17)
    (next (index item_by_leader (inr (inr (inr (inr (inr (inr (inr (inr (inr (inl refl)))))))))) 18)
    (next (index item_by_end (inr (inr (inr (inr (inr (inr (inr (inr (inr (inr (inl refl))))))))))) 19)
    (next (index bid_by_member (inr (inr (inr (inr (inr (inr (inr (inr (inr (inr (inr (inl refl)))))))))))) 20)
    (next (index question_by_asker (inr (inr (inr (inr (inr (inr (inr (inr (inr (inr (inr (inr (inl refl))))))))))))) 21)
    (next (index feedback_by_receiver (inr (inr (inr (inr (inr (inr (inr (inr (inr (inr (inr (inr (inr (inl refl)))))))))))))) 22)
    (next (table reserve_table (inr (inr (inr (inr (inr (inr (inr (inr (inr (inl refl)))))))))) 23)
    (next (table edition_table (inr (inr (inr (inr (inr (inr (inr (inr (inr (inr (inl refl))))))))))) 24)
    (next (table later_band_table (inr (inr (inr (inr (inr (inr (inr (inr (inr (inr (inr (inl refl)))))))))))) 25)
    (next (index (automatic later_band_table 0 (1 ∷ 2 ∷ []) 26) (inr (inr (inr (inr (inr (inr (inr (inr (inr (inr (inr (inr (inr (inr (inl refl))))))))))))))) 26)
    (next (last_found inner outer h rows shape b are few)
    refl)))))))))))))))))))))))))))) in
    found ∙ ap (trees_named house_names 0) (sym same)

-- ---- lists that lead to the same numbers

module _ (one other : List ℕ) (agree : (t : ℕ) → number one t ≡ number other t) where
  same_id : (id : ℤ) → shifted one id ≡ shifted other id
  same_id (pos zero) = refl
  same_id (pos (suc t)) = ap (λ n. pos (n + 1)) (agree t)
  same_id (negsuc n) = refl

  same_row : (row : Row) → renumbered_row one row ≡ renumbered_row other row
  same_row [] = refl
  same_row (Null ∷ more) = refl
  same_row (Int id ∷ more) = ap (λ k. Int k ∷ more) (same_id id)
  same_row (Real x ∷ more) = refl
  same_row (Text t ∷ more) = refl
  same_row (Blob b ∷ more) = refl

  same_each : (rows : List Row) → map (renumbered_row one) rows ≡ map (renumbered_row other) rows
  same_each [] = refl
  same_each (row ∷ rows) = ap₂ (λ r more. r ∷ more) (same_row row) (same_each rows)

  same_list : (rows : List Row) → renumbered_rows one rows ≡ renumbered_rows other rows
  same_list rows = ap (λ l. cond (is_table rows) (in_order l) rows) (same_each rows)

same_trees : (inner outer more_inner more_outer : List ℕ) → ((t : ℕ) → number inner t ≡ number more_inner t) → ((t : ℕ) → number outer t ≡ number more_outer t) → (below : Trees)
    → renumbered_trees inner outer below ≡ renumbered_trees more_inner more_outer below
same_trees inner outer more_inner more_outer agree back below = fun_ext (λ tree. elim (cases_eq tree catalog_tree) [
  | inl same ↦
      ap (renumbered_trees inner outer below) same ∙ same_list outer more_outer back (below catalog_tree)
      ∙ ap (renumbered_trees more_inner more_outer below) (sym same)
  | inr other ↦ trees_at inner outer below tree other ∙ ap below (agree tree) ∙ sym (trees_at more_inner more_outer below tree other)
])

places_long : (numbers : List ℕ) → length (house_places numbers) ≡ 28
places_long numbers = refl

-- a list of no more numbers than those of a house leads where these lead
places_at : (numbers : List ℕ) → length numbers ≤ 28 → (t : ℕ) → number (house_places numbers) t ≡ number numbers t
places_at numbers few t = elim (cases_lt t 28) [
  | inl low ↦
      get_or-map (number numbers) (range_with_len 0 28) t 0 t (omega (arith, length-range_with_len 0 28))
      ∙ ap (number numbers) (omega (arith, get_or-range_with_len 0 28 t 0 low))
  | inr past ↦ number_past (house_places numbers) t (omega (arith, places_long numbers)) ∙ sym (number_past numbers t (omega (arith, few)))
]

places_inverse : (inner outer : List ℕ) → AreInverse inner outer → length inner ≤ 28 → AreInverse (house_places inner) (house_places outer)
places_inverse inner outer h few = record {
  few = omega (arith, places_long inner);
  same = refl;
  low = λ t low. omega (arith, places_long inner, places_at inner few t, stays_low inner outer h 28 t few (omega (arith, places_long inner)));
  back = λ t low. places_at outer less (number (house_places inner) t) ∙ ap (number outer) (places_at inner few t) ∙ number_back inner outer h t;
  high = λ t low. omega (arith, places_long inner, places_at outer less t, stays_low outer inner back 28 t less (omega (arith, places_long inner)));
  forth = λ t low. places_at inner few (number (house_places outer) t) ∙ ap (number inner) (places_at outer less t) ∙ number_back outer inner back t;
}
  where
    less : length outer ≤ 28
    less = omega (arith, h.same, few)

    back : AreInverse outer inner
    back = other_way inner outer h

-- ---- a house in any order

no_more : (b : Bool) (n : ℕ) → n ≤ trees_of b → n ≤ 28
no_more true n few = few
no_more false n few = omega (arith, few)

pub arranged_by_names : (below : Trees) (db : Database) → IsShaped Table (below catalog_tree) → (order : IsReordered below db.trees) → (house : IsHouse db)
    → length order.inner ≤ trees_of house.is_indexed → IsArranged below db.trees
arranged_by_names below db table order house within =
    let rows = below catalog_tree in
    let b = house.is_indexed in
    let few : length order.inner ≤ 28 = no_more b (length order.inner) within in
    let less : length order.outer ≤ 28 = omega (arith, order.inverse.same, few) in
    let listed : AreListed (renumbered_rows order.outer rows) (house_by b) =
    subst (λ (d : Trees). AreListed (d catalog_tree) (house_by b)) order.shown (subst (AreListed (db.trees catalog_tree)) house.schema house.sound.lists.listed) in
    record {
      order = record {
        inner = house_places order.inner;
        outer = house_places order.outer;
        inverse = places_inverse order.inner order.outer order.inverse few;
        shown = order.shown
            ∙ sym (same_trees (house_places order.inner) (house_places order.outer) order.inner order.outer (places_at order.inner few) (places_at order.outer less) below);
      };
      named = names_find order.inner order.outer order.inverse rows table b listed within below refl;
    }
