-- A database that is shown in another order is one in its own.
use Rattle.std.proofs.Common.{◌≡◌, ◌<◌, ◌+◌, ◌*◌, ◌∙◌, ℕ, zero, suc, pos, Bool, true, false, List, [], ◌∷◌, map, filter, find, codes, not, ◌&&◌, eqb, Option, Some, None, option_map, refl, sym, ap, ap₂, subst, subst₂, arith, inl, inr, true≢false, add-one, eq-eqb, ne_eqb, Less}
use Rattle.std.specs.Prelude.{option_and_then}
use Rattle.std.specs.List.{AllByRecursion, AllZip, list_any}
use Rattle.std.proofs.lemmas.Bool.{cases_Bool, cases_eq, or_cases, or_left, or_right}
use Rattle.sqlite_value.specs.declared.value.Value.{Value}
use Rattle.sqlite_value.specs.declared.value.Value.TheVariants.{Null, Int, Real, Text, Blob}
use Rattle.sqlite_value.specs.Keys.{ascending, joined}
use Rattle.sqlite_value.specs.declared.keys.Order.{Order}
use Rattle.sqlite_value.specs.Order.{Row, column, value_cmp}
use Rattle.sqlite_trees.specs.Objects.{catalog_tree, number_in}
use Rattle.sqlite_trees.specs.Sound.{are_in_order, head_at, is_sound_object}
use Rattle.sqlite_trees.specs.Tree.{IsAscending, Trees, rowid}
use Rattle.sqlite_trees.specs.View.{IsShaped}
use Rattle.sqlite_trees.specs.declared.store.Shape.TheVariants.{Table}
use Rattle.sqlite_sql.specs.Catalog.{IsIndexOf}
use Rattle.sqlite_rules.proofs.ListLemmas.{all_from, all_has, has_filtered, has_found, has_kept, test_from, test_has}
use Rattle.sqlite_rules.specs.Lists.{Has}
use Rattle.sqlite_schema.specs.Names.{column_named, place_of, same_name}
use Rattle.sqlite_schema.specs.Rules.{Obeys, agree, clashes, collation_at, declared_order, guards, has_parent, index_reals, is_held, key_in, key_places, parent_key, passes, places_named, table_reals}
use Rattle.sqlite_schema.specs.declared.schema.Constraint.{Constraint}
use Rattle.sqlite_schema.specs.declared.schema.Constraint.TheVariants.{Datatype, NotNull, Check, PrimaryKey, Unique, ForeignKey}
use Rattle.sqlite_schema.specs.declared.schema.Index.{Index}
use Rattle.sqlite_schema.specs.declared.schema.Reference.{Reference}
use Rattle.sqlite_schema.specs.declared.schema.Schema.{Schema}
use Rattle.sqlite_schema.specs.declared.schema.Table.{Table as SqlTable}
use Rattle.sqlite_schema.specs.declared.schema.View.{View as Stored}
use Rattle.sqlite_catalog.proofs.LayoutLemmas.{ascending_filter, index_owner, rising_trees, zipped_ascending, zipped_left, zipped_right}
use Rattle.sqlite_catalog.proofs.SoundLemmas.{list_from, list_parts, lowered}
use Rattle.sqlite_catalog.proofs.StepLemmas.{named_once}
use Rattle.sqlite_catalog.specs.Listing.{AreListed, Describes, IsDefined, IsGuarded, IsIndexRow, IsSound, IsTableRow, IsViewRow, automatic, is_index_row, is_table_row, is_view_row}
use Rattle.order_laws.proofs.DefinedLemmas.{index_defined_moved}
use Rattle.order_laws.proofs.MovedLemmas.{from_out, low_number, moved_id, moved_there, out_table}
use Rattle.tree_order.specs.Laws.{trees_at}
use Rattle.tree_order.specs.NumberLaws.{same_number}
use Rattle.tree_order.specs.Numbers.{AreInverse, number}
use Rattle.tree_order.specs.Renumbered.{renumbered_trees}
use Rattle.tree_order.specs.RowLaws.{column_kept}
use Rattle.tree_order.specs.Rows.{renumbered_row, renumbered_rows}

abbrev pub moved_table : List ℕ → SqlTable → SqlTable
moved_table inner t = record t { tree = number inner t.tree }

abbrev pub moved_index : List ℕ → Index → Index
moved_index inner i = record i { tree = number inner i.tree; table = number inner i.table }

table_kept : (inner : List ℕ) (s : Row) → is_table_row (renumbered_row inner s) ≡ is_table_row s
table_kept inner [] = refl
table_kept inner (id ∷ more) = refl

view_kept : (inner : List ℕ) (s : Row) → is_view_row (renumbered_row inner s) ≡ is_view_row s
view_kept inner [] = refl
view_kept inner (id ∷ more) = refl

index_kept : (inner : List ℕ) (s : Row) → is_index_row (renumbered_row inner s) ≡ is_index_row s
index_kept inner [] = refl
index_kept inner (id ∷ more) = refl

object_kept : (inner : List ℕ) (s : Row) → is_sound_object (renumbered_row inner s) ≡ is_sound_object s
object_kept inner [] = refl
object_kept inner (id ∷ more) = refl

describes_moved : (inner : List ℕ) (s : Row) (tree code bits : ℕ) (kind name owner : List ℕ) → number inner tree < 65536
    → Describes s tree kind name owner code bits → Describes (renumbered_row inner s) (number inner tree) kind name owner code bits
describes_moved inner s tree code bits kind name owner low d = record {
  low = low;
  id = moved_id inner s tree d.id ∙ sym (ap (λ n. Int (pos n)) (add-one (number inner tree)));
  kind_is = column_kept inner s 0 ∙ d.kind_is;
  name_is = column_kept inner s 1 ∙ d.name_is;
  owner_is = column_kept inner s 2 ∙ d.owner_is;
  shape_is = ap number_in (column_kept inner s 4) ∙ d.shape_is;
  reals_are = ap number_in (column_kept inner s 5) ∙ d.reals_are;
  fits = d.fits;
}

table_over : (inner : List ℕ) (s : Row) (t : SqlTable) → number inner t.tree < 65536 → IsTableRow s t → IsTableRow (renumbered_row inner s) (moved_table inner t)
table_over inner s t low r = record {
  described = describes_moved inner s t.tree 1 (table_reals t) (codes "table") t.name t.name low r.described;
  sql = r.sql;
  sql_is = column_kept inner s 3 ∙ r.sql_is;
  defined = (r.defined.0, r.defined.1, ap (λ (x : SqlTable). record x { tree = number inner t.tree }) r.defined.2);
  formed = r.formed;
  utf8 = r.utf8;
}

defined_over : (inner : List ℕ) (t : SqlTable) (i : Index) (v : Value) → IsDefined t i v → IsDefined (moved_table inner t) (moved_index inner i) v
defined_over inner t i Null d = (d.0, d.1, d.2, ap (moved_index inner) d.3, d.4)
defined_over inner t i (Int n) d = absurd d
defined_over inner t i (Real x) d = absurd d
defined_over inner t i (Text sql) d =
    (record d.0 { table = number inner t.tree }, index_defined_moved t (number inner t.tree) sql d.0 d.1, ap (moved_index inner) d.2)
defined_over inner t i (Blob b) d = absurd d

-- the columns of a key don't go by the tree

collation_moved : (t : SqlTable) (k at : ℕ) → collation_at (record t { tree = k }) at ≡ collation_at t at
collation_moved t k zero = refl
collation_moved t k (suc at) = refl

declared_moved : (t : SqlTable) (k : ℕ) (places : List ℕ) → declared_order (record t { tree = k }) places ≡ declared_order t places
declared_moved t k [] = refl
declared_moved t k (p ∷ ps) = ap₂ (λ c o. option_and_then (joined (ascending c)) o) (collation_moved t k p) (declared_moved t k ps)

places_named_moved : (t : SqlTable) (k : ℕ) (names : List (List ℕ)) → places_named (record t { tree = k }) names ≡ places_named t names
places_named_moved t k [] = refl
places_named_moved t k (name ∷ names) =
    ap (λ o. option_and_then (λ at. option_map (λ ps. place_of t at ∷ ps) o) (column_named t name)) (places_named_moved t k names)

key_places_moved : (t : SqlTable) (k : ℕ) (names : List (List ℕ)) → key_places (record t { tree = k }) names ≡ key_places t names
key_places_moved t k [] = refl
key_places_moved t k (name ∷ names) = places_named_moved t k (name ∷ names)

choose : {A B : Type 0} (p : A → Bool) (R : A → B → Type 0) (xs : List A) → ((x : A) → Has xs x → p x ≡ true → (y : B) × R x y) → (ys : List B) × AllZip R (filter p xs) ys
choose p R [] f = ([], tt)
choose p R (x ∷ xs) f =
    let more = choose p R xs (λ y h. f y (inr h)) in
    elim (cases_Bool (p x)) [
      | inl is ↦ let y = f x (inl refl) is in (y.0 ∷ more.0, (rw is (y.1, more.1)))
      | inr other ↦ (more.0, (rw other more.1))
    ]

zip_first : {A B : Type 0} (P Q : A → B → Type 0) (xs : List A) (ys : List B) → AllZip (λ x y. P x y × Q x y) xs ys → AllZip P xs ys
zip_first P Q [] [] all = tt
zip_first P Q [] (y ∷ ys) all = absurd all
zip_first P Q (x ∷ xs) [] all = absurd all
zip_first P Q (x ∷ xs) (y ∷ ys) all = (all.0.0, zip_first P Q xs ys all.1)

zip_each : {A B : Type 0} (P : A → B → Type 0) (Q : B → Type 0) (xs : List A) (ys : List B) → AllZip (λ x y. P x y × Q y) xs ys → AllByRecursion Q ys
zip_each P Q [] [] all = tt
zip_each P Q [] (y ∷ ys) all = absurd all
zip_each P Q (x ∷ xs) [] all = absurd all
zip_each P Q (x ∷ xs) (y ∷ ys) all = (all.0.1, zip_each P Q xs ys all.1)

zip_none : {A B : Type 0} (xs : List A) (ys : List B) → AllZip (λ x y. ⊥) xs ys → (xs ≡ []) × (ys ≡ [])
zip_none [] [] all = (refl, refl)
zip_none [] (y ∷ ys) all = absurd all
zip_none (x ∷ xs) [] all = absurd all
zip_none (x ∷ xs) (y ∷ ys) all = absurd all.0

one_by_tree : {X : Type 0} (tree : X → ℕ) (xs : List X) (s t : X) → IsAscending (λ a b. tree a ≡ tree b → ⊥) xs → Has xs s → Has xs t → tree s ≡ tree t → s ≡ t
one_by_tree tree [] s t apart h k same = absurd h
one_by_tree tree (u ∷ xs) s t apart (inl h) (inl k) same = h ∙ sym k
one_by_tree tree (u ∷ xs) s t apart (inl h) (inr k) same = absurd (all_has (λ b. tree u ≡ tree b → ⊥) xs t apart.0 k (ap tree (sym h) ∙ same))
one_by_tree tree (u ∷ xs) s t apart (inr h) (inl k) same = absurd (all_has (λ b. tree u ≡ tree b → ⊥) xs s apart.0 h (ap tree (sym k) ∙ sym same))
one_by_tree tree (u ∷ xs) s t apart (inr h) (inr k) same = one_by_tree tree xs s t apart.1 h k same

trees_agree : (r : Row) (a b : ℕ) → rowid r ≡ Int (pos (a + 1)) → rowid r ≡ Int (pos (suc b)) → a ≡ b
trees_agree r a b p q = let e : a + 1 ≡ suc b = ap number_in (sym p ∙ q) in omega (arith, e)

find_one : {X : Type 0} (p : X → Bool) (xs : List X) (x : X) → Has xs x → p x ≡ true → ((y : X) → Has xs y → p y ≡ true → y ≡ x) → find p xs ≡ Some x
find_one p [] x has is one = absurd has
find_one p (y ∷ xs) x has is one = elim (cases_Bool (p y)) [
  | inl yes_it ↦ rw yes_it (ap Some (one y (inl refl) yes_it))
  | inr no_it ↦ elim has [
    | inl same ↦ absurd (true≢false (sym is ∙ ap p same ∙ no_it))
    | inr more ↦ rw no_it (find_one p xs x more is (λ z h. one z (inr h)))
  ]
]

module _ (inner outer : List ℕ) (h : AreInverse inner outer) (schema : Schema) (below : Trees) (table : IsShaped Table (below catalog_tree))
    (up : are_in_order [] (map (head_at 1) (below catalog_tree)) ≡ true) (plain : schema.views ≡ []) (sound : IsSound schema (renumbered_trees inner outer below)) where
  abbrev shown : Trees
  shown = renumbered_trees inner outer below

  abbrev rows : List Row
  rows = below catalog_tree

  abbrev shown_rows : List Row
  shown_rows = renumbered_rows outer rows

  are : AreListed shown_rows schema
  are = sound.lists.listed

  rising : IsAscending (λ a b. value_cmp (rowid a) (rowid b) ≡ Less) shown_rows
  rising = (out_table inner outer h rows table).0

  -- ---- tables

  abbrev IsOwnTable : SqlTable → Type 0
  IsOwnTable own = (t : SqlTable) × Has schema.tables t × (own ≡ moved_table inner t)

  own_table : (r : Row) → Has rows r → is_table_row r ≡ true → (own : SqlTable) × (IsTableRow r own × IsOwnTable own)
  own_table r has is =
      let from = from_out inner outer h rows table r has in
      let there : is_table_row from.0 ≡ true = sym (table_kept inner from.0) ∙ ap is_table_row (sym from.2) ∙ is in
      let t = zipped_right IsTableRow (filter is_table_row shown_rows) schema.tables from.0 are.tables (has_kept is_table_row shown_rows from.0 from.1 there) in (
        moved_table inner t.0,
        (
          subst (λ x. IsTableRow x (moved_table inner t.0)) (sym from.2) (table_over inner from.0 t.0 (low_number inner outer h t.0.tree t.2.described.low) t.2),
          (t.0, t.1, refl),
        ),
      )

  tables_chosen : (ys : List SqlTable) × AllZip (λ r own. IsTableRow r own × IsOwnTable own) (filter is_table_row rows) ys
  tables_chosen = choose is_table_row (λ r own. IsTableRow r own × IsOwnTable own) rows own_table

  own_tables : List SqlTable
  own_tables = tables_chosen.0

  tables_listed : AllZip IsTableRow (filter is_table_row rows) own_tables
  unfolding own_tables tables_chosen
  tables_listed = zip_first IsTableRow (λ r own. IsOwnTable own) (filter is_table_row rows) own_tables tables_chosen.1

  tables_are : AllByRecursion IsOwnTable own_tables
  unfolding own_tables tables_chosen
  tables_are = zip_each IsTableRow IsOwnTable (filter is_table_row rows) own_tables tables_chosen.1

  tables_apart : IsAscending (λ (s t : SqlTable). s.tree ≡ t.tree → ⊥) schema.tables
  tables_apart = zipped_ascending IsTableRow (λ a b. value_cmp (rowid a) (rowid b) ≡ Less) (λ s t. s.tree ≡ t.tree → ⊥)
      (λ a b s t p q less same. rising_trees a b p.described.id q.described.id less same) (filter is_table_row shown_rows) schema.tables are.tables
      (ascending_filter (λ a b. value_cmp (rowid a) (rowid b) ≡ Less) is_table_row shown_rows rising)

  has_table : (t : SqlTable) → Has schema.tables t → Has own_tables (moved_table inner t)
  has_table t has =
      let s = zipped_left IsTableRow (filter is_table_row shown_rows) schema.tables t are.tables has in
      let within = has_filtered is_table_row shown_rows s.0 s.1 in
      let d = s.2.described in
      let there = moved_there inner outer h rows table s.0 within.0 t.tree d.id t.name d.name_is in
      let found = zipped_right IsTableRow (filter is_table_row rows) own_tables (renumbered_row inner s.0) tables_listed (has_kept is_table_row rows (renumbered_row inner s.0) there (table_kept inner s.0 ∙ within.1)) in
      let is = all_has IsOwnTable own_tables found.0 tables_are found.1 in
      let tree : number inner is.0.tree ≡ number inner t.tree =
      sym (ap (λ (x : SqlTable). x.tree) is.2) ∙ trees_agree (renumbered_row inner s.0) found.0.tree (number inner t.tree) found.2.described.id (moved_id inner s.0 t.tree d.id) in
      let one : is.0 ≡ t = one_by_tree (λ (x : SqlTable). x.tree) schema.tables is.0 t tables_apart is.1 has (same_number inner outer h is.0.tree t.tree tree) in
      subst (Has own_tables) (is.2 ∙ ap (moved_table inner) one) found.1

  -- ---- indexes

  abbrev IsOwnIndex : Index → Type 0
  IsOwnIndex own = (i : Index) × Has schema.indexes i × (own ≡ moved_index inner i)

  index_over : (s : Row) (i : Index) → IsIndexRow schema.tables s i → IsIndexRow own_tables (renumbered_row inner s) (moved_index inner i)
  index_over s i r = record {
    table = moved_table inner r.table;
    listed = has_table r.table r.listed;
    described = describes_moved inner s i.tree (2 + 8 * i.order.digits) (index_reals (table_reals r.table) i.columns) (codes "index") i.name r.table.name
        (low_number inner outer h i.tree r.described.low) r.described;
    defined = subst (IsDefined (moved_table inner r.table) (moved_index inner i)) (sym (column_kept inner s 3)) (defined_over inner r.table i (column s 4) r.defined);
  }

  own_index : (r : Row) → Has rows r → is_index_row r ≡ true → (own : Index) × (IsIndexRow own_tables r own × IsOwnIndex own)
  own_index r has is =
      let from = from_out inner outer h rows table r has in
      let there : is_index_row from.0 ≡ true = sym (index_kept inner from.0) ∙ ap is_index_row (sym from.2) ∙ is in
      let i = zipped_right (IsIndexRow schema.tables) (filter is_index_row shown_rows) schema.indexes from.0 are.indexes (has_kept is_index_row shown_rows from.0 from.1 there) in
      (moved_index inner i.0, (subst (λ x. IsIndexRow own_tables x (moved_index inner i.0)) (sym from.2) (index_over from.0 i.0 i.2), (i.0, i.1, refl)))

  indexes_chosen : (ys : List Index) × AllZip (λ r own. IsIndexRow own_tables r own × IsOwnIndex own) (filter is_index_row rows) ys
  indexes_chosen = choose is_index_row (λ r own. IsIndexRow own_tables r own × IsOwnIndex own) rows own_index

  own_indexes : List Index
  own_indexes = indexes_chosen.0

  indexes_listed : AllZip (IsIndexRow own_tables) (filter is_index_row rows) own_indexes
  unfolding own_indexes indexes_chosen
  indexes_listed = zip_first (IsIndexRow own_tables) (λ r own. IsOwnIndex own) (filter is_index_row rows) own_indexes indexes_chosen.1

  indexes_are : AllByRecursion IsOwnIndex own_indexes
  unfolding own_indexes indexes_chosen
  indexes_are = zip_each (IsIndexRow own_tables) IsOwnIndex (filter is_index_row rows) own_indexes indexes_chosen.1

  indexes_apart : IsAscending (λ (s t : Index). s.tree ≡ t.tree → ⊥) schema.indexes
  indexes_apart = zipped_ascending (IsIndexRow schema.tables) (λ a b. value_cmp (rowid a) (rowid b) ≡ Less) (λ s t. s.tree ≡ t.tree → ⊥)
      (λ a b s t p q less same. rising_trees a b p.described.id q.described.id less same) (filter is_index_row shown_rows) schema.indexes are.indexes
      (ascending_filter (λ a b. value_cmp (rowid a) (rowid b) ≡ Less) is_index_row shown_rows rising)

  has_index : (i : Index) → Has schema.indexes i → Has own_indexes (moved_index inner i)
  has_index i has =
      let s = zipped_left (IsIndexRow schema.tables) (filter is_index_row shown_rows) schema.indexes i are.indexes has in
      let within = has_filtered is_index_row shown_rows s.0 s.1 in
      let d = s.2.described in
      let there = moved_there inner outer h rows table s.0 within.0 i.tree d.id i.name d.name_is in
      let found = zipped_right (IsIndexRow own_tables) (filter is_index_row rows) own_indexes (renumbered_row inner s.0) indexes_listed (has_kept is_index_row rows (renumbered_row inner s.0) there (index_kept inner s.0 ∙ within.1)) in
      let is = all_has IsOwnIndex own_indexes found.0 indexes_are found.1 in
      let tree : number inner is.0.tree ≡ number inner i.tree =
      sym (ap (λ (x : Index). x.tree) is.2) ∙ trees_agree (renumbered_row inner s.0) found.0.tree (number inner i.tree) found.2.described.id (moved_id inner s.0 i.tree d.id) in
      let one : is.0 ≡ i = one_by_tree (λ (x : Index). x.tree) schema.indexes is.0 i indexes_apart is.1 has (same_number inner outer h is.0.tree i.tree tree) in
      subst (Has own_indexes) (is.2 ∙ ap (moved_index inner) one) found.1

  -- ---- the list

  no_view : (r : Row) → Has rows r → is_view_row r ≡ true → (own : Stored) × ⊥
  no_view r has is =
      let from = from_out inner outer h rows table r has in
      let there : is_view_row from.0 ≡ true = sym (view_kept inner from.0) ∙ ap is_view_row (sym from.2) ∙ is in
      let none : AllZip IsViewRow (filter is_view_row shown_rows) [] = subst (AllZip IsViewRow (filter is_view_row shown_rows)) plain are.views in
      absurd (zipped_right IsViewRow (filter is_view_row shown_rows) [] from.0 none (has_kept is_view_row shown_rows from.0 from.1 there)).1

  views_listed : AllZip IsViewRow (filter is_view_row rows) []
  views_listed =
      let none = choose is_view_row (λ r own. ⊥) rows no_view in
      subst (λ l. AllZip IsViewRow l []) (sym (zip_none (filter is_view_row rows) none.0 none.1).0) tt

  pub own_schema : Schema
  own_schema = record { tables = own_tables; indexes = own_indexes; views = [] }

  names_apart : (a b : Row) (x y : SqlTable) → IsTableRow a x × IsOwnTable x → IsTableRow b y × IsOwnTable y → value_cmp (rowid a) (rowid b) ≡ Less → same_name x.name y.name ≡ false
  names_apart a b x y p q less = elim (cases_Bool (same_name x.name y.name)) [
    | inr no_it ↦ no_it
    | inl yes_it ↦
        let t = p.1 in
        let u = q.1 in
        let same : same_name t.0.name u.0.name ≡ true = ap₂ same_name (sym (ap (λ (z : SqlTable). z.name) t.2)) (sym (ap (λ (z : SqlTable). z.name) u.2)) ∙ yes_it in
        let one : t.0 ≡ u.0 = named_once schema.tables t.0 u.0 are.named t.1 u.1 same in
        absurd (rising_trees a b p.0.described.id q.0.described.id less (ap (λ (z : SqlTable). z.tree) (t.2 ∙ ap (moved_table inner) one ∙ sym u.2)))
  ]

  own_listed : AreListed rows own_schema
  unfolding own_schema own_tables tables_chosen own_indexes indexes_chosen
  own_listed = record {
    tables = tables_listed;
    indexes = indexes_listed;
    views = views_listed;
    owned = tt;
    named = zipped_ascending (λ r own. IsTableRow r own × IsOwnTable own) (λ a b. value_cmp (rowid a) (rowid b) ≡ Less) (λ s t. same_name s.name t.name ≡ false)
        names_apart (filter is_table_row rows) own_tables tables_chosen.1 (ascending_filter (λ a b. value_cmp (rowid a) (rowid b) ≡ Less) is_table_row rows table.0);
    loads = list_from rows (test_from is_sound_object rows (λ r has.
        let from = from_out inner outer h rows table r has in
        ap is_sound_object from.2 ∙ object_kept inner from.0 ∙ test_has is_sound_object shown_rows from.0 (list_parts shown_rows are.loads).0 from.1)) up;
  }

  own_guarded : AllByRecursion (IsGuarded own_indexes) own_tables
  own_guarded = all_from (IsGuarded own_indexes) own_tables (λ o has.
      let is = all_has IsOwnTable own_tables o tables_are has in
      subst (IsGuarded own_indexes) (sym is.2) (λ at key got.
      let there = all_has (IsGuarded schema.indexes) schema.tables is.0 sound.lists.guarded is.1 at key got in
      (number inner there.0, has_index (automatic is.0 at key there.0) there.1)))

  -- ---- the rules

  rows_same : (tree : ℕ) → tree < 65536 → below (number inner tree) ≡ shown tree
  rows_same tree low = sym (trees_at inner outer below tree (λ e. omega arith))

  low_table : (t : SqlTable) → Has schema.tables t → t.tree < 65536
  low_table t has = (zipped_left IsTableRow (filter is_table_row shown_rows) schema.tables t are.tables has).2.described.low

  same_test : (a b : ℕ) → eqb (number inner a) (number inner b) ≡ eqb a b
  same_test a b = elim (cases_eq a b) [
    | inl met ↦ eq-eqb (number inner a) (number inner b) (ap (number inner) met) ∙ sym (eq-eqb a b met)
    | inr differ ↦ ne_eqb (number inner a) (number inner b) (λ e. differ (same_number inner outer h a b e)) ∙ sym (ne_eqb a b differ)
  ]

  unique_over : (t : SqlTable) → Has schema.tables t → (row : Row) → passes Unique schema shown t row ≡ true → passes Unique own_schema below (moved_table inner t) row ≡ true
  unfolding own_schema own_indexes
  unique_over t has row p = test_from (λ i. not (guards i (moved_table inner t) && clashes i.order i.columns (below (number inner t.tree)) row)) own_indexes (λ o there.
      let is = all_has IsOwnIndex own_indexes o indexes_are there in
      let base : not ((is.0.is_unique && eqb is.0.table t.tree) && clashes is.0.order is.0.columns (shown t.tree) row) ≡ true =
      test_has (λ i. not (guards i t && clashes i.order i.columns (shown t.tree) row)) schema.indexes is.0 p is.1 in
      ap (λ (i : Index). not (guards i (moved_table inner t) && clashes i.order i.columns (below (number inner t.tree)) row)) is.2
      ∙ ap₂ (λ b l. not ((is.0.is_unique && b) && clashes is.0.order is.0.columns l row)) (same_test is.0.table t.tree) (rows_same t.tree (low_table t has))
      ∙ base)

  held_within : (places : List ℕ) (row : Row) (p : SqlTable) → Has schema.tables p → (at : List ℕ) (o : Option Order)
      → is_held shown places row (option_map (λ x. (p.tree, at, x)) o) ≡ true → is_held below places row (option_map (λ x. (number inner p.tree, at, x)) o) ≡ true
  held_within places row p has at None is = is
  held_within places row p has at (Some x) is = ap (list_any (λ parent. agree x at parent places row)) (rows_same p.tree (low_table p has)) ∙ is

  held_by : (places : List ℕ) (row : Row) (p : SqlTable) → Has schema.tables p → (k : Option (List ℕ))
      → is_held shown places row (option_and_then (key_in p) k) ≡ true → is_held below places row (option_and_then (key_in (moved_table inner p)) k) ≡ true
  held_by places row p has None held = held
  held_by places row p has (Some at) held =
      ap (λ (o : Option Order). is_held below places row (option_map (λ x. (number inner p.tree, at, x)) o)) (declared_moved p (number inner p.tree) at)
      ∙ held_within places row p has at (declared_order p at) held

  held_over : (places : List ℕ) (row : Row) (p : SqlTable) → Has schema.tables p → (ref : Reference)
      → is_held shown places row (option_and_then (key_in p) (key_places p ref.parent_columns)) ≡ true
      → is_held below places row (option_and_then (key_in (moved_table inner p)) (key_places (moved_table inner p) ref.parent_columns)) ≡ true
  held_over places row p has ref held =
      ap (λ (k : Option (List ℕ)). is_held below places row (option_and_then (key_in (moved_table inner p)) k)) (key_places_moved p (number inner p.tree) ref.parent_columns)
      ∙ held_by places row p has (key_places p ref.parent_columns) held

  parent_over : (row : Row) (ref : Reference) → has_parent schema.tables shown row ref ≡ true → has_parent own_tables below row ref ≡ true
  parent_over row ref is = elim (or_cases _ _ is) [
    | inl null ↦ or_left _ _ null
    | inr held ↦ or_right _ _ (go (find (λ t. same_name t.name ref.parent) schema.tables) refl held)
  ]
    where
      go : (o : Option SqlTable) → find (λ t. same_name t.name ref.parent) schema.tables ≡ o
          → is_held shown ref.columns row (option_and_then (λ t. option_and_then (key_in t) (key_places t ref.parent_columns)) o) ≡ true
          → is_held below ref.columns row (parent_key own_tables ref) ≡ true
      go None e held = absurd (true≢false (sym held))
      go (Some p) e held =
          let found = has_found (λ t. same_name t.name ref.parent) schema.tables p e in
          let there : find (λ t. same_name t.name ref.parent) own_tables ≡ Some (moved_table inner p) =
          find_one (λ t. same_name t.name ref.parent) own_tables (moved_table inner p) (has_table p found.0) found.1 (λ o has same.
          let is_own = all_has IsOwnTable own_tables o tables_are has in
          let named : same_name is_own.0.name ref.parent ≡ true = ap (λ (z : SqlTable). same_name z.name ref.parent) (sym is_own.2) ∙ same in
          let one : is_own.0 ≡ p = named_once schema.tables is_own.0 p are.named is_own.1 found.0
          ((lowered is_own.0.name p.name).1 ((lowered is_own.0.name ref.parent).0 named ∙ sym ((lowered p.name ref.parent).0 found.1))) in
          is_own.2 ∙ ap (moved_table inner) one) in
          ap (λ o. is_held below ref.columns row (option_and_then (λ t. option_and_then (key_in t) (key_places t ref.parent_columns)) o)) there
          ∙ held_over ref.columns row p found.0 ref held

  passes_over : (rule : Constraint) (t : SqlTable) → Has schema.tables t → (row : Row) → passes rule schema shown t row ≡ true → passes rule own_schema below (moved_table inner t) row ≡ true
  unfolding own_schema own_tables
  passes_over Datatype t has row p = p
  passes_over NotNull t has row p = p
  passes_over Check t has row p = p
  passes_over PrimaryKey t has row p = p
  passes_over Unique t has row p = unique_over t has row p
  passes_over ForeignKey t has row p = test_from (has_parent own_tables below row) t.references (λ ref there. parent_over row ref (test_has (has_parent schema.tables shown row) t.references ref p there))

  own_obeys : Obeys own_schema below
  unfolding own_schema own_tables own_indexes
  own_obeys = record {
    rules = λ rule. all_from (λ t. AllByRecursion (λ row. passes rule own_schema below t row ≡ true) (below t.tree)) own_tables (λ o has.
        let is = all_has IsOwnTable own_tables o tables_are has in
        subst (λ (t : SqlTable). AllByRecursion (λ row. passes rule own_schema below t row ≡ true) (below t.tree)) (sym is.2)
        (all_from (λ row. passes rule own_schema below (moved_table inner is.0) row ≡ true) (below (number inner is.0.tree)) (λ row there.
        passes_over rule is.0 is.1 row (all_has (λ r. passes rule schema shown is.0 r ≡ true) (shown is.0.tree) row
        (all_has (λ t. AllByRecursion (λ r. passes rule schema shown t r ≡ true) (shown t.tree)) schema.tables is.0 (sound.obeys.rules rule) is.1)
        (subst (λ l. Has l row) (rows_same is.0.tree (low_table is.0 is.1)) there)))));
    indexed = all_from (λ i. IsIndexOf i.columns (below i.table) (below i.tree)) own_indexes (λ o has.
        let is = all_has IsOwnIndex own_indexes o indexes_are has in
        let row = zipped_left (IsIndexRow schema.tables) (filter is_index_row shown_rows) schema.indexes is.0 are.indexes is.1 in
        let owner : is.0.table ≡ row.2.table.tree = index_owner row.2.table is.0 (column row.0 4) row.2.defined in
        let low : is.0.table < 65536 = subst (λ n. n < 65536) (sym owner) (low_table row.2.table row.2.listed) in
        subst (λ (i : Index). IsIndexOf i.columns (below i.table) (below i.tree)) (sym is.2)
        (subst₂ (IsIndexOf is.0.columns) (sym (rows_same is.0.table low)) (sym (rows_same is.0.tree row.2.described.low))
        (all_has (λ i. IsIndexOf i.columns (shown i.table) (shown i.tree)) schema.indexes is.0 sound.obeys.indexed is.1)));
  }

  pub own_sound : IsSound own_schema below
  unfolding own_schema own_tables own_indexes
  own_sound = record { lists = record { listed = own_listed; guarded = own_guarded }; obeys = own_obeys }
