-- A list of objects under other numbers, which put each index after its table, lists the same objects under these numbers.
use Rattle.std.proofs.Common.{◌≡◌, ◌<◌, ◌≤◌, ◌+◌, ◌*◌, ◌∙◌, ◌⊎◌, ℕ, suc, pos, true, false, List, [], ◌∷◌, ◌++◌, map, filter, codes, refl, sym, ap, subst, arith, inl, inr, true≢false, add-one, Less}
use Rattle.std.specs.List.{AllByRecursion, AllZip}
use Rattle.std.proofs.lemmas.Bool.{and_from, cases_Bool}
use Rattle.std.proofs.lemmas.Cmp.{tied_itself}
use Rattle.std.proofs.lemmas.Int.{ints}
use Rattle.std.specs.Ordering.{ordering_reverse}
use Rattle.sqlite_value.specs.declared.value.Value.{Value}
use Rattle.sqlite_value.specs.declared.value.Value.TheVariants.{Null, Int, Real, Text, Blob}
use Rattle.sqlite_value.specs.Order.{Row, bytes, column, value_cmp}
use Rattle.sqlite_value.proofs.OrderLemmas.{value_cmp-Int, value_cmp_total}
use Rattle.sqlite_trees.specs.Objects.{number_in}
use Rattle.sqlite_trees.specs.Sound as sound
use Rattle.sqlite_trees.specs.Sound.{Head, are_in_order, head_at, is_sound_object, is_word, may_follow}
use Rattle.sqlite_trees.specs.Tree.{IsAscending, rowid}
use Rattle.sqlite_trees.specs.View.{IsShaped}
use Rattle.sqlite_trees.specs.declared.store.Shape.TheVariants as shape
use Rattle.sqlite_keyed.proofs.KeyedLemmas.{Less-from_lt, lt_from_Less}
use Rattle.sqlite_rules.proofs.ListLemmas.{all_from, all_has, has_filtered, has_kept, has_left, has_right, test_from, test_has}
use Rattle.sqlite_rules.specs.Lists.{Has}
use Rattle.sqlite_schema.specs.Names.{same_name}
use Rattle.sqlite_schema.specs.Rules.{index_reals, table_reals}
use Rattle.sqlite_schema.specs.declared.schema.Index.{Index}
use Rattle.sqlite_schema.specs.declared.schema.Schema.{Schema}
use Rattle.sqlite_schema.specs.declared.schema.Table.{Table}
use Rattle.sqlite_catalog.proofs.LayoutLemmas.{ascending_filter, index_owner, row_kind, zipped_left, zipped_right}
use Rattle.sqlite_catalog.proofs.SoundLemmas.{follow_from, list_from, list_parts, lowered, names_agree, owns}
use Rattle.sqlite_catalog.specs.Listing.{AreListed, Describes, IsDefined, IsGuarded, IsIndexRow, IsOwned, IsTableRow, IsViewRow, Lists, automatic, is_index_row, is_table_row, is_view_row}
use Rattle.order_laws.proofs.DefinedLemmas.{index_defined_moved}
use Rattle.order_laws.proofs.MovedLemmas.{from_out, low_number, moved_id, moved_there}
use Rattle.order_laws.proofs.TransferLemmas.{moved_index, moved_table}
use Rattle.tree_order.specs.NumberLaws.{other_way}
use Rattle.tree_order.specs.Numbers.{AreInverse, number}
use Rattle.tree_order.specs.RowLaws.{column_kept, renumbered_table, rows_back}
use Rattle.tree_order.specs.Rows.{renumbered_row, renumbered_rows}
use Rattle.store_rows.proofs.Wrote.{map_more}
use Rattle.store_making.proofs.ListedLemmas.{one_by_name, is_text}

-- ---- two lists that rise

rows_rise : (a b : Row) (s t : ℕ) → rowid a ≡ Int (pos (s + 1)) → rowid b ≡ Int (pos (t + 1)) → value_cmp (rowid a) (rowid b) ≡ Less → s < t
rows_rise a b s t p q less =
    let up = lt_from_Less (pos (s + 1)) (pos (t + 1)) (sym (value_cmp-Int (pos (s + 1)) (pos (t + 1))) ∙ rw (p, q) at less) in
    omega (arith, ints, up)

module _ {Y : Type 0} (R : Row → Y → Type 0) (tree : Y → ℕ) (id : (x : Row) (y : Y) → R x y → rowid x ≡ Int (pos (tree y + 1))) where
  -- Each row has its object and each object its row, and both lists rise: so they go pair by pair.
  zipped : (xs : List Row) (ys : List Y) → IsAscending (λ a b. value_cmp (rowid a) (rowid b) ≡ Less) xs → IsAscending (λ s t. tree s < tree t) ys
      → ((x : Row) → Has xs x → (y : Y) × Has ys y × R x y) → ((y : Y) → Has ys y → (x : Row) × Has xs x × R x y) → AllZip R xs ys
  zipped [] [] up rise to from = tt
  zipped [] (y ∷ ys) up rise to from = absurd (from y (inl refl)).1
  zipped (x ∷ xs) [] up rise to from = absurd (to x (inl refl)).1
  zipped (x ∷ xs) (y ∷ ys) up rise to from = (first, zipped xs ys up.1 rise.1 later earlier)
    where
      above : (z : Y) → Has (y ∷ ys) z → tree y ≤ tree z
      above z (inl same) = omega (arith, ap tree same)
      above z (inr more) = omega (arith, all_has (λ t. tree y < tree t) ys z rise.0 more)

      first : R x y
      first =
          let a = to x (inl refl) in
          let b = from y (inl refl) in
          elim b.1 [
            | inl same ↦ subst (λ r. R r y) same b.2
            | inr more ↦
                let low = rows_rise x b.0 (tree a.0) (tree y) (id x a.0 a.2) (id b.0 y b.2) (all_has (λ r. value_cmp (rowid x) (rowid r) ≡ Less) xs b.0 up.0 more) in
                absurd (omega (arith, low, above a.0 a.1))
          ]

      later : (z : Row) → Has xs z → (w : Y) × Has ys w × R z w
      later z has =
          let a = to z (inr has) in
          let low = rows_rise x z (tree y) (tree a.0) (id x y first) (id z a.0 a.2) (all_has (λ r. value_cmp (rowid x) (rowid r) ≡ Less) xs z up.0 has) in
          elim a.1 [
            | inl same ↦ absurd (omega (arith, low, ap tree same))
            | inr more ↦ (a.0, more, a.2)
          ]

      earlier : (w : Y) → Has ys w → (z : Row) × Has xs z × R z w
      earlier w has =
          let b = from w (inr has) in
          let low = all_has (λ t. tree y < tree t) ys w rise.0 has in
          elim b.1 [
            | inl same ↦
                let one : tree w + 1 ≡ tree y + 1 = ap number_in (sym (id b.0 w b.2) ∙ ap rowid same ∙ id x y first) in
                absurd (omega (arith, low, one))
            | inr more ↦ (b.0, more, b.2)
          ]

-- ---- rows that SQLite would load

-- an index that comes with its table, which is below it
abbrev HasTable : List Row → Row → Type 0
HasTable rows x = (e : Row) × Has rows e × (value_cmp (rowid e) (rowid x) ≡ Less) × (owns (head_at 1 x) (head_at 1 e) ≡ true)

never_below : (x e : Row) → x ≡ e → value_cmp (rowid x) (rowid e) ≡ Less → ⊥
never_below x e same less = let tied = ap (λ r. value_cmp (rowid r) (rowid e)) (sym same) ∙ less in let t = tied_itself value_cmp_total (rowid e) in absurd (cc)

module _ (whole : List Row) (apart : (a b : Row) → Has whole a → Has whole b → sound.same_name (bytes (column a 2)) (bytes (column b 2)) ≡ true → a ≡ b)
    (owned : (x : Row) → Has whole x → is_word (codes "index") (column x 1) ≡ true → HasTable whole x) where
  has_head : (rows : List Row) (e : Row) → Has rows e → Has (map (head_at 1) rows) (head_at 1 e)
  has_head [] e has = absurd has
  has_head (r ∷ rows) e (inl same) = inl (ap (head_at 1) same)
  has_head (r ∷ rows) e (inr more) = inr (has_head rows e more)

  of_head : (rows : List Row) (h : Head) → Has (map (head_at 1) rows) h → (e : Row) × Has rows e × (h ≡ head_at 1 e)
  of_head [] h has = absurd has
  of_head (r ∷ rows) h (inl same) = (r, inl refl, same)
  of_head (r ∷ rows) h (inr more) = let it = of_head rows h more in (it.0, inr it.1, it.2)

  -- rows so far, and those that are left, which rise
  in_order_on : (front rest : List Row) → ((e : Row) → Has whole e → Has front e ⊎ Has rest e) → ((e : Row) → Has front e → Has whole e) → ((e : Row) → Has rest e → Has whole e)
      → ((e x : Row) → Has front e → Has rest x → value_cmp (rowid e) (rowid x) ≡ Less) → IsAscending (λ a b. value_cmp (rowid a) (rowid b) ≡ Less) rest
      → are_in_order (map (head_at 1) front) (map (head_at 1) rest) ≡ true
  in_order_on front [] all from to below up = refl
  in_order_on front (x ∷ rest) all from to below up =
      and_from _ _ follows (subst (λ l. are_in_order l (map (head_at 1) rest) ≡ true) (map_more (head_at 1) front x) (in_order_on (front ++ x ∷ []) rest all_on from_on (λ e has. to e (inr has)) below_on up.1))
    where
      fresh : (e : Row) → Has front e → sound.same_name (bytes (column e 2)) (bytes (column x 2)) ≡ false
      fresh e has = elim (cases_Bool (sound.same_name (bytes (column e 2)) (bytes (column x 2)))) [
        | inl yes_it ↦ absurd (never_below e x (apart e x (from e has) (to x (inl refl)) yes_it) (below e x has (inl refl)))
        | inr no_it ↦ no_it
      ]

      in_front : (e : Row) → Has whole e → value_cmp (rowid e) (rowid x) ≡ Less → Has front e
      in_front e has less = elim (all e has) [
        | inl there ↦ there
        | inr (inl same) ↦ absurd (never_below e x same less)
        | inr (inr later) ↦
            let over = all_has (λ b. value_cmp (rowid x) (rowid b) ≡ Less) rest e up.0 later in
            absurd (never_both (rowid e) (rowid x) less over)
      ]
        where
          never_both : (v w : Value) → value_cmp v w ≡ Less → value_cmp w v ≡ Less → ⊥
          never_both v w one two = let e = value_cmp_total.antisymm v w ∙ ap ordering_reverse two in absurd (let x = sym one ∙ e in cc)

      follows : may_follow (map (head_at 1) front) (head_at 1 x) ≡ true
      follows = follow_from (map (head_at 1) front) (head_at 1 x)
          (λ h has. let it = of_head front h has in subst (λ (y : Head). sound.same_name (bytes y.1) (bytes (column x 2)) ≡ false) (sym it.2) (fresh it.0 it.1))
          (elim (cases_Bool (is_word (codes "index") (column x 1))) [
            | inl yes_it ↦ let it = owned x (to x (inl refl)) yes_it in inr (head_at 1 it.0, has_head front it.0 (in_front it.0 it.1 it.2), it.3)
            | inr no_it ↦ inl no_it
          ])

      either : (e : Row) → Has (front ++ x ∷ []) e → Has front e ⊎ (e ≡ x)
      either e = go front
        where
          go : (l : List Row) → Has (l ++ x ∷ []) e → Has l e ⊎ (e ≡ x)
          go [] (inl same) = inr same
          go [] (inr none) = absurd none
          go (y ∷ l) (inl same) = inl (inl same)
          go (y ∷ l) (inr has) = elim (go l has) [ inl there ↦ inl (inr there) | inr same ↦ inr same ]

      all_on : (e : Row) → Has whole e → Has (front ++ x ∷ []) e ⊎ Has rest e
      all_on e has = elim (all e has) [
        | inl there ↦ inl (has_left front (x ∷ []) e there)
        | inr (inl same) ↦ inl (has_right front (x ∷ []) e (inl same))
        | inr (inr later) ↦ inr later
      ]

      from_on : (e : Row) → Has (front ++ x ∷ []) e → Has whole e
      from_on e has = elim (either e has) [ inl there ↦ from e there | inr same ↦ subst (Has whole) (sym same) (to x (inl refl)) ]

      below_on : (e y : Row) → Has (front ++ x ∷ []) e → Has rest y → value_cmp (rowid e) (rowid y) ≡ Less
      below_on e y has later = elim (either e has) [
        | inl there ↦ below e y there (inr later)
        | inr same ↦ subst (λ r. value_cmp (rowid r) (rowid y) ≡ Less) (sym same) (all_has (λ b. value_cmp (rowid x) (rowid b) ≡ Less) rest y up.0 later)
      ]

-- ---- one row under another number

table_kept : (numbers : List ℕ) (s : Row) → is_table_row (renumbered_row numbers s) ≡ is_table_row s
table_kept numbers [] = refl
table_kept numbers (id ∷ more) = refl

view_kept : (numbers : List ℕ) (s : Row) → is_view_row (renumbered_row numbers s) ≡ is_view_row s
view_kept numbers [] = refl
view_kept numbers (id ∷ more) = refl

index_kept : (numbers : List ℕ) (s : Row) → is_index_row (renumbered_row numbers s) ≡ is_index_row s
index_kept numbers [] = refl
index_kept numbers (id ∷ more) = refl

object_kept : (numbers : List ℕ) (s : Row) → is_sound_object (renumbered_row numbers s) ≡ is_sound_object s
object_kept numbers [] = refl
object_kept numbers (id ∷ more) = refl

describes_moved : (numbers : List ℕ) (s : Row) (tree code bits : ℕ) (kind name owner : List ℕ) → number numbers tree < 65536
    → Describes s tree kind name owner code bits → Describes (renumbered_row numbers s) (number numbers tree) kind name owner code bits
describes_moved numbers s tree code bits kind name owner low d = record {
  low = low;
  id = moved_id numbers s tree d.id ∙ sym (ap (λ n. Int (pos n)) (add-one (number numbers tree)));
  kind_is = column_kept numbers s 0 ∙ d.kind_is;
  name_is = column_kept numbers s 1 ∙ d.name_is;
  owner_is = column_kept numbers s 2 ∙ d.owner_is;
  shape_is = ap number_in (column_kept numbers s 4) ∙ d.shape_is;
  reals_are = ap number_in (column_kept numbers s 5) ∙ d.reals_are;
  fits = d.fits;
}

table_over : (numbers : List ℕ) (s : Row) (t : Table) → number numbers t.tree < 65536 → IsTableRow s t → IsTableRow (renumbered_row numbers s) (moved_table numbers t)
table_over numbers s t low r = record {
  described = describes_moved numbers s t.tree 1 (table_reals t) (codes "table") t.name t.name low r.described;
  sql = r.sql;
  sql_is = column_kept numbers s 3 ∙ r.sql_is;
  defined = (r.defined.0, r.defined.1, ap (λ (x : Table). record x { tree = number numbers t.tree }) r.defined.2);
  formed = r.formed;
  utf8 = r.utf8;
}

defined_over : (numbers : List ℕ) (t : Table) (i : Index) (v : Value) → IsDefined t i v → IsDefined (moved_table numbers t) (moved_index numbers i) v
defined_over numbers t i Null d = (d.0, d.1, d.2, ap (moved_index numbers) d.3, d.4)
defined_over numbers t i (Int n) d = absurd d
defined_over numbers t i (Real x) d = absurd d
defined_over numbers t i (Text sql) d =
    (record d.0 { table = number numbers t.tree }, index_defined_moved t (number numbers t.tree) sql d.0 d.1, ap (moved_index numbers) d.2)
defined_over numbers t i (Blob b) d = absurd d

-- ---- the list

-- The schema under the numbers: its tables and indexes are those of the other one, and rise by their trees.
pub record IsMoved (numbers : List ℕ) (schema moved : Schema) : Type 0 where
  pub tables_to : AllByRecursion (λ t. Has moved.tables (moved_table numbers t)) schema.tables
  pub tables_from : AllByRecursion (λ own. (t : Table) × Has schema.tables t × (own ≡ moved_table numbers t)) moved.tables
  pub tables_rise : IsAscending (λ (s t : Table). s.tree < t.tree) moved.tables
  pub indexes_to : AllByRecursion (λ i. Has moved.indexes (moved_index numbers i)) schema.indexes
  pub indexes_from : AllByRecursion (λ own. (i : Index) × Has schema.indexes i × (own ≡ moved_index numbers i)) moved.indexes
  pub indexes_rise : IsAscending (λ (i j : Index). i.tree < j.tree) moved.indexes
  pub after : AllByRecursion (λ (i : Index). number numbers i.table < number numbers i.tree) schema.indexes
  pub views : schema.views ≡ []
  pub none : moved.views ≡ []
  pub named : IsAscending (λ (s t : Table). same_name s.name t.name ≡ false) moved.tables

module _ (back numbers : List ℕ) (h : AreInverse back numbers) (schema moved : Schema) (is : IsMoved numbers schema moved) (rows : List Row)
    (table : IsShaped shape.Table rows) (lists : Lists rows schema) where
  are : AreListed rows schema
  are = lists.listed

  abbrev pub out : List Row
  out = renumbered_rows numbers rows

  rising : IsShaped shape.Table out
  rising = renumbered_table numbers rows table

  there : AreInverse numbers back
  there = other_way back numbers h

  -- each row is one of the first list, moved, and each of that is there, moved
  from_rows : (x : Row) → Has out x → (s : Row) × Has rows s × (x ≡ renumbered_row numbers s)
  from_rows x has = let it = from_out numbers back there out rising x has in (it.0, subst (λ l. Has l it.0) (rows_back back numbers h rows) it.1, it.2)

  to_out : (s : Row) → Has rows s → (tree : ℕ) → rowid s ≡ Int (pos (tree + 1)) → (name : List ℕ) → column s 2 ≡ Text name → Has out (renumbered_row numbers s)
  to_out s has = moved_there numbers back there out rising s (subst (λ l. Has l s) (sym (rows_back back numbers h rows)) has)

  low : (tree : ℕ) → tree < 65536 → number numbers tree < 65536
  low = low_number numbers back there

  -- ---- tables

  table_to : (x : Row) → Has (filter is_table_row out) x → (own : Table) × Has moved.tables own × IsTableRow x own
  table_to x has =
      let within = has_filtered is_table_row out x has in
      let from = from_rows x within.0 in
      let kept : is_table_row from.0 ≡ true = sym (table_kept numbers from.0) ∙ ap is_table_row (sym from.2) ∙ within.1 in
      let t = zipped_right IsTableRow (filter is_table_row rows) schema.tables from.0 are.tables (has_kept is_table_row rows from.0 from.1 kept) in (
        moved_table numbers t.0,
        all_has (λ t. Has moved.tables (moved_table numbers t)) schema.tables t.0 is.tables_to t.1,
        subst (λ r. IsTableRow r (moved_table numbers t.0)) (sym from.2) (table_over numbers from.0 t.0 (low t.0.tree t.2.described.low) t.2),
      )

  table_from : (own : Table) → Has moved.tables own → (x : Row) × Has (filter is_table_row out) x × IsTableRow x own
  table_from own has =
      let t = all_has (λ own. (t : Table) × Has schema.tables t × (own ≡ moved_table numbers t)) moved.tables own is.tables_from has in
      let s = zipped_left IsTableRow (filter is_table_row rows) schema.tables t.0 are.tables t.1 in
      let within = has_filtered is_table_row rows s.0 s.1 in
      let d = s.2.described in (
        renumbered_row numbers s.0,
        has_kept is_table_row out (renumbered_row numbers s.0) (to_out s.0 within.0 t.0.tree d.id t.0.name d.name_is) (table_kept numbers s.0 ∙ within.1),
        subst (IsTableRow (renumbered_row numbers s.0)) (sym t.2) (table_over numbers s.0 t.0 (low t.0.tree d.low) s.2),
      )

  tables_listed : AllZip IsTableRow (filter is_table_row out) moved.tables
  tables_listed = zipped IsTableRow (λ (t : Table). t.tree) (λ x t r. r.described.id) (filter is_table_row out) moved.tables
      (ascending_filter (λ a b. value_cmp (rowid a) (rowid b) ≡ Less) is_table_row out rising.0) is.tables_rise table_to table_from

  -- ---- indexes

  index_over : (s : Row) (i : Index) → IsIndexRow schema.tables s i → IsIndexRow moved.tables (renumbered_row numbers s) (moved_index numbers i)
  index_over s i r = record {
    table = moved_table numbers r.table;
    listed = all_has (λ t. Has moved.tables (moved_table numbers t)) schema.tables r.table is.tables_to r.listed;
    described = describes_moved numbers s i.tree (2 + 8 * i.order.digits) (index_reals (table_reals r.table) i.columns) (codes "index") i.name r.table.name (low i.tree r.described.low) r.described;
    defined = subst (IsDefined (moved_table numbers r.table) (moved_index numbers i)) (sym (column_kept numbers s 3)) (defined_over numbers r.table i (column s 4) r.defined);
  }

  index_to : (x : Row) → Has (filter is_index_row out) x → (own : Index) × Has moved.indexes own × IsIndexRow moved.tables x own
  index_to x has =
      let within = has_filtered is_index_row out x has in
      let from = from_rows x within.0 in
      let kept : is_index_row from.0 ≡ true = sym (index_kept numbers from.0) ∙ ap is_index_row (sym from.2) ∙ within.1 in
      let i = zipped_right (IsIndexRow schema.tables) (filter is_index_row rows) schema.indexes from.0 are.indexes (has_kept is_index_row rows from.0 from.1 kept) in (
        moved_index numbers i.0,
        all_has (λ i. Has moved.indexes (moved_index numbers i)) schema.indexes i.0 is.indexes_to i.1,
        subst (λ r. IsIndexRow moved.tables r (moved_index numbers i.0)) (sym from.2) (index_over from.0 i.0 i.2),
      )

  index_from : (own : Index) → Has moved.indexes own → (x : Row) × Has (filter is_index_row out) x × IsIndexRow moved.tables x own
  index_from own has =
      let i = all_has (λ own. (i : Index) × Has schema.indexes i × (own ≡ moved_index numbers i)) moved.indexes own is.indexes_from has in
      let s = zipped_left (IsIndexRow schema.tables) (filter is_index_row rows) schema.indexes i.0 are.indexes i.1 in
      let within = has_filtered is_index_row rows s.0 s.1 in
      let d = s.2.described in (
        renumbered_row numbers s.0,
        has_kept is_index_row out (renumbered_row numbers s.0) (to_out s.0 within.0 i.0.tree d.id i.0.name d.name_is) (index_kept numbers s.0 ∙ within.1),
        subst (IsIndexRow moved.tables (renumbered_row numbers s.0)) (sym i.2) (index_over s.0 i.0 s.2),
      )

  indexes_listed : AllZip (IsIndexRow moved.tables) (filter is_index_row out) moved.indexes
  indexes_listed = zipped (IsIndexRow moved.tables) (λ (i : Index). i.tree) (λ x i r. r.described.id) (filter is_index_row out) moved.indexes
      (ascending_filter (λ a b. value_cmp (rowid a) (rowid b) ≡ Less) is_index_row out rising.0) is.indexes_rise index_to index_from

  -- ---- no view

  no_view : (x : Row) → Has out x → is_view_row x ≡ true → ⊥
  no_view x has there =
      let from = from_rows x has in
      let kept : is_view_row from.0 ≡ true = sym (view_kept numbers from.0) ∙ ap is_view_row (sym from.2) ∙ there in
      let none : AllZip IsViewRow (filter is_view_row rows) [] = subst (AllZip IsViewRow (filter is_view_row rows)) is.views are.views in
      absurd (zipped_right IsViewRow (filter is_view_row rows) [] from.0 none (has_kept is_view_row rows from.0 from.1 kept)).1

  none_filtered : (l : List Row) → ((x : Row) → Has l x → is_view_row x ≡ true → ⊥) → AllZip IsViewRow (filter is_view_row l) []
  none_filtered [] never = tt
  none_filtered (x ∷ l) never = elim (cases_Bool (is_view_row x)) [
    | inl yes_it ↦ absurd (never x (inl refl) yes_it)
    | inr no_it ↦ rw no_it (none_filtered l (λ y has. never y (inr has)))
  ]

  -- ---- what SQLite would load

  names_apart : (a b : Row) → Has out a → Has out b → sound.same_name (bytes (column a 2)) (bytes (column b 2)) ≡ true → a ≡ b
  names_apart a b one other same =
      let s = from_rows a one in
      let t = from_rows b other in
      let first : column a 2 ≡ column s.0 2 = ap (λ (r : Row). column r 2) s.2 ∙ column_kept numbers s.0 1 in
      let second : column b 2 ≡ column t.0 2 = ap (λ (r : Row). column r 2) t.2 ∙ column_kept numbers t.0 1 in
      let named : sound.same_name (bytes (column s.0 2)) (bytes (column t.0 2)) ≡ true = rw (first, second) at same in
      s.2 ∙ ap (renumbered_row numbers) (one_by_name [] rows (list_parts rows are.loads).1 s.0 t.0 s.1 t.1 named) ∙ sym t.2

  no_index : (s : Row) → is_word (codes "index") (column s 1) ≡ true → column s 1 ≡ Text (codes "table") → ⊥
  unfolding value_cmp lib.Ieee.is_nan lib.Ieee.lt
  no_index s word kind = absurd (true≢false (sym word ∙ ap (is_word (codes "index")) kind))

  has_table : (x : Row) → Has out x → is_word (codes "index") (column x 1) ≡ true → HasTable out x
  has_table x has word =
      let from = from_rows x has in
      let kind : is_word (codes "index") (column from.0 1) ≡ true = ap (is_word (codes "index")) (sym (ap (λ (r : Row). column r 1) from.2 ∙ column_kept numbers from.0 0)) ∙ word in
      elim (row_kind from.0) [
        | inl a ↦
            let t = zipped_right IsTableRow (filter is_table_row rows) schema.tables from.0 are.tables (has_kept is_table_row rows from.0 from.1 a) in
            absurd (no_index from.0 kind t.2.described.kind_is)
        | inr (inl b) ↦ subst (HasTable out) (sym from.2) (its_table from.0 (zipped_right (IsIndexRow schema.tables) (filter is_index_row rows) schema.indexes from.0 are.indexes (has_kept is_index_row rows from.0 from.1 b)))
        | inr (inr v) ↦ absurd (no_view x has (ap is_view_row from.2 ∙ view_kept numbers from.0 ∙ v))
      ]
    where
      its_table : (s : Row) → (i : Index) × Has schema.indexes i × IsIndexRow schema.tables s i → HasTable out (renumbered_row numbers s)
      its_table s i =
          let owner = zipped_left IsTableRow (filter is_table_row rows) schema.tables i.2.table are.tables i.2.listed in
          let within = has_filtered is_table_row rows owner.0 owner.1 in
          let d = owner.2.described in
          let e = renumbered_row numbers owner.0 in
          let own : i.0.table ≡ i.2.table.tree = index_owner i.2.table i.0 (column s 4) i.2.defined in
          let lower : number numbers i.2.table.tree < number numbers i.0.tree =
          subst (λ n. number numbers n < number numbers i.0.tree) own (all_has (λ (i : Index). number numbers i.table < number numbers i.tree) schema.indexes i.0 is.after i.1) in
          let kind : column e 1 ≡ Text (codes "table") = column_kept numbers owner.0 0 ∙ d.kind_is in
          let name : column e 2 ≡ column (renumbered_row numbers s) 3 = column_kept numbers owner.0 1 ∙ d.name_is ∙ sym (column_kept numbers s 2 ∙ i.2.described.owner_is) in (
            e,
            to_out owner.0 within.0 i.2.table.tree d.id i.2.table.name d.name_is,
            rows_below (number numbers i.2.table.tree) (number numbers i.0.tree) e (renumbered_row numbers s) (moved_id numbers owner.0 i.2.table.tree d.id) (moved_id numbers s i.0.tree i.2.described.id) lower,
            and_from _ _ (is_text (column e 1) (codes "table") kind) (ap (λ v. sound.same_name (bytes v) (bytes (column (renumbered_row numbers s) 3))) name ∙ same_again (bytes (column (renumbered_row numbers s) 3))),
          )
        where
          same_again : (name : List ℕ) → sound.same_name name name ≡ true
          same_again name = sym (names_agree name name) ∙ (lowered name name).1 refl

          rows_below : (a b : ℕ) (x y : Row) → rowid x ≡ Int (pos (suc a)) → rowid y ≡ Int (pos (suc b)) → a < b → value_cmp (rowid x) (rowid y) ≡ Less
          rows_below a b x y p q less = rw (p, q) (value_cmp-Int (pos (suc a)) (pos (suc b)) ∙ Less-from_lt (pos (suc a)) (pos (suc b)) (omega (arith, ints, less)))

  pub list_in_order : are_in_order [] (map (head_at 1) out) ≡ true
  list_in_order = in_order_on out names_apart has_table [] out (λ e has. inr has) (λ e none. absurd none) (λ e has. has) (λ e x none. absurd none) rising.0

  loads : sound.is_sound_list out ≡ true
  loads = list_from out (test_from is_sound_object out (λ x has.
      let from = from_rows x has in
      ap is_sound_object from.2 ∙ object_kept numbers from.0 ∙ test_has is_sound_object rows from.0 (list_parts rows are.loads).0 from.1)) list_in_order

  guarded : AllByRecursion (IsGuarded moved.indexes) moved.tables
  guarded = all_from (IsGuarded moved.indexes) moved.tables (λ own has.
      let t = all_has (λ own. (t : Table) × Has schema.tables t × (own ≡ moved_table numbers t)) moved.tables own is.tables_from has in
      let was = all_has (IsGuarded schema.indexes) schema.tables t.0 lists.guarded t.1 in
      subst (IsGuarded moved.indexes) (sym t.2) (λ at key there.
      let i = was at key there in
      (number numbers i.0, all_has (λ i. Has moved.indexes (moved_index numbers i)) schema.indexes (automatic t.0 at key i.0) is.indexes_to i.1)))

  -- the list under the numbers lists the schema under the numbers
  pub lists_moved : Lists out moved
  lists_moved = record {
    listed = record {
      tables = tables_listed;
      indexes = indexes_listed;
      views = subst (AllZip IsViewRow (filter is_view_row out)) (sym is.none) (none_filtered out no_view);
      owned = subst (λ l. AllByRecursion (IsOwned moved) l) (sym is.none) tt;
      named = is.named;
      loads = loads;
    };
    guarded = guarded;
  }
