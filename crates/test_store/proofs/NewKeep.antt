-- What a keep has over a store of any kind in which a house was made.
use Rattle.std.proofs.Common.{◌≡◌, ◌∙◌, Bool, true, false, true≢false, List, [], ◌∷◌, map, get_or, Ordering, Less, Equal, Greater, Result, Ok, Err, refl, sym, ap, subst, arith}
use Rattle.std.specs.Prelude.{◌&&◌, if◌then◌else◌, IfOk}
use Rattle.std.specs.List.{AllByRecursion}
use Rattle.std.specs.Ordering.{is_lt}
use Rattle.sqlite_value.specs.Order.{Row, value_cmp}
use Rattle.sqlite_value.proofs.OrderLemmas.{value_cmp_total}
use Rattle.sqlite_trees.proofs.ListLemmas.{all_weaker}
use Rattle.sqlite_trees.specs.Objects.{catalog_tree}
use Rattle.sqlite_trees.specs.Tree.{Trees, IsTable, rowid}
use Rattle.sqlite_trees.specs.View.{IsShaped, is_int}
use Rattle.sqlite_trees.specs.declared.store.Shape.TheVariants as shape
use Rattle.sqlite_schema.specs.declared.schema.Schema.{Schema}
use Rattle.sqlite_catalog.specs.Listing.{Lists}
use Rattle.sqlite_catalog.proofs.ReadLemmas.{lists_once}
use Rattle.sqlite.specs.Effect.{Database}
use Rattle.house_rows.specs.Tables.{tables_of}
use Rattle.house_rows.specs.declared.settings.Settings.{Settings}
use Rattle.tree_order.specs.Rows.{in_order, is_before, is_table, renumbered_row}
use Rattle.store_rows.specs.House.{IsHouse}
use Rattle.store_rows.specs.Schema.{house_by}
use Rattle.store_rows.specs.Tables.{tables_in}
use Rattle.store_house.specs.Named.{IsReordered}
use Rattle.store_making.proofs.MadeHouses.{shown_tables}
use Rattle.store_making.specs.Made.{IsMadeHouse, made_schema, reserve_made}

-- ---- rows that are told to be a table are one

both : (a b : Bool) → (a && b) ≡ true → (a ≡ true) × (b ≡ true)
both true b h = (refl, h)
both false b h = absurd (true≢false (sym h))

less : (o : Ordering) → is_lt o ≡ true → o ≡ Less
less Less h = refl
less Equal h = absurd (true≢false (sym h))
less Greater h = absurd (true≢false (sym h))

below : (r : Row) (rows : List Row) → is_before r rows ≡ true → IsTable rows → AllByRecursion (λ y. value_cmp (rowid r) (rowid y) ≡ Less) rows
below r [] h table = tt
below r (x ∷ rows) h table =
    let first : value_cmp (rowid r) (rowid x) ≡ Less = less (value_cmp (rowid r) (rowid x)) h in
    (first, all_weaker _ (λ y. value_cmp (rowid r) (rowid y) ≡ Less) (λ y. value_cmp_total.trans _ _ _ first) rows table.0)

shaped : (rows : List Row) → is_table rows ≡ true → IsShaped shape.Table rows
shaped [] h = (tt, tt)
shaped (r ∷ rows) h =
    let one = both (is_int (rowid r)) (is_before r rows && is_table rows) h in
    let two = both (is_before r rows) (is_table rows) one.1 in
    let rest = shaped rows two.1 in
    ((below r rows two.0 rest.0, rest.0), (one.0, rest.1))

-- ---- a house that was made

apart : (b : Bool) → ¬ (house_by b ≡ made_schema)
apart b same = let n : 23 ≡ 16 = ap (λ (s : Schema). (get_or s.tables 9 reserve_made).tree) same in absurd (omega (arith, n))

-- its list of tables is a table, since another list would be shown as it lies
module _ (settings : Settings) (made shown : Database) (is : IsMadeHouse settings made) (order : IsReordered made.trees shown.trees) (house : IsHouse shown) where
  list_shown : is_table (made.trees catalog_tree) ≡ false → shown.trees catalog_tree ≡ made.trees catalog_tree
  list_shown e =
      ap (λ (t : Trees). t catalog_tree) order.shown
      ∙ ap (λ (b : Bool). if b then in_order (map (renumbered_row order.outer) (made.trees catalog_tree)) else made.trees catalog_tree) e

  made_lists : Lists (made.trees catalog_tree) made_schema
  made_lists = subst (Lists (made.trees catalog_tree)) is.laid.schema is.laid.sound.lists

  house_lists : Lists (shown.trees catalog_tree) (house_by house.is_indexed)
  house_lists = subst (Lists (shown.trees catalog_tree)) house.schema house.sound.lists

  list_shaped : IsShaped shape.Table (made.trees catalog_tree)
  list_shaped = go (is_table (made.trees catalog_tree)) refl
    where
      go : (b : Bool) → is_table (made.trees catalog_tree) ≡ b → IsShaped shape.Table (made.trees catalog_tree)
      go true e = shaped (made.trees catalog_tree) e
      go false e =
          absurd (apart _ (lists_once (made.trees catalog_tree) (house_by house.is_indexed) made_schema (subst (λ (rows : List Row). Lists rows (house_by house.is_indexed)) (list_shown e) house_lists) made_lists))

-- and the names find the tables of a new house in it
pub new_tables : (settings : Settings) (made committed shown : Database) → IsMadeHouse settings made → made ≡ committed → IsReordered committed.trees shown.trees → IsHouse shown
    → tables_in shown.trees ≡ tables_of settings []
new_tables settings made committed shown is same order house =
    let there : IsReordered made.trees shown.trees = subst (λ (d : Database). IsReordered d.trees shown.trees) (sym same) order in
    shown_tables settings made shown is (list_shaped settings made shown is there house) there house

pub ok_then : {T E : Type 0} {P Q : T → Type 0} (r : Result T E) → IfOk r P → ((x : T) → P x → Q x) → IfOk r Q
ok_then (Ok x) p f = f x p
ok_then (Err e) p f = tt
