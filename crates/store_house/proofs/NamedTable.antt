-- A table whose rows have a number and a name, as members and categories: what statements on it find and write.
use Rattle.std.proofs.Common.{◌≡◌, ◌==◌, ℕ, ◌^◌, ◌<◌, pos, true, false, ◌&&◌, List, [], ◌∷◌, ◌++◌, map, filter, slice_get, drop, Ok, Some, refl, sym, ap, ap₂, subst, ◌∙◌, IsTrue, true≢false, IsUtf8, codes, All, Bool}
use Rattle.std.specs.List.{AllByRecursion}
use Rattle.sqlite_value.specs.declared.value.Value.TheVariants.{Null, Int, Text}
use Rattle.sqlite_value.specs.Order.{Row, column}
use Rattle.sqlite_schema.specs.Rules.{are_typed, are_present, has_computed}
use Rattle.sqlite_schema.specs.declared.schema.Column.{Column}
use Rattle.sqlite_schema.specs.declared.schema.Kind.TheVariants as kind
use Rattle.sqlite_schema.specs.declared.schema.Table.{Table as SqlTable}
use Rattle.sqlite_catalog.specs.Listing.{IsSound}
use Rattle.sqlite_sql.specs.Term.{Term, lit, col}
use Rattle.sqlite_trees.specs.Tree.{rowid}
use Rattle.sqlite_trees.specs.View.{is_int}
use Rattle.sqlite_trees.proofs.TreeLemmas.{IsShaped-put_row}
use Rattle.sqlite_keyed.proofs.ListLemmas.{all_both}
use Rattle.sqlite_keyed.proofs.RuleLemmas.{first_of_both, second_of_both}
use Rattle.sqlite.specs.Command.TheVariants.{Insert}
use Rattle.sqlite.specs.Effect.{Database}
use Rattle.sqlite.specs.Listing.{understood}
use Rattle.sqlite.specs.Source.TheVariants.{Values}
use Rattle.sqlite.specs.State.{State, Executes}
use Rattle.sqlite.proofs.Callers.{IsPlain, command_of}
use Rattle.house_rows.specs.Text.{same_text}
use Rattle.store_rows.specs.House.{IsHouse, KeepsOthers}
use Rattle.store_rows.specs.Rows.{number_in, text_in}
use Rattle.store_rows.specs.Schema.{Layout, house_schema, numbered, strict, table_of, house_by}
use Rattle.store_rows.proofs.RowLemmas.{is_text, text_if, equals_number, equals_text, alone, small}
use Rattle.store_rows.proofs.TextLemmas.{text_back}
use Rattle.store_rows.proofs.Select.{typed_where, typed_all, equals}
use Rattle.store_rows.proofs.Wrote.{still_house, map_more}
use Rattle.store_rows.proofs.Insert.{puts, put_over, cast_int, cast_null}
use Rattle.store_house.specs.Found.{Lists}
use Rattle.store_house.specs.Numbers.{IsTableTree, ShowsRows}
use Rattle.store_house.proofs.NumbersLemmas.{answered}
use Rattle.store_rows.specs.Statements.{AlwaysPlain}

abbrev columns : List Column
columns = strict (codes "id") kind.Integer false ∷ strict (codes "name") kind.Text true ∷ []

abbrev layout : List ℕ → ℕ → Layout
layout title tree = numbered title tree columns ((2 ∷ []) ∷ []) []

-- a query shows the number and the name
abbrev shown : List Term
shown = col 1 0 ∷ col 1 2 ∷ []

abbrev headings : List (List ℕ)
headings = codes "id" ∷ codes "name" ∷ []

-- a query for the rows of a table that pass a test, by number
abbrev pub Reads : List ℕ → ℕ → List Term → Type 0
Reads sql tree test = ShowsRows sql tree test shown headings × AlwaysPlain sql

-- an INSERT takes number and name as parameters
abbrev put_terms : List Term
put_terms = col 0 0 ∷ lit Null ∷ col 0 1 ∷ []

-- a statement that adds a row to the table at a place of the schema
abbrev pub Puts : List ℕ → ℕ → Type 0
Puts sql place = (b : Bool) → (command_of (understood (house_by b) sql) ≡ Insert place (Values put_terms 3)) × IsPlain (understood (house_by b) sql)

-- the number is a number and the name a text
abbrev IsRow : Row → Type 0
IsRow r = IsTrue (is_int (rowid r)) × (is_text (column r 2) ≡ true)

-- the rows that each house has in such a table
pub rows_are : (table : SqlTable) (rows : List Row) → AllByRecursion (λ r. IsTrue (is_int (rowid r))) rows
    → AllByRecursion (λ r. (are_typed (Some 0) 0 columns (drop 1 r) && has_computed table r) ≡ true) rows → AllByRecursion (λ r. are_present (Some 0) 0 columns r ≡ true) rows → AllByRecursion IsRow rows
rows_are table rows ints typed present =
    all_both (λ r. IsTrue (is_int (rowid r))) (λ r. is_text (column r 2) ≡ true) IsRow (λ r int text. (int, text)) rows ints (all_both _ _ (λ r. is_text (column r 2) ≡ true) one rows typed present)
  where
    one : (r : Row) → (are_typed (Some 0) 0 columns (drop 1 r) && has_computed table r) ≡ true → are_present (Some 0) 0 columns r ≡ true → is_text (column r 2) ≡ true
    one [] t p = absurd (true≢false (sym p))
    one (id ∷ []) t p = absurd (true≢false (sym p))
    one (id ∷ k ∷ []) t p = absurd (true≢false (sym p))
    one (id ∷ k ∷ v ∷ more) t p = text_if v (first_of_both _ _ (second_of_both _ _ (first_of_both _ _ t))) (first_of_both _ _ p)

-- a house obeys its schema
pub sound_house : (db : Database) (house : IsHouse db) → IsSound (house_by house.is_indexed) db.trees
sound_house db house = subst (λ h. IsSound h db.trees) house.schema house.sound

-- such a table: its name, its tree and its place in the schema, which rows a house has in it, and what typed rows are made of
pub record NamedTable (T : Type 0) : Type 0 where
  pub title : List ℕ
  pub tree : ℕ
  pub place : ℕ
  pub placed : slice_get house_schema.tables place ≡ Some (table_of (layout title tree))
  pub table : IsTableTree tree
  pub rows : (db : Database) → IsHouse db → AllByRecursion IsRow (db.trees tree)
  pub make : ℕ → List ℕ → T
  pub number : T → ℕ
  pub name : T → List ℕ
  pub numbers : (n : ℕ) (t : List ℕ) → number (make n t) ≡ n
  pub names : (n : ℕ) (t : List ℕ) → name (make n t) ≡ t

-- a row as a query shows it, and as the tree holds it
abbrev pub report : {T : Type 0} → NamedTable T → Row → T
report t r = t.make (number_in (column r 0)) (text_in (column r 1))

abbrev pub inside : {T : Type 0} → NamedTable T → Row → T
inside t r = t.make (number_in (column r 0)) (text_in (column r 2))

-- one more row, the last where its number is over every other
pub record AddsRow {T : Type 0} (t : NamedTable T) (number : ℕ) (name : List ℕ) (old new : Database) : Type 0 where
  pub house : IsHouse new
  pub schema : new.schema ≡ old.schema
  pub others : KeepsOthers t.tree old new
  pub rows : All (λ x. t.number x < number) (map (inside t) (old.trees t.tree)) → map (inside t) (new.trees t.tree) ≡ map (inside t) (old.trees t.tree) ++ t.make number name ∷ []

module _ {T : Type 0} (t : NamedTable T) (old new : State) where
  pub at_lists : (sql : List ℕ) → Reads sql t.tree (equals 0 ∷ []) → (n : ℕ) → n < 2 ^ 32 → Lists old new sql (Int (pos n) ∷ []) (report t) (λ db. filter (λ x. t.number x == n) (map (inside t) (db t.tree)))
  at_lists sql is n low house answer h =
      typed_where (report t) (inside t) (λ x. t.number x == n) IsRow (equals 0 ∷ []) shown (Int (pos n) ∷ []) (old.now.trees t.tree) answer (λ r. refl)
      (λ r row. rw (equals_number (rowid r) n row.0 low, t.numbers (number_in (rowid r)) (text_in (column r 2))) (alone _)) (t.rows old.now house) (answered t.tree t.table old new house sql (equals 0 ∷ []) shown headings (Int (pos n) ∷ []) is.1 is.0 answer h)

  pub named_lists : (sql : List ℕ) → Reads sql t.tree (equals 2 ∷ []) → (name : List ℕ) → IsUtf8 name → Lists old new sql (Text name ∷ []) (report t) (λ db. filter (λ x. same_text (t.name x) name) (map (inside t) (db t.tree)))
  named_lists sql is name u house answer h =
      typed_where (report t) (inside t) (λ x. same_text (t.name x) name) IsRow (equals 2 ∷ []) shown (Text name ∷ []) (old.now.trees t.tree) answer (λ r. refl)
      (λ r row. rw (equals_text (column r 2) name u row.1, t.names (number_in (rowid r)) (text_in (column r 2))) (alone _)) (t.rows old.now house) (answered t.tree t.table old new house sql (equals 2 ∷ []) shown headings (Text name ∷ []) is.1 is.0 answer h)

  pub all_list : (sql : List ℕ) → Reads sql t.tree [] → Lists old new sql [] (report t) (λ db. map (inside t) (db t.tree))
  all_list sql is house answer h = typed_all (report t) (inside t) shown [] (old.now.trees t.tree) answer (λ r. refl) (answered t.tree t.table old new house sql [] shown headings [] is.1 is.0 answer h)

  pub adds : (sql : List ℕ) → Puts sql t.place → (number : ℕ) (name : List ℕ) (count : ℕ) → number < 2 ^ 32 → IsUtf8 name → IsHouse old.now
      → Executes sql (Int (pos number) ∷ Text name ∷ []) old new (Ok count) → AddsRow t number name old.now new.now
  adds sql is number name count low u house h =
      let rows = old.now.trees t.tree in
      let shaped = t.table.shaped old.now house in
      let given : Row = Int (pos number) ∷ Null ∷ Text name ∷ [] in
      let w = rw (cast_int (pos number), cast_null) at (puts _ sql t.place (layout t.title t.tree) put_terms 3 (Int (pos number) ∷ Text name ∷ []) given t.placed (is _).0 (is _).1 refl old new count house.schema h) in
      record {
        house = still_house t.tree _ old.now new.now house w (IsShaped-put_row given rows refl shaped);
        schema = w.schema;
        others = w.others;
        rows = λ over. ap (map (inside t)) (w.rows_are ∙ put_over (inside t) t.number (λ r. t.numbers (number_in (rowid r)) (text_in (column r 2))) given number rows shaped refl low over) ∙ map_more (inside t) rows given
            ∙ ap (λ m. map (inside t) rows ++ m ∷ []) (ap₂ t.make (small number low) (text_back name u));
      }
