-- What the statements that write the rows of a new house mean, and what they make of a house that is being made.
use Rattle.std.proofs.Common.{◌≡◌, ◌≢◌, ◌/◌, ◌<◌, ◌^◌, ℕ, Bool, true, false, cond, eqb, List, [], ◌∷◌, ◌++◌, length, map, pos, codes, slice_get, Ok, Some, None, IsUtf8, refl, sym, ap, ap₂, subst, ◌∙◌, arith}
use Rattle.std.specs.List.{AllByRecursion}
use Rattle.sqlite_value.specs.declared.value.Value.TheVariants.{Null, Int, Text}
use Rattle.sqlite_value.specs.Order.{Row}
use Rattle.sqlite_trees.specs.Tree.{Trees, put_row}
use Rattle.sqlite_trees.specs.View.{IsShaped}
use Rattle.sqlite_trees.specs.declared.store.Shape.TheVariants as shape
use Rattle.sqlite_trees.proofs.TreeLemmas.{IsShaped-put_row}
use Rattle.sqlite_rules.specs.Action.{works}
use Rattle.sqlite_rules.specs.Cast.{cast_row}
use Rattle.sqlite_schema.specs.declared.schema.Action.{Action}
use Rattle.sqlite_schema.specs.declared.schema.Action.TheVariants.{NoAction}
use Rattle.sqlite_schema.specs.declared.schema.Keys.TheVariants.{Enforced}
use Rattle.sqlite_schema.specs.declared.schema.Table.{Table}
use Rattle.sqlite.specs.Term.{Term, lit, col}
use Rattle.sqlite.specs.Source.TheVariants.{Values}
use Rattle.sqlite.specs.Command.TheVariants.{Insert}
use Rattle.sqlite.specs.Edit.{edit_of, edited, taken_by, with_rowid}
use Rattle.sqlite.specs.Rowids.TheVariants.{Chosen}
use Rattle.sqlite.specs.Does.{Tally, Does, AtPlace, OnRows}
use Rattle.sqlite.specs.Rows.{Written, Task}
use Rattle.sqlite.specs.Listing.{understood}
use Rattle.sqlite.specs.Effect.{Database, IsDatabase, value_rows}
use Rattle.sqlite.specs.State.{State, mode_of, Executes}
use Rattle.sqlite.proofs.Callers.{IsPlain, command_of, statement_of, runs_as, one_step}
use Rattle.sqlite_tied.specs.Compute.{everything}
use Rattle.store_rows.specs.declared.band.BandRow.{BandRow}
use Rattle.store_rows.specs.declared.house.HouseRow.{HouseRow}
use Rattle.store_rows.specs.Schema.{Layout, band_layout, house_layout, table_of}
use Rattle.store_rows.specs.Rows.{band_in, house_in}
use Rattle.store_rows.proofs.Insert.{cast_int, cast_null, put_over}
use Rattle.store_rows.proofs.RowLemmas.{small}
use Rattle.store_rows.proofs.TextLemmas.{same_number, text_back}
use Rattle.store_rows.proofs.Wrote.{map_more, same_value, went}
use Rattle.store_making.specs.Made.{band_row, new_house, IsLaid, LeavesOthers, PutsBand, PutsHouse, made_schema}

-- ---- what the texts mean

abbrev pub put_house_text : List ℕ
put_house_text = codes "INSERT INTO house (id, version, clock, rate, zone) VALUES (1, 2, 0, ?1, ?2)"

abbrev pub put_band_text : List ℕ
put_band_text = codes "INSERT INTO band (at, step) VALUES (?1, ?2)"

abbrev house_terms : List Term
house_terms = lit (Int (pos 1)) ∷ lit Null ∷ lit (Int (pos 2)) ∷ lit (Int (pos 0)) ∷ col 0 0 ∷ col 0 1 ∷ []

abbrev band_terms : List Term
band_terms = col 0 0 ∷ lit Null ∷ col 0 1 ∷ []

put_house_is : (command_of (understood made_schema put_house_text) ≡ Insert 0 (Values house_terms 6)) × IsPlain (understood made_schema put_house_text)
unfolding understood everything
put_house_is = (refl, (refl, refl))

put_band_is : (command_of (understood made_schema put_band_text) ≡ Insert 1 (Values band_terms 3)) × IsPlain (understood made_schema put_band_text)
unfolding understood everything
put_band_is = (refl, (refl, refl))

-- ---- one row more

-- a table has these rows, and every other is as it was
record Laid (tree : ℕ) (rows : List Row) (old new : Database) : Type 0 where
  schema : new.schema ≡ made_schema
  rows_are : new.trees tree ≡ rows
  others : LeavesOthers tree old new
  sound : IsDatabase new

other_number : (a b : ℕ) → eqb a b ≡ false → a ≢ b
other_number a b h e = absurd (grind arith)

module _ (tree : ℕ) (old new : Trees) (shaped : IsShaped shape.Table (new tree)) where
  each_shaped : (tables : List Table) → AllByRecursion (λ t. IsShaped shape.Table (old t.tree)) tables → AllByRecursion (λ t. t.tree ≢ tree → new t.tree ≡ old t.tree) tables
      → AllByRecursion (λ t. IsShaped shape.Table (new t.tree)) tables
  each_shaped [] was others = tt
  each_shaped (t ∷ tables) was others = (go (eqb t.tree tree) refl, each_shaped tables was.1 others.1)
    where
      go : (b : Bool) → eqb t.tree tree ≡ b → IsShaped shape.Table (new t.tree)
      go true e = subst (λ k. IsShaped shape.Table (new k)) (sym (same_number t.tree tree e)) shaped
      go false e = subst (IsShaped shape.Table) (sym (others.0 (other_number t.tree tree e))) was.0

still_laid : (tree : ℕ) (rows : List Row) (old new : Database) → IsLaid old → Laid tree rows old new → IsShaped shape.Table rows → IsLaid new
still_laid tree rows old new was w shaped = record {
  schema = w.schema;
  shaped = each_shaped tree old.trees new.trees (subst (IsShaped shape.Table) (sym w.rows_are) shaped) made_schema.tables was.shaped w.others;
  sound = w.sound;
}

same_action : (d : Bool) (a : Action) → cond d a a ≡ a
same_action true a = refl
same_action false a = refl

-- no foreign key of the schema acts
no_works : (tree : ℕ) (olds news : List Row) → works made_schema Enforced 0 tree olds news ≡ []
no_works tree olds news = rw (same_action (eqb (length news) 0) NoAction) refl

module _ (sql : List ℕ) (at : ℕ) (layout : Layout) (terms : List Term) (width : ℕ) (params row : Row)
    (found : slice_get made_schema.tables at ≡ Some (table_of layout))
    (is : command_of (understood made_schema sql) ≡ Insert at (Values terms width))
    (plain : IsPlain (understood made_schema sql))
    (source : value_rows (params ++ []) width (length terms / width) terms ≡ row ∷ []) where
  abbrev table : Table
  table = table_of layout

  -- The row is cast and numbered, and put in its place.
  puts : (old new : State) (count : ℕ) → old.now.schema ≡ made_schema → Executes sql params old new (Ok count)
      → Laid layout.tree (put_row (with_rowid Chosen (old.now.trees layout.tree) (cast_row table row)) (old.now.trees layout.tree)) old.now new.now
  puts old new count schema h =
      let db = old.now.trees in
      let command = Insert at (Values terms width) in
      let w = runs_as sql params old new made_schema schema command is plain count h in
      let text = statement_of sql (understood made_schema sql) in
      let task : Table → Task = λ t. record { limit = old.step_limit; keys = (mode_of old).keys; schema = made_schema; table = t; params = params } in
      let on = subst (λ s. Does old.step_limit (mode_of old) params (record old.now { schema = s }) text None command (Ok (w.tally, new.now))) schema w.changed in
      let all = subst (λ o. AtPlace (λ t. OnRows (task t) (mode_of old) None command db) o (Ok (w.tally, new.now))) found on in
      let done = went all in
      let now = ap (λ (p : Tally × Database). p.1) (same_value (went (went done.2).2).2) in
      let given = went done.1 in
      let counted = went given.2 in
      let written = went counted.2 in
      let last = went written.2 in
      let trees : done.0.trees ≡ written.0 = ap (λ (it : Written). it.trees) (same_value last.2) ∙ same_value last.1 in
      let edit = edit_of db table [] Chosen 0 given.0 in
      let applied = one_step made_schema Enforced db written.0 edit (no_works layout.tree (taken_by db edit) edit.news) written.1 in
      let news : edited db edit ≡ put_row (with_rowid Chosen (db layout.tree) (cast_row table row)) (db layout.tree) = ap (λ rows. edited db (edit_of db table [] Chosen 0 rows)) (given.1.1 ∙ source) in
      let end : new.now.trees ≡ written.0 = ap (λ (d : Database). d.trees) now ∙ trees in
      record {
        schema = ap (λ (d : Database). d.schema) now;
        rows_are = ap (λ (t : Trees). t layout.tree) end ∙ applied.rows ∙ news;
        others = subst (λ (t : Trees). AllByRecursion (λ s. (s.tree ≡ layout.tree → ⊥) → t s.tree ≡ db s.tree) made_schema.tables) (sym end) applied.tables;
        sound = w.sound;
      }

-- ---- the rows of a new house

pub puts_house : (old new : State) (rate : ℕ) (zone : List ℕ) (count : ℕ) → rate < 2 ^ 32 → IsUtf8 zone → IsLaid old.now
    → Executes put_house_text (Int (pos rate) ∷ Text zone ∷ []) old new (Ok count) → PutsHouse rate zone old.now new.now
puts_house old new rate zone count low u laid h =
    let params = Int (pos rate) ∷ Text zone ∷ [] in
    let rows = old.now.trees 0 in
    let given : Row = Int (pos 1) ∷ Null ∷ Int (pos 2) ∷ Int (pos 0) ∷ Int (pos rate) ∷ Text zone ∷ [] in
    let w = rw (cast_int (pos 1), cast_null, cast_int (pos 2), cast_int (pos 0), cast_int (pos rate)) at (puts put_house_text 0 house_layout house_terms 6 params given refl put_house_is.0 put_house_is.1 refl old new count laid.schema h) in
    record {
      laid = still_laid 0 _ old.now new.now laid w (IsShaped-put_row given rows refl laid.shaped.0);
      others = w.others;
      houses = λ over. ap (map house_in) (w.rows_are ∙ put_over house_in (λ (h : HouseRow). h.id) (λ r. refl) given 1 rows laid.shaped.0 refl (omega arith) over) ∙ map_more house_in rows given
          ∙ ap₂ (λ r z. map house_in rows ++ new_house r z ∷ []) (small rate low) (text_back zone u);
    }

pub puts_band : (old new : State) (from step : ℕ) (count : ℕ) → from < 2 ^ 32 → step < 2 ^ 32 → IsLaid old.now
    → Executes put_band_text (Int (pos from) ∷ Int (pos step) ∷ []) old new (Ok count) → PutsBand from step old.now new.now
puts_band old new from step count low less laid h =
    let params = Int (pos from) ∷ Int (pos step) ∷ [] in
    let rows = old.now.trees 1 in
    let given : Row = Int (pos from) ∷ Null ∷ Int (pos step) ∷ [] in
    let w = rw (cast_int (pos from), cast_null, cast_int (pos step)) at (puts put_band_text 1 band_layout band_terms 3 params given refl put_band_is.0 put_band_is.1 refl old new count laid.schema h) in
    record {
      laid = still_laid 1 _ old.now new.now laid w (IsShaped-put_row given rows refl laid.shaped.1.0);
      others = w.others;
      bands = λ over. ap (map band_in) (w.rows_are ∙ put_over band_in (λ (b : BandRow). b.from) (λ r. refl) given from rows laid.shaped.1.0 refl low over) ∙ map_more band_in rows given
          ∙ ap₂ (λ f s. map band_in rows ++ band_row (f, s) ∷ []) (small from low) (small step less);
    }
