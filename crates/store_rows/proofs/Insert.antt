-- What the INSERT of one row makes of its table.
use Rattle.std.proofs.Common.{◌≡◌, ℕ, ◌/◌, ◌<◌, ◌^◌, ℤ, pos, ◌+ℤ◌, ◌<ℤ◌, Bool, true, false, cond, List, [], ◌∷◌, ◌++◌, map, fold, length, slice_get, Ok, Some, None, refl, sym, ap, subst, ◌∙◌, arith, IsTrue, Less, All}
use Rattle.std.specs.List.{AllByRecursion}
use Rattle.std.proofs.lemmas.Int.{ints}
use Rattle.std.proofs.lemmas.List.Elements.{recursion_from_All}
use Rattle.sqlite_value.specs.declared.value.Value.{Value}
use Rattle.sqlite_value.specs.declared.value.Value.TheVariants.{Null, Int}
use Rattle.sqlite_value.specs.Order.{Row, value_cmp}
use Rattle.sqlite_value.proofs.OrderLemmas.{value_cmp-Int}
use Rattle.sqlite_trees.specs.Tree.{Trees, rowid, put_row}
use Rattle.sqlite_trees.specs.View.{is_int, IsShaped}
use Rattle.sqlite_trees.specs.declared.store.Shape.TheVariants.{Table}
use Rattle.sqlite_rules.proofs.TableLemmas.{int_is}
use Rattle.sqlite_rules.specs.Cast.{cast_row}
use Rattle.sqlite_schema.specs.declared.schema.Table.{Table as SqlTable}
use Rattle.sqlite_schema.specs.declared.schema.Keys.TheVariants.{Enforced}
use Rattle.sqlite_keyed.specs.Keyed.{IsKeyedBy}
use Rattle.sqlite_keyed.proofs.KeyedLemmas.{Less-from_lt}
use Rattle.sqlite_keyed.proofs.ListLemmas.{all_unmap, all_both}
use Rattle.sqlite_sql.specs.Term.{Term}
use Rattle.sqlite.specs.Ops.{unary}
use Rattle.sqlite.specs.Kind.TheVariants.{Integer}
use Rattle.sqlite.specs.Source.TheVariants.{Values}
use Rattle.sqlite.specs.Command.TheVariants.{Insert}
use Rattle.sqlite.specs.Edit.{edit_of, edited, next_rowid, id_in, taken_by, with_rowid}
use Rattle.sqlite.specs.Cast.{cast}
use Rattle.sqlite.specs.Rowids.TheVariants.{Chosen}
use Rattle.sqlite.specs.Does.{Tally, Does, AtPlace, OnRows}
use Rattle.sqlite.specs.Rows.{Written, Task}
use Rattle.sqlite.specs.Listing.{understood}
use Rattle.sqlite.specs.Effect.{Database, value_rows}
use Rattle.sqlite.specs.State.{State, mode_of, Executes}
use Rattle.sqlite.proofs.Callers.{IsPlain, command_of, statement_of, runs_as, one_step}
use Rattle.store_rows.specs.Schema.{house_by, house_schema, Layout, table_of}
use Rattle.store_rows.specs.Rows.{number_in}
use Rattle.store_rows.proofs.RowLemmas.{row_key, keyed, id_below}
use Rattle.store_rows.proofs.Wrote.{Wrote, no_works, went, same_value}

either : (b : Bool) (x : Value) → cond b x x ≡ x
either true x = refl
either false x = refl

pub cast_null : cast Integer Null ≡ Null
unfolding unary
cast_null = either _ Null

pub cast_int : (n : ℤ) → cast Integer (Int n) ≡ Int n
unfolding unary
cast_int n = either _ (Int n)

-- ---- a row above all others goes to the end

next_from : ℤ → List Row → ℤ
next_from = fold (λ _ r. id_in (rowid r) +ℤ pos 1)

above : (k : ℤ) (rows : List Row) → AllByRecursion (λ r. k <ℤ row_key r) rows → IsKeyedBy row_key rows → k <ℤ next_from (k +ℤ pos 1) rows
unfolding next_from
above k [] all up = omega (arith, ints)
above k (r ∷ rows) all up = let more = above (row_key r) rows up.0 up.1 in let first = all.0 in omega (arith, ints)

below_next : (n : ℤ) (rows : List Row) → IsKeyedBy row_key rows → AllByRecursion (λ r. row_key r <ℤ next_from n rows) rows
unfolding next_from
below_next n [] up = tt
below_next n (r ∷ rows) up = (above (row_key r) rows up.0 up.1, below_next (row_key r +ℤ pos 1) rows up.1)

put_above : (new : Row) (m : ℤ) (rows : List Row) → rowid new ≡ Int m → AllByRecursion (λ r. IsTrue (is_int (rowid r))) rows → AllByRecursion (λ r. row_key r <ℤ m) rows → put_row new rows ≡ rows ++ new ∷ []
put_above new m [] id all low = refl
put_above new m (r ∷ rows) id all low =
    let less : value_cmp (rowid r) (rowid new) ≡ Less = rw (int_is (rowid r) all.0, id) (value_cmp-Int (row_key r) m ∙ Less-from_lt (row_key r) m low.0) in
    rw less (ap (λ l. r ∷ l) (put_above new m rows id all.1 low.1))

-- a row with the next rowid
pub put_last : (new : Row) (rows : List Row) → IsShaped Table rows → rowid new ≡ Int (next_rowid rows) → put_row new rows ≡ rows ++ new ∷ []
unfolding next_from
put_last new rows shaped id = put_above new (next_rowid rows) rows id shaped.1 (below_next (pos 1) rows (keyed rows shaped.0 shaped.1))

-- a row with a number over the number of each other
pub put_over : {T : Type 0} (inside : Row → T) (number : T → ℕ) → ((r : Row) → number (inside r) ≡ number_in (rowid r)) → (new : Row) (n : ℕ) (rows : List Row) → IsShaped Table rows → rowid new ≡ Int (pos n) → n < 2 ^ 32
    → All (λ t. number t < n) (map inside rows) → put_row new rows ≡ rows ++ new ∷ []
put_over inside number is new n rows shaped id small over =
    let low = all_unmap (λ t. number t < n) inside rows (recursion_from_All (λ t. number t < n) (map inside rows) over) in
    put_above new (pos n) rows id shaped.1
    (all_both (λ r. IsTrue (is_int (rowid r))) (λ r. number (inside r) < n) (λ r. row_key r <ℤ pos n) (λ r int less. id_below (rowid r) n int small (subst (λ k. k < n) (is r) less)) rows shaped.1 low)

-- ---- the statement

module _ (b : Bool) (sql : List ℕ) (at : ℕ) (layout : Layout) (terms : List Term) (width : ℕ) (params row : Row)
    (found : slice_get house_schema.tables at ≡ Some (table_of layout))
    (is : command_of (understood (house_by b) sql) ≡ Insert at (Values terms width))
    (plain : IsPlain (understood (house_by b) sql))
    (source : value_rows (params ++ []) width (length terms / width) terms ≡ row ∷ []) where
  abbrev table : SqlTable
  table = table_of layout

  -- The row is cast and numbered, and put in its place.
  pub puts : (old new : State) (count : ℕ) → old.now.schema ≡ house_by b → Executes sql params old new (Ok count)
      → Wrote layout.tree (put_row (with_rowid Chosen (old.now.trees layout.tree) (cast_row table row)) (old.now.trees layout.tree)) old.now new.now
  puts old new count schema h =
      let db = old.now.trees in
      let command = Insert at (Values terms width) in
      let w = runs_as sql params old new (house_by b) schema command is plain count h in
      let text = statement_of sql (understood (house_by b) sql) in
      let task : SqlTable → Task = λ t. record { limit = old.step_limit; keys = (mode_of old).keys; schema = house_by b; table = t; params = params } in
      let on = subst (λ s. Does old.step_limit (mode_of old) params (record old.now { schema = s }) text None command (Ok (w.tally, new.now))) schema w.changed in
      let all = subst (λ o. AtPlace (λ t. OnRows (task t) (mode_of old) None command db) o (Ok (w.tally, new.now))) found on in
      let done = went all in
      let now = ap (λ (p : Tally × Database). p.1) (same_value (went (went done.2).2).2) in
      let given = went done.1 in
      let counted = went given.2 in
      let written = went counted.2 in
      let last = went written.2 in
      let trees : done.0.trees ≡ written.0 = ap (λ (it : Written). it.trees) (same_value last.2) ∙ same_value last.1 in
      let edit = edit_of db table [] Chosen 0 given.0 in
      let applied = one_step (house_by b) Enforced db written.0 edit (no_works b layout.tree (taken_by db edit) edit.news) written.1 in
      let news : edited db edit ≡ put_row (with_rowid Chosen (db layout.tree) (cast_row table row)) (db layout.tree) = ap (λ rows. edited db (edit_of db table [] Chosen 0 rows)) (given.1.1 ∙ source) in
      let end : new.now.trees ≡ written.0 = ap (λ (d : Database). d.trees) now ∙ trees in
      record {
        schema = ap (λ (d : Database). d.schema) now ∙ sym schema;
        rows_are = ap (λ (t : Trees). t layout.tree) end ∙ applied.rows ∙ news;
        others = subst (λ (t : Trees). AllByRecursion (λ s. (s.tree ≡ layout.tree → ⊥) → t s.tree ≡ db s.tree) house_schema.tables) (sym end) applied.tables;
        sound = w.sound;
      }
