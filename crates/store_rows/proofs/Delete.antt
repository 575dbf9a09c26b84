-- What a DELETE makes of its table.
use Rattle.std.proofs.Common.{◌≡◌, ℕ, ℤ, Bool, true, false, not, cond, List, [], ◌∷◌, map, filter, fold, slice_get, Ok, Some, None, refl, sym, ap, subst, ◌∙◌, arith, IsTrue, int_eq, IsPermutation}
use Rattle.std.specs.List.{AllByRecursion}
use Rattle.sqlite_value.specs.declared.value.Value.TheVariants.{Null}
use Rattle.sqlite_value.specs.Order.{Row}
use Rattle.sqlite_trees.specs.Tree.{Trees, rowid, without_rowid, has_rowid}
use Rattle.sqlite_trees.specs.View.{is_int, IsShaped}
use Rattle.sqlite_trees.specs.declared.store.Shape.TheVariants.{Table}
use Rattle.sqlite_trees.proofs.TreeLemmas.{IsShaped-filter}
use Rattle.std.proofs.lemmas.List.Sorted.{IsPermutation-map}
use Rattle.sqlite_rules.specs.Calls.{ids_of}
use Rattle.sqlite_rules.specs.Edit.{without_all}
use Rattle.sqlite_schema.specs.declared.schema.Table.{Table as SqlTable}
use Rattle.sqlite_schema.specs.declared.schema.Keys.TheVariants.{Enforced}
use Rattle.sqlite_keyed.specs.Lists.{without_key}
use Rattle.sqlite_keyed.proofs.ListLemmas.{map-map, all-filter, along_permutation}
use Rattle.sqlite_keyed.proofs.WriteLemmas.{removes_delete}
use Rattle.sqlite_sql.specs.Term.{Term, col}
use Rattle.sqlite_sql.specs.Query.{Output}
use Rattle.sqlite_sql.specs.Program.{overlay}
use Rattle.sqlite.specs.Command.TheVariants.{Delete}
use Rattle.sqlite.specs.Edit.{edit_of, taken_by, id_in}
use Rattle.sqlite.specs.Rowids.TheVariants.{Given}
use Rattle.sqlite.specs.Does.{Tally, Does, AtPlace, OnRows}
use Rattle.sqlite.specs.Rows.{Written, Task}
use Rattle.sqlite.specs.Listing.{understood}
use Rattle.sqlite.specs.Effect.{Database}
use Rattle.sqlite.specs.State.{State, mode_of, Executes}
use Rattle.sqlite.proofs.Callers.{IsPlain, command_of, statement_of, runs_as, one_step}
use Rattle.store_rows.specs.Plain.{plain_query, passes}
use Rattle.store_rows.specs.Schema.{house_by, house_schema, Layout, table_of}
use Rattle.store_rows.proofs.RowLemmas.{row_key, keyed}
use Rattle.store_rows.proofs.Select.{IsListOf, outputs, listed}
use Rattle.std.proofs.Common.{int_cmp}
use Rattle.std.proofs.lemmas.Int.{ints}
use Rattle.sqlite_value.proofs.OrderLemmas.{value_cmp-Int}
use Rattle.sqlite_rules.proofs.TableLemmas.{int_is}
use Rattle.store_rows.proofs.Wrote.{Wrote, no_works, went, same_value}

-- ---- the order in which rows are taken out does not count

filter_swap : (p q : Row → Bool) (rows : List Row) → filter p (filter q rows) ≡ filter q (filter p rows)
filter_swap p q [] = refl
filter_swap p q (r ∷ rows) = go (p r) (q r) refl refl (filter_swap p q rows)
  where
    go : (a b : Bool) → p r ≡ a → q r ≡ b → filter p (filter q rows) ≡ filter q (filter p rows) → filter p (cond b (r ∷ filter q rows) (filter q rows)) ≡ filter q (cond a (r ∷ filter p rows) (filter p rows))
    go true true e f more = rw (e, f) (ap (λ l. r ∷ l) more)
    go true false e f more = rw f more
    go false true e f more = rw e more
    go false false e f more = more

without_permuted : (ids other : List ℤ) → IsPermutation ids other → (rows : List Row) → without_all rows ids ≡ without_all rows other
without_permuted = along_permutation (λ xs ys. (rows : List Row) → without_all rows xs ≡ without_all rows ys)
    (λ xs rows. refl)
    (λ x xs ys h rows. h (without_rowid x rows))
    (λ x y xs rows. ap (λ l. without_all l xs) (filter_swap (λ r. not (has_rowid y r)) (λ r. not (has_rowid x r)) rows))
    (λ xs ys zs p q rows. p rows ∙ q rows)

same_test : (a b : ℤ) → Rattle.std.specs.Ordering.is_eq (int_cmp a b) ≡ int_eq a b
same_test a b = grind (arith, ints)

has_row_key : (id : ℤ) (s : Row) → IsTrue (is_int (rowid s)) → has_rowid id s ≡ int_eq (row_key s) id
has_row_key id s int = rw (int_is (rowid s) int) (ap Rattle.std.specs.Ordering.is_eq (value_cmp-Int (row_key s) id) ∙ same_test (row_key s) id)

abbrev Ints : List Row → Type 0
Ints = AllByRecursion (λ r. IsTrue (is_int (rowid r)))

-- by rowid is by key
by_key : (ids : List ℤ) (rows : List Row) → Ints rows → without_all rows ids ≡ fold (without_key row_key) rows ids
by_key [] rows all = refl
by_key (id ∷ ids) rows all =
    let same : without_rowid id rows ≡ without_key row_key rows id = Rattle.store_rows.proofs.RowLemmas.filter_same_on (λ r. IsTrue (is_int (rowid r))) (λ r. not (has_rowid id r)) (λ r. not (int_eq (row_key r) id)) (λ r int. ap not (has_row_key id r int)) rows all in
    by_key ids (without_rowid id rows) (all-filter (λ r. IsTrue (is_int (rowid r))) (λ r. not (has_rowid id r)) rows all) ∙ ap (λ l. fold (without_key row_key) l ids) same

-- the rows that WHERE keeps are taken out
pub table_cut : (test : List Term) (params : Row) (table answer : List Row) → IsShaped Table table → IsListOf table test (col 1 0 ∷ []) [] params answer
    → without_all table (ids_of answer) ≡ filter (λ r. not (passes test params r)) table
table_cut test params table answer shaped a =
    let kept = filter (passes test params) table in
    let out = outputs test (col 1 0 ∷ []) [] params table in
    let id : Output → ℤ = λ o. id_in (rowid o.1) in
    let from : map id out ≡ map row_key kept = map-map id (λ r. ([], rowid r ∷ [])) kept in
    let to : ids_of answer ≡ map id a.ordered = ap ids_of a.shown ∙ map-map (λ r. id_in (rowid r)) (λ (o : Output). o.1) a.ordered in
    let same : IsPermutation (map row_key kept) (map id a.ordered) = subst (λ l. IsPermutation l (map id a.ordered)) from (IsPermutation-map id out a.ordered a.same) in
    ap (without_all table) to ∙ sym (without_permuted (map row_key (filter (passes test params) table)) (map id a.ordered) same table) ∙ by_key (map row_key (filter (passes test params) table)) table shaped.1 ∙ removes_delete row_key (passes test params) table (keyed table shaped.0 shaped.1)

module _ (b : Bool) (sql : List ℕ) (at : ℕ) (layout : Layout) (test : List Term) (params : Row)
    (found : slice_get house_schema.tables at ≡ Some (table_of layout)) (alone : (db : Trees) → overlay db [] layout.tree ≡ db layout.tree)
    (is : command_of (understood (house_by b) sql) ≡ Delete at (record { lets = []; body = plain_query layout.tree test (col 1 0 ∷ []) [] }))
    (plain : IsPlain (understood (house_by b) sql)) where
  -- The rows that WHERE keeps are gone, and the others stay.
  pub deletes : (old new : State) (count : ℕ) → old.now.schema ≡ house_by b → IsShaped Table (old.now.trees layout.tree) → Executes sql params old new (Ok count)
      → Wrote layout.tree (filter (λ r. not (passes test params r)) (old.now.trees layout.tree)) old.now new.now × IsShaped Table (filter (λ r. not (passes test params r)) (old.now.trees layout.tree))
  deletes old new count schema shaped h =
      let db = old.now.trees in
      let command = Delete at (record { lets = []; body = plain_query layout.tree test (col 1 0 ∷ []) [] }) in
      let w = runs_as sql params old new (house_by b) schema command is plain count h in
      let text = statement_of sql (understood (house_by b) sql) in
      let task : SqlTable → Task = λ t. record { limit = old.step_limit; keys = (mode_of old).keys; schema = house_by b; table = t; params = params } in
      let on = subst (λ s. Does old.step_limit (mode_of old) params (record old.now { schema = s }) text None command (Ok (w.tally, new.now))) schema w.changed in
      let whole = subst (λ o. AtPlace (λ t. OnRows (task t) (mode_of old) None command db) o (Ok (w.tally, new.now))) found on in
      let done = went whole in
      let now = ap (λ (p : Tally × Database). p.1) (same_value (went (went done.2).2).2) in
      let given = went done.1 in
      let written = went given.2 in
      let trees : done.0.trees ≡ written.0 = ap (λ (it : Written). it.trees) (same_value written.2) in
      let edit = edit_of db (table_of layout) (ids_of given.0) Given 0 [] in
      let applied = one_step (house_by b) Enforced db written.0 edit (no_works b layout.tree (taken_by db edit) edit.news) written.1 in
      let answer = subst (λ (l : List Row). IsListOf l test (col 1 0 ∷ []) [] params given.0) (alone db) (listed layout.tree test (col 1 0 ∷ []) [] (overlay db []) params given.0 (given.1.answer Null)) in
      let end : new.now.trees ≡ written.0 = ap (λ (d : Database). d.trees) now ∙ trees in (
        record {
          schema = ap (λ (d : Database). d.schema) now ∙ sym schema;
          rows_are = ap (λ (t : Trees). t layout.tree) end ∙ applied.rows ∙ table_cut test params (db layout.tree) given.0 shaped answer;
          others = subst (λ (t : Trees). AllByRecursion (λ s. (s.tree ≡ layout.tree → ⊥) → t s.tree ≡ db s.tree) house_schema.tables) (sym end) applied.tables;
          sound = w.sound;
        },
        IsShaped-filter Table _ (db layout.tree) shaped,
      )
