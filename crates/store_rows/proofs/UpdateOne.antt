-- What an UPDATE of one row at most makes of its table.
use Rattle.std.proofs.Common.{◌≡◌, inl, inr, ℕ, ◌≤◌, ◌<ℤ◌, Bool, true, false, cond, List, [], ◌∷◌, map, filter, length, slice_get, Ok, Some, None, refl, sym, ap, ap₂, subst, ◌∙◌, arith, IsTrue, true≢false, int_eq}
use Rattle.std.specs.List.{AllByRecursion, list_any}
use Rattle.std.proofs.lemmas.Int.{ints}
use Rattle.sqlite_value.specs.declared.value.Value.TheVariants.{Null, Int}
use Rattle.sqlite_value.specs.Order.{Row}
use Rattle.sqlite_trees.specs.Tree.{Trees, rowid, put_row, without_rowid}
use Rattle.sqlite_trees.specs.View.{is_int, IsShaped}
use Rattle.sqlite_trees.specs.declared.store.Shape.TheVariants.{Table}
use Rattle.sqlite_trees.proofs.TreeLemmas.{IsShaped-put_row, IsShaped-filter}
use Rattle.sqlite_rules.proofs.TableLemmas.{int_is}
use Rattle.sqlite_rules.specs.Lists.{Has}
use Rattle.sqlite_rules.proofs.ListLemmas.{some_from, has_filtered}
use Rattle.sqlite_rules.specs.Calls.{ids_of}
use Rattle.sqlite_rules.specs.Cast.{cast_row}
use Rattle.sqlite_schema.specs.declared.schema.Table.{Table as SqlTable}
use Rattle.sqlite_schema.specs.declared.schema.Keys.TheVariants.{Enforced}
use Rattle.sqlite_keyed.specs.Keyed.{IsKeyedBy}
use Rattle.sqlite_keyed.proofs.KeyedLemmas.{same_int}
use Rattle.sqlite_keyed.proofs.ListLemmas.{all-filter, all_both, all_weaker, map-map, map_same, ascending-filter}
use Rattle.sqlite_sql.specs.Term.{Term, col}
use Rattle.sqlite_sql.specs.Query.{Output}
use Rattle.sqlite_sql.specs.Program.{overlay}
use Rattle.sqlite.specs.Command.TheVariants.{Update}
use Rattle.sqlite.specs.Edit.{Edit, edit_of, edited, taken_by}
use Rattle.sqlite.specs.Rowids.TheVariants.{Given}
use Rattle.sqlite.specs.Does.{Tally, Does, AtPlace, OnRows}
use Rattle.sqlite.specs.Rows.{Written, Task}
use Rattle.sqlite.specs.Listing.{understood}
use Rattle.sqlite.specs.Effect.{Database}
use Rattle.sqlite.specs.State.{State, mode_of, Executes}
use Rattle.sqlite.proofs.Callers.{IsPlain, command_of, statement_of, runs_as, one_step}
use Rattle.store_rows.specs.Plain.{plain_query, passes, shown_by}
use Rattle.store_rows.specs.Schema.{house_by, house_schema, Layout, table_of}
use Rattle.store_rows.proofs.RowLemmas.{row_key, keyed}
use Rattle.store_rows.proofs.Select.{IsListOf, outputs, listed}
use Rattle.store_rows.proofs.Update.{replaced, only_one, none_there, map_on, numbered_passes, none_set, few, length_mapped}
use Rattle.store_rows.proofs.Wrote.{Wrote, no_works, went, same_value}

-- ---- rows and their keys

pub all_has : {X : Type 0} (P : X → Type 0) (xs : List X) (x : X) → AllByRecursion P xs → Has xs x → P x
all_has P [] x all has = absurd has
all_has P (y ∷ xs) x all (inl same) = subst P (sym same) all.0
all_has P (y ∷ xs) x all (inr later) = all_has P xs x all.1 later

-- a row with the key of a row is that row
same_key : (rows : List Row) (r : Row) → IsKeyedBy row_key rows → Has rows r → AllByRecursion (λ s. int_eq (row_key s) (row_key r) ≡ true → s ≡ r) rows
same_key [] r up has = tt
same_key (x ∷ rows) r up (inl same) = ((λ e. sym same), all_weaker (λ s. row_key x <ℤ row_key s) (λ s. int_eq (row_key s) (row_key r) ≡ true → s ≡ r) after rows up.0)
  where
    after : (s : Row) → row_key x <ℤ row_key s → int_eq (row_key s) (row_key r) ≡ true → s ≡ r
    after s less e = let k = same_int (row_key s) (row_key r) e in let j = ap row_key same in absurd (omega (arith, ints, less, k, j))
same_key (x ∷ rows) r up (inr later) = (before, same_key rows r up.1 later)
  where
    before : int_eq (row_key x) (row_key r) ≡ true → x ≡ r
    before e = let k = same_int (row_key x) (row_key r) e in let less = all_has (λ s. row_key x <ℤ row_key s) rows r up.0 later in absurd (omega (arith, ints, less, k))

-- a test that no two rows pass is passed by one at most
pub at_most_one_of : (p : Row → Bool) (rows : List Row) → IsKeyedBy row_key rows → ((r s : Row) → Has rows r → Has rows s → p r ≡ true → p s ≡ true → row_key r <ℤ row_key s → ⊥) → length (filter p rows) ≤ 1
at_most_one_of p rows up clash = go (filter p rows) refl
  where
    go : (l : List Row) → filter p rows ≡ l → length l ≤ 1
    go [] e = omega arith
    go (x ∷ []) e = omega arith
    go (x ∷ y ∷ l) e =
        let rises = subst (IsKeyedBy row_key) e (ascending-filter (λ a b. row_key a <ℤ row_key b) p rows up) in
        let first = has_filtered p rows x (subst (λ k. Has k x) (sym e) (inl refl)) in
        let second = has_filtered p rows y (subst (λ k. Has k y) (sym e) (inr (inl refl))) in
        absurd (clash x y first.0 second.0 first.1 second.1 rises.0.0)

-- the rows that pass are set, as typed rows
pub typed_where_set : {T : Type 0} (inside : Row → T) (f : T → T) (p : Row → Bool) (set : Row → Row) (Q : Row → Type 0) (rows : List Row) → AllByRecursion Q rows
    → ((r : Row) → Q r → p r ≡ true → inside (set r) ≡ f (inside r)) → ((r : Row) → Q r → p r ≡ false → inside r ≡ f (inside r))
    → map inside (map (λ s. cond (p s) (set s) s) rows) ≡ map f (map inside rows)
typed_where_set inside f p set Q [] all here other = refl
typed_where_set {T} inside f p set Q (r ∷ rows) all here other = go (typed_where_set inside f p set Q rows all.1 here other) (p r) refl
  where
    go : map inside (map (λ s. cond (p s) (set s) s) rows) ≡ map f (map inside rows) → (b : Bool) → p r ≡ b
        → inside (cond b (set r) r) ∷ map inside (map (λ s. cond (p s) (set s) s) rows) ≡ f (inside r) ∷ map f (map inside rows)
    go more true e = ap₂ ◌∷◌ (here r all.0 e) more
    go more false e = ap₂ ◌∷◌ (other r all.0 e) more

-- ---- the table

module _ (layout : Layout) (p : Row → Bool) (set : Row → Row) (same_id : (r : Row) → rowid (set r) ≡ rowid r) (P : Row → Type 0)
    (casts : (r : Row) → P r → IsTrue (is_int (rowid r)) → cast_row (table_of layout) (set r) ≡ set r) (db : Trees) (shaped : IsShaped Table (db layout.tree)) (all : AllByRecursion P (db layout.tree)) where
  abbrev rows : List Row
  rows = db layout.tree

  abbrev edit_with : List Row → Edit
  edit_with found = edit_of db (table_of layout) (ids_of found) Given 1 found

  one_set : (r : Row) → P r → IsTrue (is_int (rowid r)) → edited db (edit_with ((rowid r ∷ set r) ∷ [])) ≡ put_row (set r) (without_rowid (row_key r) rows)
  one_set r fits int = ap (λ (new : Row). put_row new (without_rowid (row_key r) rows)) (casts r fits int)

  matched : (r s : Row) → p r ≡ true → (p s ≡ true → s ≡ r) → (int_eq (row_key s) (row_key r) ≡ true → s ≡ r) → cond (int_eq (row_key s) (row_key r)) (set r) s ≡ cond (p s) (set s) s
  matched r s is one same = go (p s) (int_eq (row_key s) (row_key r)) refl refl
    where
      go : (a b : Bool) → p s ≡ a → int_eq (row_key s) (row_key r) ≡ b → cond b (set r) s ≡ cond a (set s) s
      go true true e f = ap set (sym (one e))
      go true false e f =
          let k : row_key s ≡ row_key r = ap row_key (one e) in
          let here : int_eq (row_key s) (row_key r) ≡ true = grind (arith, ints) in
          absurd (true≢false (sym here ∙ f))
      go false true e f = absurd (true≢false (sym is ∙ ap p (sym (same f)) ∙ e))
      go false false e f = refl

  abbrev IsSet : List Row → Type 0
  IsSet new = (new ≡ map (λ s. cond (p s) (set s) s) rows) × IsShaped Table new

  set_in : (found : List Row) → filter p rows ≡ found → length found ≤ 1 → IsSet (edited db (edit_with (map (λ r. rowid r ∷ set r) found)))
  set_in [] none short = (sym (none_set p set rows (none_there p rows none)), shaped)
  set_in (r ∷ []) only short =
      let int : IsTrue (is_int (rowid r)) = (subst (AllByRecursion (λ s. IsTrue (is_int (rowid s)))) only (all-filter _ p rows shaped.1)).0 in
      let fits : P r = (subst (AllByRecursion P) only (all-filter P p rows all)).0 in
      let is : p r ≡ true = (subst (AllByRecursion (λ s. p s ≡ true)) only (numbered_passes p rows)).0 in
      let is_edit = one_set r fits int in
      let new = set r in
      let id : rowid new ≡ Int (row_key r) = same_id r ∙ int_is (rowid r) int in
      let there : Has rows r = (has_filtered p rows r (subst (λ l. Has l r) (sym only) (inl refl))).0 in
      let any : list_any (λ s. int_eq (row_key s) (row_key r)) rows ≡ true = some_from (λ s. int_eq (row_key s) (row_key r)) rows r there (grind (arith, ints)) in
      let up = keyed rows shaped.0 shaped.1 in
      let is_map = replaced new (row_key r) id rows shaped.1 up any in
      let each = all_both (λ s. p s ≡ true → s ≡ r) (λ s. int_eq (row_key s) (row_key r) ≡ true → s ≡ r)
      (λ s. cond (int_eq (row_key s) (row_key r)) new s ≡ cond (p s) (set s) s) (λ s one same. matched r s is one same) rows (only_one p rows r only) (same_key rows r up there) in
      let new_int : IsTrue (is_int (rowid new)) = rw (same_id r) int in (
        is_edit ∙ is_map ∙ map_on _ _ (λ s. cond (p s) (set s) s) (λ s h. h) rows each,
        subst (IsShaped Table) (sym is_edit) (IsShaped-put_row new _ new_int (IsShaped-filter Table _ rows shaped)),
      )
  set_in (r ∷ s ∷ found) only short = absurd (omega arith)

module _ (b : Bool) (sql : List ℕ) (at : ℕ) (layout : Layout) (test terms : List Term) (params : Row)
    (found : slice_get house_schema.tables at ≡ Some (table_of layout)) (alone : (db : Trees) → overlay db [] layout.tree ≡ db layout.tree)
    (is : command_of (understood (house_by b) sql) ≡ Update at (record { lets = []; body = plain_query layout.tree test (col 1 0 ∷ terms) [] }))
    (plain : IsPlain (understood (house_by b) sql))
    (set : Row → Row) (sets : (r : Row) → shown_by terms params r ≡ set r) (same_id : (r : Row) → rowid (set r) ≡ rowid r) (P : Row → Type 0)
    (casts : (r : Row) → P r → IsTrue (is_int (rowid r)) → cast_row (table_of layout) (set r) ≡ set r) where
  -- The row that passes WHERE is set, and the others stay.
  pub updates_one : (old new : State) (count : ℕ) → old.now.schema ≡ house_by b → IsShaped Table (old.now.trees layout.tree) → AllByRecursion P (old.now.trees layout.tree)
      → length (filter (passes test params) (old.now.trees layout.tree)) ≤ 1 → Executes sql params old new (Ok count)
      → Wrote layout.tree (map (λ s. cond (passes test params s) (set s) s) (old.now.trees layout.tree)) old.now new.now
      × IsShaped Table (map (λ s. cond (passes test params s) (set s) s) (old.now.trees layout.tree))
  updates_one old new count schema shaped all one h =
      let db = old.now.trees in
      let p = passes test params in
      let rows = db layout.tree in
      let command = Update at (record { lets = []; body = plain_query layout.tree test (col 1 0 ∷ terms) [] }) in
      let w = runs_as sql params old new (house_by b) schema command is plain count h in
      let text = statement_of sql (understood (house_by b) sql) in
      let task : SqlTable → Task = λ t. record { limit = old.step_limit; keys = (mode_of old).keys; schema = house_by b; table = t; params = params } in
      let on = subst (λ s. Does old.step_limit (mode_of old) params (record old.now { schema = s }) text None command (Ok (w.tally, new.now))) schema w.changed in
      let whole = subst (λ o. AtPlace (λ t. OnRows (task t) (mode_of old) None command db) o (Ok (w.tally, new.now))) found on in
      let done = went whole in
      let now = ap (λ (p : Tally × Database). p.1) (same_value (went (went done.2).2).2) in
      let given = went done.1 in
      let written = went given.2 in
      let trees : done.0.trees ≡ written.0 = ap (λ (it : Written). it.trees) (same_value written.2) in
      let edit = edit_of db (table_of layout) (ids_of given.0) Given 1 given.0 in
      let applied = one_step (house_by b) Enforced db written.0 edit (no_works b layout.tree (taken_by db edit) edit.news) written.1 in
      let a = subst (λ (l : List Row). IsListOf l test (col 1 0 ∷ terms) [] params given.0) (alone db) (listed layout.tree test (col 1 0 ∷ terms) [] (overlay db []) params given.0 (given.1.answer Null)) in
      let short : length (outputs test (col 1 0 ∷ terms) [] params (db layout.tree)) ≤ 1 =
      omega (arith, length_mapped {Y = Output} (λ r. ([], shown_by (col 1 0 ∷ terms) params r)) (filter (passes test params) (db layout.tree)), one) in
      let shown : given.0 ≡ map (λ r. rowid r ∷ set r) (filter (passes test params) (db layout.tree)) =
      a.shown ∙ ap (map (λ (o : Output). o.1)) (few _ _ short a.same) ∙ map-map (λ (o : Output). o.1) _ _ ∙ map_same _ (λ r. rowid r ∷ set r) (λ r. ap (λ l. rowid r ∷ l) (sets r)) _ in
      let is_set = subst (λ l. IsSet layout (passes test params) set same_id P casts db shaped all (edited db (edit_of db (table_of layout) (ids_of l) Given 1 l))) (sym shown)
      (set_in layout (passes test params) set same_id P casts db shaped all (filter (passes test params) (db layout.tree)) refl one) in
      let end : new.now.trees ≡ written.0 = ap (λ (d : Database). d.trees) now ∙ trees in (
        record {
          schema = ap (λ (d : Database). d.schema) now ∙ sym schema;
          rows_are = ap (λ (t : Trees). t layout.tree) end ∙ applied.rows ∙ is_set.0;
          others = subst (λ (t : Trees). AllByRecursion (λ s. (s.tree ≡ layout.tree → ⊥) → t s.tree ≡ db s.tree) house_schema.tables) (sym end) applied.tables;
          sound = w.sound;
        },
        subst (IsShaped Table) is_set.0 is_set.1,
      )
