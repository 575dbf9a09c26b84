-- From a store that was just opened to a house.
use Rattle.std.proofs.Common.{◌≡◌, ◌≤◌, ◌∙◌, ℕ, ap, sym, subst, refl, List, [], ◌∷◌, Bool, true, false, true≢false, IsTrue, inl, inr, arith}
use Rattle.std.specs.List.{AllByRecursion}
use Rattle.sqlite_value.specs.Order.{Row}
use Rattle.sqlite_trees.specs.Tree.{Trees}
use Rattle.sqlite_trees.specs.View.{View, IsClean, IsQuiet, IsRolledBack as IsUndone, IsShaped, IsOrdered, doubt}
use Rattle.sqlite_trees.specs.declared.error.StoreError.{StoreError}
use Rattle.sqlite_trees.specs.declared.error.StoreError.TheVariants.{OutOfMemory, Io, Corrupt, Full, Broken, Unstorable}
use Rattle.sqlite_schema.specs.declared.schema.Schema.{Schema}
use Rattle.sqlite_trees.specs.Objects.{IsListed, catalog_tree}
use Rattle.sqlite_trees.specs.declared.store.Shape.TheVariants.{Table}
use Rattle.sqlite_schema.specs.declared.schema.Table.{Table as SqlTable}
use Rattle.sqlite_catalog.specs.Listing.{IsSound}
use Rattle.sqlite_catalog.proofs.LayoutLemmas.{laid_out, objects_rise}
use Rattle.sqlite_catalog.proofs.ReadLemmas.{lists_once}
use Rattle.sqlite.specs.declared.error.Error.{Error}
use Rattle.sqlite.specs.declared.error.Error.TheVariants.{SqliteFailure}
use Rattle.sqlite.specs.declared.error.ErrorCode.TheVariants.{NotADatabase}
use Rattle.sqlite.specs.State.{HasCleanDisk, IsNotRun, State, Survives, store_error}
use Rattle.sqlite.specs.Steps.{FailsToOpen}
use Rattle.sqlite.specs.Effect.{Database, IsDatabase}
use Rattle.sqlite_trees.specs.declared.store.Store.{Ghosts}
use Rattle.sqlite.specs.Held.{Held, state}
use Rattle.store_rows.specs.Schema.{first_schema, house_by}
use Rattle.store_house.specs.Opening.{Follows}
use Rattle.store_rows.specs.House.{IsFirstHouse, IsHouse, KeepsCommitted}

module _ (v : View) (db : Database) (schema : Schema) (has : db.schema ≡ schema) (trees : db.trees ≡ v.trees) (sound : IsDatabase db) (listed : IsListed (v.trees catalog_tree) v.shape v.reals) (ordered : IsOrdered v.shape v.trees) where
  each_shaped : (tables : List SqlTable) → AllByRecursion (λ t. v.shape t.tree ≡ Table) tables → AllByRecursion (λ t. IsShaped Table (v.trees t.tree)) tables
  each_shaped [] is = tt
  each_shaped (t ∷ tables) is = (subst (λ s. IsShaped s (v.trees t.tree)) is.0 (ordered t.tree), each_shaped tables is.1)

  -- the rows of each table lie in their order
  shaped_from : AllByRecursion (λ (table : SqlTable). IsShaped Table (db.trees table.tree)) schema.tables
  shaped_from =
      let here : IsSound schema v.trees = subst (λ s. IsSound s v.trees) has (subst (IsSound db.schema) trees sound) in
      let laid = laid_out listed (objects_rise v listed ordered) here.lists.listed in
      subst (λ t. AllByRecursion (λ (table : SqlTable). IsShaped Table (t table.tree)) schema.tables) (sym trees) (each_shaped schema.tables laid.tables)

pub house_from : (v : View) (db : Database) (b : Bool) → db.schema ≡ house_by b → db.trees ≡ v.trees → IsDatabase db → IsListed (v.trees catalog_tree) v.shape v.reals → IsOrdered v.shape v.trees → IsHouse db
house_from v db b schema trees sound listed ordered = record { is_indexed = b; schema = schema; shaped = shaped_from v db (house_by b) schema trees sound listed ordered; sound = sound }

pub first_from : (v : View) (db : Database) → db.schema ≡ first_schema → db.trees ≡ v.trees → IsDatabase db → IsListed (v.trees catalog_tree) v.shape v.reals → IsOrdered v.shape v.trees → IsFirstHouse db
first_from v db schema trees sound listed ordered = record { schema = schema; shaped = shaped_from v db first_schema schema trees sound listed ordered; sound = sound }

-- what is not broken is not shut
pub not_shut : (is_open is_broken : Bool) → (is_open ≡ false → IsTrue is_broken) → is_broken ≡ false → IsTrue is_open
not_shut true is_broken broken whole = refl
not_shut false is_broken broken whole = absurd (true≢false (sym (broken refl) ∙ whole))

-- what is refused as no database lists no schema that it obeys
pub no_database : (db : Trees) (fault : Type 0) (e : Error) → e ≡ SqliteFailure NotADatabase → FailsToOpen db fault e → (schema : Schema) → ¬ (IsSound schema db)
no_database db fault e is (inl h) = h.1
no_database db fault e is (inr h) = absurd (other h.0 (sym h.1 ∙ is))
  where
    other : (cause : StoreError) → store_error cause ≡ SqliteFailure NotADatabase → ⊥
    other OutOfMemory e = absurd (let x = e in cc)
    other Io e = absurd (let x = e in cc)
    other Corrupt e = absurd (let x = e in cc)
    other Full e = absurd (let x = e in cc)
    other Broken e = absurd (let x = e in cc)
    other Unstorable e = absurd (let x = e in cc)

-- trees that hold a database list no other schema
pub one_schema : (db held : Database) → IsDatabase db → db.trees ≡ held.trees → IsDatabase held → db.schema ≡ held.schema
one_schema db held sound trees house =
    let listed : IsSound held.schema db.trees = subst (IsSound held.schema) (sym trees) house in
    lists_once (db.trees catalog_tree) db.schema held.schema sound.lists listed.lists

-- what was not run has left all as it was, or the store failed
pub kept_where_not_run : (sql : List ℕ) (old new : State) (e : Error) → ((params : Row) → IsNotRun old new sql params e) → KeepsCommitted old new
unfolding IsNotRun
kept_where_not_run sql old new e h = elim (h []) [ inl refused ↦ inl refused.1 | inr failed ↦ inr failed.3 ]

-- what was committed before is so still, while the connection is open
kept_commit : (old new : State) → KeepsCommitted old new → IsTrue new.is_open → IsTrue old.is_open × (new.committed ≡ old.committed)
kept_commit old new (inl same) is_open = (same.0.was_open, same.0.committed_is)
kept_commit old new (inr undone) is_open = (undone.was_open is_open, (undone.undone is_open).1)

-- nothing was committed on the way from one connection to another
pub record Leads {S : Type 0} (g : Ghosts S) (conn last : Held S) : Type 0 where
  pub clean : doubt (state g conn).is_clean ≤ doubt (state g last).is_clean
  pub shield : g.is_shielded conn.store → g.is_shielded last.store
  pub committed : HasCleanDisk (state g last) → IsTrue (state g last).is_open → (state g last).committed.trees ≡ (state g conn).committed.trees
  pub crash : HasCleanDisk (state g last) → (db : Trees) → g.recovers last.store db → g.recovers conn.store db

pub leads_self : {S : Type 0} (g : Ghosts S) (conn : Held S) → Leads g conn conn
leads_self g conn = record { clean = omega arith; shield = λ h. h; committed = λ clean is_open. refl; crash = λ clean db left. left }

-- a call that only reads leads on
pub leads_on : {S : Type 0} (g : Ghosts S) (conn old new : Held S) → Leads g conn old → Survives (state g old) (state g new) (λ _. ⊥)
    → (HasCleanDisk (state g new) → KeepsCommitted (state g old) (state g new)) → Leads g conn new
leads_on g conn old new leads survives kept = record {
  clean = omega (arith, leads.clean, survives.clean);
  shield = λ h. survives.shield (leads.shield h);
  committed = λ clean is_open.
      let early : HasCleanDisk (state g old) = omega (arith, survives.clean, clean) in
      let same = kept_commit (state g old) (state g new) (kept clean) is_open in
      ap (λ (d : Database). d.trees) same.1 ∙ leads.committed early same.0;
  crash = λ clean db left.
      let early : HasCleanDisk (state g old) = omega (arith, survives.clean, clean) in
      elim (survives.crash clean db left) [ inl may ↦ leads.crash early db may | inr none ↦ absurd none ];
}

-- the store that such a connection gives back, rolled back
pub gives_back : {S : Type 0} (g : Ghosts S) (conn last : Held S) (store : S) → Leads g conn last → IsUndone (g.view last.store) (g.view store)
    → IsQuiet g.view g.faults g.recovers g.is_shielded last.store store → Follows g conn store
gives_back g conn last store leads undone quiet = record {
  clean = omega (arith, leads.clean, quiet.clean);
  shield = λ h. quiet.shield (leads.shield h);
  shown = λ clean is_open.
      let early : HasCleanDisk (state g last) = omega (arith, quiet.clean, clean) in
      (undone.undone is_open).0 ∙ leads.committed early ((undone.kept clean).was_open is_open);
  crash = λ clean db left.
      let early : HasCleanDisk (state g last) = omega (arith, quiet.clean, clean) in
      leads.crash early db (quiet.outcomes db left);
}
