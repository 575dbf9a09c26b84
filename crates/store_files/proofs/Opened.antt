-- What an opening has, of a connection and of two files, whose trees lie in any order.
use Rattle.std.proofs.Common.{◌≡◌, ◌≢◌, ◌⊎◌, ◌∙◌, IsTrue, ap, arith, inl, inr, refl, subst, sym}
use Rattle.std.proofs.Math.Logic.{∥∥₁_map}
use Rattle.file_order.proofs.RecoveredLemmas.{list_shaped}
use Rattle.sqlite_disk.specs.Disk.{MoreFaults}
use Rattle.sqlite_disk.specs.declared.Disk as disk
use Rattle.sqlite_disk.specs.declared.Files.{Files}
use Rattle.sqlite_wal.proofs.LogLemmas.{SeenMayStay}
use Rattle.sqlite_wal.specs.Recovery.{Image}
use Rattle.sqlite_trees.proofs.Doubt.{no_doubt}
use Rattle.sqlite_trees.specs.Objects.{catalog_tree}
use Rattle.sqlite_trees.specs.Tree.{Trees}
use Rattle.sqlite_trees.specs.View.{IsClean, IsShaped}
use Rattle.sqlite_trees.specs.declared.store.Shape.TheVariants.{Table}
use Rattle.sqlite_store.specs.FileStore.{recovers, view}
use Rattle.sqlite_store.specs.Laws.{settled_at, stays_at}
use Rattle.sqlite_store.specs.declared.store.FileStore.{FileStore}
use Rattle.sqlite.specs.Effect.{Database}
use Rattle.sqlite.specs.Files.{AreFound, AreFoundIn, FailsToOpenFiles, Finds, IsOpened, LeavesFiles, faults_left, faults_of, file_state, image_of, over_files}
use Rattle.sqlite.specs.Held.{Held}
use Rattle.sqlite.specs.Start.{FindsIn}
use Rattle.sqlite.specs.State.{HasCleanDisk}
use Rattle.sqlite.specs.declared.error.Error.{Error}
use Rattle.sqlite.specs.declared.error.Error.TheVariants.{SqliteFailure}
use Rattle.sqlite.specs.declared.error.ErrorCode.TheVariants.{DatabaseCorrupt, NotADatabase}
use Rattle.sqlite.specs.declared.file.Leftover.{Leftover}
use Rattle.sqlite.specs.declared.file.Leftover.TheVariants.{Store}
use Rattle.house_rows.specs.Tables.{Tables}
use Rattle.tree_order.specs.Shown.{shown_trees}
use Rattle.tree_order.specs.declared.renumbered.Renumbered.{Renumbered}
use Rattle.store_rows.specs.House.{IsHouse}
use Rattle.store_rows.specs.Schema.{no_schema}
use Rattle.store_rows.specs.Tables.{tables_in}
use Rattle.store_house.proofs.ArrangedLemmas.{found_in_order}
use Rattle.store_house.proofs.OpenLemmas.{one_schema}
use Rattle.store_house.specs.Named.{FollowsInOrder, HoldsSound, HoldsSoundFirst, IsArranged, IsReordered, tables_held}
use Rattle.store.specs.InOrder.{order_state, over_order}
use Rattle.store.specs.Kept.{House, MayLeave, content}
use Rattle.store_files.proofs.Crashed.{found_left, found_same, recovered}
use Rattle.store_files.proofs.Orders.{reordered_back, reordered_then}
use Rattle.store_files.specs.InOrder.{FindsHeld, FindsHouse, FindsLeft, FindsNoDatabase, FindsNoTable, FindsObject, HasTrees, HoldsNoTable, HoldsObject, HoldsOther, HoldsSoundFirstHouse, HoldsSoundHouse, IsCrashed, IsFound, LeavesFilesInOrder, MayShow}

-- ---- a house by its names

-- the same trees in another order have the same tables, by their names
has_trees : (held found : Trees) → IsShaped Table (held catalog_tree) → IsShaped Table (found catalog_tree) → IsReordered held found → HasTrees held found
has_trees held found table other order = record {
  order = order;
  tables = λ house.
      sym (found_in_order found house.0 other (reordered_then found held house.0.trees (reordered_back held found order) house.2.order) house.1)
      ∙ found_in_order held house.0 table house.2.order house.1;
}

-- the house that a keep shows of what was found in files was found in them
pub finds_house : (image : Image) (t : Tables) (db : Trees) (now : Database) → AreFoundIn image db → IsHouse now → IsArranged db now.trees → t ≡ tables_held db → FindsHouse image t
finds_house image t db now found house arranged tables = record {
  db = db;
  found = found;
  house = (now, house, arranged);
  tables = tables;
}

-- what a store has below is what it shows, in some order
pub order_below : {S : Type 0} (store : Renumbered S) (found : Trees) → IsReordered (shown_trees store.numbers found) found
order_below store found = reordered_back found (shown_trees store.numbers found) (record {
  inner = store.numbers.inner.items;
  outer = store.numbers.outer.items;
  inverse = store.numbers.inverse;
  shown = refl;
})

-- ---- over two files

-- files that are refused hold neither a database nor nothing, or the disk failed
pub refused : {D : Type 0} (g : disk.Ghosts D) (given : Files D) (left : Leftover D g) (e : Error)
    → (e ≡ SqliteFailure NotADatabase) ⊎ (e ≡ SqliteFailure DatabaseCorrupt) → FailsToOpenFiles given left e
    → HoldsOther (image_of g given) ⊎ MoreFaults (faults_of g given) (faults_left left)
refused g given left e (inl is) (inl memory) = absurd (let x = sym is ∙ memory in cc)
refused g given left e (inr is) (inl memory) = absurd (let x = sym is ∙ memory in cc)
refused g given left e is (inr (inl none)) = inl (λ db held. none.1 (inl (db, held)), λ nothing. none.1 (inr nothing))
refused g given left e is (inr (inr (inl fault))) = inr fault.1
refused g given left e (inl is) (inr (inr (inr full))) = absurd (let x = sym is ∙ full.0 in cc)
refused g given left e (inr is) (inr (inr (inr full))) = absurd (let x = sym is ∙ full.0 in cc)

module _ {D : Type 0} (g : disk.Ghosts D) (given : Files D) (stays : SeenMayStay g) (conn : Held (FileStore D g)) where
  -- what is committed over files is what an opening of them finds
  pub found_at : (db : Trees) → IsOpened conn → Finds given conn → recovers conn.store db → IsFound g given db
  found_at db opened finds may =
      let is : db ≡ (file_state conn).committed.trees = settled_at conn.store stays db opened.0.is_open may in
      record {
        found = subst (AreFound g given) (sym is) finds.reads;
        holds = λ other held. is ∙ finds.holds other held;
      }

  -- a house that is shown has the tables that the names find in what is committed
  pub names_find : IsOpened conn → (whole : Database) → IsHouse whole → IsArranged (file_state conn).committed.trees whole.trees
      → tables_in whole.trees ≡ tables_held (file_state conn).committed.trees
  names_find opened whole house arranged =
      found_in_order (file_state conn).committed.trees whole (list_shaped conn.store (file_state conn).committed.trees (stays_at conn.store stays opened.0.is_open))
      arranged.order house

  -- files that a crash has left are opened with the tables of one of the databases that it may leave
  pub finds_left : Finds given conn → (before after : House (Renumbered (FileStore D g))) → IsCrashed g before (image_of g given)
      → IsArranged (file_state conn).committed.trees (order_state after.conn).now.trees
      → content over_order after ≡ tables_held (file_state conn).committed.trees → FindsLeft g before after
  finds_left finds before after crashed arranged same =
      let at : FindsIn (image_of g given) (file_state conn) = record { holds = finds.holds; reads = finds.reads } in
      record {
        tables = subst (λ (t : Tables). ∥ MayLeave over_order before t ∥₁) (sym same) (found_left before (image_of g given) crashed (file_state conn) at);
        trees = ∥∥₁_map (recovered before (image_of g given) crashed (file_state conn) at) (λ may.
            let r : MayShow before (order_state after.conn).now.trees =
            ((file_state conn).committed.trees, may, arranged) in
            r);
        same = λ rests. same ∙ found_same before (image_of g given) crashed (file_state conn) at stays rests;
      }

  -- what a crash finds of a store in order is what it found of the connection, in some order
  pub finds_held : (store : Renumbered (FileStore D g)) → IsOpened conn → Finds given conn → (found left : Trees) → recovers store.inner found
      → recovers conn.store left → IsReordered left (shown_trees store.numbers found) → FindsHeld g given found
  finds_held store opened finds found left may was order =
      let again : IsReordered left found = reordered_then left (shown_trees store.numbers found) found order (order_below store found) in
      (left, found_at left opened finds was, has_trees left found (list_shaped conn.store left was) (list_shaped store.inner found may) again)

  -- a store to which nothing was written still holds what the files held, in some order
  pub leaves_in_order : (store : Renumbered (FileStore D g)) → (HasCleanDisk (file_state conn) → IsOpened conn) → (HasCleanDisk (file_state conn) → Finds given conn)
      → FollowsInOrder over_files conn store → IsTrue (view store.inner).is_clean → LeavesFilesInOrder given (Store store.inner)
  leaves_in_order store opens finds follows clean =
      let sure : IsClean (view store.inner) = no_doubt _ clean in
      let early : HasCleanDisk (file_state conn) = omega (arith, follows.clean, sure) in
      inr (
        store.inner,
        refl,
        λ found may.
            let left = follows.crash sure (shown_trees store.numbers found) (found, may, refl) in
            finds_held store (opens early) (finds early) found left.0 may left.1 left.2,
      )

  -- files of which no house that an opening takes was committed hold none
  pub holds_none : Finds given conn → ¬ (HoldsSound (file_state conn).committed.trees) → ¬ (HoldsSoundHouse (image_of g given))
  holds_none finds none held = none (subst HoldsSound (sym (finds.holds held.0 held.1)) held.2)

  pub holds_no_first : Finds given conn → ¬ (HoldsSoundFirst (file_state conn).committed.trees) → ¬ (HoldsSoundFirstHouse (image_of g given))
  holds_no_first finds none held = none (subst HoldsSoundFirst (sym (finds.holds held.0 held.1)) held.2)

  -- files over which a connection lists no table hold none
  pub holds_no_table : IsOpened conn → Finds given conn → (file_state conn).now.schema ≡ no_schema → HoldsNoTable (image_of g given)
  holds_no_table opened finds none db sound held =
      let committed : Database = (file_state conn).committed in
      let schema : committed.schema ≡ db.schema = one_schema committed db (opened.1 opened.0.is_open).1 (finds.holds db.trees held) sound in
      sym schema ∙ ap (λ (d : Database). d.schema) (sym opened.0.clean) ∙ none

  -- over files that hold one, it lists one
  pub lists_object : IsOpened conn → Finds given conn → HoldsObject (image_of g given) → (file_state conn).now.schema ≢ no_schema
  lists_object opened finds held = λ none. held.3 (holds_no_table opened finds none held.0 held.1 held.2)

  -- a store in which a crash finds nothing new holds what the files held
  pub leaves_found : IsOpened conn → Finds given conn → (store : FileStore D g) → ((db : Trees) → recovers store db → recovers conn.store db) → LeavesFiles given (Store store)
  leaves_found opened finds store crash = λ found may.
      let is : IsFound g given found = found_at found opened finds (crash found may) in
      (is.found, is.holds)

  -- files over which a connection was opened are none in which an opening finds no database
  pub finds_some : IsOpened conn → Finds given conn → ¬ (FindsNoDatabase (image_of g given))
  finds_some opened finds none = none (file_state conn).committed (opened.1 opened.0.is_open).1 finds.reads

  -- what it found in them is a database without one
  pub finds_no_table : IsOpened conn → Finds given conn → (file_state conn).now.schema ≡ no_schema → FindsNoTable (image_of g given)
  finds_no_table opened finds none = (
    (file_state conn).committed,
    (opened.1 opened.0.is_open).1,
    finds.reads,
    ap (λ (d : Database). d.schema) (sym opened.0.clean) ∙ none,
  )

  -- or one that lists some
  pub finds_object : IsOpened conn → Finds given conn → (file_state conn).now.schema ≢ no_schema → FindsObject (image_of g given)
  finds_object opened finds some = (
    (file_state conn).committed,
    (opened.1 opened.0.is_open).1,
    finds.reads,
    λ none. some (ap (λ (d : Database). d.schema) opened.0.clean ∙ none),
  )
