-- What a crash leaves of the files of a keep in order, an opening of them finds by the names of the tables.
use Rattle.std.proofs.Common.{◌≡◌, ◌∙◌, ap, refl, sym, subst}
use Rattle.std.proofs.Math.Logic.{∥∥₁_elim, ∥∥₁_map}
use Rattle.file_order.proofs.RecoveredLemmas.{are_databases, list_shaped}
use Rattle.sqlite_disk.specs.declared.Disk.{Ghosts}
use Rattle.sqlite_pool.specs.Pool as pool
use Rattle.sqlite_wal.specs.Files.{outcomes}
use Rattle.sqlite_wal.specs.Reads.{AreClean}
use Rattle.sqlite_wal.specs.Recovery.{Image}
use Rattle.sqlite_wal.proofs.LogLemmas.{SeenMayStay}
use Rattle.sqlite_trees.specs.Props.{Trees-set}
use Rattle.sqlite_trees.specs.Tree.{Trees}
use Rattle.sqlite_trees.specs.View.{IsClean}
use Rattle.sqlite_trees.proofs.Doubt.{clean_of, no_doubt}
use Rattle.sqlite_store.specs.FileStore.{files, recovers, state, view}
use Rattle.sqlite_store.specs.Laws.{settled_at, stays_at}
use Rattle.sqlite_store.specs.declared.store.FileStore.{FileStore}
use Rattle.sqlite.proofs.Theorems.{next_run, opens_again}
use Rattle.sqlite.specs.Effect.{Database}
use Rattle.sqlite.specs.Held.{AreDatabases}
use Rattle.sqlite.specs.Files.{HoldsDatabase}
use Rattle.sqlite.specs.Start.{FindsIn}
use Rattle.sqlite.specs.State.{State}
use Rattle.tree_order.specs.Shown.{shown_trees}
use Rattle.tree_order.specs.declared.renumbered.Renumbered.{Renumbered}
use Rattle.store_rows.specs.House.{IsHouse}
use Rattle.store_rows.specs.Tables.{IsAtRest, tables_in}
use Rattle.store_house.proofs.ArrangedLemmas.{found_in_order}
use Rattle.store_house.specs.Named.{tables_held, IsReordered}
use Rattle.store.specs.Kept.{House, MayLeave, content}
use Rattle.store.specs.Closing.{MayHold}
use Rattle.store.specs.InOrder.{order_state, over_order}
use Rattle.store_files.specs.InOrder.{IsCrashed}
use Rattle.sqlite_catalog.specs.Listing.{IsSound}
use Rattle.sqlite_schema.specs.declared.schema.Schema.{Schema}

-- of a disk that was honest, what a crash leaves of the two files is what it leaves of the store
may_leave_of : {D : Type 0} {g : Ghosts D} (it : FileStore D g) → IsClean (view it) → (left : Image) → outcomes g (files it).0 (files it).1 left
    → (state it).may_leave left
unfolding pool.state pool.files
may_leave_of it clean left may = (clean_of _ clean, may)

-- and it was honest where its files are clean
pub clean_if_files : {D : Type 0} {g : Ghosts D} (it : FileStore D g) → AreClean g (files it).0 (files it).1 → IsClean (view it)
unfolding pool.state pool.files
clean_if_files it clean = no_doubt _ clean

-- of a store in order at rest a crash leaves what is shown
pub settled_shown : {D : Type 0} {g : Ghosts D} → SeenMayStay g → (k : House (Renumbered (FileStore D g))) (db : Trees) → (order_state k.conn).may_leave db
    → IsAtRest (order_state k.conn) → db ≡ (order_state k.conn).now.trees
settled_shown stays k db may rests =
    may.2 ∙ ap (shown_trees k.conn.store.numbers) (settled_at k.conn.store.inner stays may.0 rests.is_open may.1)
    ∙ ap (λ (d : Database). d.trees) (sym rests.settled)

module _ {D : Type 0} {g : Ghosts D} (before : House (Renumbered (FileStore D g))) (left : Image) (crashed : IsCrashed g before left) where
  abbrev pub it : FileStore D g
  it = before.conn.store.inner

  abbrev pub shown : Trees → Trees
  shown = shown_trees before.conn.store.numbers

  shown_house : (below : Trees) → recovers it below → (house : Database) × IsHouse house × (shown below ≡ house.trees)
  shown_house below may = crashed.houses crashed.honest (shown below) (below, may, refl)

  -- each database that a crash may leave obeys a schema in the order of its file
  pub inner_databases : AreDatabases (recovers it)
  inner_databases =
      are_databases before.conn.store.numbers.inner.items before.conn.store.numbers.outer.items it before.conn.store.numbers.inverse crashed.numbered
      (λ below may.
      let held = shown_house below may in
      (held.0.schema, subst (IsSound held.0.schema) (sym held.2) held.1.sound, ap (λ (s : Schema). s.views) held.1.schema))

  -- and the names find the tables in it that are shown
  pub found_by_names : (below : Trees) → recovers it below → tables_held below ≡ tables_in (shown below)
  found_by_names below may =
      let held = shown_house below may in
      let order : IsReordered below (shown below) = record {
        inner = before.conn.store.numbers.inner.items;
        outer = before.conn.store.numbers.outer.items;
        inverse = before.conn.store.numbers.inverse;
        shown = refl;
      } in
      sym (ap tables_in held.2 ∙ found_in_order below held.0 (list_shaped it below may) (subst (IsReordered below) held.2 order) held.1)

  -- what is left holds one of them
  pub holds_left : MayHold before left
  holds_left = ∥∥₁_map (opens_again it crashed.numbered inner_databases left (may_leave_of it crashed.honest left crashed.left_so))
      (λ holds. let r : (db : Trees) × HoldsDatabase left db × MayLeave over_order before (tables_held db) =
      (holds.0, holds.2, (shown holds.0, (holds.0, holds.1, refl), found_by_names holds.0 holds.1)) in r)

  module _ (opened : State) (found : FindsIn left opened) where
    pub recovered : ∥ recovers it opened.committed.trees ∥₁
    recovered = next_run it crashed.numbered inner_databases left (may_leave_of it crashed.honest left crashed.left_so) opened found

    pub found_left : ∥ MayLeave over_order before (tables_held opened.committed.trees) ∥₁
    found_left = ∥∥₁_map recovered (λ may. let r : MayLeave over_order before (tables_held opened.committed.trees) =
        (shown opened.committed.trees, (opened.committed.trees, may, refl), found_by_names opened.committed.trees may) in r)

    pub found_same : SeenMayStay g → IsAtRest (order_state before.conn) → tables_held opened.committed.trees ≡ content over_order before
    found_same stays rests =
        let db = opened.committed.trees in
        let same : db ≡ (view it).committed = ∥∥₁_elim recovered (Trees-set _ _) (λ may. settled_at it stays db rests.is_open may) in
        ap tables_held same ∙ found_by_names (view it).committed (stays_at it stays rests.is_open)
        ∙ ap (λ (d : Database). tables_in d.trees) (sym rests.settled)
