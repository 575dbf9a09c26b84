-- What an upgrade of the house in two files has, and what it leaves of them.
use Rattle.std.proofs.Common.{◌≡◌, ◌∙◌, Bool, IsTrue, true, false, ap, arith, inl, inr, refl, subst, sym}
use Rattle.file_order.proofs.RecoveredLemmas.{list_shaped}
use Rattle.house_rows.specs.Tables.{Tables}
use Rattle.sqlite_disk.specs.declared.Disk as disk
use Rattle.sqlite_disk.specs.declared.Files.{Files}
use Rattle.sqlite_wal.proofs.LogLemmas.{SeenMayStay}
use Rattle.sqlite_catalog.specs.Listing.{AreListed}
use Rattle.sqlite_trees.proofs.Doubt.{no_doubt}
use Rattle.sqlite_trees.specs.Objects.{catalog_tree}
use Rattle.sqlite_trees.specs.Tree.{Trees}
use Rattle.sqlite_trees.specs.View.{IsClean, IsShaped}
use Rattle.sqlite_trees.specs.declared.store.Shape.TheVariants.{Table}
use Rattle.sqlite_store.specs.FileStore.{recovers, view}
use Rattle.sqlite_store.specs.Laws.{stays_at}
use Rattle.sqlite_store.specs.declared.store.FileStore.{FileStore}
use Rattle.sqlite.specs.Effect.{Database}
use Rattle.sqlite.specs.Files.{Finds, IsOpened, file_state, image_of, over_files}
use Rattle.sqlite.specs.Held.{Held}
use Rattle.sqlite.specs.State.{HasCleanDisk}
use Rattle.sqlite.specs.declared.file.Leftover.TheVariants.{Store}
use Rattle.tree_order.specs.Shown.{shown_trees}
use Rattle.tree_order.specs.declared.renumbered.Renumbered.{Renumbered}
use Rattle.store_rows.specs.House.{IsHouse}
use Rattle.store_rows.specs.Schema.{first_schema}
use Rattle.store_rows.specs.Tables.{tables_in}
use Rattle.store_house.proofs.ArrangedLemmas.{found_first_tables, found_in_order}
use Rattle.store_house.specs.Named.{FollowsOrGrowsInOrder, IsArranged, IsReordered, UpgradedHeld, UpgradesHeld, first_tables_held, tables_held}
use Rattle.store_open.proofs.UpgradeLemmas.{upgraded_tables}
use Rattle.store_files.proofs.Opened.{finds_held, found_at, names_find, order_below}
use Rattle.store_files.proofs.Orders.{reordered_back}
use Rattle.store_files.specs.InOrder.{HasUpgraded, IsFound, LeavesFilesUpgraded, tables_after}

-- a house that was upgraded has the tables of the house of version 1 that the names find
held_tables : (below : Trees) (new : Database) → IsShaped Table (below catalog_tree) → UpgradesHeld below new → tables_in new.trees ≡ first_tables_held below
held_tables below new table held =
    let first = held.upgrades.was in
    let listed : AreListed (held.old catalog_tree) first_schema =
    subst (λ (t : Trees). AreListed (t catalog_tree) first_schema) first.2 (subst (AreListed (first.0.trees catalog_tree)) first.1.schema first.1.sound.lists.listed) in
    upgraded_tables held.old new held.upgrades ∙ found_first_tables below held.old table held.arranged.order listed

-- by whether it was of version 1
by_version : (was_first : Bool) (t : Tables) (committed db : Trees) → committed ≡ db → (was_first ≡ true → t ≡ first_tables_held committed)
    → (was_first ≡ false → t ≡ tables_held committed) → t ≡ tables_after was_first db
by_version true t committed db same first kept = first refl ∙ ap first_tables_held same
by_version false t committed db same first kept = kept refl ∙ ap tables_held same

module _ {D : Type 0} (g : disk.Ghosts D) (given : Files D) (stays : SeenMayStay g) (conn : Held (FileStore D g)) where
  -- the list of objects that is committed is a table
  committed_shaped : IsOpened conn → IsShaped Table ((file_state conn).committed.trees catalog_tree)
  committed_shaped opened = list_shaped conn.store (file_state conn).committed.trees (stays_at conn.store stays opened.0.is_open)

  -- what is shown has the tables of what the files held
  pub upgrade_finds : IsOpened conn → Finds given conn → (was_first : Bool) (now : Database) → (was_first ≡ true → UpgradesHeld (file_state conn).committed.trees now)
      → (was_first ≡ false → IsHouse now × IsArranged (file_state conn).committed.trees now.trees) → (db : Trees) → (file_state conn).committed.trees ≡ db
      → tables_in now.trees ≡ tables_after was_first db
  upgrade_finds opened finds was_first now grown kept db same =
      by_version was_first (tables_in now.trees) (file_state conn).committed.trees db same
      (λ first. held_tables (file_state conn).committed.trees now (committed_shaped opened) (grown first))
      (λ second. names_find g given stays conn opened now (kept second).0 (kept second).1)

  -- an upgrade that failed leaves what the files held, or the house upgraded
  pub leaves_upgraded : (store : Renumbered (FileStore D g)) → (HasCleanDisk (file_state conn) → IsOpened conn) → (HasCleanDisk (file_state conn) → Finds given conn)
      → FollowsOrGrowsInOrder over_files conn store → IsTrue (view store.inner).is_clean → LeavesFilesUpgraded given (Store store.inner)
  leaves_upgraded store opens finds follows clean =
      let sure : IsClean (view store.inner) = no_doubt _ clean in
      let early : HasCleanDisk (file_state conn) = omega (arith, follows.clean, sure) in
      let committed : Trees = (file_state conn).committed.trees in
      let held : IsFound g given committed = record { found = (finds early).reads; holds = (finds early).holds } in
      inr (
        store.inner,
        refl,
        λ found may. elim (follows.crash sure (shown_trees store.numbers found) (found, may, refl)) [
          | inl left ↦ inl (finds_held g given stays conn store (opens early) (finds early) found left.0 may left.1 left.2)
          | inr grown ↦ inr (committed, held, upgraded committed found grown may (opens early))
        ],
      )
    where
      upgraded : (committed found : Trees) → UpgradedHeld (file_state conn).committed.trees (shown_trees store.numbers found) → recovers store.inner found → IsOpened conn
          → HasUpgraded (file_state conn).committed.trees found
      upgraded committed found grown may opened =
          let order : IsReordered grown.0.trees found = subst (λ (t : Trees). IsReordered t found) grown.2 (order_below store found) in
          record {
            house = grown.0;
            upgrades = grown.1;
            order = order;
            tables = sym (found_in_order found grown.0 (list_shaped store.inner found may) (reordered_back grown.0.trees found order) grown.1.upgrades.house)
                ∙ held_tables (file_state conn).committed.trees grown.0 (committed_shaped opened) grown.1;
          }
