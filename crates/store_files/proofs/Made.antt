-- What a making of a house in two files has, and what it leaves of them.
use Rattle.std.proofs.Common.{◌≡◌, ◌⊎◌, ◌∙◌, IsTrue, [], true, ap, arith, inl, inr, refl, subst, sym}
use Rattle.file_order.proofs.RecoveredLemmas.{list_shaped}
use Rattle.house_rows.specs.Tables.{tables_of}
use Rattle.house_rows.specs.Text.{is_plain}
use Rattle.house_rows.specs.declared.settings.Settings.{Settings}
use Rattle.sqlite_disk.specs.declared.Disk as disk
use Rattle.sqlite_disk.specs.declared.Files.{Files}
use Rattle.sqlite_wal.proofs.LogLemmas.{SeenMayStay}
use Rattle.sqlite_trees.proofs.Doubt.{no_doubt}
use Rattle.sqlite_trees.specs.Objects.{catalog_tree}
use Rattle.sqlite_trees.specs.Tree.{Trees}
use Rattle.sqlite_trees.specs.View.{IsClean, IsShaped, View}
use Rattle.sqlite_trees.specs.declared.store.Shape.TheVariants.{Table}
use Rattle.sqlite_store.specs.FileStore.{recovers, view}
use Rattle.sqlite_store.specs.Laws.{stays_at}
use Rattle.sqlite_store.specs.declared.store.FileStore.{FileStore}
use Rattle.sqlite.specs.Effect.{Database}
use Rattle.sqlite.specs.Files.{Finds, IsOpened, file_state, over_files}
use Rattle.sqlite.specs.Held.{Held}
use Rattle.sqlite.specs.State.{HasCleanDisk}
use Rattle.sqlite.specs.declared.file.Leftover.TheVariants.{Store}
use Rattle.tree_order.specs.Laws.{renumbered-plain}
use Rattle.tree_order.specs.NumberLaws.{plain_inverse}
use Rattle.tree_order.specs.Shown.{shown_trees}
use Rattle.tree_order.specs.declared.renumbered.Renumbered.{Renumbered}
use Rattle.store_rows.specs.House.{IsHouse}
use Rattle.store_rows.specs.Tables.{tables_in}
use Rattle.store_house.proofs.ArrangedLemmas.{found_in_order}
use Rattle.store_house.specs.Named.{FollowsInOrder, HoldsSound, IsArranged, IsReordered}
use Rattle.store_house.specs.Opening.{IsSoundHouse}
use Rattle.store_making.proofs.HeldLemmas.{holds_house, holds_sound}
use Rattle.store_making.proofs.MadeHouses.{shown_sound, shown_tables}
use Rattle.store_making.specs.Made.{IsMadeHouse, MadeHouse}
use Rattle.store_files.proofs.Opened.{found_at, order_below}
use Rattle.store_files.proofs.Orders.{reordered_back, reordered_then}
use Rattle.store_files.specs.InOrder.{HasNewHouse, LeavesFilesNew}

-- trees in their own order
abbrev own_order : {D : Type 0} {g : disk.Ghosts D} → FileStore D g → (db : Trees) → IsReordered db db
own_order store db = record {
  inner = [];
  outer = [];
  inverse = plain_inverse;
  shown = sym (ap (λ (v : View). v.trees) (renumbered-plain (record (view store) { trees = db })));
}

-- a new house that a crash finds
has_new : {D : Type 0} {g : disk.Ghosts D} (settings : Settings) (store : FileStore D g) (found : Trees) → recovers store found → (made : Database) → IsMadeHouse settings made
    → IsShaped Table (made.trees catalog_tree) → IsReordered made.trees found → HasNewHouse settings found
has_new settings store found may made is shape order =
    let held = holds_house settings made is shape in
    let again : IsReordered found held.0.trees = reordered_then found made.trees held.0.trees (reordered_back made.trees found order) held.2.order in
    record {
      made = made;
      is_made = is;
      order = order;
      tables = sym (found_in_order found held.0 (list_shaped store found may) again held.1) ∙ shown_tables settings made held.0 is shape held.2.order held.1;
    }

module _ {D : Type 0} (g : disk.Ghosts D) (given : Files D) (stays : SeenMayStay g) (settings : Settings) (made : Held (FileStore D g)) where
  -- a house was made, and it is committed
  abbrev pub Makes : Type 0
  Makes = IsTrue (file_state made).is_open × IsMadeHouse settings (file_state made).now × ((file_state made).now ≡ (file_state made).committed)

  now_shaped : Makes → IsShaped Table ((file_state made).now.trees catalog_tree)
  now_shaped ok =
      subst (λ (d : Database). IsShaped Table (d.trees catalog_tree)) (sym ok.2)
      (list_shaped made.store (file_state made).committed.trees (stays_at made.store stays ok.0))

  now_order : Makes → (shown : Trees) → IsArranged (file_state made).committed.trees shown → IsReordered (file_state made).now.trees shown
  now_order ok shown arranged = subst (λ (d : Database). IsReordered d.trees shown) (sym ok.2) arranged.order

  -- an opening of it shows the tables of a new house
  pub shows_new : Makes → (shown : Database) → IsHouse shown → IsArranged (file_state made).committed.trees shown.trees → tables_in shown.trees ≡ tables_of settings []
  shows_new ok shown house arranged = shown_tables settings (file_state made).now shown ok.1 (now_shaped ok) (now_order ok shown.trees arranged) house

  pub opens_new : Makes → (shown : Database) → IsHouse shown → IsArranged (file_state made).committed.trees shown.trees → is_plain settings.zone ≡ true → IsSoundHouse shown
  opens_new ok shown house arranged plain = shown_sound settings (file_state made).now shown ok.1 (now_shaped ok) (now_order ok shown.trees arranged) house plain

  -- what is committed is a new house
  pub made_new : Makes → IsMadeHouse settings (file_state made).committed
  made_new ok = subst (IsMadeHouse settings) ok.2 ok.1

  -- what is committed is a house that an opening takes, if the zone has no control characters
  pub holds_new : Makes → is_plain settings.zone ≡ true → HoldsSound (file_state made).committed.trees
  holds_new ok plain =
      subst (λ (d : Database). HoldsSound d.trees) ok.2
      (holds_sound settings (file_state made).now ok.1 (now_shaped ok) plain)

  -- a store over files in which a house was made holds that house, in some order
  pub leaves_new : (store : Renumbered (FileStore D g)) → FollowsInOrder over_files made store → (HasCleanDisk (file_state made) → Makes)
      → (HasCleanDisk (file_state made) → (db : Trees) → (file_state made).may_leave db → db ≡ (file_state made).now.trees)
      → IsTrue (view store.inner).is_clean → LeavesFilesNew settings given (Store store.inner)
  leaves_new store follows ok only clean =
      let sure : IsClean (view store.inner) = no_doubt _ clean in
      let early : HasCleanDisk (file_state made) = omega (arith, follows.clean, sure) in
      inr (
        store.inner,
        refl,
        λ found may.
            let shown : Trees = shown_trees store.numbers found in
            let left = follows.crash sure shown (found, may, refl) in
            let is : left.0 ≡ (file_state made).now.trees = only early left.0 left.1 in
            let order : IsReordered (file_state made).now.trees found = subst (λ t. IsReordered t found) is (reordered_then left.0 shown found left.2 (order_below store found)) in
            inr (has_new settings store.inner found may (file_state made).now (ok early).1 (now_shaped (ok early)) order),
      )

  -- and one in which a house was being made holds what the files held, or that house
  pub leaves_made : (store : FileStore D g) → (HasCleanDisk (file_state made) → IsOpened made) → (HasCleanDisk (file_state made) → Finds given made)
      → (IsClean (view store) → HasCleanDisk (file_state made))
      → (IsClean (view store) → (db : Trees) → recovers store db → recovers made.store db ⊎ MadeHouse settings db)
      → IsTrue (view store).is_clean → LeavesFilesNew settings given (Store store)
  leaves_made store opens finds was crash clean =
      let sure : IsClean (view store) = no_doubt _ clean in
      let early = was sure in
      inr (
        store,
        refl,
        λ found may. elim (crash sure found may) [
          | inl old ↦ inl (found_at g given stays made found (opens early) (finds early) old)
          | inr new ↦ inr (has_new settings store found may new.0 new.1
              (subst (λ (t : Trees). IsShaped Table (t catalog_tree)) new.2 (list_shaped store found may))
              (subst (λ (t : Trees). IsReordered t found) new.2 (own_order store found)))
        ],
      )
