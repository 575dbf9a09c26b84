-- A house whose trees lie in any order, by the names in the list of objects.
use Rattle.std.specs.Prelude.{◌≡◌, ◌⊎◌, ◌≤◌, IsTrue, ℕ, List, [], ◌∷◌, codes, Bool, if◌then◌else◌}
use Rattle.house_rows.specs.Tables.{Tables}
use Rattle.sqlite.specs.Effect.{Database}
use Rattle.sqlite.specs.Held.{Held, state}
use Rattle.sqlite_trees.specs.Objects.{catalog_tree}
use Rattle.sqlite_trees.specs.Tree.{Trees}
use Rattle.sqlite_trees.specs.View.{IsClean, doubt}
use Rattle.sqlite_trees.specs.declared.store.Store.{Ghosts}
use Rattle.store_rows.specs.House.{IsFirstHouse, IsHouse}
use Rattle.store_rows.specs.Tables.{tables_in}
use Rattle.store_house.specs.Places.{by_names, trees_named}
use Rattle.tree_order.specs.Numbers.{AreInverse}
use Rattle.store_house.specs.Opening.{IsSoundFirst, IsSoundHouse, Upgrades, first_tables_in}
use Rattle.store_house.specs.Over.{over_numbers}
use Rattle.tree_order.specs.Renumbered.{renumbered_trees}
use Rattle.tree_order.specs.declared.renumbered.Renumbered.{Renumbered}

-- the names of a house's trees, each at the place of its tree
unfoldable pub house_names : List (List ℕ)
house_names =
    codes "house" ∷ codes "band"
    ∷ codes "member" ∷ codes "sqlite_autoindex_member_1"
    ∷ codes "category" ∷ codes "sqlite_autoindex_category_1"
    ∷ codes "item" ∷ codes "sqlite_autoindex_item_1"
    ∷ codes "bid" ∷ codes "sqlite_autoindex_bid_1"
    ∷ codes "watch" ∷ codes "sqlite_autoindex_watch_1"
    ∷ codes "question" ∷ codes "sqlite_autoindex_question_1"
    ∷ codes "feedback" ∷ codes "sqlite_autoindex_feedback_1"
    ∷ codes "item_by_category" ∷ codes "item_by_seller" ∷ codes "item_by_leader" ∷ codes "item_by_end"
    ∷ codes "bid_by_member" ∷ codes "question_by_asker" ∷ codes "feedback_by_receiver"
    ∷ codes "reserve" ∷ codes "edition" ∷ codes "later_band" ∷ codes "sqlite_autoindex_later_band_1"
    ∷ codes "watch_by_item" ∷ []

-- where each of a house's trees lies in a database; one that is not listed has its own number
abbrev pub house_trees : Trees → List ℕ
house_trees below = trees_named house_names 0 (below catalog_tree)

-- the tables of the house that a database holds in any order
abbrev pub tables_held : Trees → Tables
tables_held below = tables_in (by_names house_names below)

-- and of a house of version 1
abbrev pub first_tables_held : Trees → Tables
first_tables_held below = first_tables_in (by_names house_names below)

-- how many trees a house has: the last is its index of watches by item, which an older house lacks
abbrev pub trees_of : Bool → ℕ
trees_of is_indexed = if is_indexed then 28 else 27

-- the trees are those of a database in some order
pub record IsReordered (below db : Trees) : Type 0 where
  pub inner : List ℕ
  pub outer : List ℕ
  pub inverse : AreInverse inner outer
  pub shown : db ≡ renumbered_trees inner outer below

-- in the order of a house
pub record IsArranged (below db : Trees) : Type 0 where
  pub order : IsReordered below db
  pub named : order.inner ≡ house_trees below

-- a database holds a house in any order
abbrev pub HoldsHouse : Trees → Type 0
HoldsHouse below = (db : Database) × IsHouse db × IsArranged below db.trees

-- or one of version 1
abbrev pub HoldsFirstHouse : Trees → Type 0
HoldsFirstHouse below = (db : Database) × IsFirstHouse db × IsArranged below db.trees

-- ---- which houses are taken

-- a database holds a house in any order that an opening takes
abbrev pub HoldsSound : Trees → Type 0
HoldsSound below = (db : Database) × IsSoundHouse db × IsArranged below db.trees

-- or one of version 1 that an upgrade takes
abbrev pub HoldsSoundFirst : Trees → Type 0
HoldsSoundFirst below = (db : Database) × IsSoundFirst db × IsArranged below db.trees

-- the house of version 1 that a database holds in any order is made one of version 2
pub record UpgradesHeld (below : Trees) (new : Database) : Type 0 where
  pub old : Trees
  pub arranged : IsArranged below old
  pub upgrades : Upgrades old new

-- what a crash finds is that house upgraded
abbrev pub UpgradedHeld : Trees → Trees → Type 0
UpgradedHeld below trees = (db : Database) × UpgradesHeld below db × (trees ≡ db.trees)

-- ---- what a call has left

-- The store of a connection to which nothing was written, and which shows its trees in some order: that a wrong answer of the
-- disk was taken as true is not forgotten, a shield is kept, what is shown is what was committed then, and a crash finds what it
-- could find before.
pub record FollowsInOrder {S : Type 0} (g : Ghosts S) (conn : Held S) (store : Renumbered S) : Type 0 where
  pub clean : doubt (state g conn).is_clean ≤ doubt (g.view store.inner).is_clean
  pub shield : g.is_shielded conn.store → g.is_shielded store.inner
  pub shown : IsClean (g.view store.inner) → IsTrue (g.view store.inner).is_open
      → IsReordered (state g conn).committed.trees ((over_numbers g).view store).trees
  pub crash : IsClean (g.view store.inner) → (db : Trees) → (over_numbers g).recovers store db
      → (below : Trees) × g.recovers conn.store below × IsReordered below db

-- The store of a connection in which a house of version 1 was being upgraded: the same, but that a
-- crash may find the house upgraded.
pub record FollowsOrGrowsInOrder {S : Type 0} (g : Ghosts S) (conn : Held S) (store : Renumbered S) : Type 0 where
  pub clean : doubt (state g conn).is_clean ≤ doubt (g.view store.inner).is_clean
  pub shield : g.is_shielded conn.store → g.is_shielded store.inner
  pub shown : IsClean (g.view store.inner) → IsTrue (g.view store.inner).is_open
      → IsReordered (state g conn).committed.trees ((over_numbers g).view store).trees
  pub crash : IsClean (g.view store.inner) → (db : Trees) → (over_numbers g).recovers store db
      → ((below : Trees) × g.recovers conn.store below × IsReordered below db)
      ⊎ UpgradedHeld (state g conn).committed.trees db
