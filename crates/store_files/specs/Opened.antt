-- A keep that was opened at a path, by what the files held that lay there. Start here.
use Rattle.std.specs.Prelude.{◌≡◌, ℕ, List, [], Bool, false, true}
use Rattle.house_rows.specs.Tables.{Tables, tables_of}
use Rattle.house_rows.specs.declared.settings.Settings.{Settings}
use Rattle.sqlite.specs.Effect.{Database}
use Rattle.sqlite.specs.Files.{HoldsDatabase}
use Rattle.sqlite_trees.specs.Tree.{Trees}
use Rattle.sqlite_wal.specs.Recovery.{Image}
use Rattle.store_house.specs.Named.{IsArranged, UpgradesHeld}
use Rattle.store_rows.specs.House.{IsHouse}
use Rattle.store_files.specs.InOrder.{FindsHouse, FindsNoTable, FindsUpgraded, HoldsNoTable, HoldsTables, tables_after}

-- A crash leaves the tables of a keep alone, and the keep has not failed.
pub record IsBegun {K : Type 0} (content : K → Tables) (is_failed : K → Bool)
    (is_honest : K → Type 0) (may_leave : K → Tables → Type 0) (keep : K) : Type 0 where
  pub only : is_honest keep → (t : Tables) → may_leave keep t → t ≡ content keep
  pub works : is_failed keep ≡ false

-- A keep was opened at a path. Where this is the name of files that held this, it has the tables that
-- they held, and they held a house.
pub record IsOpened {K : Type 0} (content : K → Tables) (is_failed : K → Bool)
    (is_honest : K → Type 0) (may_leave : K → Tables → Type 0) (name : List ℕ) (image : Image)
    (path : List ℕ) (keep : K) : Type 0 where
  pub found : path ≡ name → is_honest keep → (t : Tables) → HoldsTables image t → content keep ≡ t
  pub there : path ≡ name → is_honest keep → FindsHouse image (content keep)
  pub begun : IsBegun content is_failed is_honest may_leave keep

-- A keep was made at a path. It has the tables of a new house; where this is the name of files that
-- held this, they were empty or held a database, and no table.
pub record IsMade {K : Type 0} (content : K → Tables) (is_failed : K → Bool)
    (is_honest : K → Type 0) (may_leave : K → Tables → Type 0) (name : List ℕ) (image : Image)
    (path : List ℕ) (settings : Settings) (keep : K) : Type 0 where
  pub blank : path ≡ name → is_honest keep → HoldsNoTable image
  pub there : path ≡ name → is_honest keep → FindsNoTable image
  pub empty : is_honest keep → content keep ≡ tables_of settings []
  pub begun : IsBegun content is_failed is_honest may_leave keep

-- A keep was opened at a path, and its house upgraded where it was of version 1. Where this is the
-- name of files that held this, it has the tables of what they held. The house that it shows was
-- made of the one of version 1 that they held; or it is the one of version 2, whole, where it says
-- that it upgraded none. So they held a house.
pub record IsUpgraded {K : Type 0} (content : K → Tables) (is_failed : K → Bool)
    (is_honest : K → Type 0) (may_leave : K → Tables → Type 0) (shown : K → Database)
    (name : List ℕ) (image : Image) (path : List ℕ) (was_first : Bool) (keep : K) : Type 0 where
  pub found : path ≡ name → is_honest keep → (db : Trees) → HoldsDatabase image db
      → content keep ≡ tables_after was_first db
  pub house : is_honest keep → IsHouse (shown keep)
  pub first : path ≡ name → is_honest keep → was_first ≡ true → (db : Trees)
      → HoldsDatabase image db → UpgradesHeld db (shown keep)
  pub kept : path ≡ name → is_honest keep → was_first ≡ false → (db : Trees)
      → HoldsDatabase image db → IsArranged db (shown keep).trees
  pub there : path ≡ name → is_honest keep → FindsUpgraded image was_first (shown keep)
  pub begun : IsBegun content is_failed is_honest may_leave keep
