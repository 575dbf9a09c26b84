-- What keeps have by what their files showed as they were opened.
use Rattle.std.proofs.Common.{◌≡◌, ◌∙◌, ℕ, List, [], Bool, false, true, Result, Ok, Err, subst, sym}
use Rattle.std.specs.Prelude.{IfOk}
use Rattle.house_rows.specs.Tables.{Tables, tables_of}
use Rattle.house_rows.specs.declared.settings.Settings.{Settings}
use Rattle.sqlite.specs.Effect.{Database}
use Rattle.sqlite.specs.Files.{HoldsDatabase}
use Rattle.sqlite_trees.specs.Tree.{Trees}
use Rattle.sqlite_wal.specs.Recovery.{Image}
use Rattle.store_files.specs.InOrder.{FindsHouse, FindsNoTable, FindsUpgraded, HoldsNoTable, tables_after}
use Rattle.store_files.specs.Opened.{IsMade, IsOpened, IsUpgraded}
use Rattle.store_house.specs.Named.{IsArranged, UpgradesHeld, tables_held}
use Rattle.store_rows.specs.House.{IsHouse}

-- as files hold what they showed
abbrev pub bytes_of : List ℕ → List ℕ → Image
bytes_of log db = record { log = log; db = db }

module _ {K : Type 0} (content : K → Tables) (is_failed : K → Bool) (is_honest : K → Type 0)
    (may_leave : K → Tables → Type 0) (name path : List ℕ) (image seen : Image)
    (same : path ≡ name → seen ≡ image) (keep : K)
    (only : is_honest keep → (t : Tables) → may_leave keep t → t ≡ content keep)
    (works : is_failed keep ≡ false) where
  pub opened_of : (is_honest keep → (db : Trees) → HoldsDatabase seen db → content keep ≡ tables_held db)
      → (is_honest keep → FindsHouse seen (content keep))
      → IsOpened content is_failed is_honest may_leave name image path keep
  opened_of holds there = record {
    found = λ at honest t held.
        holds honest held.db (subst (λ i. HoldsDatabase i held.db) (sym (same at)) held.holds)
        ∙ sym held.tables;
    there = λ at honest. subst (λ i. FindsHouse i (content keep)) (same at) (there honest);
    begun = record { only = only; works = works };
  }

  pub made_of : (settings : Settings) → (is_honest keep → HoldsNoTable seen)
      → (is_honest keep → FindsNoTable seen)
      → (is_honest keep → content keep ≡ tables_of settings [])
      → IsMade content is_failed is_honest may_leave name image path settings keep
  made_of settings blank there empty = record {
    blank = λ at honest. subst HoldsNoTable (same at) (blank honest);
    there = λ at honest. subst FindsNoTable (same at) (there honest);
    empty = empty;
    begun = record { only = only; works = works };
  }

  pub upgraded_of : (shown : K → Database) (was_first : Bool)
      → (is_honest keep → (db : Trees) → HoldsDatabase seen db
      → content keep ≡ tables_after was_first db)
      → (is_honest keep → IsHouse (shown keep))
      → (is_honest keep → was_first ≡ true → (db : Trees) → HoldsDatabase seen db
      → UpgradesHeld db (shown keep))
      → (is_honest keep → was_first ≡ false → (db : Trees) → HoldsDatabase seen db
      → IsArranged db (shown keep).trees)
      → (is_honest keep → FindsUpgraded seen was_first (shown keep))
      → IsUpgraded content is_failed is_honest may_leave shown name image path was_first keep
  upgraded_of shown was_first holds house first kept there = record {
    found = λ at honest db held.
        holds honest db (subst (λ i. HoldsDatabase i db) (sym (same at)) held);
    house = house;
    first = λ at honest was db held.
        first honest was db (subst (λ i. HoldsDatabase i db) (sym (same at)) held);
    kept = λ at honest was db held.
        kept honest was db (subst (λ i. HoldsDatabase i db) (sym (same at)) held);
    there = λ at honest. subst (λ i. FindsUpgraded i was_first (shown keep)) (same at) (there honest);
    begun = record { only = only; works = works };
  }

-- what is so of files is so where they were opened
pub shown_of : {T E : Type 0} {P Q : T → Type 0} (r : Result T E) → IfOk r P
    → ((x : T) → P x → Q x) → IfOk r Q
shown_of (Ok x) p f = f x p
shown_of (Err e) p f = tt
