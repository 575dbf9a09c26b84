-- Where every item's row fits, as in sound tables, those fit that a look-up takes.
use Rattle.std.proofs.Common.{◌≡◌, ◌==◌, ◌<◌, ◌^◌, ◌&&◌, ℕ, Bool, true, arith, filter, take}
use Rattle.std.specs.Prelude.{nat_le}
use Rattle.std.specs.List.{AllByRecursion}
use Rattle.sqlite_trees.specs.Tree.{Trees}
use Rattle.sqlite_keyed.proofs.ListLemmas.{all-filter}
use Rattle.house_rows.specs.Editions.{BandTables}
use Rattle.house_rows.specs.Keeping.{FitsBy}
use Rattle.house_rows.specs.Limits.{most_shown}
use Rattle.house_rows.specs.Tables.{ItemRow}
use Rattle.house_rows.specs.Taken.{has_own_reserve}
use Rattle.house_rows.proofs.Every.{every_as}
use Rattle.store_rows.specs.ItemRows.{items_in}
use Rattle.store_rows.proofs.Tested.{all-take}
use Rattle.store_items.specs.ConsistentRows.{RowFitsAt}
use Rattle.store_items.specs.LookUps.{ItemsFitBy, PageFits, ReservesFit}
use Rattle.store_items.proofs.UpTo.{all-up_to}

module _ (editions : BandTables) (db : Trees) (fit : AllByRecursion (FitsBy editions) (items_in db)) where
  pub items_sound : (test : ItemRow → Bool) → ItemsFitBy editions test db
  items_sound test = every_as (FitsBy editions) (λ (row : ItemRow). test row ≡ true → FitsBy editions row) (items_in db) (λ row fits is. fits) fit

  pub row_sound : (item : ℕ) → RowFitsAt editions db item
  row_sound item = every_as (FitsBy editions) (λ (row : ItemRow). row.item.terms.item ≡ item → FitsBy editions row) (items_in db) (λ row fits is. fits) fit

  -- those that a list of fifty takes
  first_sound : (test : ItemRow → Bool) → AllByRecursion (FitsBy editions) (take most_shown (filter test (items_in db)))
  first_sound test = all-take (FitsBy editions) most_shown (filter test (items_in db)) (all-filter (FitsBy editions) test (items_in db) fit)

  pub page_sound : (category from : ℕ) → PageFits editions category from db
  page_sound category from = first_sound (λ (row : ItemRow). (row.item.terms.category == category) && nat_le from row.item.terms.item)

  pub reserves_sound : (member from : ℕ) → ReservesFit editions member from db
  reserves_sound member from =
      let Low = λ (row : ItemRow). row.item.terms.item < 2 ^ 32 in
      let mine = λ (row : ItemRow). row.item.terms.seller == member in
      record {
        numbered = all-up_to Low most_shown (has_own_reserve member from) (filter mine (items_in db))
            (all-filter Low mine (items_in db) (every_as (FitsBy editions) Low (items_in db) (λ row fits. omega (arith, fits.item.terms.item.1)) fit));
        shown = first_sound (has_own_reserve member from);
      }
