-- The rows of items in the tables of a history, one by one as Shown has them, and all of them.
use Rattle.std.proofs.Common.{◌≡◌, map, refl, ◌∙◌, ap, Some}
use Rattle.house_rows.specs.declared.item.Item.{Item}
use Rattle.house_rows.specs.declared.settings.Settings.{Settings}
use Rattle.house_rows.specs.Found.{all_items}
use Rattle.house_rows.specs.History.{History}
use Rattle.house_rows.specs.Items.{item_now, items, items_shown, shown, shown_now}
use Rattle.house_rows.specs.Listings.{Listing, listing_at, listings}
use Rattle.house_rows.specs.Tables.{ItemRow, bands_for, edition_for, row_now, tables_of}
use Rattle.house_rows.proofs.GoesBy.{bands_kept, edition_kept}
use Rattle.house_rows.proofs.Lists.{map_each, map_twice}
use Rattle.house_rows.proofs.Numbered.{numbered}
pub use Rattle.house_rows.proofs.Shown.{row_found as row_is, shown_by_row, shown_row}

-- the items of the tables
pub items_are : (settings : Settings) (h : History) → all_items (tables_of settings h) ≡ items settings h
unfolding tables_of items
items_are settings h = map_twice (row_now settings h) (λ (row : ItemRow). row.item) (listings h)

one_shown : (settings : Settings) (h : History) (l : Listing) → listing_at (listings h) l.item ≡ Some l
    → shown (edition_for (tables_of settings h) l.item) (bands_for (tables_of settings h) l.item) (item_now settings h l) ≡ shown_now settings h l
one_shown settings h l listed = rw (bands_kept settings h l.item l listed, edition_kept settings h l.item l listed) refl

-- what everybody sees of all items is what they show by the editions and the band tables that they have in the tables
pub shown_are : (settings : Settings) (h : History)
    → map (λ (it : Item). shown (edition_for (tables_of settings h) it.terms.item) (bands_for (tables_of settings h) it.terms.item) it) (all_items (tables_of settings h)) ≡ items_shown settings h
unfolding items_shown items
shown_are settings h =
    let show = λ (it : Item). shown (edition_for (tables_of settings h) it.terms.item) (bands_for (tables_of settings h) it.terms.item) it in
    ap (map show) (items_are settings h) ∙ map_twice (item_now settings h) show (listings h)
    ∙ map_each (λ (l : Listing). show (item_now settings h l)) (shown_now settings h) (λ l. listing_at (listings h) l.item ≡ Some l) (listings h)
    (one_shown settings h) (numbered h).own
