-- The rows of items: of which listing each is, and what everybody sees of it.
use Rattle.std.proofs.Common.{◌≡◌, ℕ, List, [], ◌∷◌, map, refl, ◌∙◌, ap, sym, inl, inr, Option, Some, None}
use Rattle.std.specs.Prelude.{◌==◌, find, option_map}
use Rattle.house_rows.specs.declared.item.ItemShown.{ItemShown}
use Rattle.house_rows.specs.declared.settings.Settings.{Settings}
use Rattle.house_rows.specs.Changed.{is_item}
use Rattle.house_rows.specs.Found.{row_at}
use Rattle.house_rows.specs.History.{History}
use Rattle.house_rows.specs.Items.{items_shown, shown, shown_at}
use Rattle.house_rows.specs.Listings.{Listing, listing_at, listings}
use Rattle.house_rows.specs.Tables.{ItemRow, Tables, bands_for, edition_for, row_now, tables_of}
use Rattle.house_rows.proofs.GoesBy.{bands_kept, edition_kept}
use Rattle.house_rows.proofs.Passed.{item_from, shown_is}
use Rattle.house_rows.proofs.Put.{by_test}

rows_found : (settings : Settings) (h : History) (i : ℕ) (ls : List Listing)
    → find (is_item i) (map (row_now settings h) ls) ≡ option_map (row_now settings h) (listing_at ls i)
rows_found settings h i [] = refl
rows_found settings h i (l ∷ ls) = elim (by_test (l.item == i)) [ inl here ↦ rw here refl | inr other ↦ rw other (rows_found settings h i ls) ]

-- a row is found where its listing is
pub row_found : (settings : Settings) (h : History) (i : ℕ)
    → row_at (tables_of settings h) i ≡ option_map (row_now settings h) (listing_at (listings h) i)
unfolding tables_of
row_found settings h i = rows_found settings h i (listings h)

-- an item as its row shows it, by the edition and the band table that it has in the tables
abbrev pub shown_row : Tables → ItemRow → ItemShown
shown_row t row = shown (edition_for t row.item.terms.item) (bands_for t row.item.terms.item) row.item

-- what everybody sees of an item is what its row shows
pub shown_by_row : (settings : Settings) (h : History) (i : ℕ)
    → shown_at (items_shown settings h) i ≡ option_map (shown_row (tables_of settings h)) (row_at (tables_of settings h) i)
shown_by_row settings h i =
    shown_is settings h i ∙ by_listing (listing_at (listings h) i) refl ∙ ap (option_map (shown_row (tables_of settings h))) (sym (row_found settings h i)) where
      by_listing : (o : Option Listing) → listing_at (listings h) i ≡ o → item_from settings h o ≡ option_map (shown_row (tables_of settings h)) (option_map (row_now settings h) o)
      by_listing None is = refl
      by_listing (Some l) is = rw (bands_kept settings h i l is, edition_kept settings h i l is) refl
