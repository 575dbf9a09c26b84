-- Worked rows of band tables that the house sets, with values worked out by hand.
use Rattle.std.specs.Prelude.{◌≡◌, ℕ, List, [], ◌∷◌, Option, Some, None, codes}
use Rattle.steps.specs.Table.{Band}
use Rattle.house_rows.specs.declared.command.Command.TheVariants.{Bid, SetBands}
use Rattle.house_rows.specs.declared.page.Page.TheVariants.{Bands, Refused}
use Rattle.house_rows.specs.declared.query.Query.TheVariants as query
use Rattle.house_rows.specs.declared.refusal.Refusal.TheVariants.{HouseOnly, MomentBehind, Range, Unknown}
use Rattle.house_rows.specs.declared.command_result.CommandResult.TheVariants.{Edition, Placed}
use Rattle.house_rows.specs.History.{History, clock}
use Rattle.house_rows.specs.Listings.{Listing, bands_by, edition_by, listing_at, listings}
use Rattle.house_rows.specs.Pages.{page_of}
use Rattle.house_rows.specs.Runs.{entry}
use Rattle.house_rows.specs.Verdict.{verdict}
use Rattle.house_laws.specs.Examples.{and_bid, lists, settings, setup}
use Rattle.house_laws.specs.WorkedRows.{Tells}

-- steps of 1.00 throughout
abbrev pub flat : List Band
flat = (0, 100) ∷ []

-- the house sets such a table, and then Ana lists item 2 from 5.00
abbrev pub with_flat : History
with_flat = entry 1001 0 (SetBands flat) ∷ setup

abbrev pub two_items : History
two_items = entry 1001 1 (lists (codes "B2") 500 None) ∷ with_flat

-- Ben bids 5.00 on each
abbrev pub ben_on_both : History
ben_on_both = entry 1001 2 (Bid 2 500) ∷ and_bid 1001 2 500 two_items

-- the table is edition 2; by it the floor of item 2 is 6.00, and that of item 1 stays 5.50
abbrev pub NewTableIsForNewItems : Type 0
NewTableIsForNewItems =
    Tells setup 1001 0 (SetBands flat) (Edition 2)
    × Tells two_items 1001 2 (Bid 1 500) (Placed 1 550 (Some 2) 500)
    × Tells (and_bid 1001 2 500 two_items) 1001 2 (Bid 2 500) (Placed 1 600 (Some 2) 500)

-- then Cid bids 10.00 on each, and pays one step over Ben's 5.00 by the table of each
abbrev pub EachItemKeepsItsTable : Type 0
EachItemKeepsItsTable =
    Tells ben_on_both 1002 3 (Bid 1 1000) (Placed 2 600 (Some 3) 550)
    × Tells (and_bid 1002 3 1000 ben_on_both) 1002 3 (Bid 2 1000) (Placed 2 700 (Some 3) 600)

-- no band, and falling steps, are no table; and a member sets none
abbrev pub TablesAreJudged : Type 0
TablesAreJudged =
    (verdict settings setup 1001 0 (SetBands []) ≡ Some Range)
    × (verdict settings setup 1001 0 (SetBands ((0, 5) ∷ (100, 4) ∷ [])) ≡ Some Range)
    × (verdict settings setup 1001 1 (SetBands flat) ≡ Some HouseOnly)
    × (verdict settings setup 999 0 (SetBands flat) ≡ Some MomentBehind)

-- of two tables with no listing between, the next item goes by the second
abbrev pub two_tables : History
two_tables = entry 1003 1 (lists (codes "B2") 500 None) ∷ entry 1002 0 (SetBands ((0, 200) ∷ [])) ∷ with_flat

abbrev pub goes_by : Option Listing → Option (ℕ × List Band)
goes_by None = None
goes_by (Some l) = Some (edition_by l, bands_by settings l)

abbrev pub NextItemGoesByTheNewest : Type 0
NextItemGoesByTheNewest =
    (goes_by (listing_at (listings two_tables) 2) ≡ Some (3, (0, 200) ∷ []))
    × (goes_by (listing_at (listings two_tables) 1) ≡ Some (1, settings.bands))
    × (clock two_tables ≡ 1003)

-- the newest table is shown, or that of an edition
abbrev pub TablesAreShown : Type 0
TablesAreShown =
    (page_of settings two_tables 2 query.Bands ≡ Bands ((0, 200) ∷ []))
    × (page_of settings two_tables 2 (query.BandsOf 1) ≡ Bands settings.bands)
    × (page_of settings two_tables 2 (query.BandsOf 2) ≡ Bands flat)
    × (page_of settings two_tables 2 (query.BandsOf 3) ≡ Bands ((0, 200) ∷ []))
    × (page_of settings two_tables 2 (query.BandsOf 4) ≡ Refused Unknown)
    × (page_of settings two_tables 2 (query.BandsOf 0) ≡ Refused Unknown)
