-- Editions of the band table. The first is the one that the house was set up with.
use Rattle.std.specs.Prelude.{if◌then◌else◌, ℕ, ◌+◌, List, [], ◌∷◌, ◌++◌, ◌==◌, nat_le, length, map, Option, Some, None}
use Rattle.steps.specs.Table.{Band}
use Rattle.house_rows.specs.declared.command.Command.{Command}
use Rattle.house_rows.specs.declared.command.Command.TheVariants.{SetBands}
use Rattle.house_rows.specs.declared.edition.Edition.{Edition}
use Rattle.house_rows.specs.declared.settings.Settings.{Settings}
use Rattle.house_rows.specs.History.{History}
use Rattle.house_rows.specs.Listings.{listings, newest_of}

-- the editions, and the one that a command sets, with the number that the next item gets
abbrev pub with_edition : List Edition → ℕ → Command → List Edition
with_edition editions next (SetBands bands) = editions ++ record { edition = length editions + 2; first = next; bands = bands } ∷ []
with_edition editions next _ = editions

-- the editions that the house has set, in order
abbrev pub editions : History → List Edition
editions [] = []
editions (e ∷ h) = with_edition (editions h) (length (listings h) + 1) e.command

-- of the editions whose first item is at or before an item, the number of the last, or this one where there is none
abbrev pub edition_among : ℕ → List Edition → ℕ → ℕ
edition_among before [] item = before
edition_among before (e ∷ editions) item = edition_among (if nat_le e.first item then e.edition else before) editions item

-- and its table
abbrev pub bands_among : List Band → List Edition → ℕ → List Band
bands_among before [] item = before
bands_among before (e ∷ editions) item = bands_among (if nat_le e.first item then e.bands else before) editions item

-- the table of a number, if there is one, where they are numbered from this one on
abbrev pub table_from : ℕ → List (List Band) → ℕ → Option (List Band)
table_from next [] n = None
table_from next (bands ∷ set) n = if next == n then Some bands else table_from (next + 1) set n

-- the table of an edition
abbrev pub table_of : List Band → List (List Band) → ℕ → Option (List Band)
table_of first set n = table_from 1 (first ∷ set) n

-- what the house was set up with, its first band table among it, and the editions after that
pub record BandTables : Type 0 where
  pub settings : Settings
  pub later : List Edition

-- the tables of the later editions
abbrev pub set_in : BandTables → List (List Band)
set_in b = map (λ (e : Edition). e.bands) b.later

-- the number of the newest edition
abbrev pub newest_in : BandTables → ℕ
newest_in b = length b.later + 1

-- its table
abbrev pub newest_bands_in : BandTables → List Band
newest_bands_in b = newest_of b.settings.bands (set_in b)

-- the table of an edition
abbrev pub bands_of : BandTables → ℕ → Option (List Band)
bands_of b edition = table_of b.settings.bands (set_in b) edition

-- the edition of an item
abbrev pub edition_in : BandTables → ℕ → ℕ
edition_in b item = edition_among 1 b.later item

-- the table of an item
abbrev pub bands_in : BandTables → ℕ → List Band
bands_in b item = bands_among b.settings.bands b.later item
