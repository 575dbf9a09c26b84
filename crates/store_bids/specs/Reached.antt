-- What has to fit of the items that a list of a member's bids reaches, in turn.
use Rattle.std.specs.Prelude.{◌<◌, ◌+◌, ℕ, List, [], ◌∷◌, length}
use Rattle.sqlite_trees.specs.Tree.{Trees}
use Rattle.house_rows.specs.Limits.{most_shown}
use Rattle.house_rows.specs.Reached.{FitsAt}
use Rattle.house_rows.specs.Tables.{Tables}
use Rattle.house_rows.specs.Editions.{BandTables}
use Rattle.store_rows.specs.Tables.{tables_in}
use Rattle.store_bids.specs.OwnBids.{own_found, own_items}

-- of some items in turn each fits before which fewer than fifty were found
abbrev pub FitInTurn : BandTables → Tables → ℕ → ℕ → List ℕ → Type 0
FitInTurn editions t member many [] = Unit {0}
FitInTurn editions t member many (n ∷ ns) = (many < most_shown → FitsAt editions t member n) × FitInTurn editions t member (many + length (own_found t member n)) ns

-- the same of the items on which a member has bid, from a number on
abbrev pub FitFrom : BandTables → Trees → ℕ → ℕ → ℕ → Type 0
FitFrom editions db member many from = FitInTurn editions (tables_in db) member many (own_items db member from)
