-- What a change makes of what a keep knows.
use Rattle.std.specs.Prelude.{◌<◌, ◌≤◌, ◌+◌, ◌++◌, ◌∷◌, [], ℕ, List, Option, Some, None, All, length}
use Rattle.steps.specs.Table.{Band, IsBandTable}
use Rattle.house_rows.specs.Editions.{BandTables}
use Rattle.house_rows.specs.Limits.{most_editions, most_items}
use Rattle.house_rows.specs.declared.change.Change.{Change}
use Rattle.house_rows.specs.declared.change.Change.TheVariants.{Register, AddCategory, List as Listed, Bid, Buy, Close, Settle, Watch, Unwatch, Ask, Answer, Feedback, SetBands}
use Rattle.house_rows.specs.declared.people.Counts.{Counts}
use Rattle.store_rows.specs.declared.rules.Rules.{Rules}
use Rattle.store_rows.specs.Tables.{reserves_after}

-- the counts after a change
abbrev pub counts_after : Counts → Change → Counts
counts_after counts (Register moment name) = record counts { members = counts.members + 1 }
counts_after counts (AddCategory moment name) = record counts { categories = counts.categories + 1 }
counts_after counts (Listed moment item) = record counts { items = counts.items + 1 }
counts_after counts (Bid moment item placed standing) = counts
counts_after counts (Buy moment item buyer price) = counts
counts_after counts (Close moment) = counts
counts_after counts (Settle moment item) = counts
counts_after counts (Watch member item) = counts
counts_after counts (Unwatch member item) = counts
counts_after counts (Ask item asker number text) = counts
counts_after counts (Answer moment item asker number text) = counts
counts_after counts (Feedback moment item from to rating text) = counts
counts_after counts (SetBands moment bands) = counts

-- the clock after a change
abbrev pub clock_after : ℕ → Change → ℕ
clock_after clock (Register moment name) = moment
clock_after clock (AddCategory moment name) = moment
clock_after clock (Listed moment item) = moment
clock_after clock (Bid moment item placed standing) = moment
clock_after clock (Buy moment item buyer price) = moment
clock_after clock (Close moment) = moment
clock_after clock (Settle moment item) = moment
clock_after clock (Watch member item) = clock
clock_after clock (Unwatch member item) = clock
clock_after clock (Ask item asker number text) = clock
clock_after clock (Answer moment item asker number text) = moment
clock_after clock (Feedback moment item from to rating text) = moment
clock_after clock (SetBands moment bands) = moment

-- the band table that a change sets, if it sets one
abbrev pub bands_set : Change → Option (List Band)
bands_set (Register moment name) = None
bands_set (AddCategory moment name) = None
bands_set (Listed moment item) = None
bands_set (Bid moment item placed standing) = None
bands_set (Buy moment item buyer price) = None
bands_set (Close moment) = None
bands_set (Settle moment item) = None
bands_set (Watch member item) = None
bands_set (Unwatch member item) = None
bands_set (Ask item asker number text) = None
bands_set (Answer moment item asker number text) = None
bands_set (Feedback moment item from to rating text) = None
bands_set (SetBands moment bands) = Some bands.now

-- with one band table more, if there is one, which begins with the item after so many
abbrev pub with_table : BandTables → ℕ → Option (List Band) → BandTables
with_table b items None = b
with_table b items (Some bands) = record {
  settings = b.settings;
  later = b.later ++ record { edition = length b.later + 2; first = items + 1; bands = bands } ∷ [];
}

-- the rules with what a change adds, which makes so many items
abbrev pub rules_after : Rules → ℕ → Change → Rules
rules_after rules items change = record {
  editions = with_table rules.editions items (bands_set change);
  reserves = reserves_after rules.reserves items change;
}

-- a change can add to the rules: the reserve of a listing comes after all others, and a band table is
-- one, for which there is room
abbrev pub CanAdd : Rules → ℕ → Change → Type 0
CanAdd rules items (Register moment name) = Unit {0}
CanAdd rules items (AddCategory moment name) = Unit {0}
CanAdd rules items (Listed moment item) = All (λ r. r.item < items) rules.reserves
CanAdd rules items (Bid moment item placed standing) = Unit {0}
CanAdd rules items (Buy moment item buyer price) = Unit {0}
CanAdd rules items (Close moment) = Unit {0}
CanAdd rules items (Settle moment item) = Unit {0}
CanAdd rules items (Watch member item) = Unit {0}
CanAdd rules items (Unwatch member item) = Unit {0}
CanAdd rules items (Ask item asker number text) = Unit {0}
CanAdd rules items (Answer moment item asker number text) = Unit {0}
CanAdd rules items (Feedback moment item from to rating text) = Unit {0}
CanAdd rules items (SetBands moment bands) = IsBandTable bands.now
    × (length rules.editions.later + 1 < most_editions) × (items ≤ most_items)
