-- The limits of the house, each the number of its constant.
use Rattle.std.specs.Prelude.{ℕ}
use Rattle.cents.specs.declared.amount.TheConstants.{LIMIT}
use Rattle.proxy.specs.declared.standing.TheConstants.{MOST_BIDS}
use Rattle.settle.specs.declared.zone.TheConstants.{LAST_MOMENT}
use Rattle.house_rows.specs.declared.limits.TheConstants.{MOST_CATEGORIES, MOST_EDITIONS, MOST_ITEMS, MOST_MEMBERS, MOST_QUESTIONS, MOST_SHOWN, MOST_WATCHES}

-- the last moment, 2100-01-01T00:00:00Z, in seconds
abbrev pub last_moment : ℕ
last_moment = LAST_MOMENT

-- the greatest amount, in cents
abbrev pub most_cents : ℕ
most_cents = LIMIT

-- in the house
abbrev pub most_members : ℕ
most_members = MOST_MEMBERS

-- in the house
abbrev pub most_categories : ℕ
most_categories = MOST_CATEGORIES

-- in the house
abbrev pub most_items : ℕ
most_items = MOST_ITEMS

-- on one item
abbrev pub most_bids : ℕ
most_bids = MOST_BIDS

-- editions of the band table
abbrev pub most_editions : ℕ
most_editions = MOST_EDITIONS

-- of one member
abbrev pub most_watches : ℕ
most_watches = MOST_WATCHES

-- of one asker on one item
abbrev pub most_questions : ℕ
most_questions = MOST_QUESTIONS

-- how many entries a list that begins at a number shows
abbrev pub most_shown : ℕ
most_shown = MOST_SHOWN
