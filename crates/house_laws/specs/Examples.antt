-- Literal histories for the worked rows: a house with three members, one category and one item.
use Rattle.std.specs.Prelude.{ℕ, List, [], ◌∷◌, Option, Some, None, codes}
use Rattle.steps.specs.Example.{example_table}
use Rattle.house_rows.specs.declared.command.Command.{Command}
use Rattle.house_rows.specs.declared.command.Command.TheVariants.{Register, AddCategory, List as Listed, Bid, Close, Settle, Ask, Answer, Feedback}
use Rattle.house_rows.specs.declared.rating.Rating.TheVariants.{Plus}
use Rattle.house_rows.specs.declared.settings.Settings.{Settings}
use Rattle.house_rows.specs.History.{History}
use Rattle.house_rows.specs.Runs.{entry}

-- the example table, a tenth as the fee, and UTC
abbrev pub settings : Settings
settings = record { bands = example_table; rate = 1000; zone = codes "UTC0" }

-- Ana lists an item
abbrev pub lists : List ℕ → ℕ → Option ℕ → Command
lists lot start buy_now = Listed 1 lot (codes "Atlas") [] start buy_now 5000 None

-- Ana, Ben and Cid are members 1 to 3, Books is category 1, and Ana lists item 1 from 5.00 until 5000
abbrev pub setup : History
setup =
    entry 1000 1 (lists (codes "A1") 500 None)
    ∷ entry 1000 0 (AddCategory (codes "Books"))
    ∷ entry 1000 0 (Register (codes "Cid"))
    ∷ entry 1000 0 (Register (codes "Ben"))
    ∷ entry 1000 0 (Register (codes "Ana")) ∷ []

-- a bid on item 1
abbrev pub and_bid : ℕ → ℕ → ℕ → History → History
and_bid moment caller maximum h = entry moment caller (Bid 1 maximum) ∷ h

-- Ben bids 5.00
abbrev pub one_bid : History
one_bid = and_bid 1001 2 500 setup

-- then Cid bids 10.00
abbrev pub two_bids : History
two_bids = and_bid 1002 3 1000 one_bid

-- then Ben bids as much
abbrev pub three_bids : History
three_bids = and_bid 1003 2 1000 two_bids

-- then Cid raises by a cent, and far above
abbrev pub five_bids : History
five_bids = and_bid 1005 3 2000 (and_bid 1004 3 1001 three_bids)

-- Ana lists item 2, which may be bought at once for 20.00
abbrev pub with_buy_now : History
with_buy_now = entry 1000 1 (lists (codes "B2") 500 (Some 2000)) ∷ setup

-- Ben asks on item 1, and then Cid does
abbrev pub asked_twice : History
asked_twice = entry 1002 3 (Ask 1 (codes "How old?")) ∷ entry 1001 2 (Ask 1 (codes "Is it signed?")) ∷ setup

-- Ana answers Cid
abbrev pub answered_once : History
answered_once = entry 1003 1 (Answer 1 3 1 (codes "1952")) ∷ asked_twice

-- Ben bids 9.99, and the house closes at the end
abbrev pub sold_once : History
sold_once = entry 5000 0 Close ∷ and_bid 1001 2 999 setup

-- then the house settles the sale
abbrev pub settled_once : History
settled_once = entry 5000 0 (Settle 1) ∷ sold_once

-- then Ben rates Ana
abbrev pub rated_once : History
rated_once = entry 5001 2 (Feedback 1 (Some Plus) []) ∷ settled_once
