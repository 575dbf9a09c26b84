use Rattle.std.proofs.Common.{◌≡◌, take}
use Rattle.house_rows.specs.Limits.{most_shown}
use Rattle.house_rows.specs.Tables.{Tables}
use Rattle.list_bids.specs.Tallies.{numbers_in}
use Rattle.store_list.proofs.OwnBids.{listed_at}
use Rattle.store_list.proofs.bids.own_bids.Given as goal

-- what the tallies so far say is listed
abbrev pub invariant-loop-tally : goal.invariant-loop-tally
invariant-loop-tally l = (t : Tables) → t.items ≡ l.items → t.bids ≡ l.bids
    → l.found.items ≡ take most_shown (listed_at t l.member l.from (take l.tally-index (numbers_in l.tallies)))
