use Rattle.std.proofs.Common.{◌≡◌, take}
use Rattle.list_bids.specs.Tallies.{numbers_in}
use Rattle.store_list.proofs.bids.bid_on.Given as goal

-- the numbers of the tallies so far
abbrev pub invariant-loop-tally : goal.invariant-loop-tally
invariant-loop-tally l = l.numbers.items ≡ numbers_in (take l.tally-index l.tally-items)
