use Rattle.std.proofs.Common.{◌≡◌, ◌∙◌, ap}
use Rattle.std.proofs.lemmas.List.{take_all}
use Rattle.list_bids.specs.Tallies.{numbers_in}
use Rattle.store_list.proofs.bids.bid_on.Goals as goal

pub returns-clause-value : goal.returns-clause-value
returns-clause-value c = λ t item bids mine.
    let all : c.loop-tally.numbers.items ≡ numbers_in c.tallies_of-tally-items.result.now = c.loop-tally.invariant ∙ ap numbers_in (take_all c.loop-tally.tally-index c.tallies_of-tally-items.result.now c.loop-tally-test.false) in
    rw all ((c.tallies_of-tally-items.ensures t bids).complete item mine)
