use Rattle.std.proofs.Common.{◌∙◌, rules}
use Rattle.std.specs.Prelude.{nat_lt}
use Rattle.std.proofs.lemmas.List.{take_rest}
use Rattle.std.proofs.lemmas.List.Sorted.{IsPartitionPoint-from_clause}
use Rattle.list_bids.specs.declared.tally.Tally.{Tally}
use Rattle.store_list.proofs.OwnBids.{from_point, parted}
use Rattle.store_list.proofs.bids.tallies_from.Goals as goal

pub returns : goal.returns
returns c = λ rising.
    take_rest c.args.tallies.now c.partition_point-first.result
    ∙ from_point (λ (tally : Tally). tally.item) c.args.tallies.now c.args.from c.partition_point-first.result
    (IsPartitionPoint-from_clause (λ (tally : Tally). nat_lt tally.item c.args.from) c.args.tallies.now c.partition_point-first.result c.partition_point-first.ensures.partitioned (parted (λ (tally : Tally). tally.item) c.args.tallies.now c.args.from rising) (λ a r f' called. search rules))
    c.partition_point-first.ensures.bound
