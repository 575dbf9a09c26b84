use Rattle.std.proofs.Common.{◌∙◌, rules}
use Rattle.std.specs.Prelude.{nat_lt}
use Rattle.std.proofs.lemmas.List.{take_rest}
use Rattle.std.proofs.lemmas.List.Sorted.{IsPartitionPoint-from_clause}
use Rattle.list_items.proofs.Fronts.{from_point, rising_parted}
use Rattle.list_items.proofs.numbers.numbers_from.Goals as goal

pub returns : goal.returns
returns c =
    take_rest c.args.numbers.now c.partition_point-first.result
    ∙ from_point c.args.numbers.now c.args.from c.partition_point-first.result
    (IsPartitionPoint-from_clause (λ k. nat_lt k c.args.from) c.args.numbers.now c.partition_point-first.result c.partition_point-first.ensures.partitioned (rising_parted c.args.numbers.now c.args.from c.requires) (λ a r f' called. search rules))
    c.partition_point-first.ensures.bound
