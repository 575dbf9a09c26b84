use Rattle.std.proofs.Common.{◌∙◌, ap, filter, rules}
use Rattle.std.specs.Prelude.{nat_le, nat_lt}
use Rattle.std.proofs.lemmas.List.{take_rest}
use Rattle.std.proofs.lemmas.List.Sorted.{IsPartitionPoint-from_clause, IsPartitionedBy-ltb}
use Rattle.list_rows.proofs.Blocked.{rows_rise}
use Rattle.list_talk.specs.Index.{concern_key}
use Rattle.list_talk.specs.declared.concerns.Concern.{Concern}
use Rattle.list_talk.proofs.Askers.{after_point, sorted_places}
use Rattle.list_talk.proofs.Noting.{items_sorted}
use Rattle.list_talk.proofs.concerns.Concerns.of.Goals as goal

pub returns-clause-items : goal.returns-clause-items
returns-clause-items c =
    let own = rw (c.deref.ensures.value, c.self.view_is) at c.block-own.ensures in
    take_rest c.block-own.result.now c.partition_point.result
    ∙ after_point (λ (d : Concern). d.item) c.args.from c.block-own.result.now c.partition_point.result
    (IsPartitionPoint-from_clause (λ (d : Concern). nat_lt d.item c.args.from) c.block-own.result.now c.partition_point.result c.partition_point.ensures.partitioned
    (IsPartitionedBy-ltb (λ (d : Concern). d.item) c.block-own.result.now c.args.from (sorted_places (λ (d : Concern). d.item) c.block-own.result.now
    (rw own (items_sorted c.args.member c.args.self.now (rw c.self.view_is at (rows_rise concern_key 0 c.self.inside.blocks.items c.self.invariant)))))) (λ a r f k. search rules))
    ∙ ap (filter (λ (d : Concern). nat_le c.args.from d.item)) own

pub returns-clause-rising : goal.returns-clause-rising
returns-clause-rising c = rw c.self.view_is at (rows_rise concern_key 0 c.self.inside.blocks.items c.self.invariant)
