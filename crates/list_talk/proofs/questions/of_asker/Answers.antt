use Rattle.std.proofs.Common.{rules}
use Rattle.std.specs.Prelude.{nat_le}
use Rattle.std.proofs.lemmas.List.Sorted.{IsPartitionPoint-from_clause, IsPartitionedBy-leb}
use Rattle.house_rows.specs.declared.talk.Question.{Question}
use Rattle.list_talk.proofs.Askers.{before_point, sorted_filter, sorted_places}
use Rattle.list_talk.proofs.questions.of_asker.Goals as goal

pub returns : goal.returns
returns c =
    before_point (λ (q : Question). q.asker) c.args.asker c.from_asker-rows.result.now c.args.rows.now c.partition_point.result c.from_asker-rows.ensures
    (IsPartitionPoint-from_clause (λ (q : Question). nat_le q.asker c.args.asker) c.from_asker-rows.result.now c.partition_point.result c.partition_point.ensures.partitioned
    (IsPartitionedBy-leb (λ (q : Question). q.asker) c.from_asker-rows.result.now c.args.asker
    (sorted_places (λ (q : Question). q.asker) c.from_asker-rows.result.now (rw c.from_asker-rows.ensures (sorted_filter (λ (q : Question). q.asker) (λ (q : Question). nat_le c.args.asker q.asker) c.args.rows.now c.requires))))
    (λ a r f k. search rules))
