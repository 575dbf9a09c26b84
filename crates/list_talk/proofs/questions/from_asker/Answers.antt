use Rattle.std.proofs.Common.{◌∙◌, rules}
use Rattle.std.specs.Prelude.{nat_lt}
use Rattle.std.proofs.lemmas.List.{take_rest}
use Rattle.std.proofs.lemmas.List.Sorted.{IsPartitionPoint-from_clause, IsPartitionedBy-ltb}
use Rattle.house_rows.specs.declared.talk.Question.{Question}
use Rattle.list_talk.proofs.Askers.{after_point, sorted_places}
use Rattle.list_talk.proofs.questions.from_asker.Goals as goal

pub returns : goal.returns
returns c =
    take_rest c.args.rows.now c.partition_point.result
    ∙ after_point (λ (q : Question). q.asker) c.args.asker c.args.rows.now c.partition_point.result
    (IsPartitionPoint-from_clause (λ (q : Question). nat_lt q.asker c.args.asker) c.args.rows.now c.partition_point.result c.partition_point.ensures.partitioned
    (IsPartitionedBy-ltb (λ (q : Question). q.asker) c.args.rows.now c.args.asker (sorted_places (λ (q : Question). q.asker) c.args.rows.now c.requires)) (λ a r f k. search rules))
