use Rattle.house_rows.specs.Changed.{question_key}
use Rattle.list_rows.specs.Blocks.{rows_of}
use Rattle.list_rows.proofs.Blocked.{rows_rise}
use Rattle.list_talk.proofs.Askers.{asker_counted, by_asker}
use Rattle.list_talk.proofs.questions.Questions.count.Goals as goal

pub of_asker-requires : goal.of_asker-requires
of_asker-requires c = rw (c.block.ensures, c.deref.ensures.value) (by_asker c.args.item (rows_of c.self.inside.blocks.items) (rows_rise question_key 0 c.self.inside.blocks.items c.self.invariant.blocked))

pub returns : goal.returns
returns c = asker_counted c.args.asker c.args.item c.args.self.now c.of_asker.result.now (rw (c.block.ensures, c.deref.ensures.value, c.self.view_is) at c.of_asker.ensures)
