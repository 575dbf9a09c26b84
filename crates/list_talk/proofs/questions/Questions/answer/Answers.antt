use Rattle.list_rows.specs.Blocks.{rows_of}
use Rattle.list_talk.proofs.Asked.{noted_answered}
use Rattle.list_talk.proofs.questions.Questions.answer.Goals as goal

pub invariant_of-self : goal.invariant_of-self
invariant_of-self c = record {
  blocked = c.update.ensures.blocked;
  noted = rw (rw (c.new-key.ensures, c.from.ensures, c.from-2.ensures, c.from-3.ensures) at c.update.ensures.rows)
      (noted_answered c.self.inside.asked c.args.item c.args.asker c.args.number c.in_ok-text.text (rows_of c.self.inside.blocks.items) c.self.invariant.noted);
}
