use Rattle.list_rows.specs.Blocks.{rows_of}
use Rattle.list_talk.proofs.Asked.{asked_as, noted_put}
use Rattle.list_talk.proofs.questions.Questions.ask.Goals as goal

pub invariant_of-self-2 : goal.invariant_of-self-2
invariant_of-self-2 c = record {
  blocked = c.put.ensures.blocked;
  noted = noted_put c.put.result c.args.item c.args.asker c.args.number _ (rows_of c.self.inside.blocks.items) (rows_of c.put.new.blocks.items) c.self.inside.asked c.note.new.self _
      c.put.ensures.made c.self.invariant.noted c.in_ok-note.ensures.stays c.in_ok-note.ensures.noted;
}

pub returns : goal.returns
returns c = asked_as c.put.result c.args.item c.args.asker c.args.number c.args.text.now c.args.self.now (rows_of c.put.new.blocks.items) (rw (c.in_ok-text.ensures.value, c.self.view_is) at c.put.ensures.made)
