-- A question is found in the order of the keys as among the stored ones.
use Rattle.store_talk.proofs.Sound.{question_sound}
use Rattle.std.proofs.Common.{◌≡◌, sym, ◌∙◌, arith, rules, ap, subst}
use Rattle.sqlite.specs.Held.{state}
use Rattle.sqlite.specs.State.{HasCleanDisk}
use Rattle.store_rows.specs.Tables.{tables_in}
use Rattle.std.specs.Prelude.{Err, IfSome, Option}
use Rattle.house_rows.specs.Fits.{QuestionFits}
use Rattle.house_rows.specs.declared.talk.Question.{Question}
use Rattle.store.proofs.Known.{not_reported, works, report_sound}
use Rattle.store.proofs.Sound.{question_found}
use Rattle.store.proofs.keep.SqlKeepKeep.question.Goals as goal

pub returns-in-Ok-question_at-clause-answers : goal.returns-in-Ok-question_at-clause-answers
unfolding tables_in
returns-in-Ok-question_at-clause-answers g c = record {
  value = λ honest.
      let before : HasCleanDisk (state g.S.Store c.self.inside.conn) = omega (arith, c.in-Ok-question_at.ensures.finds.read.crash.clean, honest) in
      let house = (c.self.invariant.rests (works _ _ c.self.view_is c.in_ok-serves.ensures.ok) before).house in
      let item : c.in-Ok.item ≡ c.args.item = search rules in
      let asker : c.in-Ok-try_from.asker ≡ c.args.asker = search rules in
      let number : c.in-Ok-try_from-2.number ≡ c.args.number = search rules in
      rw (← c.self.view_is, ← item, ← asker, ← number)
      (c.in-Ok-question_at.ensures.finds.value honest ∙ sym (question_found _ house c.in-Ok.item c.in-Ok-try_from.asker c.in-Ok-try_from-2.number (omega arith) (omega arith) (omega arith)));
  faults = search rules;
  damaged = search rules;
  read = search rules;
}

pub returns-in-Err-clause-answers : goal.returns-in-Err-clause-answers
unfolding tables_in
returns-in-Err-clause-answers g c = record {
  value = search rules;
  faults = rw (← c.self.view_is)
      (report_sound _ _ _ _ _ c.reported_fault.ensures.fault c.reported_fault.ensures.store (λ honest sound is.
      let clean : HasCleanDisk (state g.S.Store c.question_at.new.conn) = omega (arith, c.reported_fault.ensures.crash.clean, honest) in
      c.in-Err.ensures.finds.damaged clean (question_sound _ sound _) (ap Err is)));
  damaged = rw (← c.self.view_is)
      (λ honest fits. not_reported _ _ _ c.reported_fault.ensures.fault c.reported_fault.ensures.store (λ is.
      let clean : HasCleanDisk (state g.S.Store c.question_at.new.conn) = omega (arith, c.reported_fault.ensures.crash.clean, honest) in
      let before : HasCleanDisk (state g.S.Store c.self.inside.conn) = omega (arith, c.in-Err.ensures.finds.read.crash.clean, clean) in
      let db = (state g.S.Store c.self.inside.conn).now.trees in
      let house = (c.self.invariant.rests (works _ _ c.self.view_is c.in_ok-serves.ensures.ok) before).house in
      let item : c.in-Ok.item ≡ c.args.item = search rules in
      let asker : c.in-Ok-try_from.asker ≡ c.args.asker = search rules in
      let number : c.in-Ok-try_from-2.number ≡ c.args.number = search rules in
      let stored = rw (← item, ← asker, ← number) at fits in
      c.in-Err.ensures.finds.damaged clean (subst (λ (o : Option Question). IfSome o QuestionFits) (question_found (state g.S.Store c.self.inside.conn).now house c.in-Ok.item c.in-Ok-try_from.asker c.in-Ok-try_from-2.number (omega arith) (omega arith) (omega arith)) stored) (ap Err is)));
  read = search rules;
}
