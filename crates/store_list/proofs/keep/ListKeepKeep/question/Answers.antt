use Rattle.std.specs.Prelude.{IfSome}
use Rattle.house_rows.specs.Fits.{QuestionFits}
use Rattle.store_list.proofs.Fitting.{find_fits, ok_fits}
use Rattle.store_list.proofs.keep.ListKeepKeep.question.Goals as goal

pub returns-clause-fits : goal.returns-clause-fits
returns-clause-fits c = ok_fits (λ o. IfSome o QuestionFits) c.clone_found.result _ c.clone_found.ensures.value (rw c.question.ensures (find_fits QuestionFits _ c.self.inside.questions c.self.invariant.sound.questions))
