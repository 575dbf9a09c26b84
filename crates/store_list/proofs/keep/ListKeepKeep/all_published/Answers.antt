use Rattle.std.specs.List.{AllByRecursion}
use Rattle.house_rows.specs.Fits.{QuestionFits}
use Rattle.store_list.proofs.Fitting.{filter_fits, ok_items}
use Rattle.store_list.proofs.keep.ListKeepKeep.all_published.Goals as goal

pub returns-clause-fits : goal.returns-clause-fits
returns-clause-fits c = ok_items (λ xs. AllByRecursion QuestionFits xs) c.all_published.result _ c.all_published.ensures.value (filter_fits QuestionFits _ _ c.self.invariant.sound.questions)
