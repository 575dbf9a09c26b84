use Rattle.std.proofs.Common.{ap, arith, rules}
use Rattle.std.specs.Prelude.{Err}
use Rattle.sqlite.specs.Held.{state}
use Rattle.sqlite.specs.State.{HasCleanDisk}
use Rattle.house_rows.specs.Fits.{FeedbackFits}
use Rattle.house_rows.specs.Ratings.{feedback_key}
use Rattle.store_rows.specs.Rows.{feedback_in}
use Rattle.store_rows.specs.Tables.{tables_in}
use Rattle.store_rows.proofs.Shown.{every_stored}
use Rattle.store.proofs.Known.{failed_look}
use Rattle.store.proofs.keep.SqlKeepKeep.all_feedback.Goals as goal

pub returns-in-Err-clause-answers : goal.returns-in-Err-clause-answers
unfolding tables_in
returns-in-Err-clause-answers g c = failed_look _ _ c.reported_fault.ensures.fault c.reported_fault.ensures.store
    (λ sound. sound.feedback)
    (rw (← c.self.view_is) (λ honest fits is.
    let clean : HasCleanDisk (state g.S.Store c.all_feedback.new.conn) = omega (arith, c.reported_fault.ensures.crash.clean, honest) in
    c.in-Err.ensures.finds.damaged clean (every_stored feedback_key FeedbackFits (feedback_in (state g.S.Store c.self.inside.conn).now.trees) fits) (ap Err is)))
    (search rules)
