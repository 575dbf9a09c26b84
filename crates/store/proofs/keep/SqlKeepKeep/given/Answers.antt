use Rattle.std.proofs.Common.{ap, arith, ◌≡◌, rules, subst, sym, ℕ}
use Rattle.house_rows.proofs.Sound.{fit_where}
use Rattle.std.specs.Prelude.{Err, ◌==◌}
use Rattle.sqlite.specs.Held.{state}
use Rattle.sqlite.specs.State.{HasCleanDisk}
use Rattle.house_rows.specs.Fits.{FeedbackFits}
use Rattle.house_rows.specs.Taken.{FitWhere}
use Rattle.house_rows.specs.declared.talk.Feedback.{Feedback}
use Rattle.store_rows.specs.Rows.{feedback_in}
use Rattle.store_rows.proofs.Sound.{feedback_where}
use Rattle.store.proofs.Known.{failed_look}
use Rattle.store.proofs.keep.SqlKeepKeep.given.Goals as goal

pub returns-in-Err : goal.returns-in-Err
returns-in-Err g c = failed_look _ _ c.reported_fault.ensures.fault c.reported_fault.ensures.store
    (λ sound. fit_where _ _ _ sound.feedback)
    (rw (← c.self.view_is) (λ honest fits is.
    let clean : HasCleanDisk (state g.S.Store c.is_given.new.conn) = omega (arith, c.reported_fault.ensures.crash.clean, honest) in
    let same : c.in-Ok-try_from.giver ≡ c.args.giver = search rules in
    let db = (state g.S.Store c.self.inside.conn).now.trees in
    let mine = λ (giver : ℕ). FitWhere (λ (f : Feedback). f.from == giver) FeedbackFits (feedback_in db) in
    c.in-Err.ensures.damaged clean (subst mine (sym same) (feedback_where db _ fits)) (ap Err is)))
    (search rules)
