use Rattle.std.proofs.Common.{ap, arith, ◌≡◌, rules, subst, sym, ℕ}
use Rattle.house_rows.proofs.Sound.{fit_where}
use Rattle.std.specs.Prelude.{Err, ◌==◌}
use Rattle.sqlite.specs.Held.{state}
use Rattle.sqlite.specs.State.{HasCleanDisk}
use Rattle.house_rows.specs.Fits.{FeedbackFits}
use Rattle.house_rows.specs.Taken.{FitWhere}
use Rattle.house_rows.specs.declared.talk.Feedback.{Feedback}
use Rattle.store_rows.specs.Rows.{feedback_in}
use Rattle.store_rows.proofs.Sound.{feedback_sorted, feedback_where}
use Rattle.store.proofs.Known.{failed_look}
use Rattle.store.proofs.keep.SqlKeepKeep.ratings.Goals as goal

pub returns-in-Err-clause-answers : goal.returns-in-Err-clause-answers
returns-in-Err-clause-answers g c = failed_look _ _ c.reported_fault.ensures.fault c.reported_fault.ensures.store
    (λ sound. fit_where _ _ _ sound.feedback)
    (rw (← c.self.view_is) (λ honest fits is.
    let clean : HasCleanDisk (state g.S.Store c.ratings.new.conn) = omega (arith, c.reported_fault.ensures.crash.clean, honest) in
    let same : c.in-Ok.member ≡ c.args.member = search rules in
    let db = (state g.S.Store c.self.inside.conn).now.trees in
    let theirs = λ (member : ℕ). FitWhere (λ (f : Feedback). f.to == member) FeedbackFits (feedback_in db) in
    c.in-Err.ensures.finds.damaged clean (subst theirs (sym same) (feedback_where db _ fits)) (ap Err is)))
    (search rules)

pub returns-in-Ok-ratings-clause-fits : goal.returns-in-Ok-ratings-clause-fits
returns-in-Ok-ratings-clause-fits g c = λ honest.
    let same : c.in-Ok.member ≡ c.args.member = search rules in
    let db = (state g.S.Store c.self.inside.conn).now.trees in
    let theirs = λ (member : ℕ). FitWhere (λ (f : Feedback). f.to == member) FeedbackFits (feedback_in db) in
    rw (← c.self.view_is) (feedback_sorted db _ (subst theirs same (c.in-Ok-ratings.ensures.fits honest)))
