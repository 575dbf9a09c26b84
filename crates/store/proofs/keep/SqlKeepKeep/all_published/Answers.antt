use Rattle.std.proofs.Common.{ap, arith, rules}
use Rattle.house_rows.proofs.Sound.{fit_where}
use Rattle.std.specs.Prelude.{Err}
use Rattle.sqlite.specs.Held.{state}
use Rattle.sqlite.specs.State.{HasCleanDisk}
use Rattle.store_rows.proofs.Sound.{questions_where}
use Rattle.store.proofs.Known.{failed_look}
use Rattle.store.proofs.keep.SqlKeepKeep.all_published.Goals as goal

pub returns-in-Err-clause-answers : goal.returns-in-Err-clause-answers
returns-in-Err-clause-answers g c = failed_look _ _ c.reported_fault.ensures.fault c.reported_fault.ensures.store
    (λ sound. fit_where _ _ _ sound.questions)
    (rw (← c.self.view_is) (λ honest fits is.
    let clean : HasCleanDisk (state g.S.Store c.all_published.new.conn) = omega (arith, c.reported_fault.ensures.crash.clean, honest) in
    c.in-Err.ensures.finds.damaged clean (questions_where (state g.S.Store c.self.inside.conn).now.trees _ fits) (ap Err is)))
    (search rules)
