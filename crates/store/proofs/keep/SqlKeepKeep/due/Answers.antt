use Rattle.std.proofs.Common.{ap, arith, rules}
use Rattle.house_rows.proofs.Sound.{fit_where}
use Rattle.std.specs.Prelude.{Err}
use Rattle.sqlite.specs.Held.{state}
use Rattle.sqlite.specs.State.{HasCleanDisk}
use Rattle.store_rows.specs.Tables.{tables_in}
use Rattle.store.proofs.Known.{all_are_consistent, all_are_kept, known_serves, known_where, works, failed_look}
use Rattle.store.proofs.keep.SqlKeepKeep.due.Goals as goal

pub due-requires : goal.due-requires
due-requires g c = known_serves g.S.Store _ c.self.invariant (works _ _ c.self.view_is c.in_ok-serves.ensures.ok)

pub returns-in-Err-clause-answers : goal.returns-in-Err-clause-answers
returns-in-Err-clause-answers g c = failed_look _ _ c.reported_fault.ensures.fault c.reported_fault.ensures.store
    (λ sound. fit_where _ _ _ sound.items)
    (rw (← c.self.view_is) (λ honest fits is.
    let clean : HasCleanDisk (state g.S.Store c.due.new.conn) = omega (arith, c.reported_fault.ensures.crash.clean, honest) in
    let before : HasCleanDisk (state g.S.Store c.self.inside.conn) = omega (arith, c.in-Err.ensures.read.crash.clean, clean) in
    c.in-Err.ensures.damaged clean (known_where _ _ _ _ _ (c.self.invariant.known (works _ _ c.self.view_is c.in_ok-serves.ensures.ok) before) _ fits) (ap Err is)))
    (search rules)

pub returns-in-Ok-clause-is_consistent : goal.returns-in-Ok-clause-is_consistent
unfolding tables_in
returns-in-Ok-clause-is_consistent g c = λ honest.
    let before : HasCleanDisk (state g.S.Store c.self.inside.conn) = omega (arith, c.in-Ok.ensures.read.crash.clean, honest) in
    rw (← c.self.view_is) (all_are_consistent _ _ _ _ _ (c.self.invariant.known (works _ _ c.self.view_is c.in_ok-serves.ensures.ok) before) _ (c.in-Ok.ensures.value honest).is_consistent)

pub returns-in-Ok-clause-kept : goal.returns-in-Ok-clause-kept
unfolding tables_in
returns-in-Ok-clause-kept g c = λ honest.
    let before : HasCleanDisk (state g.S.Store c.self.inside.conn) = omega (arith, c.in-Ok.ensures.read.crash.clean, honest) in
    rw (← c.self.view_is) (all_are_kept _ _ _ _ _ (c.self.invariant.known (works _ _ c.self.view_is c.in_ok-serves.ensures.ok) before) _ (c.in-Ok.ensures.value honest).kept)
