use Rattle.std.proofs.Common.{ap, arith, rules}
use Rattle.std.specs.Prelude.{Err}
use Rattle.sqlite.specs.Held.{state}
use Rattle.sqlite.specs.State.{HasCleanDisk}
use Rattle.store_rows.specs.Tables.{tables_in}
use Rattle.store.proofs.Known.{items_are_consistent, known_list, known_serves, rows_are_kept, works, failed_look}
use Rattle.store.proofs.keep.SqlKeepKeep.items.Goals as goal

pub all_items-requires : goal.all_items-requires
all_items-requires g c = known_serves g.S.Store _ c.self.invariant (works _ _ c.self.view_is c.in_ok-serves.ensures.ok)

pub returns-in-Err-clause-answers : goal.returns-in-Err-clause-answers
unfolding tables_in
returns-in-Err-clause-answers g c = failed_look _ _ c.reported_fault.ensures.fault c.reported_fault.ensures.store
    (λ sound. sound.items)
    (rw (← c.self.view_is) (λ honest fits is.
    let clean : HasCleanDisk (state g.S.Store c.all_items.new.conn) = omega (arith, c.reported_fault.ensures.crash.clean, honest) in
    let before : HasCleanDisk (state g.S.Store c.self.inside.conn) = omega (arith, c.in-Err.ensures.finds.read.crash.clean, clean) in
    c.in-Err.ensures.finds.damaged clean (known_list _ _ _ _ _ (c.self.invariant.known (works _ _ c.self.view_is c.in_ok-serves.ensures.ok) before) _ fits) (ap Err is)))
    (search rules)

pub returns-in-Ok-clause-is_consistent : goal.returns-in-Ok-clause-is_consistent
returns-in-Ok-clause-is_consistent g c = λ honest.
    let before : HasCleanDisk (state g.S.Store c.self.inside.conn) = omega (arith, c.in-Ok.ensures.finds.read.crash.clean, honest) in
    rw (← c.self.view_is) (items_are_consistent _ _ _ _ _ (c.self.invariant.known (works _ _ c.self.view_is c.in_ok-serves.ensures.ok) before) _ c.in-Ok.ensures.is_consistent)

pub returns-in-Ok-clause-kept : goal.returns-in-Ok-clause-kept
unfolding tables_in
returns-in-Ok-clause-kept g c = λ honest.
    let before : HasCleanDisk (state g.S.Store c.self.inside.conn) = omega (arith, c.in-Ok.ensures.finds.read.crash.clean, honest) in
    rw (← c.self.view_is) (rows_are_kept _ _ _ _ _ (c.self.invariant.known (works _ _ c.self.view_is c.in_ok-serves.ensures.ok) before) _ (c.in-Ok.ensures.kept honest))
