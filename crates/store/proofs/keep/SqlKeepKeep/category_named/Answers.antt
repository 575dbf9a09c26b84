use Rattle.store_house.proofs.PeopleSound.{category_fits}
use Rattle.std.proofs.Common.{ap, arith, rules}
use Rattle.std.specs.Prelude.{Err}
use Rattle.sqlite.specs.Held.{state}
use Rattle.sqlite.specs.State.{HasCleanDisk}
use Rattle.store_rows.specs.Tables.{tables_in}
use Rattle.store.proofs.Known.{failed_look}
use Rattle.store.proofs.keep.SqlKeepKeep.category_named.Goals as goal

pub returns-in-Err-clause-answers : goal.returns-in-Err-clause-answers
unfolding tables_in
returns-in-Err-clause-answers g c = failed_look _ _ c.reported_fault.ensures.fault c.reported_fault.ensures.store
    (rw (← c.self.view_is) (λ sound. category_fits _ _ sound))
    (rw (← c.self.view_is) (λ honest fits is.
    let clean : HasCleanDisk (state g.S.Store c.category_named.new.conn) = omega (arith, c.reported_fault.ensures.crash.clean, honest) in
    c.in-Err.ensures.finds.damaged clean fits (ap Err is)))
    (search rules)

pub returns-in-Ok-clause-answers : goal.returns-in-Ok-clause-answers
unfolding tables_in
returns-in-Ok-clause-answers g c = record {
  value = rw (← c.self.view_is) (λ honest. c.in-Ok.ensures.finds.value honest);
  faults = search rules;
  damaged = search rules;
  read = search rules;
}
