use Rattle.std.proofs.Common.{ap, arith, ◌≡◌, rules, subst, sym}
use Rattle.house_rows.proofs.Sound.{fit_where}
use Rattle.std.specs.Prelude.{Err}
use Rattle.sqlite.specs.Held.{state}
use Rattle.sqlite.specs.State.{HasCleanDisk}
use Rattle.store_items.specs.ConsistentRows.{RowFitsAt}
use Rattle.store_rows.specs.Tables.{tables_in}
use Rattle.store_items.proofs.Small.{no_item}
use Rattle.store.proofs.Absent.{no_row_kept}
use Rattle.store.proofs.Known.{known_row, known_serves, one_is_consistent, row_is_kept, works, failed_look}
use Rattle.store.proofs.keep.SqlKeepKeep.item.Goals as goal

pub item_at-requires : goal.item_at-requires
item_at-requires g c = known_serves g.S.Store _ c.self.invariant (works _ _ c.self.view_is c.in_ok-serves.ensures.ok)

pub returns-in-Err-clause-answers : goal.returns-in-Err-clause-answers
returns-in-Err-clause-answers g c = failed_look _ _ c.reported_fault.ensures.fault c.reported_fault.ensures.store
    (λ sound. fit_where _ _ _ sound.items)
    (rw (← c.self.view_is) (λ honest fits is.
    let clean : HasCleanDisk (state g.S.Store c.item_at.new.conn) = omega (arith, c.reported_fault.ensures.crash.clean, honest) in
    let before : HasCleanDisk (state g.S.Store c.self.inside.conn) = omega (arith, c.in-Err.ensures.finds.read.crash.clean, clean) in
    let same : c.in-Ok.item ≡ c.args.item = search rules in
    c.in-Err.ensures.finds.damaged clean (subst (RowFitsAt c.self.inside.rules.editions (state g.S.Store c.self.inside.conn).now.trees) (sym same) (known_row _ _ _ _ _ (c.self.invariant.known (works _ _ c.self.view_is c.in_ok-serves.ensures.ok) before) c.args.item fits)) (ap Err is)))
    (search rules)

pub returns-in-Ok-item_at-clause-is_consistent : goal.returns-in-Ok-item_at-clause-is_consistent
returns-in-Ok-item_at-clause-is_consistent g c = λ honest.
    let before : HasCleanDisk (state g.S.Store c.self.inside.conn) = omega (arith, c.in-Ok-item_at.ensures.finds.read.crash.clean, honest) in
    rw (← c.self.view_is) (one_is_consistent _ _ _ _ _ (c.self.invariant.known (works _ _ c.self.view_is c.in_ok-serves.ensures.ok) before) _ c.in-Ok-item_at.ensures.is_consistent)

pub returns-in_default-clause-answers : goal.returns-in_default-clause-answers
unfolding tables_in
returns-in_default-clause-answers g c = record {
  value = rw (← c.self.view_is) (search (rules, no_item));
  faults = search rules;
  damaged = search rules;
  read = search rules;
}

pub returns-in-Ok-item_at-clause-kept : goal.returns-in-Ok-item_at-clause-kept
returns-in-Ok-item_at-clause-kept g c = λ honest.
    let before : HasCleanDisk (state g.S.Store c.self.inside.conn) = omega (arith, c.in-Ok-item_at.ensures.finds.read.crash.clean, honest) in
    let same : c.in-Ok.item ≡ c.args.item = search rules in
    rw (← c.self.view_is, ← same) (row_is_kept _ _ _ _ _ (c.self.invariant.known (works _ _ c.self.view_is c.in_ok-serves.ensures.ok) before) c.in-Ok.item (c.in-Ok-item_at.ensures.kept honest))

pub returns-in_default-clause-kept : goal.returns-in_default-clause-kept
unfolding tables_in
returns-in_default-clause-kept g c = λ honest. rw (← c.self.view_is) (search (rules, no_row_kept))
