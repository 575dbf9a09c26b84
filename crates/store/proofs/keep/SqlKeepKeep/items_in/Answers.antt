use Rattle.std.proofs.Common.{ap, arith, ◌≡◌, rules, subst, sym, ℕ, filter, take, nat_le}
use Rattle.std.specs.Prelude.{Err, ◌==◌, ◌&&◌}
use Rattle.sqlite.specs.Held.{state}
use Rattle.sqlite.specs.State.{HasCleanDisk}
use Rattle.std.specs.List.{AllByRecursion}
use Rattle.house_rows.specs.Keeping.{FitsBy}
use Rattle.house_rows.specs.Taken.{start_of}
use Rattle.house_rows.specs.Tables.{ItemRow}
use Rattle.store_rows.specs.ItemRows.{items_in}
use Rattle.store_rows.specs.Tables.{tables_in}
use Rattle.store_items.proofs.SoundItems.{page_sound}
use Rattle.store.proofs.AbsentLists.{no_rows_kept}
use Rattle.store.proofs.Known.{items_are_consistent, known_list, known_rows, known_serves, not_reported, report_sound, rows_are_kept, works}
use Rattle.store.proofs.keep.SqlKeepKeep.items_in.Goals as goal

pub items_in-requires : goal.items_in-requires
items_in-requires g c = known_serves g.S.Store _ c.self.invariant (works _ _ c.self.view_is c.in_ok-serves.ensures.ok)

pub returns-in-Err-clause-answers : goal.returns-in-Err-clause-answers
unfolding tables_in
returns-in-Err-clause-answers g c = record {
  value = search rules;
  faults = rw (← c.self.view_is)
      (report_sound _ _ _ _ _ c.reported_fault.ensures.fault c.reported_fault.ensures.store (λ honest sound is.
      let clean : HasCleanDisk (state g.S.Store c.items_in.new.conn) = omega (arith, c.reported_fault.ensures.crash.clean, honest) in
      let before : HasCleanDisk (state g.S.Store c.self.inside.conn) = omega (arith, c.in-Err.ensures.finds.read.crash.clean, clean) in
      c.in-Err.ensures.finds.damaged clean (page_sound c.self.inside.rules.editions (state g.S.Store c.self.inside.conn).now.trees (known_rows _ _ _ _ _ (c.self.invariant.known (works _ _ c.self.view_is c.in_ok-serves.ensures.ok) before) sound) c.in-Ok.category (start_of c.args.from)) (ap Err is)));
  damaged = rw (← c.self.view_is)
      (λ honest fits. not_reported _ _ _ c.reported_fault.ensures.fault c.reported_fault.ensures.store (λ is.
      let clean : HasCleanDisk (state g.S.Store c.items_in.new.conn) = omega (arith, c.reported_fault.ensures.crash.clean, honest) in
      let before : HasCleanDisk (state g.S.Store c.self.inside.conn) = omega (arith, c.in-Err.ensures.finds.read.crash.clean, clean) in
      let same : c.in-Ok.category ≡ c.args.category = search rules in
      let row_of = λ (category : ℕ). AllByRecursion (FitsBy c.self.inside.rules.editions) (take 50 (filter (λ (row : ItemRow). (row.item.terms.category == category) && nat_le (start_of c.args.from) row.item.terms.item) (items_in (state g.S.Store c.self.inside.conn).now.trees))) in
      c.in-Err.ensures.finds.damaged clean (subst row_of (sym same) (known_list _ _ _ _ _ (c.self.invariant.known (works _ _ c.self.view_is c.in_ok-serves.ensures.ok) before) _ fits)) (ap Err is)));
  read = search rules;
}

pub returns-in-Ok-items_in-clause-is_consistent : goal.returns-in-Ok-items_in-clause-is_consistent
returns-in-Ok-items_in-clause-is_consistent g c = λ honest.
    let before : HasCleanDisk (state g.S.Store c.self.inside.conn) = omega (arith, c.in-Ok-items_in.ensures.finds.read.crash.clean, honest) in
    rw (← c.self.view_is) (items_are_consistent _ _ _ _ _ (c.self.invariant.known (works _ _ c.self.view_is c.in_ok-serves.ensures.ok) before) _ c.in-Ok-items_in.ensures.is_consistent)

pub returns-in-Ok-items_in-clause-kept : goal.returns-in-Ok-items_in-clause-kept
unfolding tables_in
returns-in-Ok-items_in-clause-kept g c = λ honest.
    let before : HasCleanDisk (state g.S.Store c.self.inside.conn) = omega (arith, c.in-Ok-items_in.ensures.finds.read.crash.clean, honest) in
    let same : c.in-Ok.category ≡ c.args.category = search rules in
    rw (← c.self.view_is, ← same) (rows_are_kept _ _ _ _ _ (c.self.invariant.known (works _ _ c.self.view_is c.in_ok-serves.ensures.ok) before) _ (c.in-Ok-items_in.ensures.kept honest))

pub returns-in_default-clause-kept : goal.returns-in_default-clause-kept
unfolding tables_in
returns-in_default-clause-kept g c = λ honest.
    rw (← c.self.view_is) (no_rows_kept (state g.S.Store c.self.inside.conn).now.trees c.args.category (search rules) (search rules) (start_of c.args.from))
