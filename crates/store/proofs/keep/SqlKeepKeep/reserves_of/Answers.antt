use Rattle.std.proofs.Common.{◌≡◌, ◌<◌, ◌^◌, ap, arith, filter, rules, subst, sym, take, ℕ}
use Rattle.std.specs.Prelude.{Err, ◌==◌}
use Rattle.std.specs.List.{AllByRecursion}
use Rattle.sqlite.specs.Held.{state}
use Rattle.sqlite.specs.State.{HasCleanDisk}
use Rattle.house_rows.specs.Keeping.{FitsBy}
use Rattle.house_rows.specs.Limits.{most_shown}
use Rattle.house_rows.specs.Taken.{has_own_reserve, up_to}
use Rattle.house_rows.specs.Tables.{ItemRow}
use Rattle.store_rows.specs.ItemRows.{items_in}
use Rattle.store_rows.specs.Tables.{tables_in}
use Rattle.store_items.proofs.SoundItems.{reserves_sound}
use Rattle.store.proofs.Known.{known_list, known_rows, known_serves, not_reported, report_sound, rows_are_kept, works}
use Rattle.store.proofs.keep.SqlKeepKeep.reserves_of.Goals as goal

pub reserves_of-requires : goal.reserves_of-requires
reserves_of-requires g c = known_serves g.S.Store _ c.self.invariant (works _ _ c.self.view_is c.in_ok-serves.ensures.ok)

pub returns-in-Err-clause-answers : goal.returns-in-Err-clause-answers
unfolding tables_in
returns-in-Err-clause-answers g c = record {
  value = search rules;
  faults = rw (← c.self.view_is)
      (report_sound _ _ _ _ _ c.reported_fault.ensures.fault c.reported_fault.ensures.store (λ honest sound is.
      let clean : HasCleanDisk (state g.S.Store c.reserves_of.new.conn) = omega (arith, c.reported_fault.ensures.crash.clean, honest) in
      let before : HasCleanDisk (state g.S.Store c.self.inside.conn) = omega (arith, c.in-Err.ensures.finds.read.crash.clean, clean) in
      c.in-Err.ensures.finds.damaged clean (reserves_sound _ _ (known_rows _ _ _ _ _ (c.self.invariant.known (works _ _ c.self.view_is c.in_ok-serves.ensures.ok) before) sound) _ _) (ap Err is)));
  damaged = rw (← c.self.view_is)
      (λ honest taken.
      let numbered = taken.0 in
      let fits = taken.1 in not_reported _ _ _ c.reported_fault.ensures.fault c.reported_fault.ensures.store (λ is.
      let clean : HasCleanDisk (state g.S.Store c.reserves_of.new.conn) = omega (arith, c.reported_fault.ensures.crash.clean, honest) in
      let before : HasCleanDisk (state g.S.Store c.self.inside.conn) = omega (arith, c.in-Err.ensures.finds.read.crash.clean, clean) in
      let same : c.in-Ok.member ≡ c.args.member = search rules in
      let rows = items_in (state g.S.Store c.self.inside.conn).now.trees in
      let sold = λ (member : ℕ). AllByRecursion (λ (row : ItemRow). row.item.terms.item < 2 ^ 32)
      (up_to most_shown (has_own_reserve member c.args.from) (filter (λ (row : ItemRow). row.item.terms.seller == member) rows)) in
      let shown = λ (member : ℕ). AllByRecursion (FitsBy c.self.inside.rules.editions) (take most_shown (filter (has_own_reserve member c.args.from) rows)) in
      let known = c.self.invariant.known (works _ _ c.self.view_is c.in_ok-serves.ensures.ok) before in
      c.in-Err.ensures.finds.damaged clean (record { numbered = subst sold (sym same) numbered; shown = subst shown (sym same) (known_list _ _ _ _ _ known _ fits) }) (ap Err is)));
  read = search rules;
}

pub returns-in-Ok-reserves_of-clause-kept : goal.returns-in-Ok-reserves_of-clause-kept
unfolding tables_in
returns-in-Ok-reserves_of-clause-kept g c = λ honest.
    let before : HasCleanDisk (state g.S.Store c.self.inside.conn) = omega (arith, c.in-Ok-reserves_of.ensures.finds.read.crash.clean, honest) in
    let same : c.in-Ok.member ≡ c.args.member = search rules in
    rw (← c.self.view_is, ← same) (rows_are_kept _ _ _ _ _ (c.self.invariant.known (works _ _ c.self.view_is c.in_ok-serves.ensures.ok) before) _ (c.in-Ok-reserves_of.ensures.kept honest))
