use Rattle.std.proofs.Common.{ap, arith, ◌≡◌, rules, subst, sym, ℕ}
use Rattle.std.specs.Prelude.{Err}
use Rattle.sqlite.specs.Held.{state}
use Rattle.sqlite.specs.State.{HasCleanDisk}
use Rattle.store_rows.specs.Tables.{tables_in}
use Rattle.house_rows.specs.declared.talk.Question.{Question}
use Rattle.store_talk.proofs.WaitingItems.{first_stored_waiting}
use Rattle.store_talk.specs.Waiting.{FirstWaitingFit}
use Rattle.store_talk.proofs.Sound.{first_waiting_sound}
use Rattle.store.proofs.AbsentLists.{no_seller_kept}
use Rattle.store.proofs.Known.{all_are_kept, each_is_consistent, known_serves, known_sound, known_where, not_reported, report_sound, works}
use Rattle.store.proofs.keep.SqlKeepKeep.first_waiting.Goals as goal

pub first_waiting-requires : goal.first_waiting-requires
first_waiting-requires g c = known_serves g.S.Store _ c.self.invariant (works _ _ c.self.view_is c.in_ok-serves.ensures.ok)

pub returns-in-Err-clause-answers : goal.returns-in-Err-clause-answers
returns-in-Err-clause-answers g c = record {
  value = search rules;
  faults = rw (← c.self.view_is)
      (report_sound _ _ _ _ _ c.reported_fault.ensures.fault c.reported_fault.ensures.store (λ honest sound is.
      let clean : HasCleanDisk (state g.S.Store c.first_waiting.new.conn) = omega (arith, c.reported_fault.ensures.crash.clean, honest) in
      let before : HasCleanDisk (state g.S.Store c.self.inside.conn) = omega (arith, c.in-Err.ensures.finds.read.crash.clean, clean) in
      c.in-Err.ensures.finds.damaged clean (first_waiting_sound _ _ (known_sound _ _ _ _ _ (c.self.invariant.known (works _ _ c.self.view_is c.in_ok-serves.ensures.ok) before) sound) _) (ap Err is)));
  damaged = rw (← c.self.view_is)
      (λ honest taken.
      let items = taken.0 in
      let asked = taken.1 in not_reported _ _ _ c.reported_fault.ensures.fault c.reported_fault.ensures.store (λ is.
      let clean : HasCleanDisk (state g.S.Store c.first_waiting.new.conn) = omega (arith, c.reported_fault.ensures.crash.clean, honest) in
      let before : HasCleanDisk (state g.S.Store c.self.inside.conn) = omega (arith, c.in-Err.ensures.finds.read.crash.clean, clean) in
      let same : c.in-Ok.member ≡ c.args.member = search rules in
      let db = (state g.S.Store c.self.inside.conn).now.trees in
      let takes = λ (member : ℕ). FirstWaitingFit c.self.inside.rules.editions member db in
      c.in-Err.ensures.finds.damaged clean (subst takes (sym same) (record { items = known_where _ _ _ _ _ (c.self.invariant.known (works _ _ c.self.view_is c.in_ok-serves.ensures.ok) before) _ items; questions = first_stored_waiting db c.args.member asked })) (ap Err is)));
  read = search rules;
}

pub returns-in-Ok-first_waiting-clause-is_consistent : goal.returns-in-Ok-first_waiting-clause-is_consistent
returns-in-Ok-first_waiting-clause-is_consistent g c = λ honest.
    let before : HasCleanDisk (state g.S.Store c.self.inside.conn) = omega (arith, c.in-Ok-first_waiting.ensures.finds.read.crash.clean, honest) in
    rw (← c.self.view_is) (each_is_consistent _ _ _ _ _ (c.self.invariant.known (works _ _ c.self.view_is c.in_ok-serves.ensures.ok) before) (λ (q : Question). q.item) _ (c.in-Ok-first_waiting.ensures.finds.value honest).is_consistent)

pub returns-in-Ok-first_waiting-clause-kept : goal.returns-in-Ok-first_waiting-clause-kept
unfolding tables_in
returns-in-Ok-first_waiting-clause-kept g c = λ honest.
    let before : HasCleanDisk (state g.S.Store c.self.inside.conn) = omega (arith, c.in-Ok-first_waiting.ensures.finds.read.crash.clean, honest) in
    let same : c.in-Ok.member ≡ c.args.member = search rules in
    rw (← c.self.view_is, ← same) (all_are_kept _ _ _ _ _ (c.self.invariant.known (works _ _ c.self.view_is c.in_ok-serves.ensures.ok) before) _ (c.in-Ok-first_waiting.ensures.kept honest))

pub returns-in_default-clause-kept : goal.returns-in_default-clause-kept
unfolding tables_in
returns-in_default-clause-kept g c = λ honest.
    rw (← c.self.view_is) (no_seller_kept (state g.S.Store c.self.inside.conn).now.trees c.args.member (search rules) (search rules))
