use Rattle.std.proofs.Common.{ap, arith, ◌≡◌, rules, subst, sym, ℕ}
use Rattle.house_rows.proofs.Sound.{fit_where}
use Rattle.std.specs.Prelude.{Err}
use Rattle.sqlite.specs.Held.{state}
use Rattle.sqlite.specs.State.{HasCleanDisk}
use Rattle.store_rows.specs.Tables.{tables_in}
use Rattle.house_rows.specs.declared.talk.Question.{Question}
use Rattle.store_rows.proofs.Sound.{questions_where}
use Rattle.store_talk.specs.Waiting.{AllWaitingFit}
use Rattle.store.proofs.AbsentLists.{no_seller_kept}
use Rattle.store.proofs.Known.{all_are_kept, each_is_consistent, known_serves, known_where, works, failed_look}
use Rattle.store.proofs.keep.SqlKeepKeep.waiting_for.Goals as goal

pub waiting_for-requires : goal.waiting_for-requires
waiting_for-requires g c = known_serves g.S.Store _ c.self.invariant (works _ _ c.self.view_is c.in_ok-serves.ensures.ok)

pub returns-in-Err-clause-answers : goal.returns-in-Err-clause-answers
returns-in-Err-clause-answers g c = failed_look _ _ c.reported_fault.ensures.fault c.reported_fault.ensures.store
    (λ sound. (fit_where _ _ _ sound.items, fit_where _ _ _ sound.questions))
    (rw (← c.self.view_is) (λ honest taken is.
    let items = taken.0 in
    let asked = taken.1 in
    let clean : HasCleanDisk (state g.S.Store c.waiting_for.new.conn) = omega (arith, c.reported_fault.ensures.crash.clean, honest) in
    let before : HasCleanDisk (state g.S.Store c.self.inside.conn) = omega (arith, c.in-Err.ensures.finds.read.crash.clean, clean) in
    let same : c.in-Ok.member ≡ c.args.member = search rules in
    let db = (state g.S.Store c.self.inside.conn).now.trees in
    let takes = λ (member : ℕ). AllWaitingFit c.self.inside.rules.editions member db in
    c.in-Err.ensures.finds.damaged clean (subst takes (sym same) (record { items = known_where _ _ _ _ _ (c.self.invariant.known (works _ _ c.self.view_is c.in_ok-serves.ensures.ok) before) _ items; questions = questions_where db _ asked })) (ap Err is)))
    (search rules)

pub returns-in-Ok-waiting_for-clause-is_consistent : goal.returns-in-Ok-waiting_for-clause-is_consistent
returns-in-Ok-waiting_for-clause-is_consistent g c = λ honest.
    let before : HasCleanDisk (state g.S.Store c.self.inside.conn) = omega (arith, c.in-Ok-waiting_for.ensures.finds.read.crash.clean, honest) in
    rw (← c.self.view_is) (each_is_consistent _ _ _ _ _ (c.self.invariant.known (works _ _ c.self.view_is c.in_ok-serves.ensures.ok) before) (λ (q : Question). q.item) _ (c.in-Ok-waiting_for.ensures.finds.value honest).is_consistent)

pub returns-in-Ok-waiting_for-clause-kept : goal.returns-in-Ok-waiting_for-clause-kept
unfolding tables_in
returns-in-Ok-waiting_for-clause-kept g c = λ honest.
    let before : HasCleanDisk (state g.S.Store c.self.inside.conn) = omega (arith, c.in-Ok-waiting_for.ensures.finds.read.crash.clean, honest) in
    let same : c.in-Ok.member ≡ c.args.member = search rules in
    rw (← c.self.view_is, ← same) (all_are_kept _ _ _ _ _ (c.self.invariant.known (works _ _ c.self.view_is c.in_ok-serves.ensures.ok) before) _ (c.in-Ok-waiting_for.ensures.kept honest))

pub returns-in_default-clause-kept : goal.returns-in_default-clause-kept
unfolding tables_in
returns-in_default-clause-kept g c = λ honest.
    rw (← c.self.view_is) (no_seller_kept (state g.S.Store c.self.inside.conn).now.trees c.args.member (search rules) (search rules))
