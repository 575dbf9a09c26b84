use Rattle.std.proofs.Common.{◌≡◌, ap, arith, rules, subst, sym, ℕ}
use Rattle.house_rows.proofs.Sound.{fit_where}
use Rattle.std.specs.Prelude.{Err}
use Rattle.sqlite.specs.Held.{state}
use Rattle.sqlite.specs.State.{HasCleanDisk}
use Rattle.store_rows.specs.Tables.{tables_in}
use Rattle.house_rows.specs.Keeping.{FitsBy}
use Rattle.house_rows.specs.Taken.{FitWhere, may_be_party}
use Rattle.store_rows.specs.ItemRows.{items_in}
use Rattle.store.proofs.AbsentLists.{no_sold_kept}
use Rattle.store.proofs.Known.{all_are_consistent, all_are_kept, known_serves, known_where, works, failed_look}
use Rattle.store.proofs.keep.SqlKeepKeep.sold_of.Goals as goal

pub sales_to-requires : goal.sales_to-requires
sales_to-requires g c = known_serves g.S.Store _ c.self.invariant (works _ _ c.self.view_is c.in_ok-serves.ensures.ok)

pub returns-in-Err-clause-answers : goal.returns-in-Err-clause-answers
returns-in-Err-clause-answers g c = failed_look _ _ c.reported_fault.ensures.fault c.reported_fault.ensures.store
    (λ sound. fit_where _ _ _ sound.items)
    (rw (← c.self.view_is) (λ honest fits is.
    let clean : HasCleanDisk (state g.S.Store c.sales_to.new.conn) = omega (arith, c.reported_fault.ensures.crash.clean, honest) in
    let before : HasCleanDisk (state g.S.Store c.self.inside.conn) = omega (arith, c.in-Err.ensures.finds.read.crash.clean, clean) in
    let same : c.in-Ok.member ≡ c.args.member = search rules in
    let db = (state g.S.Store c.self.inside.conn).now.trees in
    let sold = λ (member : ℕ). FitWhere (may_be_party member) (FitsBy c.self.inside.rules.editions) (items_in db) in
    c.in-Err.ensures.finds.damaged clean (subst sold (sym same) (known_where _ _ _ _ _ (c.self.invariant.known (works _ _ c.self.view_is c.in_ok-serves.ensures.ok) before) _ fits)) (ap Err is)))
    (search rules)

pub returns-in-Ok-sales_to-clause-is_consistent : goal.returns-in-Ok-sales_to-clause-is_consistent
unfolding tables_in
returns-in-Ok-sales_to-clause-is_consistent g c = λ honest.
    let before : HasCleanDisk (state g.S.Store c.self.inside.conn) = omega (arith, c.in-Ok-sales_to.ensures.finds.read.crash.clean, honest) in
    let same : c.in-Ok.member ≡ c.args.member = search rules in
    rw (← c.self.view_is, ← same) (all_are_consistent _ _ _ _ _ (c.self.invariant.known (works _ _ c.self.view_is c.in_ok-serves.ensures.ok) before) _ (c.in-Ok-sales_to.ensures.finds.value honest).is_consistent)

pub returns-in-Ok-sales_to-clause-kept : goal.returns-in-Ok-sales_to-clause-kept
unfolding tables_in
returns-in-Ok-sales_to-clause-kept g c = λ honest.
    let before : HasCleanDisk (state g.S.Store c.self.inside.conn) = omega (arith, c.in-Ok-sales_to.ensures.finds.read.crash.clean, honest) in
    let same : c.in-Ok.member ≡ c.args.member = search rules in
    rw (← c.self.view_is, ← same) (all_are_kept _ _ _ _ _ (c.self.invariant.known (works _ _ c.self.view_is c.in_ok-serves.ensures.ok) before) _ (c.in-Ok-sales_to.ensures.finds.value honest).kept)

pub returns-in_default-clause-kept : goal.returns-in_default-clause-kept
unfolding tables_in
returns-in_default-clause-kept g c = λ honest.
    rw (← c.self.view_is) (no_sold_kept (state g.S.Store c.self.inside.conn).now.trees c.args.member (search rules) (search rules))
