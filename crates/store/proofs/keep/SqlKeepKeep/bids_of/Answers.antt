use Rattle.std.proofs.Common.{ap, arith, ◌≡◌, rules, subst, sym, ℕ}
use Rattle.std.specs.Prelude.{Err}
use Rattle.sqlite.specs.Held.{state}
use Rattle.sqlite.specs.State.{HasCleanDisk}
use Rattle.house_rows.specs.declared.item.OwnBid.{OwnBid}
use Rattle.house_rows.specs.Reached.{FitsSoFar}
use Rattle.store_rows.specs.Tables.{tables_in}
use Rattle.store_bids.proofs.InTurn.{all_fit}
use Rattle.store.proofs.Known.{each_is_kept, each_stands, known_serves, known_so_far, known_sound, not_reported, report_sound, works}
use Rattle.store.proofs.keep.SqlKeepKeep.bids_of.Goals as goal

pub own_bids-requires : goal.own_bids-requires
own_bids-requires g c = known_serves g.S.Store _ c.self.invariant (works _ _ c.self.view_is c.in_ok-serves.ensures.ok)

pub returns-in-Err-clause-answers : goal.returns-in-Err-clause-answers
returns-in-Err-clause-answers g c = record {
  value = search rules;
  faults = rw (← c.self.view_is)
      (report_sound _ _ _ _ _ c.reported_fault.ensures.fault c.reported_fault.ensures.store (λ honest sound is.
      let clean : HasCleanDisk (state g.S.Store c.own_bids.new.conn) = omega (arith, c.reported_fault.ensures.crash.clean, honest) in
      let before : HasCleanDisk (state g.S.Store c.self.inside.conn) = omega (arith, c.in-Err.ensures.finds.read.crash.clean, clean) in
      c.in-Err.ensures.finds.damaged clean (all_fit _ _ _ _ (known_sound _ _ _ _ _ (c.self.invariant.known (works _ _ c.self.view_is c.in_ok-serves.ensures.ok) before) sound)) (ap Err is)));
  damaged = rw (← c.self.view_is)
      (λ honest fits. not_reported _ _ _ c.reported_fault.ensures.fault c.reported_fault.ensures.store (λ is.
      let clean : HasCleanDisk (state g.S.Store c.own_bids.new.conn) = omega (arith, c.reported_fault.ensures.crash.clean, honest) in
      let before : HasCleanDisk (state g.S.Store c.self.inside.conn) = omega (arith, c.in-Err.ensures.finds.read.crash.clean, clean) in
      let same : c.in-Ok.member ≡ c.args.member = search rules in
      c.in-Err.ensures.finds.damaged clean (subst (λ (member : ℕ). FitsSoFar c.self.inside.rules.editions (tables_in (state g.S.Store c.self.inside.conn).now.trees) member c.args.from) (sym same) (known_so_far _ _ _ _ _ (c.self.invariant.known (works _ _ c.self.view_is c.in_ok-serves.ensures.ok) before) _ _ fits)) (ap Err is)));
  read = search rules;
}

pub returns-in-Ok-own_bids-clause-is_consistent : goal.returns-in-Ok-own_bids-clause-is_consistent
returns-in-Ok-own_bids-clause-is_consistent g c = λ honest.
    let before : HasCleanDisk (state g.S.Store c.self.inside.conn) = omega (arith, c.in-Ok-own_bids.ensures.finds.read.crash.clean, honest) in
    rw (← c.self.view_is) (each_stands _ _ _ _ _ (c.self.invariant.known (works _ _ c.self.view_is c.in_ok-serves.ensures.ok) before) (λ (b : OwnBid). b.item) _ (c.in-Ok-own_bids.ensures.finds.value honest).is_consistent)

pub returns-in-Ok-own_bids-clause-kept : goal.returns-in-Ok-own_bids-clause-kept
returns-in-Ok-own_bids-clause-kept g c = λ honest.
    let before : HasCleanDisk (state g.S.Store c.self.inside.conn) = omega (arith, c.in-Ok-own_bids.ensures.finds.read.crash.clean, honest) in
    rw (← c.self.view_is) (each_is_kept _ _ _ _ _ (c.self.invariant.known (works _ _ c.self.view_is c.in_ok-serves.ensures.ok) before) (λ (b : OwnBid). b.item) _ (c.in-Ok-own_bids.ensures.finds.value honest).is_consistent)
