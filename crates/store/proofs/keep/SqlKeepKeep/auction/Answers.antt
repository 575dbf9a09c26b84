use Rattle.std.proofs.Common.{ap, arith, ◌≡◌, ◌∙◌, Option, rules, subst, sym}
use Rattle.house_rows.proofs.Sound.{fit_where}
use Rattle.std.specs.Prelude.{Err, IfSome}
use Rattle.sqlite.specs.Effect.{Database}
use Rattle.sqlite.specs.Held.{state}
use Rattle.sqlite.specs.State.{HasCleanDisk}
use Rattle.house_rows.specs.Fits.{StandingFits, TermsFit}
use Rattle.house_rows.specs.declared.auction.Auction.{Auction}
use Rattle.store_items.specs.ConsistentRows.{RowFitsAt}
use Rattle.store_rows.specs.Tables.{tables_in}
use Rattle.store_items.proofs.Small.{no_item}
use Rattle.store.specs.Kept.{IsKnown}
use Rattle.store.proofs.Absent.{no_row_kept}
use Rattle.store.proofs.Houses.{version_stays}
use Rattle.store.proofs.Known.{auction_is_consistent, found_is_kept, item_seen, known_row, known_serves, seen_auction, seen_is_consistent, seen_is_kept, works, failed_look}
use Rattle.store.proofs.keep.SqlKeepKeep.auction.Goals as goal

pub auction_at-requires : goal.auction_at-requires
auction_at-requires g c = known_serves g.S.Store _ c.self.invariant (works _ _ c.self.view_is c.in_ok-serves.ensures.ok)

pub returns-in-Err-clause-answers : goal.returns-in-Err-clause-answers
returns-in-Err-clause-answers g c = failed_look _ _ c.reported_fault.ensures.fault c.reported_fault.ensures.store
    (λ sound. fit_where _ _ _ sound.items)
    (rw (← c.self.view_is) (λ honest fits is.
    let clean : HasCleanDisk (state g.S.Store c.auction_at.new.conn) = omega (arith, c.reported_fault.ensures.crash.clean, honest) in
    let before : HasCleanDisk (state g.S.Store c.self.inside.conn) = omega (arith, c.in-Err.ensures.finds.read.crash.clean, clean) in
    let same : c.in-Ok.item ≡ c.args.item = search rules in
    c.in-Err.ensures.finds.damaged clean (subst (RowFitsAt c.self.inside.rules.editions (state g.S.Store c.self.inside.conn).now.trees) (sym same) (known_row _ _ _ _ _ (c.self.invariant.known (works _ _ c.self.view_is c.in_ok-serves.ensures.ok) before) c.args.item fits)) (ap Err is)))
    (search rules)

-- what was seen is answered again
pub returns-in-Some-clause-answers : goal.returns-in-Some-clause-answers
returns-in-Some-clause-answers g c = record {
  value = let same : c.in-Ok.item ≡ c.args.item = search rules in
      rw (← c.self.view_is, ← same) (λ honest. seen_auction _ _ _ _ _ (c.self.invariant.known (works _ _ c.self.view_is c.in_ok-serves.ensures.ok) honest) c.in-Some.auction c.in-Ok.item c.in-Some.ensures.found.0 c.in-Some.ensures.found.1);
  faults = search rules;
  damaged = search rules;
  read = search rules;
}

pub returns-in-Some-clause-fits : goal.returns-in-Some-clause-fits
returns-in-Some-clause-fits g c = subst (λ (o : Option Auction). IfSome o (λ a. TermsFit a.terms × StandingFits a.standing)) c.in-Some.ensures.found.0 c.self.invariant.seen_fits

pub returns-in-Some-clause-is_consistent : goal.returns-in-Some-clause-is_consistent
returns-in-Some-clause-is_consistent g c = rw (← c.self.view_is) (λ honest.
    seen_is_consistent _ _ _ _ _ (c.self.invariant.known (works _ _ c.self.view_is c.in_ok-serves.ensures.ok) honest) c.in-Some.auction c.in-Some.ensures.found.0)

-- what was looked up is remembered
pub invariant_of-self : goal.invariant_of-self
invariant_of-self g c = record {
  idle = search rules;
  unlimited = c.in-Ok-auction_at.ensures.finds.read.crash.limit ∙ c.self.invariant.unlimited;
  moment = search rules;
  rests = search rules;
  known = λ going honest.
      let before : HasCleanDisk (state g.S.Store c.self.inside.conn) = omega (arith, c.in-Ok-auction_at.ensures.finds.read.crash.clean, honest) in
      subst (λ (db : Database). IsKnown c.self.inside.rules.editions c.self.inside.rules.reserves c.self.inside.counts c.self.inside.clock c.in-Ok-auction_at.found db.trees)
      (sym (c.in-Ok-auction_at.ensures.finds.read.same honest).0.now_is)
      (item_seen _ _ _ _ c.in-Ok.item c.in-Ok-auction_at.found _ (c.self.invariant.known (works _ _ c.self.view_is c.in_ok-serves.ensures.ok) before)
      (c.in-Ok-auction_at.ensures.finds.value honest) c.in-Ok-auction_at.ensures.fits c.in-Ok-auction_at.ensures.is_consistent c.in-Ok-auction_at.ensures.kept);
  seen_fits = c.in-Ok-auction_at.ensures.fits;
  houses = search rules;
  one_schema = search rules;
  version = version_stays _ _ c.in-Ok-auction_at.ensures.finds.read.crash c.self.invariant.version;
}

pub returns-in-Ok-auction_at-clause-is_consistent : goal.returns-in-Ok-auction_at-clause-is_consistent
returns-in-Ok-auction_at-clause-is_consistent g c = λ honest.
    let before : HasCleanDisk (state g.S.Store c.self.inside.conn) = omega (arith, c.in-Ok-auction_at.ensures.finds.read.crash.clean, honest) in
    rw (← c.self.view_is) (auction_is_consistent _ _ _ _ _ (c.self.invariant.known (works _ _ c.self.view_is c.in_ok-serves.ensures.ok) before) _ c.in-Ok-auction_at.ensures.is_consistent)

pub returns-in_default-clause-answers : goal.returns-in_default-clause-answers
unfolding tables_in
returns-in_default-clause-answers g c = record {
  value = rw (← c.self.view_is) (search (rules, no_item));
  faults = search rules;
  damaged = search rules;
  read = search rules;
}

pub returns-in-Some-clause-kept : goal.returns-in-Some-clause-kept
returns-in-Some-clause-kept g c =
    let same : c.in-Ok.item ≡ c.args.item = search rules in
    rw (← c.self.view_is, ← same) (λ honest. seen_is_kept _ _ _ _ _ (c.self.invariant.known (works _ _ c.self.view_is c.in_ok-serves.ensures.ok) honest) c.in-Some.auction c.in-Ok.item c.in-Some.ensures.found.0 c.in-Some.ensures.found.1)

pub returns-in-Ok-auction_at-clause-kept : goal.returns-in-Ok-auction_at-clause-kept
returns-in-Ok-auction_at-clause-kept g c = λ honest.
    let before : HasCleanDisk (state g.S.Store c.self.inside.conn) = omega (arith, c.in-Ok-auction_at.ensures.finds.read.crash.clean, honest) in
    let same : c.in-Ok.item ≡ c.args.item = search rules in
    rw (← c.self.view_is, ← same)
    (found_is_kept _ _ _ _ _ (c.self.invariant.known (works _ _ c.self.view_is c.in_ok-serves.ensures.ok) before) c.in-Ok.item _ (c.in-Ok-auction_at.ensures.finds.value honest) c.in-Ok-auction_at.ensures.kept)

pub returns-in_default-clause-kept : goal.returns-in_default-clause-kept
unfolding tables_in
returns-in_default-clause-kept g c = λ honest. rw (← c.self.view_is) (search (rules, no_row_kept))
