-- A change that is made moves what the keep knows; after one that failed a crash leaves what it left before, unless the keep failed.
use Rattle.std.proofs.Common.{◌≡◌, ◌∙◌, List, ap, arith, rules, false, inl, inr, subst, sym}
use Rattle.std.specs.Prelude.{IsTrue}
use Rattle.sqlite.specs.Held.{state}
use Rattle.sqlite.specs.State.{HasCleanDisk}
use Rattle.house_rows.specs.Asks.{ChangeFits}
use Rattle.house_rows.specs.Editions.{BandTables}
use Rattle.house_rows.specs.Making.{ChangeRowsFit}
use Rattle.store_rows.specs.Tables.{reserves_after}
use Rattle.store_rows.specs.declared.reserve.ReserveRow.{ReserveRow}
use Rattle.store_rows.specs.declared.rules.Rules.{Rules}
use Rattle.store.specs.After.{bands_set, with_table}
use Rattle.store.specs.Kept.{content}
use Rattle.store.proofs.Houses.{houses_or_made, houses_stay, schema_or_made, schema_stays, shown_houses, shown_schema, version_or_made, version_stays}
use Rattle.store.proofs.Known.{forgotten, seen_in}
use Rattle.store.proofs.Moves.{can_add, known_after, left_after}
use Rattle.store.proofs.keep.SqlKeep.change.Goals as goal

pub returns-in_default-clause-faults : goal.returns-in_default-clause-faults
returns-in_default-clause-faults g c = record {
  store = search rules;
  damaged = λ honest fits rows free is.
      let some = c.clock_after.ensures.late c.self.invariant.moment (content g.S.Store c.args.self.now) fits in
      grind (arith, some, c.in_default.not-Some);
  taken = search rules;
}

pub returns-in_err-add_rules-clause-faults : goal.returns-in_err-add_rules-clause-faults
returns-in_err-add_rules-clause-faults g c = record {
  store = search rules;
  damaged = λ honest fits rows free is.
      let db = (state g.S.Store c.self.inside.conn).now.trees in
      let clean : HasCleanDisk (state g.S.Store c.self.inside.conn) = honest in
      let known = c.self.invariant.known c.if-self.false clean in
      let numbered = (c.self.invariant.rests c.if-self.false clean).numbered in
      let can = can_add db c.self.inside.rules c.self.inside.counts c.self.inside.clock c.args.change.now known numbered
      (subst (λ (k : _). ChangeFits (content g.S.Store k) c.args.change.now) (sym c.self.view_is) fits)
      (subst (λ (k : _). ChangeRowsFit (content g.S.Store k) c.args.change.now) (sym c.self.view_is) rows) in
      let calm = c.in_err-add_rules.ensures.damaged (rw c.in-Some-counts_after.ensures.value can) in
      search rules;
  taken = search rules;
}

-- the rules have what the change adds
pub make_change-requires-clause-editions : goal.make_change-requires-clause-editions
make_change-requires-clause-editions g c clean =
    ap (λ (r : Rules). r.editions) c.in_ok-add_rules.ensures.value
    ∙ ap (λ (b : BandTables). with_table b c.in-Some-counts_after.counts.items (bands_set c.args.change.now)) (sym (c.self.invariant.known c.if-self.false clean).editions_are)

pub make_change-requires-clause-reserves : goal.make_change-requires-clause-reserves
make_change-requires-clause-reserves g c clean =
    ap (λ (r : Rules). r.reserves) c.in_ok-add_rules.ensures.value
    ∙ ap (λ (l : List ReserveRow). reserves_after l c.in-Some-counts_after.counts.items c.args.change.now) (c.self.invariant.known c.if-self.false clean).reserves_are

-- what was seen is what the tables have before the change
pub make_change-requires-clause-seen : goal.make_change-requires-clause-seen
make_change-requires-clause-seen g c = λ honest. rw (c.take-seen.ensures.value) (seen_in _ _ _ _ _ (c.self.invariant.known c.if-self.false honest))

-- a change that is made moves what the keep knows
pub invariant_of-self-in-Ok : goal.invariant_of-self-in-Ok
invariant_of-self-in-Ok g c = rw (c.take-seen.ensures.after) (record {
  idle = c.in-Ok.ensures.commit.mode;
  unlimited = c.in-Ok.ensures.commit.crash.limit ∙ c.self.invariant.unlimited;
  moment = c.in-Some.ensures.fits;
  rests = λ going honest. let ok = c.in-Ok.ensures.commit.ok honest in record { is_open = ok.0; house = ok.2.house; settled = ok.1; numbered = ok.2.numbered };
  known = λ going honest.
      let before : HasCleanDisk (state g.S.Store c.self.inside.conn) = omega (arith, c.in-Ok.ensures.commit.crash.clean, honest) in
      rw (c.in_ok-add_rules.ensures.value, c.in-Some-counts_after.ensures.value, c.in-Some.ensures.value)
      (known_after c.self.inside.rules.editions c.self.inside.rules.reserves c.self.inside.counts c.self.inside.clock c.args.change.now (state g.S.Store c.self.inside.conn).now _ (c.self.invariant.known c.if-self.false before) (c.in-Ok.ensures.commit.ok honest).2);
  seen_fits = tt;
  houses = shown_houses (state g.S.Store c.make_change.new.conn) c.in-Ok.ensures.commit.only (λ honest. (c.in-Ok.ensures.commit.ok honest).2.house);
  one_schema = shown_schema (state g.S.Store c.make_change.new.conn) c.in-Ok.ensures.commit.only (λ honest. (c.in-Ok.ensures.commit.ok honest).2.house);
  version = version_or_made c.args.change.now _ _ c.in-Ok.ensures.commit.crash (λ is_open. g.met.S.Store.stays c.self.inside.conn.store is_open)
      (c.self.invariant.rests c.if-self.false) c.self.invariant.version;
})

-- where it fails a crash leaves what it left before, or the change
pub invariant_of-self-in-Err : goal.invariant_of-self-in-Err
invariant_of-self-in-Err g c = rw (c.take-seen.ensures.after) (record {
  idle = search rules;
  unlimited = c.reported_fault.ensures.crash.limit ∙ c.in-Err.ensures.commit.crash.limit ∙ c.self.invariant.unlimited;
  moment = search rules;
  rests = search rules;
  known = λ going honest. forgotten {seen = c.self.inside.seen} _ _ _ _ _ (search rules);
  seen_fits = tt;
  houses = houses_stay _ _ c.reported_fault.ensures.crash
      (houses_or_made c.args.change.now _ _ c.in-Err.ensures.commit.crash c.self.invariant.houses);
  one_schema = schema_stays _ _ c.reported_fault.ensures.crash
      (schema_or_made c.args.change.now _ _ c.in-Err.ensures.commit.crash (λ db is_open may. g.met.S.Store.settled c.self.inside.conn.store db is_open may)
      (c.self.invariant.rests c.if-self.false));
  version = version_stays _ _ c.reported_fault.ensures.crash
      (version_or_made c.args.change.now _ _ c.in-Err.ensures.commit.crash (λ is_open. g.met.S.Store.stays c.self.inside.conn.store is_open)
      (c.self.invariant.rests c.if-self.false) c.self.invariant.version);
})

pub returns-in-Err-clause-crash : goal.returns-in-Err-clause-crash
returns-in-Err-clause-crash g c = rw (← c.self.view_is) (λ honest t left.
    let old = state g.S.Store c.self.inside.conn in
    let mid = state g.S.Store c.make_change.new.conn in
    let clean : HasCleanDisk mid = omega (arith, c.reported_fault.ensures.crash.clean, honest) in
    let before : HasCleanDisk old = omega (arith, c.in-Err.ensures.commit.crash.clean, clean) in
    let rests = c.self.invariant.rests c.if-self.false before in
    let stays : old.may_leave old.committed.trees = g.met.S.Store.stays c.self.inside.conn.store rests.is_open in
    let db = left.0 in
    let may_mid : mid.may_leave db = elim (c.reported_fault.ensures.crash.crash honest db left.1) [ inl may ↦ may | inr none ↦ absurd none ] in
    let same : c.reported_fault.new.failed ≡ false → IsTrue mid.is_open × (mid.committed ≡ old.committed) = λ going.
    let is_open = (c.reported_fault.ensures.same honest going).0.was_open in
    (is_open, (c.in-Err.ensures.commit.err clean is_open).1) in
    let either = left_after old mid c.args.change.now c.reported_fault.new.failed db stays (λ is_open. g.met.S.Store.settled c.make_change.new.conn.store db is_open may_mid) same
    (c.in-Err.ensures.commit.crash.crash clean db may_mid) in
    elim either [
      | inl may ↦ inl (db, may, left.2)
      | inr new ↦ inr (c.if-self.false, new.0, left.2 ∙ new.1)
    ])
