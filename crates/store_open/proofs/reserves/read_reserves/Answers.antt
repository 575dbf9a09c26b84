use Rattle.std.proofs.Common.{◌≡◌, ◌∙◌, ◌≤◌, rules, subst, sym, true≢false}
use Rattle.std.specs.List.{AllByRecursion}
use Rattle.sqlite.specs.Held.{state}
use Rattle.store_rows.specs.declared.reserve.ReserveRow.{ReserveRow}
use Rattle.store_rows.proofs.Steps.{clean_before}
use Rattle.store_rows.specs.Reserves.{AreRising}
use Rattle.store_rows.proofs.ReservesRising.{reserves_rise}
use Rattle.store_open.proofs.ReserveLemmas.{is_within, within_is}
use Rattle.store_open.proofs.reserves.read_reserves.Goals as goal

pub returns-in-Some : goal.returns-in-Some
returns-in-Some g c = record {
  value = λ clean. (
      let lent : c.deref.result.now ≡ c.in_ok-rows.rows.items = search rules in
      let passes = within_is c.args.items c.deref.result.now (sym c.are_within.ensures ∙ c.if-not-are_within.false) in
      record {
        reserves_are = search rules;
        within = subst (AllByRecursion (λ (r : ReserveRow). r.item ≤ c.args.items)) (lent ∙ c.in_ok-rows.ensures.reserves clean) passes;
      });
  damaged = search rules;
  read = search rules;
}

pub returns-then-not-are_within : goal.returns-then-not-are_within
returns-then-not-are_within g c = record {
  value = search rules;
  damaged = λ clean are _. (
      let lent : c.deref.result.now ≡ c.in_ok-rows.rows.items = search rules in
      let passes = is_within c.args.items c.deref.result.now (subst (AllByRecursion (λ (r : ReserveRow). r.item ≤ c.args.items)) (sym (lent ∙ c.in_ok-rows.ensures.reserves clean)) are.within) in
      true≢false (sym passes ∙ sym c.are_within.ensures ∙ c.if-not-are_within.true));
  read = search rules;
}

-- rows that fit rise, so they are taken
pub returns-in-None : goal.returns-in-None
returns-in-None g c = record {
  value = search rules;
  damaged = λ clean are _. (
      let clean_old = clean_before (state g.S.Store c.args.conn.now) (state g.S.Store c.all_reserves.new.conn) c.all_reserves.ensures.read.crash clean in
      let rising = reserves_rise (state g.S.Store c.args.conn.now).now (c.requires clean_old).1 are.fit in
      true≢false (sym (c.in-None.ensures.rising (subst AreRising (sym (c.in_ok-rows.ensures.reserves clean)) rising))));
  read = search rules;
}
