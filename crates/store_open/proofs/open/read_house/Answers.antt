use Rattle.std.proofs.Common.{◌∙◌, ℕ, arith, rules, subst, sym}
use Rattle.sqlite.specs.Effect.{Database}
use Rattle.sqlite.specs.Held.{state}
use Rattle.sqlite.specs.State.{HasCleanDisk}
use Rattle.house_rows.specs.declared.settings.Settings.{Settings}
use Rattle.store_house.specs.Opening.{AreNumbered, AreReservedTo, AreSet, HasEditions, HasReservesTo, HasSettings, HaveNumbers}
use Rattle.store_open.proofs.open.read_house.Goals as goal

pub returns-clause-finds : goal.returns-clause-finds
returns-clause-finds g c = record {
  value = λ clean. (
      let old = (state g.S.Store c.args.conn.now).now.trees in
      let third : HasCleanDisk (state g.S.Store c.read_reserves.new.conn) = omega (arith, c.read_editions.ensures.finds.read.crash.clean, clean) in
      let second : HasCleanDisk (state g.S.Store c.read_counts.new.conn) = omega (arith, c.read_reserves.ensures.read.crash.clean, third) in
      let first : HasCleanDisk (state g.S.Store c.read_settings.new.conn) = omega (arith, c.read_counts.ensures.read.crash.clean, second) in
      let one = (c.in_ok-settings.ensures.finds.read.same first).0.now_is in
      let two = (c.in_ok-counts.ensures.read.same second).0.now_is ∙ one in
      let three = (c.in_ok-reserves.ensures.read.same third).0.now_is ∙ two in
      let have = subst (λ (d : Database). HaveNumbers d.trees c.in_ok-counts.counts) one (c.in_ok-counts.ensures.value second) in
      record {
        has_settings = subst (λ (s : Settings). HasSettings old s c.in_ok-settings.clock) (sym c.in_ok-editions.ensures.settings) (c.in_ok-settings.ensures.finds.value first);
        has_editions = subst (λ (d : Database). HasEditions d.trees c.in_ok-editions.editions.later) three (c.in_ok-editions.ensures.finds.value clean);
        have_numbers = have;
        has_reserves = subst (λ (n : ℕ). HasReservesTo n old c.in_ok-reserves.reserves) (sym have.items)
            (subst (λ (d : Database). HasReservesTo c.in_ok-counts.counts.items d.trees c.in_ok-reserves.reserves) two (c.in_ok-reserves.ensures.value third));
      });
  damaged = search rules;
  read = search rules;
}

pub returns-in_err-editions-clause-finds : goal.returns-in_err-editions-clause-finds
returns-in_err-editions-clause-finds g c = record {
  value = search rules;
  damaged = λ clean fits. (
      let third : HasCleanDisk (state g.S.Store c.read_reserves.new.conn) = omega (arith, c.read_editions.ensures.finds.read.crash.clean, clean) in
      let second : HasCleanDisk (state g.S.Store c.read_counts.new.conn) = omega (arith, c.read_reserves.ensures.read.crash.clean, third) in
      let first : HasCleanDisk (state g.S.Store c.read_settings.new.conn) = omega (arith, c.read_counts.ensures.read.crash.clean, second) in
      let same = (c.in_ok-reserves.ensures.read.same third).0.now_is ∙ (c.in_ok-counts.ensures.read.same second).0.now_is ∙ (c.in_ok-settings.ensures.finds.read.same first).0.now_is in
      let calm = c.in_err-editions.ensures.finds.damaged clean (subst (λ (d : Database). AreSet d.trees) (sym same) fits.set) in
      search rules);
  read = search rules;
}

pub returns-in_err-counts-clause-finds : goal.returns-in_err-counts-clause-finds
returns-in_err-counts-clause-finds g c = record {
  value = search rules;
  damaged = λ clean fits. (
      let first : HasCleanDisk (state g.S.Store c.read_settings.new.conn) = omega (arith, c.read_counts.ensures.read.crash.clean, clean) in
      let same = (c.in_ok-settings.ensures.finds.read.same first).0.now_is in
      let calm = c.in_err-counts.ensures.damaged clean (subst (λ (d : Database). AreNumbered d.trees) (sym same) fits.numbered) in
      search rules);
  read = search rules;
}

pub returns-in_err-reserves-clause-finds : goal.returns-in_err-reserves-clause-finds
returns-in_err-reserves-clause-finds g c = record {
  value = search rules;
  damaged = λ clean fits. (
      let second : HasCleanDisk (state g.S.Store c.read_counts.new.conn) = omega (arith, c.read_reserves.ensures.read.crash.clean, clean) in
      let first : HasCleanDisk (state g.S.Store c.read_settings.new.conn) = omega (arith, c.read_counts.ensures.read.crash.clean, second) in
      let one = (c.in_ok-settings.ensures.finds.read.same first).0.now_is in
      let same = (c.in_ok-counts.ensures.read.same second).0.now_is ∙ one in
      let have = subst (λ (d : Database). HaveNumbers d.trees c.in_ok-counts.counts) one (c.in_ok-counts.ensures.value second) in
      let calm = c.in_err-reserves.ensures.damaged clean (subst (λ (d : Database). AreReservedTo c.in_ok-counts.counts.items d.trees) (sym same)
      (subst (λ (n : ℕ). AreReservedTo n (state g.S.Store c.args.conn.now).now.trees) have.items fits.reserved)) in
      search rules);
  read = search rules;
}
