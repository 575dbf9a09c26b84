use Rattle.std.proofs.Common.{◌≡◌, ◌==◌, ◌∙◌, Some, IfSome, ap, arith, find, map, rules, subst, sym}
use Rattle.std.specs.List.{AllByRecursion}
use Rattle.sqlite.specs.Effect.{Database}
use Rattle.sqlite.specs.Held.{state}
use Rattle.sqlite.specs.State.{HasCleanDisk}
use Rattle.store_rows.specs.Fitting.{BandRowFits, HouseRowFits}
use Rattle.store_rows.specs.Rows.{bands_in, houses_in}
use Rattle.store_rows.specs.declared.band.BandRow.{BandRow}
use Rattle.store_open.proofs.ReadLemmas.{bands_fit, has_settings}
use Rattle.store_open.proofs.open.read_settings.Goals as goal

pub returns-clause-finds : goal.returns-clause-finds
returns-clause-finds g c = record {
  value = λ clean. (
      let old = state g.S.Store c.args.conn.now in
      let middle = state g.S.Store c.house_row.new.conn in
      let early : HasCleanDisk middle = omega (arith, c.all_bands.ensures.read.crash.clean) in
      let found : Some c.in-Some.house ≡ find (λ h. h.id == 1) (houses_in old.now.trees) = sym c.in-Some.is ∙ c.in_ok-house.ensures.found early in
      let fits : HouseRowFits c.in-Some.house = subst (λ o. IfSome o HouseRowFits) c.in-Some.is c.in_ok-house.ensures.fits in
      let same : middle.now ≡ old.now = (c.in_ok-house.ensures.read.same early).0.now_is in
      let read : c.in_ok-rows.rows.items ≡ bands_in old.now.trees = c.in_ok-rows.ensures.bands clean ∙ ap (λ (db : Database). bands_in db.trees) same in
      let lent : c.deref.result.now ≡ c.in_ok-rows.rows.items = search rules in
      let made = c.in_ok-settings.ensures.value in
      has_settings old.now.trees c.in-Some.house c.in_ok-rows.rows.items c.in_ok-settings.settings found fits read
      (made.0 ∙ c.in_ok-bands.ensures.value ∙ ap (map (λ (b : BandRow). (b.from, b.step))) lent) made.1 made.2);
  damaged = search rules;
  read = search rules;
}

pub returns-in_err-rows-clause-finds : goal.returns-in_err-rows-clause-finds
returns-in_err-rows-clause-finds g c = record {
  value = search rules;
  damaged = λ clean set. (
      let old = state g.S.Store c.args.conn.now in
      let middle = state g.S.Store c.house_row.new.conn in
      let early : HasCleanDisk middle = omega (arith, c.all_bands.ensures.read.crash.clean) in
      let same : middle.now ≡ old.now = (c.in_ok-house.ensures.read.same early).0.now_is in
      let fit : AllByRecursion BandRowFits (bands_in middle.now.trees) = subst (λ (db : Database). AllByRecursion BandRowFits (bands_in db.trees)) (sym same) (bands_fit (bands_in old.now.trees) set.bands.each) in
      let calm = c.in_err-rows.ensures.damaged clean fit in
      search rules);
  read = search rules;
}
