use Rattle.std.proofs.Common.{◌≤◌, arith, subst}
use Rattle.std.proofs.lemmas.Result.{on_ok_weaker}
use Rattle.sqlite.specs.State.{HasCleanDisk}
use Rattle.sqlite.specs.Held.{state}
use Rattle.steps.specs.Table.{IsBandTable}
use Rattle.store_making.specs.Made.{HasBands, PutsHouse}
use Rattle.store_making.proofs.MadeHouses.{house_made}
use Rattle.store_making.proofs.make.put_settings.Goals as goal

pub returns-clause-ok : goal.returns-clause-ok
returns-clause-ok g c clean =
    let now = (state g.S.Store c.put_bands.new.tx.conn.now).now in
    let early : HasCleanDisk (state g.S.Store c.put_bands.new.tx.conn.now) = omega (arith, c.put_house.ensures.write.crash.clean) in
    let was = subst (λ bands. HasBands bands now) c.rows.ensures.rows (c.in_ok-put_bands.ensures.ok early) in
    let valid = subst IsBandTable c.rows.ensures.rows c.rows.ensures.valid in
    let rate : c.args.settings.now.rate ≤ 2000 = subst (λ rate. rate ≤ 2000) c.value.ensures.value c.value.ensures.within in
    on_ok_weaker c.put_house.result (λ added. house_made c.args.settings.now now _ valid rate was (subst (λ rate. PutsHouse rate c.args.settings.now.zone now (state g.S.Store c.put_house.new.tx.conn.now).now) c.value.ensures.value added)) (c.put_house.ensures.ok clean)
