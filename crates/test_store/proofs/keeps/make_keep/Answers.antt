use Rattle.std.proofs.Common.{arith}
use Rattle.sqlite.specs.Held.{state}
use Rattle.sqlite.specs.State.{HasCleanDisk}
use Rattle.store_house.specs.Over.{over_numbers}
use Rattle.test_store.proofs.NewKeep.{new_tables, ok_then}
use Rattle.test_store.proofs.keeps.make_keep.Goals as goal

pub returns : goal.returns
returns g c = record {
  empty = ok_then c.open_keep.result c.open_keep.ensures.shown (λ keep shown honest.
      let made = c.make_house.new.conn in
      let early : HasCleanDisk (state g.S.Store made) = omega (arith, shown.0, honest) in
      let ok = c.in_ok-make_house.ensures.ok early in
      let house = shown.1 honest in
      new_tables c.args.settings.now (state g.S.Store made).now (state g.S.Store made).committed (state (over_numbers g.S.Store) keep.conn).now ok.1 ok.2 house.1.order house.0);
}
