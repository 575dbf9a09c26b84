use Rattle.std.proofs.Common.{arith, rules, subst, sym, ◌∙◌}
use Rattle.sqlite.specs.Effect.{Database}
use Rattle.sqlite.specs.Held.{state}
use Rattle.sqlite.specs.State.{HasCleanDisk}
use Rattle.store_rows.specs.House.{AddsTables, IsFirstHouse, IsHouse}
use Rattle.store_rows.proofs.StateLemmas.{on_ok_where}
use Rattle.store_open.proofs.UpgradeLemmas.{upgrades, version_before}
use Rattle.store_open.proofs.upgrade.grow.Goals as goal

pub add_tables-requires-clause-first : goal.add_tables-requires-clause-first
add_tables-requires-clause-first g c clean =
    let early : HasCleanDisk (state g.S.Store c.args.conn.now) = omega (arith, c.begin.ensures.crash.clean) in
    subst IsFirstHouse (sym (c.in_ok-begin.ensures.ok clean).now_is) (c.requires.first early).1

pub check_first-requires : goal.check_first-requires
check_first-requires g c clean = ((c.in_ok-add_tables.ensures.inside clean).is_open, (c.in_ok-add_tables.ensures.ok clean).house)

pub set_version-requires : goal.set_version-requires
set_version-requires g c = record {
  serves = λ clean.
      let early : HasCleanDisk (state g.S.Store c.add_tables.new.conn) = omega (arith, c.check_first.ensures.read.crash.clean) in
      let same = c.in_ok-check_first.ensures.read.same clean in
      (same.0.is_open, subst IsHouse (sym same.0.now_is) (c.in_ok-add_tables.ensures.ok early).house);
  begun = λ clean.
      let early : HasCleanDisk (state g.S.Store c.add_tables.new.conn) = omega (arith, c.check_first.ensures.read.crash.clean) in
      (c.in_ok-check_first.ensures.read.same clean).0.mode ∙ (c.in_ok-add_tables.ensures.inside early).mode;
}

pub returns-clause-ok : goal.returns-clause-ok
returns-clause-ok g c clean =
    let third : HasCleanDisk (state g.S.Store c.check_first.new.conn) = omega (arith, c.set_version.ensures.crash.clean) in
    let second : HasCleanDisk (state g.S.Store c.add_tables.new.conn) = omega (arith, c.check_first.ensures.read.crash.clean, third) in
    let first : HasCleanDisk (state g.S.Store c.begin.new.conn) = omega (arith, c.add_tables.ensures.crash.clean, second) in
    let start : HasCleanDisk (state g.S.Store c.args.conn.now) = omega (arith, c.begin.ensures.crash.clean, first) in
    let begun = (c.in_ok-begin.ensures.ok first).now_is in
    let adds = subst (λ (d : Database). AddsTables d (state g.S.Store c.add_tables.new.conn).now) begun (c.in_ok-add_tables.ensures.ok second) in
    let same = (c.in_ok-check_first.ensures.read.same third).0.now_is in
    on_ok_where c.set_version.result (c.set_version.ensures.ok clean)
    (λ sets. upgrades (state g.S.Store c.args.conn.now).now (state g.S.Store c.add_tables.new.conn).now (state g.S.Store c.set_version.new.conn).now (c.requires.first start).1 adds (c.in_ok-check_first.ensures.value third)
    (subst (λ (d : Database). Rattle.store_rows.specs.House.SetsVersion 2 d (state g.S.Store c.set_version.new.conn).now) same sets))

pub returns-clause-inside : goal.returns-clause-inside
returns-clause-inside g c clean =
    let third : HasCleanDisk (state g.S.Store c.check_first.new.conn) = omega (arith, c.set_version.ensures.crash.clean) in
    let second : HasCleanDisk (state g.S.Store c.add_tables.new.conn) = omega (arith, c.check_first.ensures.read.crash.clean, third) in
    let first : HasCleanDisk (state g.S.Store c.begin.new.conn) = omega (arith, c.add_tables.ensures.crash.clean, second) in
    on_ok_where c.set_version.result (c.set_version.ensures.inside clean)
    (λ last. record { mode = last.mode; is_open = last.is_open; committed = last.committed ∙ (c.in_ok-check_first.ensures.read.same third).0.committed_is ∙ (c.in_ok-add_tables.ensures.inside second).committed ∙ (c.in_ok-begin.ensures.ok first).committed_is })

pub returns-in_err-check_first-clause-damaged : goal.returns-in_err-check_first-clause-damaged
returns-in_err-check_first-clause-damaged g c clean version =
    let second : HasCleanDisk (state g.S.Store c.add_tables.new.conn) = omega (arith, c.check_first.ensures.read.crash.clean) in
    let first : HasCleanDisk (state g.S.Store c.begin.new.conn) = omega (arith, c.add_tables.ensures.crash.clean, second) in
    let begun = (c.in_ok-begin.ensures.ok first).now_is in
    let adds = subst (λ (d : Database). AddsTables d (state g.S.Store c.add_tables.new.conn).now) begun (c.in_ok-add_tables.ensures.ok second) in
    let calm = c.in_err-check_first.ensures.damaged clean (version_before (state g.S.Store c.args.conn.now).now (state g.S.Store c.add_tables.new.conn).now adds version) in
    search rules
