use Rattle.std.proofs.Common.{◌∙◌, ap, arith, inl, inr, subst, sym}
use Rattle.std.proofs.lemmas.Result.{err_from_is_err_and}
use Rattle.sqlite.specs.Files.{file_state}
use Rattle.sqlite.specs.State.{HasCleanDisk}
use Rattle.sqlite_trees.proofs.Doubt.{no_doubt}
use Rattle.store_rows.specs.Tables.{tables_in}
use Rattle.store_house.specs.Named.{IsArranged, UpgradesHeld}
use Rattle.store.specs.InOrder.{order_state}
use Rattle.store_files.proofs.Opened.{holds_no_first, holds_none, leaves_in_order}
use Rattle.store_files.proofs.Upgraded.{leaves_upgraded, upgrade_finds}
use Rattle.store_files.proofs.upgrades.upgrade_files.Goals as goal

pub returns-in-Ok-clause-honest : goal.returns-in-Ok-clause-honest
returns-in-Ok-clause-honest g c = rw (c.of_house.ensures.conn) (λ honest.
    (c.in_ok-conn.ensures.found (c.in-Ok.ensures.clean honest)).honest)

pub returns-in-Ok-clause-holds : goal.returns-in-Ok-clause-holds
returns-in-Ok-clause-holds g c = rw (c.of_house.ensures.conn) (λ honest db held.
    let conn = c.in_ok-conn in
    let house = c.in-Ok in
    let sure : HasCleanDisk (file_state conn.conn) = house.ensures.clean honest in
    upgrade_finds g.D.Disk c.args.files g.met.D.Disk.seen_may_stay conn.conn (conn.ensures.opened sure) (conn.ensures.found sure) house.was_first
    (order_state house.house.conn).now (house.ensures.upgraded honest)
    (λ second. ((house.ensures.opened.rests honest).house, house.ensures.kept honest second)) db ((conn.ensures.found sure).holds db held))

pub returns-in-Ok-clause-house : goal.returns-in-Ok-clause-house
returns-in-Ok-clause-house g c = rw (c.of_house.ensures.conn) (λ honest. (c.in-Ok.ensures.opened.rests honest).house)

pub returns-in-Ok-clause-first : goal.returns-in-Ok-clause-first
returns-in-Ok-clause-first g c = rw (c.of_house.ensures.conn) (λ honest first db held.
    let conn = c.in_ok-conn in
    let house = c.in-Ok in
    let sure : HasCleanDisk (file_state conn.conn) = house.ensures.clean honest in
    subst (λ below. UpgradesHeld below (order_state house.house.conn).now) ((conn.ensures.found sure).holds db held) (house.ensures.upgraded honest first))

pub returns-in-Ok-clause-kept : goal.returns-in-Ok-clause-kept
returns-in-Ok-clause-kept g c = rw (c.of_house.ensures.conn) (λ honest second db held.
    let conn = c.in_ok-conn in
    let house = c.in-Ok in
    let sure : HasCleanDisk (file_state conn.conn) = house.ensures.clean honest in
    subst (λ below. IsArranged below (order_state house.house.conn).now.trees) ((conn.ensures.found sure).holds db held) (house.ensures.kept honest second))

pub returns-in-Ok-clause-there : goal.returns-in-Ok-clause-there
returns-in-Ok-clause-there g c = rw (c.of_house.ensures.conn) (λ honest.
    let conn = c.in_ok-conn in
    let house = c.in-Ok in
    let sure : HasCleanDisk (file_state conn.conn) = house.ensures.clean honest in
    record {
      db = (file_state conn.conn).committed.trees;
      found = (conn.ensures.found sure).reads;
      first = house.ensures.upgraded honest;
      kept = house.ensures.kept honest;
    })

pub returns-in-Ok-clause-only : goal.returns-in-Ok-clause-only
returns-in-Ok-clause-only g c = rw (c.of_house.ensures.conn) (λ honest tables left. left.2 ∙ ap tables_in (c.in-Ok.ensures.opened.only honest left.0 left.1))

-- an error leaves what the files held, or the house upgraded

pub returns-in_err-conn-clause-left : goal.returns-in_err-conn-clause-left
returns-in_err-conn-clause-left g c =
    let p = err_from_is_err_and c.from_residual.result c.from_residual.ensures.1 in
    rw (p.1, p.2) (λ clean. inl (c.in_err-conn.ensures.left clean))

pub returns-in_err-conn-clause-damaged : goal.returns-in_err-conn-clause-damaged
returns-in_err-conn-clause-damaged g c =
    let p = err_from_is_err_and c.from_residual.result c.from_residual.ensures.1 in
    rw (p.1, p.2) (λ is clean. elim (c.in_err-conn.ensures.damaged is clean) [
      | inl other ↦ inl (λ held. other.0 held.0 held.1, λ held. other.0 held.0 held.1)
      | inr fault ↦ inr fault
    ])

pub returns-in-Err-clause-left : goal.returns-in-Err-clause-left
returns-in-Err-clause-left g c =
    rw (c.into_inner.ensures) (leaves_upgraded g.D.Disk c.args.files g.met.D.Disk.seen_may_stay c.in_ok-conn.conn c.in-Err.store c.in_ok-conn.ensures.opened c.in_ok-conn.ensures.found c.in-Err.ensures.grown)

pub returns-in_err-conn-clause-unchanged : goal.returns-in_err-conn-clause-unchanged
returns-in_err-conn-clause-unchanged g c =
    let p = err_from_is_err_and c.from_residual.result c.from_residual.ensures.1 in
    rw (p.1, p.2) (λ other clean. inl (c.in_err-conn.ensures.left clean))

pub returns-in-Err-clause-unchanged : goal.returns-in-Err-clause-unchanged
returns-in-Err-clause-unchanged g c =
    rw (c.into_inner.ensures) (λ other. leaves_in_order g.D.Disk c.args.files g.met.D.Disk.seen_may_stay c.in_ok-conn.conn c.in-Err.store c.in_ok-conn.ensures.opened c.in_ok-conn.ensures.found (c.in-Err.ensures.left other))

pub returns-in-Err-clause-damaged : goal.returns-in-Err-clause-damaged
returns-in-Err-clause-damaged g c = rw (c.into_inner.ensures) (λ is clean.
    let refuses = c.in-Err.ensures in
    let conn = c.in_ok-conn in
    let last = no_doubt _ clean in
    let sure : HasCleanDisk (file_state conn.conn) = omega (arith, refuses.grown.clean, last) in
    let none = refuses.damaged is last in
    inl (
      holds_none g.D.Disk c.args.files g.met.D.Disk.seen_may_stay conn.conn (conn.ensures.found sure) none.0,
      holds_no_first g.D.Disk c.args.files g.met.D.Disk.seen_may_stay conn.conn (conn.ensures.found sure) none.1,
    ))
