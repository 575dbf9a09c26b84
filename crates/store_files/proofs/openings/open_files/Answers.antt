use Rattle.std.proofs.Common.{◌∙◌, ap, arith, inl, inr, subst, sym}
use Rattle.std.proofs.lemmas.Result.{err_from_is_err_and}
use Rattle.sqlite.specs.Files.{file_state}
use Rattle.sqlite.specs.State.{HasCleanDisk}
use Rattle.sqlite_trees.proofs.Doubt.{no_doubt}
use Rattle.store_rows.specs.Tables.{tables_in}
use Rattle.store_house.specs.Named.{IsArranged, tables_held}
use Rattle.store.specs.InOrder.{order_state}
use Rattle.store_files.proofs.Opened.{finds_left, holds_none, leaves_in_order, names_find}
use Rattle.store_files.proofs.openings.open_files.Goals as goal

pub returns-in-Ok-clause-holds : goal.returns-in-Ok-clause-holds
returns-in-Ok-clause-holds g c = rw (c.of_house.ensures.conn) (λ honest db held.
    let conn = c.in_ok-conn in
    let house = c.in-Ok in
    let sure : HasCleanDisk (file_state conn.conn) = omega (arith, house.ensures.follows.clean, honest) in
    names_find g.D.Disk c.args.files g.met.D.Disk.seen_may_stay conn.conn (conn.ensures.opened sure) (order_state house.house.conn).now
    (house.ensures.opened.rests honest).house (house.ensures.arranged honest)
    ∙ ap tables_held ((conn.ensures.found sure).holds db held))

pub returns-in-Ok-clause-arranged : goal.returns-in-Ok-clause-arranged
returns-in-Ok-clause-arranged g c = rw (c.of_house.ensures.conn) (λ honest db held.
    let conn = c.in_ok-conn in
    let house = c.in-Ok in
    let sure : HasCleanDisk (file_state conn.conn) = omega (arith, house.ensures.follows.clean, honest) in
    subst (λ below. IsArranged below (order_state house.house.conn).now.trees) ((conn.ensures.found sure).holds db held) (house.ensures.arranged honest))

pub returns-in-Ok-clause-there : goal.returns-in-Ok-clause-there
returns-in-Ok-clause-there g c = rw (c.of_house.ensures.conn) (λ honest.
    let conn = c.in_ok-conn in
    let house = c.in-Ok in
    let sure : HasCleanDisk (file_state conn.conn) = omega (arith, house.ensures.follows.clean, honest) in
    let named = names_find g.D.Disk c.args.files g.met.D.Disk.seen_may_stay conn.conn (conn.ensures.opened sure) (order_state house.house.conn).now
    (house.ensures.opened.rests honest).house (house.ensures.arranged honest) in
    ((file_state conn.conn).committed.trees, (conn.ensures.found sure).reads, house.ensures.arranged honest, named))

pub returns-in-Ok-clause-house : goal.returns-in-Ok-clause-house
returns-in-Ok-clause-house g c = rw (c.of_house.ensures.conn) (λ honest. (c.in-Ok.ensures.opened.rests honest).house)

pub returns-in-Ok-clause-row : goal.returns-in-Ok-clause-row
returns-in-Ok-clause-row g c = rw (c.of_house.ensures.conn) c.in-Ok.ensures.opened.row

pub returns-in-Ok-clause-numbered : goal.returns-in-Ok-clause-numbered
returns-in-Ok-clause-numbered g c = rw (c.of_house.ensures.conn) c.in-Ok.ensures.opened.numbered

pub returns-in-Ok-clause-set : goal.returns-in-Ok-clause-set
returns-in-Ok-clause-set g c = rw (c.of_house.ensures.conn) c.in-Ok.ensures.opened.set

pub returns-in-Ok-clause-found : goal.returns-in-Ok-clause-found
returns-in-Ok-clause-found g c honest before crashed =
    let conn = c.in_ok-conn in
    let house = c.in-Ok in
    let stays = g.met.D.Disk.seen_may_stay in
    let same = c.of_house.ensures.conn in
    let now : HasCleanDisk (order_state house.house.conn) = subst (λ h. HasCleanDisk (order_state h)) same honest in
    let sure : HasCleanDisk (file_state conn.conn) = omega (arith, house.ensures.follows.clean, now) in
    finds_left g.D.Disk c.args.files stays conn.conn (conn.ensures.found sure) before c.of_house.result crashed
    (subst (λ h. IsArranged (file_state conn.conn).committed.trees (order_state h).now.trees) (sym same) (house.ensures.arranged now))
    (ap (λ h. tables_in (order_state h).now.trees) same
    ∙ names_find g.D.Disk c.args.files stays conn.conn (conn.ensures.opened sure) (order_state house.house.conn).now (house.ensures.opened.rests now).house (house.ensures.arranged now))

pub returns-in-Ok-clause-only : goal.returns-in-Ok-clause-only
returns-in-Ok-clause-only g c = rw (c.of_house.ensures.conn) (λ honest tables left. left.2 ∙ ap tables_in (c.in-Ok.ensures.opened.only honest left.0 left.1))

-- an error leaves what the files held

pub returns-in_err-conn-clause-damaged : goal.returns-in_err-conn-clause-damaged
returns-in_err-conn-clause-damaged g c =
    let p = err_from_is_err_and c.from_residual.result c.from_residual.ensures.1 in
    rw (p.1, p.2) (λ is clean. elim (c.in_err-conn.ensures.damaged is clean) [
      | inl other ↦ inl (λ held. other.0 held.0 held.1)
      | inr fault ↦ inr fault
    ])

pub returns-in-Err-clause-left : goal.returns-in-Err-clause-left
returns-in-Err-clause-left g c =
    rw (c.into_inner.ensures) (leaves_in_order g.D.Disk c.args.files g.met.D.Disk.seen_may_stay c.in_ok-conn.conn c.in-Err.store c.in_ok-conn.ensures.opened c.in_ok-conn.ensures.found c.in-Err.ensures.left)

pub returns-in-Err-clause-damaged : goal.returns-in-Err-clause-damaged
returns-in-Err-clause-damaged g c = rw (c.into_inner.ensures) (λ is clean.
    let refuses = c.in-Err.ensures in
    let conn = c.in_ok-conn in
    let last = no_doubt _ clean in
    let sure : HasCleanDisk (file_state conn.conn) = omega (arith, refuses.left.clean, last) in
    inl (holds_none g.D.Disk c.args.files g.met.D.Disk.seen_may_stay conn.conn (conn.ensures.found sure) (refuses.damaged is last)))
