use Rattle.std.proofs.Common.{◌∙◌, Err, ap, arith, inl, inr, subst, sym, true≢false}
use Rattle.std.proofs.lemmas.Result.{err_from_is_err_and}
use Rattle.sqlite.specs.Files.{file_state}
use Rattle.sqlite.specs.State.{HasCleanDisk}
use Rattle.sqlite_trees.proofs.Doubt.{no_doubt}
use Rattle.store_rows.specs.Tables.{tables_in}
use Rattle.store.specs.InOrder.{order_state}
use Rattle.store_files.proofs.Made.{holds_new, leaves_made, leaves_new, made_new, opens_new, shows_new}
use Rattle.store_files.proofs.Opened.{finds_no_table, finds_object, finds_some, holds_no_table, leaves_found, lists_object}
use Rattle.store_files.proofs.creations.create_files.Goals as goal

pub returns-in-Ok-open_house-clause-blank : goal.returns-in-Ok-open_house-clause-blank
returns-in-Ok-open_house-clause-blank g c = rw (c.of_house.ensures.conn) (λ honest.
    let conn = c.in_ok-conn in
    let sure : HasCleanDisk (file_state conn.conn) = omega (arith, c.in-Ok-open_house.ensures.follows.clean, c.make_house.ensures.crash.clean, honest) in
    holds_no_table g.D.Disk c.args.files g.met.D.Disk.seen_may_stay conn.conn (conn.ensures.opened sure) (conn.ensures.found sure) c.in-Ok.ensures.blank.1)

pub returns-in-Ok-open_house-clause-there : goal.returns-in-Ok-open_house-clause-there
returns-in-Ok-open_house-clause-there g c = rw (c.of_house.ensures.conn) (λ honest.
    let conn = c.in_ok-conn in
    let sure : HasCleanDisk (file_state conn.conn) = omega (arith, c.in-Ok-open_house.ensures.follows.clean, c.make_house.ensures.crash.clean, honest) in
    finds_no_table g.D.Disk c.args.files g.met.D.Disk.seen_may_stay conn.conn (conn.ensures.opened sure) (conn.ensures.found sure) c.in-Ok.ensures.blank.1)

pub returns-in-Ok-open_house-clause-empty : goal.returns-in-Ok-open_house-clause-empty
returns-in-Ok-open_house-clause-empty g c = rw (c.of_house.ensures.conn) (λ honest.
    let made = c.make_house.new.conn in
    let house = c.in-Ok-open_house in
    let mid : HasCleanDisk (file_state made) = omega (arith, house.ensures.follows.clean, honest) in
    shows_new g.D.Disk c.args.files g.met.D.Disk.seen_may_stay c.args.settings.now made (c.in-Ok.ensures.ok mid)
    (order_state house.house.conn).now (house.ensures.opened.rests honest).house (house.ensures.arranged honest))

pub returns-in-Ok-open_house-clause-made : goal.returns-in-Ok-open_house-clause-made
returns-in-Ok-open_house-clause-made g c = rw (c.of_house.ensures.conn) (λ honest.
    let made = c.make_house.new.conn in
    let house = c.in-Ok-open_house in
    let mid : HasCleanDisk (file_state made) = omega (arith, house.ensures.follows.clean, honest) in
    let is = made_new g.D.Disk c.args.files g.met.D.Disk.seen_may_stay c.args.settings.now made (c.in-Ok.ensures.ok mid) in
    ((file_state made).committed, is, house.ensures.arranged honest))

pub returns-in-Ok-open_house-clause-opens : goal.returns-in-Ok-open_house-clause-opens
returns-in-Ok-open_house-clause-opens g c = rw (c.of_house.ensures.conn) (λ honest plain.
    let made = c.make_house.new.conn in
    let house = c.in-Ok-open_house in
    let mid : HasCleanDisk (file_state made) = omega (arith, house.ensures.follows.clean, honest) in
    opens_new g.D.Disk c.args.files g.met.D.Disk.seen_may_stay c.args.settings.now made (c.in-Ok.ensures.ok mid)
    (order_state house.house.conn).now (house.ensures.opened.rests honest).house (house.ensures.arranged honest) plain)

pub returns-in-Ok-open_house-clause-only : goal.returns-in-Ok-open_house-clause-only
returns-in-Ok-open_house-clause-only g c =
    rw (c.of_house.ensures.conn) (λ honest tables left. left.2 ∙ ap tables_in (c.in-Ok-open_house.ensures.opened.only honest left.0 left.1))

-- an error leaves what the files held, or the new house

pub returns-in-Err-open_house-clause-left : goal.returns-in-Err-open_house-clause-left
returns-in-Err-open_house-clause-left g c =
    let refused = c.in-Err-open_house in
    rw (c.into_inner.ensures) (leaves_new g.D.Disk c.args.files g.met.D.Disk.seen_may_stay c.args.settings.now c.make_house.new.conn refused.store refused.ensures.left c.in-Ok.ensures.ok c.in-Ok.ensures.only)

pub returns-in-Err-clause-left : goal.returns-in-Err-clause-left
returns-in-Err-clause-left g c =
    let conn = c.in_ok-conn in
    let crash = c.make_house.ensures.crash in
    let quiet = c.into_store.ensures.quiet in
    leaves_made g.D.Disk c.args.files g.met.D.Disk.seen_may_stay c.args.settings.now conn.conn
    c.into_store.result conn.ensures.opened conn.ensures.found
    (λ sure. omega (arith, quiet.clean, crash.clean, sure))
    (λ sure db may. crash.crash (omega (arith, quiet.clean, sure)) db (quiet.outcomes db may))

-- where they held a table, it leaves what they held

pub returns-in_err-conn-clause-spared : goal.returns-in_err-conn-clause-spared
returns-in_err-conn-clause-spared g c =
    let p = err_from_is_err_and c.from_residual.result c.from_residual.ensures.1 in
    rw (p.1, p.2) (λ held clean. c.in_err-conn.ensures.left clean)

pub returns-in-Err-open_house-clause-spared : goal.returns-in-Err-open_house-clause-spared
returns-in-Err-open_house-clause-spared g c = rw (c.into_inner.ensures) (λ held clean.
    let conn = c.in_ok-conn in
    let last = no_doubt _ clean in
    let sure : HasCleanDisk (file_state conn.conn) = omega (arith, c.in-Err-open_house.ensures.left.clean, c.make_house.ensures.crash.clean, last) in
    absurd (lists_object g.D.Disk c.args.files g.met.D.Disk.seen_may_stay conn.conn (conn.ensures.opened sure) (conn.ensures.found sure) held c.in-Ok.ensures.blank.1))

pub returns-in-Err-clause-spared : goal.returns-in-Err-clause-spared
returns-in-Err-clause-spared g c held clean =
    let conn = c.in_ok-conn in
    let quiet = c.into_store.ensures.quiet in
    let last = no_doubt _ clean in
    let sure : HasCleanDisk (file_state conn.conn) = omega (arith, quiet.clean, c.make_house.ensures.crash.clean, last) in
    let opened = conn.ensures.opened sure in
    let finds = conn.ensures.found sure in
    let lists = lists_object g.D.Disk c.args.files g.met.D.Disk.seen_may_stay conn.conn opened finds held in
    let same = c.in-Err.ensures.same (c.in-Err.ensures.damaged.1 (inr lists)) in
    leaves_found g.D.Disk c.args.files g.met.D.Disk.seen_may_stay conn.conn opened finds c.into_store.result
    (λ db may. subst (λ h. (file_state h).may_leave db) same (quiet.outcomes db may))

-- where no database is found in them, none was opened, and it leaves what they held

pub returns-in_err-conn-clause-untouched : goal.returns-in_err-conn-clause-untouched
returns-in_err-conn-clause-untouched g c =
    let p = err_from_is_err_and c.from_residual.result c.from_residual.ensures.1 in
    rw (p.1, p.2) (λ none clean. c.in_err-conn.ensures.left clean)

pub returns-in-Err-open_house-clause-untouched : goal.returns-in-Err-open_house-clause-untouched
returns-in-Err-open_house-clause-untouched g c = rw (c.into_inner.ensures) (λ none clean.
    let conn = c.in_ok-conn in
    let last = no_doubt _ clean in
    let sure : HasCleanDisk (file_state conn.conn) = omega (arith, c.in-Err-open_house.ensures.left.clean, c.make_house.ensures.crash.clean, last) in
    absurd (finds_some g.D.Disk c.args.files g.met.D.Disk.seen_may_stay conn.conn (conn.ensures.opened sure) (conn.ensures.found sure) none))

pub returns-in-Err-clause-untouched : goal.returns-in-Err-clause-untouched
returns-in-Err-clause-untouched g c none clean =
    let conn = c.in_ok-conn in
    let last = no_doubt _ clean in
    let sure : HasCleanDisk (file_state conn.conn) = omega (arith, c.into_store.ensures.quiet.clean, c.make_house.ensures.crash.clean, last) in
    absurd (finds_some g.D.Disk c.args.files g.met.D.Disk.seen_may_stay conn.conn (conn.ensures.opened sure) (conn.ensures.found sure) none)

-- it is damaged where they are no place for a house, or the new house is none that an opening takes

pub returns-in_err-conn-clause-damaged : goal.returns-in_err-conn-clause-damaged
returns-in_err-conn-clause-damaged g c =
    let p = err_from_is_err_and c.from_residual.result c.from_residual.ensures.1 in
    rw (p.1, p.2) (λ is clean. elim (c.in_err-conn.ensures.damaged is clean) [
      | inl other ↦ inl other
      | inr fault ↦ inr (inr (inr fault))
    ])

pub returns-in-Err-open_house-clause-damaged : goal.returns-in-Err-open_house-clause-damaged
returns-in-Err-open_house-clause-damaged g c = rw (c.into_inner.ensures) (λ is clean.
    let refuses = c.in-Err-open_house.ensures in
    let made = c.make_house.new.conn in
    let last = no_doubt _ clean in
    let mid : HasCleanDisk (file_state made) = omega (arith, refuses.left.clean, last) in
    inr (inr (inl (λ plain. refuses.damaged is last
    (holds_new g.D.Disk c.args.files g.met.D.Disk.seen_may_stay c.args.settings.now made (c.in-Ok.ensures.ok mid) plain)))))

pub returns-in-Err-clause-damaged : goal.returns-in-Err-clause-damaged
returns-in-Err-clause-damaged g c is clean =
    let conn = c.in_ok-conn in
    let last = no_doubt _ clean in
    let sure : HasCleanDisk (file_state conn.conn) = omega (arith, c.into_store.ensures.quiet.clean, c.make_house.ensures.crash.clean, last) in
    let opened = conn.ensures.opened sure in
    elim (c.in-Err.ensures.damaged.0 (ap Err is)) [
      | inl begun ↦ absurd (true≢false (sym begun ∙ opened.0.autocommit))
      | inr lists ↦ inr (inl (finds_object g.D.Disk c.args.files g.met.D.Disk.seen_may_stay conn.conn opened (conn.ensures.found sure) lists))
    ]
