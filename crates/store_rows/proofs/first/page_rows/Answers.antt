use Rattle.std.proofs.Common.{[], arith}
use Rattle.sqlite.specs.State.{HasCleanDisk}
use Rattle.sqlite.specs.Held.{state}
use Rattle.sqlite.specs.Values.{bound}
use Rattle.sqlite.proofs.Callers.{unchanged_then}
use Rattle.store_rows.proofs.StateLemmas.{ok_then, plain_at}
use Rattle.store_rows.proofs.StartLemmas.{first_before, on_ok_then, shown_after}
use Rattle.store_rows.proofs.first.page_rows.Goals as goal

pub returns-clause-rows : goal.returns-clause-rows
returns-clause-rows g c clean =
    let old = state g.S.Store c.args.conn.now in
    let mid = state g.S.Store c.no_row.new.conn in
    let new = state g.S.Store c.first_rows.new.conn in
    let early : HasCleanDisk mid = omega (arith, c.first_rows.ensures.read.crash.clean) in
    let house = (c.requires.serves (omega (arith, early, c.no_row.ensures.read.crash.clean))).1 in
    ok_then c.first_rows.result (c.first_rows.ensures.rows clean)
    (λ rows first. first_before 50 c.args.sql.now (bound c.args.params.now) old mid new rows.items (plain_at c.args.sql.now old c.requires.plain house) (c.in_ok-no_row.ensures.read.same early) first)

pub returns-clause-no_stray : goal.returns-clause-no_stray
returns-clause-no_stray g c clean =
    let old = state g.S.Store c.args.conn.now in
    let mid = state g.S.Store c.no_row.new.conn in
    let new = state g.S.Store c.first_rows.new.conn in
    let early : HasCleanDisk mid = omega (arith, c.first_rows.ensures.read.crash.clean) in
    let house = (c.requires.serves (omega (arith, early, c.no_row.ensures.read.crash.clean))).1 in
    on_ok_then c.first_rows.result (c.first_rows.ensures.read.same clean)
    (λ kept. shown_after c.args.strays.now (bound c.args.of.now) old mid new [] (plain_at c.args.strays.now old c.requires.strays_plain house) (unchanged_then old mid new (c.in_ok-no_row.ensures.read.same early) kept) (c.in_ok-no_row.ensures.none early))
