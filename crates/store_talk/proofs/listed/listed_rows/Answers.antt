use Rattle.std.proofs.Common.{[], ◌∷◌, arith, rules, subst, sym}
use Rattle.sqlite.specs.Effect.{Database}
use Rattle.sqlite.specs.Given.{IsPlain}
use Rattle.sqlite.specs.Listing.{understood}
use Rattle.sqlite.specs.State.{HasCleanDisk}
use Rattle.sqlite.specs.Held.{state}
use Rattle.sqlite.specs.Values.{bound}
use Rattle.store_rows.proofs.StateLemmas.{plain_at, shown_same}
use Rattle.store_rows.proofs.Steps.{both_same}
use Rattle.store_rows.proofs.StartLemmas.{shown_after, shown_before}
use Rattle.store_talk.proofs.listed.listed_rows.Goals as goal

pub returns-clause-rows : goal.returns-clause-rows
returns-clause-rows g c clean =
    let old = state g.S.Store c.args.conn.now in
    let mid = state g.S.Store c.first_rows.new.conn in
    let new = state g.S.Store c.no_row.new.conn in
    let early : HasCleanDisk mid = omega (arith, c.no_row.ensures.read.crash.clean) in
    let first = c.in_ok-rows.ensures.rows early in
    let house = (c.requires.serves (omega (arith, early, c.first_rows.ensures.read.crash.clean))).1 in
    record {
      all = first.all;
      shown = shown_after c.args.sql.now (bound c.args.params.now) old mid new first.all (plain_at c.args.sql.now old c.requires.plain house) (both_same old mid new (c.in_ok-rows.ensures.read.same early) (c.in_ok-no_row.ensures.read.same clean)) first.shown;
      are = first.are;
    }

pub returns-clause-no_stray : goal.returns-clause-no_stray
returns-clause-no_stray g c clean few =
    let old = state g.S.Store c.args.conn.now in
    let mid = state g.S.Store c.first_rows.new.conn in
    let new = state g.S.Store c.no_row.new.conn in
    let early : HasCleanDisk mid = omega (arith, c.no_row.ensures.read.crash.clean) in
    let house = (c.requires.serves (omega (arith, early, c.first_rows.ensures.read.crash.clean))).1 in
    shown_before c.args.strays.now (bound c.args.of.now) old mid (c.in_ok-rows.ensures.read.same early) new [] (plain_at c.args.strays.now old c.requires.strays_plain house) (c.in_ok-no_row.ensures.none clean)

pub returns-in_err-no_row-clause-damaged : goal.returns-in_err-no_row-clause-damaged
returns-in_err-no_row-clause-damaged g c clean is =
    let old = state g.S.Store c.args.conn.now in
    let mid = state g.S.Store c.first_rows.new.conn in
    let new = state g.S.Store c.no_row.new.conn in
    let early : HasCleanDisk mid = omega (arith, c.no_row.ensures.read.crash.clean) in
    let house = (c.requires.serves (omega (arith, early, c.first_rows.ensures.read.crash.clean))).1 in
    let some = c.no_row.ensures.damaged clean (search rules) in
    let kept = c.in_ok-rows.ensures.read.same early in
    let again = shown_same c.args.strays.now (bound c.args.of.now) mid new (subst (λ (d : Database). IsPlain (understood d.schema c.args.strays.now)) (sym kept.0.now_is) (plain_at c.args.strays.now old c.requires.strays_plain house)) (some.first ∷ some.others) some.shown in
    let first = c.in_ok-rows.ensures.rows early in
    record {
      rows = c.in_ok-rows.rows.items;
      first = record {
        all = first.all;
        shown = shown_after c.args.sql.now (bound c.args.params.now) old mid new first.all (plain_at c.args.sql.now old c.requires.plain house) (both_same old mid new kept again) first.shown;
        are = first.are;
      };
      few = search rules;
      some = record {
        first = some.first;
        others = some.others;
        shown = shown_before c.args.strays.now (bound c.args.of.now) old mid kept new (some.first ∷ some.others) (plain_at c.args.strays.now old c.requires.strays_plain house) some.shown;
      };
    }
