use Rattle.std.proofs.Common.{◌≡◌, ℕ, List, length, refl, sym, subst, rules, arith}
use Rattle.sqlite.specs.Order.{Row}
use Rattle.sqlite.specs.Effect.{Database}
use Rattle.sqlite.specs.Listing.{understood}
use Rattle.sqlite.specs.State.{State, HasCleanDisk, IsUnchanged, Survives, Shown, Begins, CommitsShowing, FailsToQuery}
use Rattle.sqlite.specs.Held.{state}
use Rattle.sqlite.specs.Values.{bound}
use Rattle.sqlite.proofs.Callers.{IsPlain, shown_begins, given_begin, begun_plain}
use Rattle.store_rows.proofs.StateLemmas.{only_reads, query_ended, on_error}
use Rattle.store_rows.proofs.StartLemmas.{shown_before}
use Rattle.store_rows.proofs.first.rows_given.Goals as goal

ends : (sql : List ℕ) (params : Row) (first old new : State) (rows : List Row) → IsPlain (understood first.now.schema sql) → IsUnchanged first old → Shown sql params old new rows → Begins sql params new rows
ends sql params first old new rows plain same = shown_begins sql params old new rows (subst (λ (d : Database). IsPlain (understood d.schema sql)) (sym same.0.now_is) plain)

pub returns-in_err-rows-clause-read : goal.returns-in_err-rows-clause-read
returns-in_err-rows-clause-read g c =
    let old = state g.S.Store c.args.conn.now in
    let new = state g.S.Store c.query.follows.lender-at-none in
    let held = c.query.follows.holds-at-none in
    let kept : Survives old new (CommitsShowing c.args.sql.now (bound c.args.params.now) old) = search rules in record {
      same = search rules;
      err = λ clean.
          let failed : FailsToQuery c.args.sql.now (bound c.args.params.now) old new c.in_err-rows.field-0.0 = search rules in
          on_error c.from_residual.result (query_ended c.args.sql.now (bound c.args.params.now) old new (c.requires (omega (arith, kept.clean))) c.in_err-rows.field-0.0 failed);
      mode = search rules;
      crash = only_reads c.args.sql.now (bound c.args.params.now) old new c.requires kept;
    }

pub rows-init : goal.rows-init
rows-init g c =
    let made = c.in_ok-rows.ensures in
    let old = state g.S.Store c.args.conn.now in
    let new = state g.S.Store c.in_ok-rows.rows.conn.now in
    let kept : Survives old new (CommitsShowing c.args.sql.now (bound c.args.params.now) old) = made.survives in
    let none : length c.new-first.result.items ≡ 0 = rw c.new-first.ensures.items refl in (
      refl,
      none,
      only_reads c.args.sql.now (bound c.args.params.now) old new c.requires kept,
      made.mode,
      λ clean. rw c.new-first.ensures.items (begun_plain g.S.Store _ _ c.args.conn.now _ (c.requires (omega (arith, kept.clean))) (made.begun clean)),
    )

pub returns-in_default-clause-begin : goal.returns-in_default-clause-begin
returns-in_default-clause-begin g c clean =
    let moved = c.next.follows.holds-at-none in
    let now = c.next.follows.lender-at-none.conn.now in
    let late : HasCleanDisk (state g.S.Store now) = search rules in
    let was = c.rows.invariant.4 (omega (arith, moved.survives.clean)) in
    let shown = (rw (c.in_ok-row.was, c.in_default.is) at (moved.ok late)) c.args.sql.now (bound c.args.params.now) c.rows.first.items was.0 in
    let early : HasCleanDisk (state g.S.Store c.args.conn.now) = omega (arith, moved.survives.clean, c.rows.invariant.2.clean) in
    let begun = ends c.args.sql.now (bound c.args.params.now) (state g.S.Store c.args.conn.now) _ (state g.S.Store now) _ (c.requires early) was.1 shown in
    search rules

pub returns-in_default-clause-whole : goal.returns-in_default-clause-whole
returns-in_default-clause-whole g c clean few =
    let moved = c.next.follows.holds-at-none in
    let now = c.next.follows.lender-at-none.conn.now in
    let late : HasCleanDisk (state g.S.Store now) = search rules in
    let was = c.rows.invariant.4 (omega (arith, moved.survives.clean)) in
    let shown = (rw (c.in_ok-row.was, c.in_default.is) at (moved.ok late)) c.args.sql.now (bound c.args.params.now) c.rows.first.items was.0 in
    let early : HasCleanDisk (state g.S.Store c.args.conn.now) = omega (arith, moved.survives.clean, c.rows.invariant.2.clean) in
    let before = shown_before c.args.sql.now (bound c.args.params.now) (state g.S.Store c.args.conn.now) _ was.1 (state g.S.Store now) c.rows.first.items (c.requires early) shown in
    search rules

pub returns-clause-begin : goal.returns-clause-begin
returns-clause-begin g c = search (rules, given_begin)

pub returns-clause-whole : goal.returns-clause-whole
returns-clause-whole g c clean few = absurd (omega (arith, c.rows.invariant.1, c.rows-test.false, few))
