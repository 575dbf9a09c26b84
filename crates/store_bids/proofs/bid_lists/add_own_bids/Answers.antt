use Rattle.std.proofs.Common.{◌≡◌, ◌≤◌, ◌<◌, ◌+◌, ◌++◌, ◌∙◌, ap, arith, drop, flat_map, get_or, length, refl, rules, subst, sym, take}
use Rattle.std.proofs.lemmas.List.{drop_more, length-append}
use Rattle.sqlite.specs.Effect.{Database}
use Rattle.sqlite.specs.State.{HasCleanDisk}
use Rattle.sqlite.specs.Held.{state}
use Rattle.house_rows.specs.Limits.{most_shown}
use Rattle.store_rows.specs.Tables.{tables_in}
use Rattle.store_bids.specs.Listed.{ItemsAreConsistent}
use Rattle.store_bids.specs.OwnBids.{own_found}
use Rattle.house_rows.specs.Reached.{FitsAt}
use Rattle.store_bids.specs.Reached.{FitInTurn}
use Rattle.store_rows.proofs.Steps.{both_same, both_survive, clean_before, first_found_all, first_found_full, found_more}
use Rattle.store_rows.proofs.ReservesServing.{serves_still}
use Rattle.store_bids.proofs.bid_lists.add_own_bids.Goals as goal

pub add_own_bid-requires : goal.add_own_bid-requires
add_own_bid-requires g c =
    let held = c.loop-number.invariant in
    serves_still c.args.rules.now.reserves (state g.S.Store c.args.conn.now) (state g.S.Store c.loop-number.conn) held.survives held.same c.requires.serves

pub loop-number-preserved : goal.loop-number-preserved
loop-number-preserved g c =
    let old = state g.S.Store c.args.conn.now in
    let mid = state g.S.Store c.loop-number.conn in
    let new = state g.S.Store c.add_own_bid.new.conn in
    let t = tables_in old.now.trees in
    let F = own_found t c.args.member in
    let numbers = c.args.numbers.now in
    let i = c.loop-number.number-index in
    let held = c.loop-number.invariant in
    let crash = c.add_own_bid.ensures.finds.read.crash in
    let one : HasCleanDisk new → c.add_own_bid.new.found.items ≡ c.loop-number.found.items ++ F (get_or numbers i 0) = λ clean. (let before = clean_before mid new crash clean in
    subst (λ (db : Database). c.add_own_bid.new.found.items ≡ c.loop-number.found.items ++ own_found (tables_in db.trees) c.args.member (get_or numbers i 0)) (held.same before).0.now_is (c.in_ok-add_own_bid.ensures.finds.value clean).value) in
    record {
      survives = both_survive old mid new held.survives crash;
      same = λ clean. both_same old mid new (held.same (clean_before mid new crash clean)) (c.in_ok-add_own_bid.ensures.finds.read.same clean);
      mode = λ out. c.add_own_bid.ensures.finds.read.mode (held.mode out);
      found = λ clean.
          ap (take most_shown) (found_more F numbers i 0 c.loop-number.found.items c.add_own_bid.new.found.items (c.loop-number.found.items ++ flat_map F (drop i numbers)) c.loop-number-test.true refl (one clean))
          ∙ held.found (clean_before mid new crash clean);
      few = (let more = c.in_ok-add_own_bid.ensures.few in omega (arith, more));
      fits = λ all. c.in_ok-add_own_bid.ensures.fits (held.fits all);
      is_consistent = λ clean all. (let before = clean_before mid new crash clean in
          let Q = λ (db : Database). ItemsAreConsistent c.args.rules.now.editions db.trees in
          subst (λ (db : Database). Q db c.loop-number.found.items → Q db c.add_own_bid.new.found.items) (held.same before).0.now_is (c.in_ok-add_own_bid.ensures.finds.value clean).is_consistent (held.is_consistent before all));
      reached = λ clean fit. (let now = held.reached (clean_before mid new crash clean) fit in
          let first = subst (FitInTurn c.args.rules.now.editions t c.args.member (length c.loop-number.found.items)) (drop_more numbers i 0 c.loop-number-test.true) now in
          subst (λ many. FitInTurn c.args.rules.now.editions t c.args.member many (drop (i + 1) numbers)) (sym (ap length (one clean) ∙ length-append c.loop-number.found.items (F (get_or numbers i 0)))) first.1);
    }

pub returns-then-len-ge-MOST_SHOWN-clause-finds : goal.returns-then-len-ge-MOST_SHOWN-clause-finds
returns-then-len-ge-MOST_SHOWN-clause-finds g c = record {
  value = λ clean. (
      let F = own_found (tables_in (state g.S.Store c.args.conn.now).now.trees) c.args.member in
      let held = c.loop-number.invariant in
      let whole = c.loop-number.found.ok.0 in
      let many : most_shown ≤ length c.loop-number.found.items = omega (arith, whole) in
      record {
        value = first_found_full most_shown c.loop-number.found.items (flat_map F (drop c.loop-number.number-index c.args.numbers.now)) _ held.few many (held.found clean);
        is_consistent = held.is_consistent clean;
      });
  damaged = search rules;
  read = search rules;
}

pub returns-clause-finds : goal.returns-clause-finds
returns-clause-finds g c = record {
  value = λ clean. (
      let F = own_found (tables_in (state g.S.Store c.args.conn.now).now.trees) c.args.member in
      let held = c.loop-number.invariant in
      record {
        value = first_found_all most_shown F c.args.numbers.now c.loop-number.number-index c.loop-number.found.items _ held.few c.loop-number-test.false (held.found clean);
        is_consistent = held.is_consistent clean;
      });
  damaged = search rules;
  read = search rules;
}

pub returns-in_err-add_own_bid-clause-finds : goal.returns-in_err-add_own_bid-clause-finds
returns-in_err-add_own_bid-clause-finds g c = record {
  value = search rules;
  damaged = λ clean fit is. (
      let old = state g.S.Store c.args.conn.now in
      let mid = state g.S.Store c.loop-number.conn in
      let numbers = c.args.numbers.now in
      let i = c.loop-number.number-index in
      let held = c.loop-number.invariant in
      let before = clean_before mid (state g.S.Store c.add_own_bid.new.conn) c.add_own_bid.ensures.finds.read.crash clean in
      let whole = c.loop-number.found.ok.0 in
      let few : length c.loop-number.found.items < most_shown = omega (arith, whole) in
      let first = subst (FitInTurn c.args.rules.now.editions (tables_in old.now.trees) c.args.member (length c.loop-number.found.items)) (drop_more numbers i 0 c.loop-number-test.true) (held.reached before fit) in
      let here = subst (λ (db : Database). FitsAt c.args.rules.now.editions (tables_in db.trees) c.args.member (get_or numbers i 0)) (sym (held.same before).0.now_is) (first.0 few) in
      c.add_own_bid.ensures.finds.damaged clean here (search rules));
  read = search rules;
}
