use Rattle.std.proofs.Common.{◌≡◌, ◌≤◌, ◌<◌, ◌^◌, ◌++◌, ◌∙◌, arith, length, rules, subst, sym, take}
use Rattle.sqlite_keyed.proofs.ListLemmas.{all_weaker}
use Rattle.sqlite.specs.Effect.{Database}
use Rattle.sqlite.specs.Held.{state}
use Rattle.house_rows.specs.Limits.{most_shown}
use Rattle.store_rows.specs.Sorted.{sorted_bids}
use Rattle.store_rows.specs.Tables.{tables_in}
use Rattle.store_rows.proofs.Steps.{both_same, both_survive, clean_before}
use Rattle.store_bids.specs.Listed.{ItemsAreConsistent}
use Rattle.store_bids.specs.OwnBids.{found_from, items_bid_on, numbers_from, own_found}
use Rattle.store_bids.specs.Reached.{FitFrom}
use Rattle.store_bids.proofs.InTurn.{all_added, none_left}
use Rattle.store_bids.proofs.ItemsBid.{low_items}
use Rattle.store_bids.proofs.Numbers.{none_after}
use Rattle.store_bids.proofs.bid_pages.own_bids_from.Goals.{then-bids-test+else-next-lt-BEHIND_ALL, else-bids-test}
use Rattle.store_rows.proofs.ReservesServing.{serves_still}
use Rattle.store_bids.proofs.bid_pages.own_bids_from.Goals as goal

pub add_next_bids-requires-clause-serves : goal.add_next_bids-requires-clause-serves
add_next_bids-requires-clause-serves g c =
    let held = c.bids.invariant in
    serves_still c.args.rules.now.reserves (state g.S.Store c.args.conn.now) (state g.S.Store c.bids.conn) held.survives held.same c.requires

pub bids-preserved : goal.bids-preserved
bids-preserved g c =
    let old = state g.S.Store c.args.conn.now in
    let mid = state g.S.Store c.bids.conn in
    let new = state g.S.Store c.add_next_bids.new.conn in
    let held = c.bids.invariant in
    let crash = c.add_next_bids.ensures.finds.read.crash in
    record {
      survives = both_survive old mid new held.survives crash;
      same = λ clean. both_same old mid new (held.same (clean_before mid new crash clean)) (c.in_ok-next.ensures.finds.read.same clean);
      mode = λ out. c.add_next_bids.ensures.finds.read.mode (held.mode out);
      found = λ clean. (let before = clean_before mid new crash clean in
          subst (λ (db : Database). take most_shown (c.add_next_bids.new.found.items ++ found_from db.trees c.args.member c.in_ok-next.next) ≡ take most_shown (c.bids.found.items ++ found_from db.trees c.args.member c.bids.next)) (held.same before).0.now_is (c.in_ok-next.ensures.finds.value clean).value
          ∙ held.found before);
      few = c.in_ok-next.ensures.few;
      fits = c.in_ok-next.ensures.fits held.fits;
      is_consistent = λ clean. (let before = clean_before mid new crash clean in
          let Q = λ (db : Database). ItemsAreConsistent c.args.rules.now.editions db.trees in
          subst (λ (db : Database). Q db c.bids.found.items → Q db c.add_next_bids.new.found.items) (held.same before).0.now_is (c.in_ok-next.ensures.finds.value clean).is_consistent (held.is_consistent before));
      reached = λ clean fit. (let before = clean_before mid new crash clean in
          subst (λ (db : Database). FitFrom c.args.rules.now.editions db.trees c.args.member (length c.bids.found.items) c.bids.next → FitFrom c.args.rules.now.editions db.trees c.args.member (length c.add_next_bids.new.found.items) c.in_ok-next.next)
          (held.same before).0.now_is (c.in_ok-next.ensures.finds.value clean).fit (held.reached before fit));
    }

pub returns-in_err-next-clause-finds : goal.returns-in_err-next-clause-finds
returns-in_err-next-clause-finds g c = record {
  value = search rules;
  damaged = λ clean fit is. (
      let held = c.bids.invariant in
      let before = clean_before (state g.S.Store c.bids.conn) (state g.S.Store c.add_next_bids.new.conn) c.add_next_bids.ensures.finds.read.crash clean in
      let turn = subst (λ (db : Database). FitFrom c.args.rules.now.editions db.trees c.args.member (length c.bids.found.items) c.bids.next) (sym (held.same before).0.now_is) (held.reached before fit) in
      c.add_next_bids.ensures.finds.damaged clean turn (search rules));
  read = search rules;
}

pub returns-clause-finds : goal.returns-clause-finds
returns-clause-finds g c = record {
  value = λ clean. (
      let old = (state g.S.Store c.args.conn.now).now in
      let F = own_found (tables_in old.trees) c.args.member in
      let bids = sorted_bids old.trees in
      let all = items_bid_on bids c.args.member in
      let held = c.bids.invariant in
      let whole = take most_shown (found_from old.trees c.args.member c.args.from) in
      let count = c.bids.found.ok.0 in
      let found : c.bids.found.items ≡ whole = elim c.bids-test.branch [
        | then-bids-test+else-next-lt-BEHIND_ALL w ↦ (let far : 2 ^ 32 ≤ c.bids.next = omega (arith, w.if-next-lt-BEHIND_ALL.false) in
            let none = none_after c.bids.next all (all_weaker (λ n. n < 2 ^ 32) (λ n. n < c.bids.next) (λ n low. omega (arith, low, far)) all (low_items bids c.args.member)) in
            none_left F c.bids.found.items whole (numbers_from c.bids.next all) held.few (held.found clean) none)
        | else-bids-test w ↦ (let many : most_shown ≤ length c.bids.found.items = omega (arith, w.bids-test.false, count) in
            all_added F c.bids.found.items whole (numbers_from c.bids.next all) held.few (held.found clean) many)
      ] in
      record { value = found; is_consistent = held.is_consistent clean });
  damaged = search rules;
  read = search rules;
}
