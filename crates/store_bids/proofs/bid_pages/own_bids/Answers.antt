use Rattle.std.proofs.Common.{◌≤◌, ◌<◌, ◌^◌, [], arith, length, rules, subst, sym, take}
use Rattle.std.specs.List.{AllByRecursion}
use Rattle.sqlite.specs.Effect.{Database}
use Rattle.sqlite.specs.Held.{state}
use Rattle.house_rows.specs.Limits.{most_shown}
use Rattle.store_rows.specs.House.{IsHouse}
use Rattle.store_rows.specs.ItemRows.{items_in}
use Rattle.store_rows.proofs.StartLemmas.{shown_before}
use Rattle.store_rows.proofs.StateLemmas.{plain_at}
use Rattle.store_rows.proofs.Steps.{both_same, clean_before}
use Rattle.store_items.proofs.ItemRising.{number_of}
use Rattle.store_bids.specs.Listed.{AreOwnBids}
use Rattle.store_bids.specs.OwnBids.{found_from}
use Rattle.store_bids.specs.Reached.{FitFrom}
use Rattle.store_bids.specs.Strays.{far_items_text}
use Rattle.store_bids.proofs.ItemsBid.{all_ours, far_items_finite, far_items_is, items_up, low_items_finite, low_items_is, no_far_item, no_low_item}
use Rattle.store_bids.proofs.ListedBids.{own_fewer, own_full, own_in_turn, own_ours}
use Rattle.store_rows.proofs.ReservesServing.{serves, serves_still}
use Rattle.store_bids.proofs.bid_pages.own_bids.Goals as goal

pub no_item-requires-clause-serves : goal.no_item-requires-clause-serves
no_item-requires-clause-serves g c = serves c.args.rules.now.reserves (state g.S.Store c.args.conn.now) c.requires

pub own_bids_from-requires : goal.own_bids_from-requires
own_bids_from-requires g c =
    serves_still c.args.rules.now.reserves (state g.S.Store c.args.conn.now) (state g.S.Store c.no_item.new.conn) c.no_item.ensures.read.crash c.in_ok-no_item.ensures.read.same c.requires

pub no_item-requires-2-clause-serves : goal.no_item-requires-2-clause-serves
no_item-requires-2-clause-serves g c =
    let old = state g.S.Store c.args.conn.now in
    let first = state g.S.Store c.no_item.new.conn in
    let mid = state g.S.Store c.own_bids_from.new.conn in
    serves c.args.rules.now.reserves mid (serves_still c.args.rules.now.reserves first mid c.own_bids_from.ensures.finds.read.crash c.in_ok-found.ensures.finds.read.same
    (serves_still c.args.rules.now.reserves old first c.no_item.ensures.read.crash c.in_ok-no_item.ensures.read.same c.requires))

pub no_item-requires-clause-plain : goal.no_item-requires-clause-plain
no_item-requires-clause-plain g c = λ b. (low_items_is b).2

pub no_item-requires-clause-finite : goal.no_item-requires-clause-finite
no_item-requires-clause-finite g c = low_items_finite

pub no_item-requires-2-clause-plain : goal.no_item-requires-2-clause-plain
no_item-requires-2-clause-plain g c = λ b. (far_items_is b).2

pub no_item-requires-2-clause-finite : goal.no_item-requires-2-clause-finite
no_item-requires-2-clause-finite g c = far_items_finite

pub returns-then-len-ge-MOST_SHOWN-clause-finds : goal.returns-then-len-ge-MOST_SHOWN-clause-finds
returns-then-len-ge-MOST_SHOWN-clause-finds g c = record {
  value = λ clean. (
      let old = state g.S.Store c.args.conn.now in
      let mid = state g.S.Store c.no_item.new.conn in
      let before = clean_before mid (state g.S.Store c.own_bids_from.new.conn) c.own_bids_from.ensures.finds.read.crash clean in
      let house = (c.requires (clean_before old mid c.no_item.ensures.read.crash before)).1 in
      let found = c.in_ok-found.found.items in
      let are = subst (λ (db : Database). AreOwnBids c.args.rules.now.editions db.trees found (take most_shown (found_from db.trees c.args.member c.args.from))) (c.in_ok-no_item.ensures.read.same before).0.now_is (c.in_ok-found.ensures.finds.value clean) in
      let whole = c.in_ok-found.found.ok.0 in
      let many : most_shown ≤ length found = omega (arith, whole) in
      record {
        value = own_full old.now c.args.member c.args.from house found (items_up old mid house (c.in_ok-no_item.ensures.none before)) are.value many;
        is_consistent = are.is_consistent;
      });
  damaged = search rules;
  read = search rules;
}

pub returns-in_err-no_item-clause-finds : goal.returns-in_err-no_item-clause-finds
returns-in_err-no_item-clause-finds g c = record {
  value = search rules;
  damaged = λ clean fit is. (
      let old = state g.S.Store c.args.conn.now in
      let mid = state g.S.Store c.no_item.new.conn in
      let house = (c.requires (clean_before old mid c.no_item.ensures.read.crash clean)).1 in
      no_low_item old mid house (c.no_item.ensures.damaged clean (search rules)) (own_ours old.now c.args.member c.args.from house c.args.rules.now.editions fit));
  read = search rules;
}

pub returns-in_err-found-clause-finds : goal.returns-in_err-found-clause-finds
returns-in_err-found-clause-finds g c = record {
  value = search rules;
  damaged = λ clean fit is. (
      let old = state g.S.Store c.args.conn.now in
      let mid = state g.S.Store c.no_item.new.conn in
      let before = clean_before mid (state g.S.Store c.own_bids_from.new.conn) c.own_bids_from.ensures.finds.read.crash clean in
      let same = (c.in_ok-no_item.ensures.read.same before).0.now_is in
      let house = (c.requires (clean_before old mid c.no_item.ensures.read.crash before)).1 in
      let turn = subst (λ (db : Database). FitFrom c.args.rules.now.editions db.trees c.args.member 0 c.args.from) (sym same) (own_in_turn old.now c.args.member c.args.from house c.args.rules.now.editions fit) in
      c.own_bids_from.ensures.finds.damaged clean turn (search rules));
  read = search rules;
}

pub returns-in_err-no_item-2-clause-finds : goal.returns-in_err-no_item-2-clause-finds
returns-in_err-no_item-2-clause-finds g c = record {
  value = search rules;
  damaged = λ clean fit is. (
      let old = state g.S.Store c.args.conn.now in
      let first = state g.S.Store c.no_item.new.conn in
      let mid = state g.S.Store c.own_bids_from.new.conn in
      let new = state g.S.Store c.no_item-2.new.conn in
      let late = clean_before mid new c.no_item-2.ensures.read.crash clean in
      let early = clean_before first mid c.own_bids_from.ensures.finds.read.crash late in
      let house = (c.requires (clean_before old first c.no_item.ensures.read.crash early)).1 in
      let same = (both_same old first mid (c.in_ok-no_item.ensures.read.same early) (c.in_ok-found.ensures.finds.read.same late)).0.now_is in
      no_far_item mid new (subst IsHouse (sym same) house) (c.no_item-2.ensures.damaged clean (search rules))
      (subst (λ (db : Database). AllByRecursion (λ row. number_of row < 2 ^ 32) (items_in db.trees)) (sym same) (own_ours old.now c.args.member c.args.from house c.args.rules.now.editions fit)));
  read = search rules;
}

pub returns-clause-finds : goal.returns-clause-finds
returns-clause-finds g c = record {
  value = λ clean. (
      let old = state g.S.Store c.args.conn.now in
      let first = state g.S.Store c.no_item.new.conn in
      let mid = state g.S.Store c.own_bids_from.new.conn in
      let new = state g.S.Store c.no_item-2.new.conn in
      let late = clean_before mid new c.no_item-2.ensures.read.crash clean in
      let early = clean_before first mid c.own_bids_from.ensures.finds.read.crash late in
      let house = (c.requires (clean_before old first c.no_item.ensures.read.crash early)).1 in
      let once = c.in_ok-no_item.ensures.read.same early in
      let kept = both_same old first mid once (c.in_ok-found.ensures.finds.read.same late) in
      let found = c.in_ok-found.found.items in
      let are = subst (λ (db : Database). AreOwnBids c.args.rules.now.editions db.trees found (take most_shown (found_from db.trees c.args.member c.args.from))) once.0.now_is (c.in_ok-found.ensures.finds.value late) in
      let far = shown_before far_items_text [] old mid kept new [] (plain_at far_items_text old (λ b. (far_items_is b).2) house) (c.in_ok-no_item-2.ensures.none clean) in
      record {
        value = own_fewer old.now c.args.member c.args.from house found (all_ours old first new house (c.in_ok-no_item.ensures.none early) far) are.value;
        is_consistent = are.is_consistent;
      });
  damaged = search rules;
  read = search rules;
}
