use Rattle.std.proofs.Common.{◌≡◌, ◌≤◌, ◌<◌, ◌++◌, ◌∙◌, List, ℕ, ap, arith, flat_map, length, rules, subst, sym, take}
use Rattle.std.specs.List.{AllByRecursion}
use Rattle.sqlite.specs.Effect.{Database}
use Rattle.sqlite.specs.Held.{state}
use Rattle.house_rows.specs.Limits.{most_shown}
use Rattle.store_rows.specs.Sorted.{sorted_bids}
use Rattle.store_rows.specs.Tables.{tables_in}
use Rattle.store_rows.proofs.Steps.{clean_before}
use Rattle.store_bids.specs.Listed.{BecomesOwnBids}
use Rattle.store_bids.specs.OwnBids.{rest_after, items_bid_on, numbers_from, own_found}
use Rattle.store_bids.specs.Reached.{FitInTurn}
use Rattle.store_bids.proofs.InTurn.{added, first_in_turn, next_in_turn}
use Rattle.store_bids.proofs.ItemsBid.{low_items}
use Rattle.store_bids.proofs.Numbers.{first_part, go_on, numbers_above}
use Rattle.store_rows.proofs.ReservesServing.{serves, serves_still}
use Rattle.store_bids.proofs.bid_pages.add_next_bids.Goals as goal

pub items_bid_on-requires : goal.items_bid_on-requires
items_bid_on-requires g c = serves c.args.rules.now.reserves (state g.S.Store c.args.conn.now) c.requires.serves

pub add_own_bids-requires-clause-serves : goal.add_own_bids-requires-clause-serves
add_own_bids-requires-clause-serves g c =
    let old = state g.S.Store c.args.conn.now in
    let mid = state g.S.Store c.items_bid_on.new.conn in
    serves_still c.args.rules.now.reserves old mid c.items_bid_on.ensures.read.crash c.in_ok-items.ensures.read.same c.requires.serves

pub returns-clause-rises : goal.returns-clause-rises
returns-clause-rises g c =
    let numbers = c.in_ok-numbers.numbers.items in
    let also_numbers : c.deref-3.result.now ≡ numbers = search rules in
    let begun : c.from.result ≡ c.args.from = search rules in
    let above = subst (AllByRecursion (λ n. c.args.from ≤ n)) (sym (also_numbers ∙ c.in_ok-numbers.ensures.value ∙ ap (λ n. numbers_from n c.deref.result.now) begun)) (numbers_above c.args.from c.deref.result.now) in
    c.next_after.ensures.rises c.args.from (omega (arith, c.ranges.from)) above

pub returns-clause-finds : goal.returns-clause-finds
returns-clause-finds g c = record {
  value = λ clean. (
      let editions = c.args.rules.now.editions in
      let mid = state g.S.Store c.items_bid_on.new.conn in
      let before = clean_before mid (state g.S.Store c.add_own_bids.new.conn) c.add_own_bids.ensures.finds.read.crash clean in
      let same = (c.in_ok-items.ensures.read.same before).0.now_is in
      let old = (state g.S.Store c.args.conn.now).now in
      let F = own_found (tables_in old.trees) c.args.member in
      let all = items_bid_on (sorted_bids old.trees) c.args.member in
      let items = c.in_ok-items.items.items in
      let numbers = c.in_ok-numbers.numbers.items in
      let items_are : c.deref.result.now ≡ items = search rules in
      let numbers_are : c.deref-2.result.now ≡ numbers = search rules in
      let also_numbers : c.deref-3.result.now ≡ numbers = search rules in
      let many : c.len.result ≡ length items = search rules in
      let begun : c.from.result ≡ c.args.from = search rules in
      let listed = c.in_ok-numbers.ensures.value ∙ ap (λ n. numbers_from n c.deref.result.now) begun ∙ ap (numbers_from c.args.from) items_are in
      let split = go_on c.args.from c.next_after.result all items numbers (low_items (sorted_bids old.trees) c.args.member) (c.in_ok-items.ensures.value before) listed
      (λ few. c.next_after.ensures.last (subst (λ n. n < 50) (sym many) few))
      (λ full some. c.next_after.ensures.next (subst (λ n. 50 ≤ n) (sym many) full) (subst (λ (l : List ℕ). 0 < length l) (sym also_numbers) some) ∙ ap (rest_after 0) also_numbers) in
      let becomes = subst (λ (db : Database). BecomesOwnBids editions db.trees c.args.found.now.items c.add_own_bids.new.found.items (take most_shown (c.args.found.now.items ++ flat_map (own_found (tables_in db.trees) c.args.member) c.deref-2.result.now))) same (c.in_ok-add_own_bids.ensures.finds.value clean) in
      let found = becomes.value ∙ ap (λ l. take most_shown (c.args.found.now.items ++ flat_map F l)) numbers_are in
      record {
        value = added F c.args.found.now.items c.add_own_bids.new.found.items numbers (numbers_from c.next_after.result all) (numbers_from c.args.from all) found split;
        is_consistent = becomes.is_consistent;
        fit = next_in_turn editions (tables_in old.trees) c.args.member c.args.found.now.items c.add_own_bids.new.found.items numbers (numbers_from c.next_after.result all) (numbers_from c.args.from all) found split;
      });
  damaged = search rules;
  read = search rules;
}

pub returns-in_err-add_own_bids-clause-finds : goal.returns-in_err-add_own_bids-clause-finds
returns-in_err-add_own_bids-clause-finds g c = record {
  value = search rules;
  damaged = λ clean fit is. (
      let editions = c.args.rules.now.editions in
      let mid = state g.S.Store c.items_bid_on.new.conn in
      let before = clean_before mid (state g.S.Store c.add_own_bids.new.conn) c.add_own_bids.ensures.finds.read.crash clean in
      let same = (c.in_ok-items.ensures.read.same before).0.now_is in
      let old = (state g.S.Store c.args.conn.now).now in
      let all = items_bid_on (sorted_bids old.trees) c.args.member in
      let items = c.in_ok-items.items.items in
      let numbers = c.in_ok-numbers.numbers.items in
      let items_are : c.deref.result.now ≡ items = search rules in
      let numbers_are : c.deref-2.result.now ≡ numbers = search rules in
      let begun : c.from.result ≡ c.args.from = search rules in
      let listed = c.in_ok-numbers.ensures.value ∙ ap (λ n. numbers_from n c.deref.result.now) begun ∙ ap (numbers_from c.args.from) items_are in
      let split = first_part c.args.from all items numbers (c.in_ok-items.ensures.value before) listed in
      let first = first_in_turn editions (tables_in old.trees) c.args.member (length c.args.found.now.items) numbers (numbers_from (rest_after c.args.from numbers) all) (numbers_from c.args.from all) split fit in
      let now = subst (λ (db : Database). FitInTurn editions (tables_in db.trees) c.args.member (length c.args.found.now.items) c.deref-2.result.now) (sym same)
      (subst (FitInTurn editions (tables_in old.trees) c.args.member (length c.args.found.now.items)) (sym numbers_are) first) in
      c.add_own_bids.ensures.finds.damaged clean now (search rules));
  read = search rules;
}
