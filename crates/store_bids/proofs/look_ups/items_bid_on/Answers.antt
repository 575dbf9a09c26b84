use Rattle.std.proofs.Common.{◌≡◌, ◌<◌, ◌^◌, ◌∙◌, ap, sym, subst, arith, rules, map, filter}
use Rattle.std.specs.Prelude.{nat_le}
use Rattle.std.specs.List.{AllByRecursion}
use Rattle.sqlite_keyed.proofs.ListLemmas.{all-filter}
use Rattle.sqlite.specs.Held.{state}
use Rattle.store_rows.specs.Sorted.{sorted_bids}
use Rattle.store_rows.proofs.StateLemmas.{ok_then}
use Rattle.store_rows.proofs.Tested.{all-take}
use Rattle.store_bids.specs.OwnBids.{items_bid_on}
use Rattle.store_bids.proofs.ItemsBid.{items_bid_finite, items_bid_is, items_shown, low_items, report}
use Rattle.store_bids.proofs.look_ups.items_bid_on.Goals as goal

pub first_rows-requires-clause-plain : goal.first_rows-requires-clause-plain
first_rows-requires-clause-plain g c = λ b. (items_bid_is b).2

pub first_rows-requires-clause-finite : goal.first_rows-requires-clause-finite
first_rows-requires-clause-finite g c = items_bid_finite

pub returns : goal.returns
returns g c =
    let low : c.args.member < 2 ^ 32 = omega (arith, c.ranges.member) in
    let small : c.args.from < 2 ^ 32 = omega (arith, c.ranges.from) in
    let old = state g.S.Store c.args.conn.now in
    let new = state g.S.Store c.first_rows.new.conn in
    let same : c.deref.result.now ≡ c.in_ok-rows.rows.items = search rules in
    record {
      value = λ clean. (
          let first = rw (c.params-to_sql.ensures, c.params-to_sql-2.ensures) at (c.in_ok-rows.ensures.rows clean) in
          let found = items_shown c.args.member c.args.from low small old new (c.first_rows.ensures.house clean) c.in_ok-rows.rows.items first in
          ok_then c.all_of.result c.all_of.ensures.value (λ _ e. e ∙ ap (map report) same ∙ found));
      damaged = λ clean _. (
          let first = rw (c.params-to_sql.ensures, c.params-to_sql-2.ensures) at (c.in_ok-rows.ensures.rows clean) in
          let found = items_shown c.args.member c.args.from low small old new (c.first_rows.ensures.house clean) c.in_ok-rows.rows.items first in
          let items = items_bid_on (sorted_bids old.now.trees) c.args.member in
          let fits = all-take (λ n. n < 2 ^ 32) 50 (filter (nat_le c.args.from) items) (all-filter (λ n. n < 2 ^ 32) (nat_le c.args.from) items (low_items (sorted_bids old.now.trees) c.args.member)) in
          c.all_of.ensures.damaged (subst (AllByRecursion (λ n. n < 2 ^ 32)) (sym (ap (map report) same ∙ found)) fits));
      read = search rules;
    }
