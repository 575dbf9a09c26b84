use Rattle.std.proofs.Common.{◌≡◌, ◌==◌, ◌<◌, ◌^◌, ◌∙◌, ap, arith, length, not, rules}
use Rattle.sqlite.specs.Held.{state}
use Rattle.store_bids.proofs.FindMeaning.{has_bid_is}
use Rattle.store_bids.proofs.BidFinds.{bid_found}
use Rattle.store_bids.proofs.look_ups.has_bid.Goals as goal

pub rows_shown-requires-clause-plain : goal.rows_shown-requires-clause-plain
rows_shown-requires-clause-plain g c = λ b. (has_bid_is b).2

pub returns-clause-finds : goal.returns-clause-finds
returns-clause-finds g c = record {
  value = λ clean. (
      let low : c.args.item < 2 ^ 32 = omega (arith, c.ranges.item) in
      let small : c.args.number < 2 ^ 32 = omega (arith, c.ranges.number) in
      let shown = rw (c.params-to_sql.ensures, c.params-to_sql-2.ensures) at (c.in_ok-rows.ensures.rows clean) in
      let none : c.is_empty.result ≡ (length c.in_ok-rows.rows.items == 0) = search rules in
      ap not none ∙ bid_found c.args.item c.args.number low small (state g.S.Store c.args.conn.now) (state g.S.Store c.rows_shown.new.conn) c.in_ok-rows.rows.items (c.rows_shown.ensures.house clean) shown);
  damaged = search rules;
  read = search rules;
}
