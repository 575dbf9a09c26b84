use Rattle.std.proofs.Common.{◌≡◌, ◌<◌, ◌^◌, ◌∙◌, ap, sym, subst, arith, rules, map}
use Rattle.std.specs.List.{AllByRecursion}
use Rattle.sqlite.specs.Held.{state}
use Rattle.house_rows.specs.Bids.{BidRow, bid_key}
use Rattle.house_rows.specs.Fits.{BidRowFits}
use Rattle.store_rows.specs.Fitting.{BidFits}
use Rattle.store_rows.specs.Rows.{bids_in}
use Rattle.store_rows.proofs.Both.{ok_both}
use Rattle.store_rows.proofs.Shown.{every_stored}
use Rattle.store_bids.proofs.BidLists.{bid_alone, bids_fit, bids_is, bids_shown}
use Rattle.store_bids.proofs.member_bids.bids_of_on.Goals as goal

pub rows_shown-requires-clause-plain : goal.rows_shown-requires-clause-plain
rows_shown-requires-clause-plain g c = λ b. (bids_is b).2

pub returns-clause-finds : goal.returns-clause-finds
returns-clause-finds g c =
    let low : c.args.member < 2 ^ 32 = omega (arith, c.ranges.member) in
    let small : c.args.item < 2 ^ 32 = omega (arith, c.ranges.item) in
    let old = state g.S.Store c.args.conn.now in
    let new = state g.S.Store c.rows_shown.new.conn in
    let items = c.in_ok-rows.rows.items in
    let same : c.deref.result.now ≡ items = search rules in
    record {
      value = λ clean. (
          let shown = rw (c.params-to_sql.ensures, c.params-to_sql-2.ensures) at (c.in_ok-rows.ensures.rows clean) in
          ok_both c.all_of.result c.all_of.ensures.value c.all_of.ensures.fits (λ all e fits.
          let report = e ∙ ap (map bid_alone) same in
          report ∙ bids_shown c.args.member c.args.item low small old new items (c.rows_shown.ensures.house clean) shown (subst (AllByRecursion BidFits) report fits)));
      damaged = λ clean fits. (
          let shown = rw (c.params-to_sql.ensures, c.params-to_sql-2.ensures) at (c.in_ok-rows.ensures.rows clean) in
          let stored = every_stored bid_key (λ (b : BidRow). b.bid.member ≡ c.args.member → b.item ≡ c.args.item → BidRowFits b) (bids_in old.now.trees) fits in
          c.all_of.ensures.damaged (subst (AllByRecursion BidFits) (sym (ap (map bid_alone) same))
          (bids_fit c.args.member c.args.item low small old new items (c.rows_shown.ensures.house clean) shown stored)));
      read = search rules;
    }
