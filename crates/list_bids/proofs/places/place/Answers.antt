use Rattle.std.proofs.Common.{◌≡◌, List, Err, ap, sym, subst, ◌∙◌, arith, map, refl}
use Rattle.house_rows.specs.Bids.{BidRow, bid_key}
use Rattle.house_rows.specs.History.{Key}
use Rattle.house_rows.specs.declared.item.OwnBest.{OwnBest}
use Rattle.list_rows.specs.Blocks.{rows_of}
use Rattle.list_rows.proofs.Blocked.{rows_in_order}
use Rattle.list_bids.specs.declared.tally.Tally.{Tally}
use Rattle.list_bids.specs.Tallies.{best_among, pair_key, tally_in}
use Rattle.list_bids.proofs.Telling.{any_named, bettered, mine_fits, report_after, unplaced, with_bid}
use Rattle.list_bids.proofs.places.place.Goals as goal

pub better-best-requires : goal.better-best-requires
better-best-requires c =
    let mine : c.in-Ok.best.mine ≡ (tally_in (rows_of c.args.tallies.now.items) c.args.bid.member c.args.item).mine = ap (λ (b : OwnBest). b.mine) c.in-Ok.ensures.value in
    let fits = mine_fits c.args.bids.now.items c.args.tallies.now.items c.args.bid.member c.args.item c.requires in
    omega (arith, mine, fits)

pub returns-clause-tallied : goal.returns-clause-tallied
returns-clause-tallied c =
    let report : c.in-Ok.best ≡ tally_in (rows_of c.open_tally.new.tallies.items) c.args.bid.member c.args.item = c.in-Ok.ensures.value ∙ sym (c.open_tally.ensures.same c.args.bid.member c.args.item) in
    let better : c.better-best.result ≡ with_bid (tally_in (rows_of c.open_tally.new.tallies.items) c.args.bid.member c.args.item) c.args.bid.maximum = c.better-best.ensures ∙ ap (λ (b : OwnBest). with_bid b c.args.bid.maximum) report in
    let key : c.new-key.result ≡ pair_key c.args.bid.member c.args.item = rw (c.from.ensures, c.from-2.ensures) at c.new-key.ensures in
    let changed : rows_of c.update.new.blocks.items ≡ map (bettered (pair_key c.args.bid.member c.args.item) c.better-best.result) (rows_of c.open_tally.new.tallies.items) =
    subst (λ (k : Key). rows_of c.update.new.blocks.items ≡ map (bettered k c.better-best.result) (rows_of c.open_tally.new.tallies.items)) key c.update.ensures.rows in
    record {
      bids_blocked = c.put.ensures.blocked;
      tallies_blocked = c.update.ensures.blocked;
      report = λ m i.
          ap (λ (ts : List Tally). tally_in ts m i) changed
          ∙ report_after (record { item = c.args.item; bid = c.args.bid }) (rows_of c.args.bids.now.items) (rows_of c.open_tally.new.tallies.items) c.better-best.result
          (rows_in_order bid_key c.args.bids.now.items c.requires.bids_blocked) (λ m' i'. c.open_tally.ensures.same m' i' ∙ c.requires.report m' i') c.in-Ok.ensures.there better m i
          ∙ ap (λ (rows : List BidRow). best_among rows m i) (sym (rw c.in_default-put.is at c.put.ensures.made.ok));
    }

pub returns-in_default-clause-made : goal.returns-in_default-clause-made
returns-in_default-clause-made c = unplaced _ _ _ _ _ (rw c.deref.ensures.value at c.fault.ensures) refl

pub returns-in-Err-clause-made : goal.returns-in-Err-clause-made
returns-in-Err-clause-made c = rw (c.in-Err.is, any_named c.args.item c.args.bid.no (rows_of c.args.bids.now.items)) at c.put.ensures.made

pub returns-clause-made : goal.returns-clause-made
returns-clause-made c = rw (c.in_default-put.is, any_named c.args.item c.args.bid.no (rows_of c.args.bids.now.items)) at c.put.ensures.made
