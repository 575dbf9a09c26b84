use Rattle.std.proofs.Common.{◌∙◌, ap, rules, subst, sym}
use Rattle.sqlite.specs.Effect.{Database}
use Rattle.sqlite.specs.Held.{state}
use Rattle.house_rows.specs.Found.{best_of}
use Rattle.store_rows.specs.Tables.{tables_in}
use Rattle.store_bids.specs.Listed.{OwnBidsFit}
use Rattle.store_bids.proofs.OwnBidItems.{bid_found}
use Rattle.store_bids.proofs.InTurn.{items_are}
use Rattle.store_bids.proofs.BidStanding.{bid_is_consistent}
use Rattle.store_items.proofs.ConsistentRows.{terms_in}
use Rattle.store_rows.proofs.Steps.{clean_before}
use Rattle.store_rows.proofs.ReservesServing.{serves, serves_still}
use Rattle.store_bids.proofs.bid_lists.own_bid_at.Goals as goal

pub own_best-requires : goal.own_best-requires
own_best-requires g c =
    let old = state g.S.Store c.args.conn.now in
    let mid = state g.S.Store c.terms_at.new.conn in
    serves c.args.rules.now.reserves mid (serves_still c.args.rules.now.reserves old mid c.terms_at.ensures.finds.read.crash c.in_ok-terms.ensures.finds.read.same c.requires)

pub returns-in_err-terms-clause-finds : goal.returns-in_err-terms-clause-finds
returns-in_err-terms-clause-finds g c = record {
  value = search rules;
  damaged = λ clean fits is. c.in_err-terms.ensures.finds.damaged clean (rw (items_are (state g.S.Store c.args.conn.now).now.trees) fits.row) (search rules);
  read = search rules;
}

pub returns-in_err-best-clause-finds : goal.returns-in_err-best-clause-finds
returns-in_err-best-clause-finds g c = record {
  value = search rules;
  damaged = λ clean fits is. (
      let mid = state g.S.Store c.terms_at.new.conn in
      let before = clean_before mid (state g.S.Store c.own_best.new.conn) c.own_best.ensures.read.crash clean in
      let same = (c.in_ok-terms.ensures.finds.read.same before).0.now_is in
      let here = subst (λ (db : Database). OwnBidsFit c.args.member c.args.item (tables_in db.trees).bids) (sym same) fits.bids in
      c.own_best.ensures.damaged clean here (search rules));
  read = search rules;
}

pub returns-clause-finds : goal.returns-clause-finds
returns-clause-finds g c = record {
  value = λ clean. (
      let editions = c.args.rules.now.editions in
      let db = (state g.S.Store c.args.conn.now).now.trees in
      let before = clean_before (state g.S.Store c.terms_at.new.conn) (state g.S.Store c.own_best.new.conn) c.own_best.ensures.read.crash clean in
      let same = (c.in_ok-terms.ensures.finds.read.same before).0.now_is in
      let terms = c.in_ok-terms.ensures.finds.value before in
      let best = c.in_ok-best.ensures.value clean ∙ ap (λ (db : Database). best_of (tables_in db.trees) c.args.member c.args.item) same in
      let found = c.own_bid.ensures.value ∙ bid_found db c.args.member c.args.item c.in_ok-terms.terms c.in_ok-best.best terms best in
      record {
        value = found;
        is_consistent = bid_is_consistent editions db c.args.member c.args.item c.own_bid.result found (record {
          is_consistent = terms_in editions db c.args.item c.in_ok-terms.terms terms c.in_ok-terms.ensures.is_consistent;
          kept = c.in_ok-terms.ensures.kept before;
        });
      });
  damaged = search rules;
  read = search rules;
}
