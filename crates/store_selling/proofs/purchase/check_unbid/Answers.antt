use Rattle.std.proofs.Common.{◌<◌, ◌^◌, arith, rules, sym, ◌∙◌, true≢false}
use Rattle.sqlite.specs.Held.{state}
use Rattle.store_selling.proofs.Unbid.{purchase_unbid, unbid_checked}
use Rattle.store_items.proofs.ConsistentRows.{has_standing_item}
use Rattle.store_selling.proofs.purchase.check_unbid.Goals as goal

pub returns-in_err-auction : goal.returns-in_err-auction
returns-in_err-auction g c = record {
  value = search rules;
  damaged = λ clean fit is. c.in_err-auction.ensures.damaged clean (record { row = fit.row; there = (fit.purchase.row, fit.purchase.row_there) }) (search rules);
  read = search rules;
}

pub returns-then-is_unbid : goal.returns-then-is_unbid
returns-then-is_unbid g c = record {
  value = λ clean. (
      let db = (state g.S.Store c.args.conn.now).now in
      let before = c.requires.serves (omega (arith, c.auction_seen.ensures.read.crash.clean, clean)) in
      let low : c.args.item < 2 ^ 32 = omega (arith, c.ranges.item) in
      let auction = c.in_ok-auction.auction in
      let known = c.in_ok-auction.ensures.value clean in
      record {
        there = has_standing_item c.args.rules.now.editions db.trees c.args.item auction known.found known.fits known.is_consistent known.kept;
        unbid = unbid_checked db before.1 c.args.item low auction known.found known.fits (sym c.is_unbid.ensures ∙ c.if-is_unbid.true);
      });
  damaged = search rules;
  read = search rules;
}

pub returns-else-is_unbid : goal.returns-else-is_unbid
returns-else-is_unbid g c = record {
  value = search rules;
  damaged = λ clean fit _. (
      let is = purchase_unbid (state g.S.Store c.args.conn.now).now.trees c.args.rules.now.editions fit.moment c.args.item fit.buyer fit.price c.in_ok-auction.auction fit.row fit.purchase (c.in_ok-auction.ensures.value clean).found in
      true≢false (sym is ∙ sym c.is_unbid.ensures ∙ c.if-is_unbid.false));
  read = search rules;
}
