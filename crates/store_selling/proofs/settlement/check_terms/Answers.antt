use Rattle.std.proofs.Common.{◌<◌, ◌^◌, arith, rules}
use Rattle.sqlite.specs.Held.{state}
use Rattle.store_items.proofs.Auctions.{terms_found}
use Rattle.store_selling.proofs.Unbid.{start_checked}
use Rattle.store_items.proofs.ConsistentRows.{has_standing_item}
use Rattle.store_selling.proofs.settlement.check_terms.Goals as goal

pub returns : goal.returns
returns g c = record {
  value = λ clean. (
      let db = (state g.S.Store c.args.conn.now).now in
      let before = c.requires.serves (omega (arith, c.auction_seen.ensures.read.crash.clean, clean)) in
      let low : c.args.item < 2 ^ 32 = omega (arith, c.ranges.item) in
      let auction = c.in_ok-auction_seen.field-0 in
      let known = c.in_ok-auction_seen.ensures.value clean in
      let found = terms_found _ auction known.found in
      record {
        there = has_standing_item c.args.rules.now.editions db.trees c.args.item auction known.found known.fits known.is_consistent known.kept;
        fits = start_checked db before.1 c.args.item low auction.terms found known.fits;
      });
  damaged = search rules;
  read = search rules;
}
