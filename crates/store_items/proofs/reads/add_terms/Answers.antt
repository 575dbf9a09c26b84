use Rattle.std.proofs.Common.{◌∙◌, subst, sym}
use Rattle.house_rows.specs.declared.auction.Auction.{Auction}
use Rattle.house_rows.specs.declared.item.Terms.{Terms}
use Rattle.house_rows.specs.Fits.{TermsFit}
use Rattle.house_rows.specs.Keeping.{IsConsistentBy, IsKeptItemBy}
use Rattle.store_items.proofs.ConsistentRows.{ok_so, pushed}
use Rattle.store_items.proofs.StandingLemmas.{auction_reported}
use Rattle.store_items.proofs.reads.add_terms.Goals as goal

pub returns-clause-is_consistent : goal.returns-clause-is_consistent
returns-clause-is_consistent c = pushed (λ (it : Terms). IsConsistentBy c.args.rules.now.editions it) c.push.result c.args.all.now.items _ c.in_ok-auction.auction.terms c.push.ensures.ok c.in_ok-auction.ensures.is_consistent

pub returns-clause-shown : goal.returns-clause-shown
returns-clause-shown c =
    let terms = c.in_ok-terms.ensures.value in
    let fits = subst TermsFit terms c.in_ok-terms.ensures.fits in
    let reported = rw (terms, c.in_ok-top.ensures.value, c.in_ok-second.ensures.value) at c.in_ok-auction.ensures.value in
    ok_so c.push.result (subst (λ (a : Auction). IsKeptItemBy c.args.rules.now.editions a.terms a.standing) (reported ∙ sym (auction_reported c.args.rules.now.reserves c.args.row.now fits)) c.in_ok-auction.ensures.kept)
