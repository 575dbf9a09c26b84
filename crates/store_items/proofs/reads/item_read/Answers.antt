use Rattle.std.proofs.Common.{◌∙◌, subst, sym}
use Rattle.house_rows.specs.Fits.{ItemFits, TermsFit}
use Rattle.house_rows.specs.Keeping.{IsKeptItemBy}
use Rattle.house_rows.specs.declared.auction.Auction.{Auction}
use Rattle.store_rows.specs.ItemRows.{terms_of}
use Rattle.store_items.proofs.StandingLemmas.{item_reported}
use Rattle.store_items.proofs.reads.item_read.Goals as goal

pub returns-clause-kept : goal.returns-clause-kept
returns-clause-kept c =
    let reserves = c.args.rules.now.reserves in
    let item = c.in_ok-item.ensures.value in
    let fits : TermsFit (terms_of c.args.row.now) = (subst ItemFits item c.in_ok-item.ensures.fits).terms in
    let reported = rw (item, c.in_ok-top.ensures.value, c.in_ok-second.ensures.value) at c.in_ok-auction.ensures.value in
    subst (λ (a : Auction). IsKeptItemBy c.args.rules.now.editions a.terms a.standing) (reported ∙ sym (item_reported reserves c.args.row.now fits)) c.in_ok-auction.ensures.kept
