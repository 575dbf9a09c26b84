use Rattle.std.proofs.Common.{find}
use Rattle.sqlite.specs.Held.{state}
use Rattle.house_rows.specs.Changed.{is_item}
use Rattle.store_rows.specs.ItemRows.{items_in}
use Rattle.store_items.proofs.Auctions.{row_is_kept}
use Rattle.store_items.proofs.item_reads.terms_at.Goals as goal

pub returns-in-Some-clause-kept : goal.returns-in-Some-clause-kept
returns-in-Some-clause-kept g c = λ clean.
    let db = (state g.S.Store c.args.conn.now).now.trees in
    row_is_kept c.args.rules.now.editions (find (is_item c.args.number) (items_in db)) _ (c.in_ok-auction.ensures.finds.value clean) c.in_ok-auction.ensures.kept

pub returns-in-None-clause-kept : goal.returns-in-None-clause-kept
returns-in-None-clause-kept g c = λ clean.
    let db = (state g.S.Store c.args.conn.now).now.trees in
    row_is_kept c.args.rules.now.editions (find (is_item c.args.number) (items_in db)) _ (c.in_ok-auction.ensures.finds.value clean) c.in_ok-auction.ensures.kept
