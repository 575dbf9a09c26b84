use Rattle.std.proofs.Common.{◌≡◌, Err, ap, find, rules, sym, ◌∙◌}
use Rattle.sqlite.specs.Held.{state}
use Rattle.house_rows.specs.Changed.{is_item}
use Rattle.house_rows.specs.Found.{auction_of}
use Rattle.house_rows.specs.declared.fault.KeepFault.TheVariants.{Damaged}
use Rattle.store_rows.specs.ItemRows.{items_in}
use Rattle.store_items.proofs.Rows.{item_there, none_whole}
use Rattle.store_items.proofs.item_reads.auction_there.Goals as goal

pub returns-in-Ok-None-clause-finds : goal.returns-in-Ok-None-clause-finds
returns-in-Ok-None-clause-finds g c = record {
  value = search rules;
  damaged = λ clean fit _. (
      let db = (state g.S.Store c.args.conn.now).now.trees in
      none_whole auction_of (find (is_item c.args.item) (items_in db)) fit.there.0 (item_there db c.args.item fit.there.0 fit.there.1) (sym c.in-Ok-None.field-0-is ∙ c.in-Ok-None.ensures.finds.value clean));
  read = search rules;
}

pub returns-in-Err-clause-finds : goal.returns-in-Err-clause-finds
returns-in-Err-clause-finds g c = record {
  value = search rules;
  damaged = λ clean fit is. c.in-Err.ensures.finds.damaged clean fit.row (let e : c.in-Err.fault ≡ Damaged = cc in ap Err e);
  read = search rules;
}
