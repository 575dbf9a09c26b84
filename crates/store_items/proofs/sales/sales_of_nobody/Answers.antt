use Rattle.std.proofs.Common.{◌∙◌, refl, rules}
use Rattle.std.specs.List.{list_any}
use Rattle.sqlite.specs.Held.{state}
use Rattle.settle.specs.Statement.{is_party}
use Rattle.house_rows.specs.Pages.{sale_of}
use Rattle.store_items.proofs.PartySales.{no_sales_found}
use Rattle.store_items.proofs.ConsistentRows.{all_fit, items_are_consistent, those_are_kept}
use Rattle.store_items.proofs.sales.sales_of_nobody.Goals as goal

pub returns-in_err-all_items-clause-finds : goal.returns-in_err-all_items-clause-finds
returns-in_err-all_items-clause-finds g c = record {
  value = search rules;
  damaged = λ clean fit is. c.in_err-all_items.ensures.finds.damaged clean (all_fit c.args.rules.now.editions (state g.S.Store c.args.conn.now).now.trees 0 fit refl) (search rules);
  read = search rules;
}

pub returns-clause-finds : goal.returns-clause-finds
returns-clause-finds g c = record {
  value = λ clean. (
      let db = (state g.S.Store c.args.conn.now).now in
      let items = c.in_ok-all_items.field-0.items in
      let are = c.in_ok-all_items.ensures.finds.value clean in
      record {
        sales = c.new.ensures.items ∙ no_sales_found db items are c.in_ok-all_items.ensures.fits;
        is_consistent = items_are_consistent c.args.rules.now.editions db.trees (λ row. list_any (is_party 0) (sale_of row.item.terms)) items are c.in_ok-all_items.ensures.is_consistent;
        kept = those_are_kept c.args.rules.now.editions db.trees (λ row. list_any (is_party 0) (sale_of row.item.terms)) (c.in_ok-all_items.ensures.kept clean);
      });
  damaged = search rules;
  read = search rules;
}
