use Rattle.std.proofs.Common.{subst, IsUtf8, arith}
use Rattle.store_rows.proofs.StateLemmas.{ok_then}
use Rattle.store_items.proofs.MaybeLemmas.{bound_maybe}
use Rattle.store_items.proofs.ItemLemmas.{IsStorable, adds_item}
use Rattle.store_items.proofs.item.put_item.Goals as goal

pub returns-clause-ok : goal.returns-clause-ok
returns-clause-ok g c clean =
    let house = c.run.ensures.house clean in
    let item = record c.args.item.now { end = c.args.end } in
    let lot = subst IsUtf8 c.stored_text-lot.ensures c.stored_text-lot.utf8 in
    let title = subst IsUtf8 c.stored_text-title.ensures c.stored_text-title.utf8 in
    let text = subst IsUtf8 c.stored_text-text.ensures c.stored_text-text.utf8 in
    let low : IsStorable c.args.number item = record {
      number_low = omega (arith, c.ranges.number);
      seller_low = c.stored_number-seller.ensures.small;
      category_low = c.stored_number-category.ensures.small;
      start_low = c.stored_cents-start.ensures.small;
      buy_now_low = c.stored_maybe_cents-buy_now.ensures.small;
      end_low = omega (arith, c.ranges.end);
    } in
    ok_then c.run.result (rw (
      c.params-to_sql.ensures,
      c.params-to_sql-2.ensures,
      c.params-to_sql-3.ensures,
      c.params-to_sql-4.ensures,
      c.params-to_sql-5.ensures,
      c.params-to_sql-6.ensures,
      c.params-to_sql-7.ensures,
      c.params-to_sql-8.ensures,
      c.params-to_sql-9.ensures,
      c.stored_text-lot.ensures,
      c.stored_text-title.ensures,
      c.stored_text-text.ensures,
      c.stored_number-seller.ensures.value,
      c.stored_number-category.ensures.value,
      c.stored_cents-start.ensures.value,
      c.stored_maybe_cents-buy_now.ensures.value,
      bound_maybe c.args.item.now.buy_now,
    ) at (c.run.ensures.ran clean))
    (λ _ ran. adds_item _ _ c.args.number item ran.0 low lot title text house ran.1)
