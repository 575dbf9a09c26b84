use Rattle.std.proofs.Common.{◌≡◌, ◌<◌, ◌^◌, ◌∙◌, ap, arith, rules, slice_get, option_map, subst, sym, IfSome}
use Rattle.sqlite.specs.Held.{state}
use Rattle.sqlite_value.specs.Order.{column}
use Rattle.store_rows.specs.Rows.{number_in}
use Rattle.store_rows.proofs.StateLemmas.{ok_then}
use Rattle.store_items.proofs.ItemMeaning.{with_lot_is}
use Rattle.store_items.proofs.ItemLemmas.{first_with_lot}
use Rattle.store_items.proofs.item_reads.item_with_lot.Goals as goal

pub rows_shown-requires-clause-plain : goal.rows_shown-requires-clause-plain
rows_shown-requires-clause-plain g c = λ b. (with_lot_is b).2

pub returns : goal.returns
returns g c =
    let old = state g.S.Store c.args.conn.now in
    let new = state g.S.Store c.rows_shown.new.conn in
    let items = c.in_ok-rows.rows.items in
    let low : c.args.seller < 2 ^ 32 = omega (arith, c.ranges.seller) in
    let same : c.deref.result.now ≡ items = search rules in
    record {
      value = λ clean. (
          let shown = rw (c.params-to_sql.ensures, c.params-to_sql-2.ensures) at (c.in_ok-rows.ensures.rows clean) in
          let found = first_with_lot old new items (c.rows_shown.ensures.house clean) c.args.seller c.args.lot.now c.utf8.lot low shown in
          ok_then c.first_of.result c.first_of.ensures.value (λ _ e. e ∙ ap (λ l. option_map (λ r. number_in (column r 0)) (slice_get l 0)) same ∙ found));
      damaged = λ clean fits. (
          let shown = rw (c.params-to_sql.ensures, c.params-to_sql-2.ensures) at (c.in_ok-rows.ensures.rows clean) in
          let found = first_with_lot old new items (c.rows_shown.ensures.house clean) c.args.seller c.args.lot.now c.utf8.lot low shown in
          c.first_of.ensures.damaged (subst (λ o. IfSome o (λ n. n < 2 ^ 32)) (sym (ap (λ l. option_map (λ r. number_in (column r 0)) (slice_get l 0)) same ∙ found)) fits));
      read = search rules;
    }
