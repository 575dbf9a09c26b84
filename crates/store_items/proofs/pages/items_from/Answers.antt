use Rattle.std.proofs.Common.{◌≡◌, ◌<◌, ◌^◌, ◌∙◌, ap, arith, filter, rules, List, map, subst, sym, take}
use Rattle.std.specs.List.{AllByRecursion}
use Rattle.sqlite.specs.Held.{state}
use Rattle.store_items.specs.Standing.{ItemHolds}
use Rattle.house_rows.specs.Keeping.{IsKeptRowBy}
use Rattle.house_rows.specs.Tables.{ItemRow}
use Rattle.store_rows.specs.ItemRows.{item_by, items_in, row_by}
use Rattle.store_rows.specs.Rows.{reserves_in}
use Rattle.store_rows.proofs.StateLemmas.{ok_then}
use Rattle.store_items.proofs.ConsistentRows.{ok_as, take_whole}
use Rattle.store_items.proofs.ItemPages.{items_is, items_finite, items_shown, keeps_item, no_stray_shown, shown_held, stray_items_is, stray_items_finite, whole_shown}
use Rattle.store_rows.proofs.ReservesServing.{serves}
use Rattle.store_items.proofs.pages.items_from.Goals as goal

pub page_rows-requires-clause-serves : goal.page_rows-requires-clause-serves
page_rows-requires-clause-serves g c = serves c.args.rules.now.reserves (state g.S.Store c.args.conn.now) c.requires

pub page_rows-requires-clause-plain : goal.page_rows-requires-clause-plain
page_rows-requires-clause-plain g c = λ b. (items_is b).2

pub page_rows-requires-clause-finite : goal.page_rows-requires-clause-finite
page_rows-requires-clause-finite g c = items_finite

pub page_rows-requires-clause-strays_plain : goal.page_rows-requires-clause-strays_plain
page_rows-requires-clause-strays_plain g c = λ b. (stray_items_is b).2

pub page_rows-requires-clause-strays_finite : goal.page_rows-requires-clause-strays_finite
page_rows-requires-clause-strays_finite g c = stray_items_finite

pub returns-clause-finds : goal.returns-clause-finds
returns-clause-finds g c =
    let old = state g.S.Store c.args.conn.now in
    let new = state g.S.Store c.page_rows.new.conn in
    let editions = c.args.rules.now.editions in
    let rows = c.in_ok-rows.rows.items in
    let same : c.deref.result.now ≡ rows = search rules in
    let category_low : c.args.category < 2 ^ 32 = omega (arith, c.ranges.category) in
    let from_low : c.args.from < 2 ^ 32 = omega (arith, c.ranges.from) in
    record {
      value = λ clean. (
          let known = (c.requires (omega (arith, c.page_rows.ensures.read.crash.clean, clean))).2 in
          let none = rw c.params-to_sql.ensures at (c.in_ok-rows.ensures.no_stray clean) in
          let first = rw (c.params-to_sql-2.ensures, c.params-to_sql-3.ensures) at (c.in_ok-rows.ensures.rows clean) in
          let found = items_shown c.args.category c.args.from category_low from_low old new (c.page_rows.ensures.house clean) rows none first in
          ok_then c.item_list.result c.item_list.ensures.value (λ _ e. e ∙ ap (λ rs. map (item_by rs) c.deref.result.now) known ∙ ap (map (item_by (reserves_in old.now.trees))) same ∙ found));
      damaged = λ clean fits. (
          let known = (c.requires (omega (arith, c.page_rows.ensures.read.crash.clean, clean))).2 in
          let none = rw c.params-to_sql.ensures at (c.in_ok-rows.ensures.no_stray clean) in
          let first = rw (c.params-to_sql-2.ensures, c.params-to_sql-3.ensures) at (c.in_ok-rows.ensures.rows clean) in
          let held = shown_held c.args.category c.args.from category_low from_low old new (c.page_rows.ensures.house clean) rows none first editions fits in
          c.item_list.ensures.damaged (subst (λ rs. AllByRecursion (ItemHolds editions rs) c.deref.result.now) (sym known) (subst (AllByRecursion (ItemHolds editions (reserves_in old.now.trees))) (sym same) held)));
      read = search rules;
    }

pub returns-in_err-rows-clause-finds : goal.returns-in_err-rows-clause-finds
returns-in_err-rows-clause-finds g c = record {
  value = search rules;
  damaged = λ clean fits is. (
      let category_low : c.args.category < 2 ^ 32 = omega (arith, c.ranges.category) in
      let from_low : c.args.from < 2 ^ 32 = omega (arith, c.ranges.from) in
      let some = rw c.params-to_sql.ensures at (c.page_rows.ensures.damaged clean (search rules)) in
      no_stray_shown c.args.category c.args.from category_low from_low (state g.S.Store c.args.conn.now) (state g.S.Store c.page_rows.new.conn) (c.page_rows.ensures.house clean) some c.args.rules.now.editions fits);
  read = search rules;
}

pub returns-clause-kept : goal.returns-clause-kept
returns-clause-kept g c = λ clean.
    let old = state g.S.Store c.args.conn.now in
    let new = state g.S.Store c.page_rows.new.conn in
    let rows = c.in_ok-rows.rows.items in
    let same : c.deref.result.now ≡ rows = search rules in
    let category_low : c.args.category < 2 ^ 32 = omega (arith, c.ranges.category) in
    let from_low : c.args.from < 2 ^ 32 = omega (arith, c.ranges.from) in
    let known = (c.requires (omega (arith, c.page_rows.ensures.read.crash.clean, clean))).2 in
    let none = rw c.params-to_sql.ensures at (c.in_ok-rows.ensures.no_stray clean) in
    let first = rw (c.params-to_sql-2.ensures, c.params-to_sql-3.ensures) at (c.in_ok-rows.ensures.rows clean) in
    let found = whole_shown c.args.category c.args.from category_low from_low old new (c.page_rows.ensures.house clean) rows none first in
    let whole = ap (λ rs. map (row_by rs) c.deref.result.now) known ∙ ap (map (row_by (reserves_in old.now.trees))) same ∙ found in
    ok_as c.item_list.result c.item_list.ensures.kept (λ kept.
    take_whole (IsKeptRowBy c.args.rules.now.editions) 50 (filter (λ (row : ItemRow). keeps_item c.args.category c.args.from row.item) (items_in old.now.trees))
    (subst (λ (l : List ItemRow). AllByRecursion (IsKeptRowBy c.args.rules.now.editions) l) whole kept))
