use Rattle.std.proofs.Common.{◌≡◌, ◌<◌, ◌^◌, ◌∙◌, ap, arith, rules, slice_get, option_map, subst, sym, IfSome, Option, find}
use Rattle.sqlite.specs.Held.{state}
use Rattle.house_rows.specs.Changed.{is_item}
use Rattle.house_rows.specs.Keeping.{IsKeptRowBy}
use Rattle.house_rows.specs.Tables.{ItemRow}
use Rattle.store_rows.specs.ItemRows.{item_by, items_in, row_by}
use Rattle.store_rows.specs.Rows.{reserves_in}
use Rattle.store_rows.proofs.StateLemmas.{ok_then}
use Rattle.store_items.proofs.ItemMeaning.{item_at_is}
use Rattle.store_items.proofs.ConsistentRows.{ok_as, some_whole}
use Rattle.store_items.proofs.ItemLemmas.{first_item, first_whole}
use Rattle.store_items.specs.Standing.{ItemHolds}
use Rattle.store_items.proofs.Holding.{item_here}
use Rattle.store_rows.proofs.ReservesServing.{serves}
use Rattle.store_items.proofs.item_reads.item_at.Goals as goal

pub rows_shown-requires-clause-serves : goal.rows_shown-requires-clause-serves
rows_shown-requires-clause-serves g c = serves c.args.rules.now.reserves (state g.S.Store c.args.conn.now) c.requires

pub rows_shown-requires-clause-plain : goal.rows_shown-requires-clause-plain
rows_shown-requires-clause-plain g c = λ b. (item_at_is b).2

pub returns-clause-finds : goal.returns-clause-finds
returns-clause-finds g c =
    let old = state g.S.Store c.args.conn.now in
    let new = state g.S.Store c.rows_shown.new.conn in
    let editions = c.args.rules.now.editions in
    let items = c.in_ok-rows.rows.items in
    let same : c.deref.result.now ≡ items = search rules in
    let low : c.args.number < 2 ^ 32 = omega (arith, c.ranges.number) in
    record {
      value = λ clean. (
          let known = (c.requires (omega (arith, c.rows_shown.ensures.read.crash.clean, clean))).2 in
          let shown = rw c.params-to_sql.ensures at (c.in_ok-rows.ensures.rows clean) in
          let found = first_item old new items (c.rows_shown.ensures.house clean) c.args.number low shown in
          ok_then c.first_item.result c.first_item.ensures.value (λ _ e. e ∙ ap (λ rs. option_map (item_by rs) (slice_get c.deref.result.now 0)) known ∙ ap (λ l. option_map (item_by (reserves_in old.now.trees)) (slice_get l 0)) same ∙ found));
      damaged = λ clean fits. (
          let known = (c.requires (omega (arith, c.rows_shown.ensures.read.crash.clean, clean))).2 in
          let shown = rw c.params-to_sql.ensures at (c.in_ok-rows.ensures.rows clean) in
          let holds = item_here old new items (c.rows_shown.ensures.house clean) editions c.args.number low shown fits in
          c.first_item.ensures.damaged (subst (λ rs. IfSome (slice_get c.deref.result.now 0) (ItemHolds editions rs)) (sym known) (subst (λ l. IfSome (slice_get l 0) (ItemHolds editions (reserves_in old.now.trees))) (sym same) holds)));
      read = search rules;
    }

pub returns-clause-kept : goal.returns-clause-kept
returns-clause-kept g c = λ clean.
    let old = state g.S.Store c.args.conn.now in
    let new = state g.S.Store c.rows_shown.new.conn in
    let items = c.in_ok-rows.rows.items in
    let same : c.deref.result.now ≡ items = search rules in
    let low : c.args.number < 2 ^ 32 = omega (arith, c.ranges.number) in
    let known = (c.requires (omega (arith, c.rows_shown.ensures.read.crash.clean, clean))).2 in
    let shown = rw c.params-to_sql.ensures at (c.in_ok-rows.ensures.rows clean) in
    let found = first_whole old new items (c.rows_shown.ensures.house clean) c.args.number low shown in
    let whole = ap (λ rs. option_map (row_by rs) (slice_get c.deref.result.now 0)) known ∙ ap (λ l. option_map (row_by (reserves_in old.now.trees)) (slice_get l 0)) same ∙ found in
    ok_as c.first_item.result c.first_item.ensures.kept (λ kept.
    some_whole (IsKeptRowBy c.args.rules.now.editions) (find (is_item c.args.number) (items_in old.now.trees))
    (subst (λ (o : Option ItemRow). IfSome o (IsKeptRowBy c.args.rules.now.editions)) whole kept))
