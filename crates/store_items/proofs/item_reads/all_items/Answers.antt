use Rattle.std.proofs.Common.{◌≡◌, ◌∙◌, ap, arith, rules, List, map, subst, sym}
use Rattle.sqlite.specs.Held.{state}
use Rattle.house_rows.specs.Keeping.{IsKeptRowBy}
use Rattle.house_rows.specs.Tables.{ItemRow}
use Rattle.store_rows.specs.ItemRows.{item_by, items_in, row_by}
use Rattle.std.specs.List.{AllByRecursion}
use Rattle.store_rows.specs.Rows.{reserves_in}
use Rattle.store_rows.proofs.StateLemmas.{ok_then}
use Rattle.store_items.proofs.ItemMeaning.{all_items_is}
use Rattle.store_items.proofs.ConsistentRows.{all_whole, ok_as}
use Rattle.store_items.proofs.ItemLemmas.{items_answer, whole_answer}
use Rattle.store_items.specs.Standing.{ItemHolds}
use Rattle.store_items.proofs.Holding.{items_hold}
use Rattle.store_rows.proofs.ReservesServing.{serves}
use Rattle.store_items.proofs.item_reads.all_items.Goals as goal

pub rows_shown-requires-clause-serves : goal.rows_shown-requires-clause-serves
rows_shown-requires-clause-serves g c = serves c.args.rules.now.reserves (state g.S.Store c.args.conn.now) c.requires

pub rows_shown-requires-clause-plain : goal.rows_shown-requires-clause-plain
rows_shown-requires-clause-plain g c = λ b. (all_items_is b).2

pub returns-clause-finds : goal.returns-clause-finds
returns-clause-finds g c =
    let old = state g.S.Store c.args.conn.now in
    let new = state g.S.Store c.rows_shown.new.conn in
    let editions = c.args.rules.now.editions in
    let items = c.in_ok-rows.rows.items in
    let same : c.deref.result.now ≡ items = search rules in
    record {
      value = λ clean. (
          let known = (c.requires (omega (arith, c.rows_shown.ensures.read.crash.clean, clean))).2 in
          let found = items_answer old new items (c.rows_shown.ensures.house clean) (c.in_ok-rows.ensures.rows clean) in
          ok_then c.item_list.result c.item_list.ensures.value (λ _ e. e ∙ ap (λ rs. map (item_by rs) c.deref.result.now) known ∙ ap (map (item_by (reserves_in old.now.trees))) same ∙ found));
      damaged = λ clean fits. (
          let known = (c.requires (omega (arith, c.rows_shown.ensures.read.crash.clean, clean))).2 in
          let hold = items_hold old new items (c.rows_shown.ensures.house clean) editions fits (c.in_ok-rows.ensures.rows clean) in
          c.item_list.ensures.damaged (subst (λ rs. AllByRecursion (ItemHolds editions rs) c.deref.result.now) (sym known) (subst (AllByRecursion (ItemHolds editions (reserves_in old.now.trees))) (sym same) hold)));
      read = search rules;
    }

pub returns-clause-kept : goal.returns-clause-kept
returns-clause-kept g c = λ clean.
    let old = state g.S.Store c.args.conn.now in
    let new = state g.S.Store c.rows_shown.new.conn in
    let items = c.in_ok-rows.rows.items in
    let same : c.deref.result.now ≡ items = search rules in
    let known = (c.requires (omega (arith, c.rows_shown.ensures.read.crash.clean, clean))).2 in
    let found = whole_answer old new items (c.rows_shown.ensures.house clean) (c.in_ok-rows.ensures.rows clean) in
    let whole = ap (λ rs. map (row_by rs) c.deref.result.now) known ∙ ap (map (row_by (reserves_in old.now.trees))) same ∙ found in
    ok_as c.item_list.result c.item_list.ensures.kept (λ kept.
    all_whole (IsKeptRowBy c.args.rules.now.editions) (items_in old.now.trees)
    (subst (λ (l : List ItemRow). AllByRecursion (IsKeptRowBy c.args.rules.now.editions) l) whole kept))
