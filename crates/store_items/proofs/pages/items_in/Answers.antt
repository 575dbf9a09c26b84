use Rattle.std.proofs.Common.{◌∙◌, ap, filter, map, rules, subst, sym, take}
use Rattle.std.specs.List.{AllByRecursion}
use Rattle.sqlite.specs.Held.{state}
use Rattle.house_rows.specs.Fits.{ItemFits}
use Rattle.house_rows.specs.Tables.{ItemRow}
use Rattle.store_rows.specs.ItemRows as stored
use Rattle.store_rows.proofs.Both.{ok_both}
use Rattle.store_items.specs.LookUps.{PageFits, PageIsKept}
use Rattle.store_items.proofs.ConsistentRows.{ok_as}
use Rattle.store_items.proofs.ItemPages.{items_found, keeps_item}
use Rattle.store_items.proofs.pages.items_in.Goals as goal

pub returns-clause-finds : goal.returns-clause-finds
returns-clause-finds g c =
    let db = (state g.S.Store c.args.conn.now).now.trees in
    record {
      value = λ clean. (
          ok_both c.items_from.result (c.items_from.ensures.finds.value clean) c.items_from.ensures.fits (λ items e fits.
          let bounded = e ∙ ap (λ b. take 50 (filter (keeps_item c.args.category b) (map (λ (row : ItemRow). row.item) (stored.items_in db)))) c.bound_of.ensures in
          bounded ∙ items_found c.args.category c.args.from db (subst (AllByRecursion ItemFits) bounded fits)));
      damaged = λ clean fits. c.items_from.ensures.finds.damaged clean (subst (λ begin. PageFits c.args.rules.now.editions c.args.category begin db) (sym c.bound_of.ensures) fits);
      read = search rules;
    }

pub returns-clause-kept : goal.returns-clause-kept
returns-clause-kept g c = λ clean.
    let db = (state g.S.Store c.args.conn.now).now.trees in
    ok_as c.items_from.result (c.items_from.ensures.kept clean) (subst (λ begin. PageIsKept c.args.rules.now.editions c.args.category begin db) c.bound_of.ensures)
