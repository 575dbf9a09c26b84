use Rattle.std.proofs.Common.{◌<◌, ◌^◌, ◌∙◌, ap, arith, filter, List, rules, sym, subst}
use Rattle.std.specs.List.{AllByRecursion}
use Rattle.sqlite.specs.Held.{state}
use Rattle.house_rows.specs.Found.{due_at}
use Rattle.house_rows.specs.Items.{is_due}
use Rattle.house_rows.specs.Keeping.{FitsBy, IsConsistentBy, IsKeptRowBy}
use Rattle.house_rows.specs.Tables.{ItemRow}
use Rattle.store_rows.specs.ItemRows.{items_in}
use Rattle.store_rows.specs.Tables.{tables_in}
use Rattle.store_rows.proofs.StateLemmas.{ok_then}
use Rattle.store_items.specs.LookUps.{ItemsFitBy}
use Rattle.store_selling.specs.LookUps.{IsDueAt}
use Rattle.store_selling.proofs.DueBound.{due_found, due_rows, due_where}
use Rattle.store_selling.proofs.due_items.due.Goals as goal

pub returns : goal.returns
returns g c =
    let low : c.args.moment < 2 ^ 64 = omega (arith, c.ranges.moment) in
    let db = (state g.S.Store c.args.conn.now).now.trees in
    let Stand = λ (rows : List ItemRow). AllByRecursion (λ (row : ItemRow). IsConsistentBy c.args.rules.now.editions row.item.terms) rows in
    let Keeps = λ (rows : List ItemRow). AllByRecursion (IsKeptRowBy c.args.rules.now.editions) rows in
    record {
      value = λ clean. (
          ok_then {P = IsDueAt c.args.rules.now.editions c.bound_of.result db} c.due_by.result (c.due_by.ensures.value clean) (λ due is. record {
            counts = is.counts ∙ ap (due_at (tables_in db)) c.bound_of.ensures ∙ due_found c.args.moment low db;
            is_consistent = subst Stand (ap (λ m. filter (λ (row : ItemRow). is_due m row.item.terms) (items_in db)) c.bound_of.ensures ∙ due_rows c.args.moment low db) is.is_consistent;
            kept = subst Keeps (ap (λ m. filter (λ (row : ItemRow). is_due m row.item.terms) (items_in db)) c.bound_of.ensures ∙ due_rows c.args.moment low db) is.kept;
          }));
      damaged = λ clean fits. (
          c.due_by.ensures.damaged clean (subst (λ m. ItemsFitBy c.args.rules.now.editions (λ (row : ItemRow). is_due m row.item.terms) db) (sym c.bound_of.ensures)
          (due_where c.args.moment low db (FitsBy c.args.rules.now.editions) fits)));
      read = search rules;
    }
