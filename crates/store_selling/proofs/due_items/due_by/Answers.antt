use Rattle.std.proofs.Common.{◌≡◌, ◌∙◌, ap, not, rules}
use Rattle.sqlite.specs.Held.{state}
use Rattle.house_rows.specs.History.{counted}
use Rattle.house_rows.specs.Items.{close_sells, is_due}
use Rattle.store_selling.proofs.Counted.{due_terms_are}
use Rattle.store_items.proofs.ConsistentRows.{terms_are_consistent}
use Rattle.store_selling.proofs.due_items.due_by.Goals as goal

pub returns : goal.returns
returns g c = record {
  value = λ clean. (
      let db = (state g.S.Store c.args.conn.now).now.trees in
      let due = c.in_ok-due.due.items in
      let same : c.deref.result.now ≡ due = search rules in
      let are = c.in_ok-due.ensures.finds.value clean in
      record {
        counts = due_terms_are db c.args.moment due are c.counts_of.result
            (c.counts_of.ensures.sold ∙ ap (counted (λ t. close_sells t.leader t.met)) same)
            (c.counts_of.ensures.unsold ∙ ap (counted (λ t. not (close_sells t.leader t.met))) same);
        is_consistent = terms_are_consistent c.args.rules.now.editions db (λ row. is_due c.args.moment row.item.terms) due are c.in_ok-due.ensures.is_consistent;
        kept = c.in_ok-due.ensures.kept clean;
      });
  damaged = search rules;
  read = search rules;
}
