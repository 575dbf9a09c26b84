use Rattle.std.proofs.Common.{rules}
use Rattle.std.specs.Prelude.{IfOk}
use Rattle.std.specs.List.{AllByRecursion}
use Rattle.sqlite.specs.Held.{state}
use Rattle.house_rows.specs.Fits.{TermsFit}
use Rattle.house_rows.specs.Items.{is_due}
use Rattle.house_rows.specs.Keeping.{IsConsistentBy}
use Rattle.house_rows.specs.Tables.{ItemRow}
use Rattle.store_rows.proofs.Both.{ok_both}
use Rattle.store_items.specs.ConsistentRows.{RowsAreKept}
use Rattle.store_items.proofs.ConsistentRows.{terms_fit, terms_are_consistent}
use Rattle.store_selling.proofs.auction_end.find_due.Goals as goal

pub returns : goal.returns
returns g c = record {
  value = λ clean. (
      let db = (state g.S.Store c.args.conn.now).now.trees in
      let editions = c.args.rules.now.editions in
      let test = λ (row : ItemRow). is_due c.args.moment row.item.terms in
      let both : IfOk c.due_terms.result (λ due. AllByRecursion TermsFit due.items × AllByRecursion (IsConsistentBy editions) due.items) =
      ok_both c.due_terms.result c.due_terms.ensures.fits c.due_terms.ensures.is_consistent (λ due fit stand. (fit, stand)) in
      let all : IfOk c.due_terms.result (λ due. AllByRecursion TermsFit due.items × AllByRecursion (IsConsistentBy editions) due.items × RowsAreKept editions (λ (row : ItemRow). is_due c.args.moment row.item.terms) db) =
      ok_both c.due_terms.result both (c.due_terms.ensures.kept clean) (λ due two kept. (two.0, two.1, kept)) in
      ok_both c.due_terms.result (c.due_terms.ensures.finds.value clean) all (λ due are each. record {
        due = record { all = are; fits = each.0 };
        fits = terms_fit db test due.items are each.0;
        is_consistent = terms_are_consistent editions db test due.items are each.1;
        kept = each.2;
      }));
  damaged = search rules;
  read = search rules;
}
