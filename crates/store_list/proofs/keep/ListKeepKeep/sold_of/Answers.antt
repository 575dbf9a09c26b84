use Rattle.std.proofs.Common.{◌≢◌, ◌≤◌, length, refl, subst, rules}
use Rattle.std.specs.Prelude.{All, AllPairs}
use Rattle.settle.specs.Statement.{IsSale}
use Rattle.settle.specs.declared.sale.Sold.{Sold}
use Rattle.house_rows.specs.Keeping.{AreSound}
use Rattle.house_rows.specs.Limits.{most_items}
use Rattle.store_list.proofs.Fitting.{ok_items, all_are_consistent, all_are_kept, ok_so}
use Rattle.store_list.proofs.Led.{leads_among, sold_led}
use Rattle.store_list.proofs.Parties.{sales_to_apart, sales_to_few, sales_to_fit}
use Rattle.store_list.proofs.keep.ListKeepKeep.sold_of.Goals as goal

pub sales_of-requires : goal.sales_of-requires
sales_of-requires c = record {
  complete = leads_among c.args.self.now c.self.inside.bids c.args.member c.deref.result.now c.self.inside.items (rw (← c.self.view_is) refl)
      (λ item mine. rw c.deref.ensures.value (c.in_ok-bid_on.ensures.value c.args.self.now item (rw (← c.self.view_is) refl) mine)) c.self.invariant.led;
  led = sold_led _ _ c.self.view_is c.self.invariant.sound;
}

pub returns-clause-answers : goal.returns-clause-answers
returns-clause-answers c = record {
  value = λ _. c.sales_of.ensures.value c.args.self.now (rw (← c.self.view_is) refl);
  faults = search rules;
  damaged = search rules;
  read = search rules;
}

pub returns-clause-fits : goal.returns-clause-fits
returns-clause-fits c = ok_items (λ xs. All IsSale xs) c.sales_of.result _ (c.sales_of.ensures.value c.args.self.now (rw (← c.self.view_is) refl))
    (sales_to_fit c.args.self.now c.args.member (subst AreSound c.self.view_is c.self.invariant.sound))

pub returns-clause-apart : goal.returns-clause-apart
returns-clause-apart c = ok_items (λ xs. AllPairs (λ (a : Sold) (b : Sold). a.item ≢ b.item) xs) c.sales_of.result _ (c.sales_of.ensures.value c.args.self.now (rw (← c.self.view_is) refl))
    (sales_to_apart c.args.self.now c.args.member (subst AreSound c.self.view_is c.self.invariant.sound))

pub returns-clause-few : goal.returns-clause-few
returns-clause-few c = ok_items (λ xs. length xs ≤ most_items) c.sales_of.result _ (c.sales_of.ensures.value c.args.self.now (rw (← c.self.view_is) refl))
    (sales_to_few c.args.self.now c.args.member (subst AreSound c.self.view_is c.self.invariant.sound))

pub returns-clause-is_consistent : goal.returns-clause-is_consistent
returns-clause-is_consistent c = λ _. ok_so c.sales_of.result (all_are_consistent c.args.self.now _ (subst AreSound c.self.view_is c.self.invariant.sound))

pub returns-clause-kept : goal.returns-clause-kept
returns-clause-kept c = λ _. ok_so c.sales_of.result (all_are_kept c.args.self.now _ (subst AreSound c.self.view_is c.self.invariant.sound))
