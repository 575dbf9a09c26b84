use Rattle.std.proofs.Common.{List, Bool, take, filter, map, rules, subst}
use Rattle.std.specs.Prelude.{◌==◌, ◌&&◌, nat_le}
use Rattle.std.specs.List.{AllByRecursion}
use Rattle.house_rows.specs.declared.item.Item.{Item}
use Rattle.house_rows.specs.Fits.{ItemFits}
use Rattle.house_rows.specs.Limits.{most_shown}
use Rattle.house_rows.specs.Tables.{ItemRow, Tables}
use Rattle.house_rows.specs.Taken.{start_of}
use Rattle.house_rows.specs.Keeping.{AreSound, IsKeptRow}
use Rattle.store_list.proofs.Fitting.{all_kept, filter_fits, items_fit, ok_items, ok_so, take_fits}
use Rattle.store_list.proofs.Fitting.{first_are_consistent, ok_items_are_consistent}
use Rattle.store_list.proofs.keep.ListKeepKeep.items_in.Goals as goal

pub returns-clause-answers : goal.returns-clause-answers
returns-clause-answers c = record {
  value = λ _. rw (← c.self.view_is) c.in_category.ensures.value;
  faults = search rules;
  damaged = search rules;
  read = search rules;
}

pub returns-clause-fits : goal.returns-clause-fits
returns-clause-fits c =
    let rows : List Item = map (λ (row : ItemRow). row.item) c.self.inside.items in
    let fits : AllByRecursion ItemFits rows = items_fit _ c.self.invariant.sound in
    let is_listed : Item → Bool = λ (it : Item). (it.terms.category == c.args.category) && nat_le c.args.from it.terms.item in
    let listed : List Item = filter is_listed rows in
    ok_items (λ xs. AllByRecursion ItemFits xs) c.in_category.result (take most_shown listed) c.in_category.ensures.value (take_fits ItemFits most_shown listed (filter_fits ItemFits is_listed rows fits))

pub returns-clause-is_consistent : goal.returns-clause-is_consistent
returns-clause-is_consistent c = λ _. ok_items_are_consistent _ _ c.self.view_is c.in_category.result _ c.in_category.ensures.value
    (first_are_consistent _ most_shown (λ (it : Item). (it.terms.category == c.args.category) && nat_le c.args.from it.terms.item) c.self.invariant.sound)

pub returns-clause-kept : goal.returns-clause-kept
returns-clause-kept c = λ _.
    let t : Tables = c.args.self.now in
    let keeps : ItemRow → Bool = λ (row : ItemRow). (row.item.terms.category == c.args.category) && nat_le (start_of c.args.from) row.item.terms.item in
    ok_so c.in_category.result (take_fits (IsKeptRow t) most_shown (filter keeps t.items) (filter_fits (IsKeptRow t) keeps t.items (all_kept t (subst AreSound c.self.view_is c.self.invariant.sound))))
