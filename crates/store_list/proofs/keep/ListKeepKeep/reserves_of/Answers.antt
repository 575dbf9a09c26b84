use Rattle.std.proofs.Common.{filter, refl, subst, rules}
use Rattle.std.specs.List.{AllByRecursion}
use Rattle.house_rows.specs.Fits.{OwnReserveFits}
use Rattle.house_rows.specs.Keeping.{AreSound, IsKeptRow}
use Rattle.house_rows.specs.Limits.{most_shown}
use Rattle.house_rows.specs.Tables.{Tables}
use Rattle.house_rows.specs.Taken.{has_own_reserve}
use Rattle.store_list.proofs.Fitting.{all_kept, filter_fits, ok_items, ok_so, own_reserves_fit, take_fits}
use Rattle.store_list.proofs.keep.ListKeepKeep.reserves_of.Goals as goal

pub returns-clause-answers : goal.returns-clause-answers
returns-clause-answers c = record {
  value = λ _. c.reserves_of.ensures.value c.args.self.now (rw (← c.self.view_is) refl);
  faults = search rules;
  damaged = search rules;
  read = search rules;
}

pub returns-clause-fits : goal.returns-clause-fits
returns-clause-fits c = ok_items (λ xs. AllByRecursion OwnReserveFits xs) c.reserves_of.result _ (c.reserves_of.ensures.value c.args.self.now (rw (← c.self.view_is) refl))
    (own_reserves_fit c.args.self.now c.args.member c.args.from (subst AreSound c.self.view_is c.self.invariant.sound))

pub returns-clause-kept : goal.returns-clause-kept
returns-clause-kept c = λ _.
    let t : Tables = c.args.self.now in
    let keeps = has_own_reserve c.args.member c.args.from in
    ok_so c.reserves_of.result (take_fits (IsKeptRow t) most_shown (filter keeps t.items) (filter_fits (IsKeptRow t) keeps t.items (all_kept t (subst AreSound c.self.view_is c.self.invariant.sound))))
