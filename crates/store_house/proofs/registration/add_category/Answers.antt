use Rattle.std.proofs.Common.{◌≡◌, is_some, true, false, rules, subst, arith, ℕ}
use Rattle.sqlite.specs.Held.{state}
use Rattle.sqlite.specs.State.{Survives}
use Rattle.house_rows.specs.declared.change.Change.TheVariants.{AddCategory}
use Rattle.store_rows.specs.Tables.{tables_in}
use Rattle.store_rows.specs.Commits.{MadeBy}
use Rattle.store_rows.proofs.Keys.{none_there, on_ok, some_there}
use Rattle.store_rows.proofs.CommitSteps.{survives_change}
use Rattle.store_house.proofs.registration.add_category.Goals as goal

pub returns-in_err-category_named-clause-damaged : goal.returns-in_err-category_named-clause-damaged
unfolding tables_in
returns-in_err-category_named-clause-damaged g c clean fits free is = c.in_err-category_named.ensures.finds.damaged clean (rw (c.as_str.ensures, free) tt) (search rules)

pub returns-then-is_some-clause-damaged : goal.returns-then-is_some-clause-damaged
unfolding tables_in
returns-then-is_some-clause-damaged g c clean fits free is =
    let there : is_some c.in_ok-category_named.field-0 ≡ true = search rules in
    some_there c.in_ok-category_named.field-0 _ there (rw c.as_str.ensures at (c.in_ok-category_named.ensures.finds.value clean)) free

pub returns-clause-taken : goal.returns-clause-taken
unfolding tables_in
returns-clause-taken g c clean =
    let there : is_some c.in_ok-category_named.field-0 ≡ false = search rules in
    on_ok c.commit_add_category.result (none_there c.in_ok-category_named.field-0 _ there (rw c.as_str.ensures at (c.in_ok-category_named.ensures.finds.value (omega (arith, c.commit_add_category.ensures.commit.crash.clean)))))

pub returns-clause-commit : goal.returns-clause-commit
returns-clause-commit g c =
    record {
      ok = search rules;
      err = search rules;
      only = search rules;
      mode = search rules;
      crash = survives_change (state g.S.Store c.args.conn.now) (state g.S.Store c.category_named.new.conn) (state g.S.Store c.commit_add_category.new.conn) (AddCategory c.args.moment c.args.name) c.in_ok-category_named.ensures.finds.read.same c.in_ok-category_named.ensures.finds.read.crash
          (subst (λ (m : ℕ). Survives (state g.S.Store c.category_named.new.conn) (state g.S.Store c.commit_add_category.new.conn) (MadeBy (AddCategory m c.args.name) (state g.S.Store c.category_named.new.conn))) c.in_ok-moment.ensures.value c.commit_add_category.ensures.commit.crash);
    }
