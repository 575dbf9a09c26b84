use Rattle.std.proofs.Common.{◌≡◌, ◌<◌, ◌^◌, is_some, true, false, rules, subst, sym, arith, ℕ, Option, IfSome}
use Rattle.sqlite.specs.Held.{state}
use Rattle.sqlite.specs.State.{Survives}
use Rattle.house_rows.specs.declared.change.Change.TheVariants.{List}
use Rattle.store_rows.specs.Tables.{tables_in}
use Rattle.store_rows.specs.Commits.{MadeBy}
use Rattle.store_rows.proofs.Keys.{none_there, on_ok, some_there}
use Rattle.store_rows.proofs.CommitSteps.{survives_change}
use Rattle.store_selling.proofs.listing.list.Goals as goal

pub returns-in_err-item_with_lot-clause-damaged : goal.returns-in_err-item_with_lot-clause-damaged
unfolding tables_in
returns-in_err-item_with_lot-clause-damaged g c clean fits free is =
    c.in_err-item_with_lot.ensures.damaged clean (rw c.as_str.ensures (subst (λ (o : Option ℕ). IfSome o (λ n. n < 2 ^ 32)) (sym free) tt)) (search rules)

pub returns-then-is_some-clause-damaged : goal.returns-then-is_some-clause-damaged
unfolding tables_in
returns-then-is_some-clause-damaged g c clean fits free is =
    let there : is_some c.in_ok-item_with_lot.field-0 ≡ true = search rules in
    some_there c.in_ok-item_with_lot.field-0 _ there (rw c.as_str.ensures at (c.in_ok-item_with_lot.ensures.value clean)) free

pub returns-clause-taken : goal.returns-clause-taken
unfolding tables_in
returns-clause-taken g c clean =
    let there : is_some c.in_ok-item_with_lot.field-0 ≡ false = search rules in
    on_ok c.commit_list.result (none_there c.in_ok-item_with_lot.field-0 _ there (rw c.as_str.ensures at (c.in_ok-item_with_lot.ensures.value (omega (arith, c.commit_list.ensures.commit.crash.clean)))))

pub returns-clause-commit : goal.returns-clause-commit
returns-clause-commit g c =
    let item = c.args.item.now in record {
      ok = search rules;
      err = search rules;
      only = search rules;
      mode = search rules;
      crash = survives_change (state g.S.Store c.args.conn.now) (state g.S.Store c.item_with_lot.new.conn) (state g.S.Store c.commit_list.new.conn) (List c.args.moment item)
          c.in_ok-item_with_lot.ensures.read.same c.in_ok-item_with_lot.ensures.read.crash
          (subst (λ (m : ℕ). Survives (state g.S.Store c.item_with_lot.new.conn) (state g.S.Store c.commit_list.new.conn) (MadeBy (List m item) (state g.S.Store c.item_with_lot.new.conn)))
          c.in_ok-moment.ensures.value
          (subst (λ (e : ℕ). Survives (state g.S.Store c.item_with_lot.new.conn) (state g.S.Store c.commit_list.new.conn) (MadeBy (List c.in_ok-moment.moment (record item { end = e })) (state g.S.Store c.item_with_lot.new.conn)))
          c.in_ok-end.ensures.value c.commit_list.ensures.commit.crash));
    }
