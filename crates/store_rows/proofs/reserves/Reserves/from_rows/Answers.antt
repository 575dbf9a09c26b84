use Rattle.std.proofs.Common.{◌≡◌, ◌<◌, ◌+◌, rules, arith, subst, sym}
use Rattle.std.specs.Prelude.{nat_lt}
use Rattle.std.proofs.lemmas.Bool.Decides.{nat_tests}
use Rattle.std.proofs.lemmas.List.Sorted.{answers_always}
use Rattle.store_rows.specs.Reserves.{AreRising, item_at, no_row}
use Rattle.store_rows.proofs.ReservePlaces.{rising_by_steps}
use Rattle.store_rows.proofs.reserves.Reserves.from_rows.Goals as goal

pub invariant_of-result : goal.invariant_of-result
invariant_of-result c =
    let same : c.deref.result.now ≡ c.args.rows.items = search rules in
    let steps = c.if-is_sorted_by.ensures.cases (λ a b. nat_lt a.item b.item) (answers_always _ _ _ (λ f a r g called. search rules)) in
    subst AreRising same (rising_by_steps c.deref.result.now (λ k lt. let e = steps k no_row lt in grind (arith, nat_tests, e)))

pub returns-else-is_sorted_by-clause-rising : goal.returns-else-is_sorted_by-clause-rising
returns-else-is_sorted_by-clause-rising c rising =
    let same : c.deref.result.now ≡ c.args.rows.items = search rules in
    let fails = c.if-is_sorted_by.ensures.cases (λ a b. nat_lt a.item b.item) (answers_always _ _ _ (λ f a r g called. search rules)) in
    let k = fails.0 in
    let up : item_at c.deref.result.now k < item_at c.deref.result.now (k + 1) = subst AreRising (sym same) rising k (k + 1) (omega arith) fails.1 in
    let e = fails.2 no_row in
    grind (arith, nat_tests, e, up)
