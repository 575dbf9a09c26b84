use Rattle.std.proofs.Common.{List, ◌≡◌, ◌≤◌, ◌<◌, ◌-◌, ◌+◌, ◌^◌, ◌++◌, ◌∙◌, true, ap, arith, drop, filter, flat_map, get_or, length, refl, rules, subst, sym, take}
use Rattle.std.specs.Prelude.{is_some}
use Rattle.std.specs.List.{AllByRecursion}
use Rattle.std.proofs.lemmas.List.{drop_all, drop_more, length-append}
use Rattle.sqlite_value.specs.Order.{Row, column}
use Rattle.house_rows.specs.Limits.{most_shown}
use Rattle.house_rows.specs.Taken.{up_to}
use Rattle.store_rows.specs.ItemRows.{terms_by}
use Rattle.store_rows.specs.Rows.{number_in}
use Rattle.store_rows.proofs.Steps.{first_found_all, first_found_full, found_more}
use Rattle.store_items.specs.OwnReserves.{reserve_in, reserve_shown}
use Rattle.store_items.specs.Standing.{IsShownKept, TermsHold}
use Rattle.store_items.proofs.OwnReserves.{back_held, none_taken, next_held, next_low, report_few}
use Rattle.store_items.proofs.own_reserves.first_reserves.Goals as goal

pub loop-row-preserved : goal.loop-row-preserved
loop-row-preserved c =
    let R = c.args.rules.now.reserves in
    let F = reserve_shown R c.args.from in
    let Holds = TermsHold c.args.rules.now.editions R in
    let Low = λ (r : Row). number_in (column r 0) < 2 ^ 32 in
    let shows = λ (r : Row). is_some (reserve_in R c.args.from r) in
    let rows = c.args.rows.now in
    let i = c.loop-row.row-index in
    let x = get_or rows i c.row-item.result in
    let held = c.loop-row.invariant in
    let whole = c.loop-row.found.ok.0 in
    let room : length c.loop-row.found.items < most_shown = omega (arith, whole) in
    let one : c.add_reserve.new.found.items ≡ c.loop-row.found.items ++ F x = c.in_ok-add_reserve.ensures.value ∙ ap (λ (r : Row). c.loop-row.found.items ++ F r) c.row-item.is in
    record {
      found =
          ap (take most_shown) (found_more F rows i c.row-item.result c.loop-row.found.items c.add_reserve.new.found.items (c.loop-row.found.items ++ flat_map F (drop i rows)) c.loop-row-test.true refl one)
          ∙ held.found;
      few = (let long = ap length one ∙ length-append c.loop-row.found.items (F x) in
          let more = report_few (terms_by R x) (reserve_in R c.args.from x) in
          omega (arith, long, more, room));
      fits = c.in_ok-add_reserve.ensures.fits held.fits;
      held = λ fit. (let now = subst (λ l. AllByRecursion Holds (take (most_shown - length c.loop-row.found.items) (filter shows l))) (drop_more rows i c.row-item.result c.loop-row-test.true) (held.held fit) in
          let next = next_held Holds (reserve_in R c.args.from) (terms_by R) most_shown c.loop-row.found.items x (drop (i + 1) rows) room now in
          subst (λ l. AllByRecursion Holds (take (most_shown - length l) (filter shows (drop (i + 1) rows)))) (sym one) next.1);
      kept = λ rest. (let Keeps = IsShownKept c.args.rules.now.editions R in
          let here = subst (λ (r : Row). is_some (reserve_in R c.args.from r) ≡ true → Keeps r) c.row-item.is c.in_ok-add_reserve.ensures.kept in
          let later = subst (λ l. AllByRecursion Keeps (take (most_shown - length l) (filter shows (drop (i + 1) rows)))) one rest in
          held.kept (subst (λ l. AllByRecursion Keeps (take (most_shown - length c.loop-row.found.items) (filter shows l))) (sym (drop_more rows i c.row-item.result c.loop-row-test.true))
          (back_held Keeps (reserve_in R c.args.from) (terms_by R) most_shown c.loop-row.found.items x (drop (i + 1) rows) room here later)));
      low = λ small. (let now = subst (λ l. AllByRecursion Low (up_to (most_shown - length c.loop-row.found.items) shows l)) (drop_more rows i c.row-item.result c.loop-row-test.true) (held.low small) in
          let next = next_low Low (reserve_in R c.args.from) (terms_by R) most_shown c.loop-row.found.items x (drop (i + 1) rows) room now in
          subst (λ l. AllByRecursion Low (up_to (most_shown - length l) shows (drop (i + 1) rows))) (sym one) next.1);
    }

pub returns-then-len-ge-MOST_SHOWN-clause-value : goal.returns-then-len-ge-MOST_SHOWN-clause-value
returns-then-len-ge-MOST_SHOWN-clause-value c =
    let F = reserve_shown c.args.rules.now.reserves c.args.from in
    let held = c.loop-row.invariant in
    let whole = c.loop-row.found.ok.0 in
    let many : most_shown ≤ length c.loop-row.found.items = omega (arith, whole) in
    first_found_full most_shown c.loop-row.found.items (flat_map F (drop c.loop-row.row-index c.args.rows.now)) _ held.few many held.found

pub returns-clause-value : goal.returns-clause-value
returns-clause-value c =
    let F = reserve_shown c.args.rules.now.reserves c.args.from in
    let held = c.loop-row.invariant in
    first_found_all most_shown F c.args.rows.now c.loop-row.row-index c.loop-row.found.items _ held.few c.loop-row-test.false held.found

pub returns-in_err-add_reserve-clause-damaged : goal.returns-in_err-add_reserve-clause-damaged
returns-in_err-add_reserve-clause-damaged c low fit is =
    let R = c.args.rules.now.reserves in
    let Holds = TermsHold c.args.rules.now.editions R in
    let Low = λ (r : Row). number_in (column r 0) < 2 ^ 32 in
    let shows = λ (r : Row). is_some (reserve_in R c.args.from r) in
    let rows = c.args.rows.now in
    let i = c.loop-row.row-index in
    let x = get_or rows i c.row-item.result in
    let whole = c.loop-row.found.ok.0 in
    let room : length c.loop-row.found.items < most_shown = omega (arith, whole) in
    let now = subst (λ l. AllByRecursion Holds (take (most_shown - length c.loop-row.found.items) (filter shows l))) (drop_more rows i c.row-item.result c.loop-row-test.true) (c.loop-row.invariant.held fit) in
    let next = next_held Holds (reserve_in R c.args.from) (terms_by R) most_shown c.loop-row.found.items x (drop (i + 1) rows) room now in
    let low_now = subst (λ l. AllByRecursion Low (up_to (most_shown - length c.loop-row.found.items) shows l)) (drop_more rows i c.row-item.result c.loop-row-test.true) (c.loop-row.invariant.low low) in
    let small = next_low Low (reserve_in R c.args.from) (terms_by R) most_shown c.loop-row.found.items x (drop (i + 1) rows) room low_now in
    c.in_err-add_reserve.ensures.damaged (subst Low (sym c.row-item.is) small.0)
    (subst (λ (r : Row). is_some (reserve_in R c.args.from r) ≡ true → Holds r) (sym c.row-item.is) next.0) (search rules)

pub returns-then-len-ge-MOST_SHOWN-clause-kept : goal.returns-then-len-ge-MOST_SHOWN-clause-kept
returns-then-len-ge-MOST_SHOWN-clause-kept c =
    let Keeps = IsShownKept c.args.rules.now.editions c.args.rules.now.reserves in
    let shows = λ (r : Row). is_some (reserve_in c.args.rules.now.reserves c.args.from r) in
    let whole = c.loop-row.found.ok.0 in
    let full : most_shown - length c.loop-row.found.items ≡ 0 = omega (arith, whole) in
    c.loop-row.invariant.kept (subst (λ k. AllByRecursion Keeps (take k (filter shows (drop c.loop-row.row-index c.args.rows.now)))) (sym full) tt)

pub returns-clause-kept : goal.returns-clause-kept
returns-clause-kept c =
    let Keeps = IsShownKept c.args.rules.now.editions c.args.rules.now.reserves in
    let shows = λ (r : Row). is_some (reserve_in c.args.rules.now.reserves c.args.from r) in
    c.loop-row.invariant.kept (subst (λ (l : List Row). AllByRecursion Keeps (take (most_shown - length c.loop-row.found.items) (filter shows l))) (sym (drop_all c.loop-row.row-index c.args.rows.now c.loop-row-test.false))
    (none_taken Keeps (most_shown - length c.loop-row.found.items)))
