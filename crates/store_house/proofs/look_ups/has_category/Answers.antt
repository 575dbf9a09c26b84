use Rattle.std.proofs.Common.{◌≡◌, ◌==◌, ◌<◌, ◌^◌, ◌∙◌, ap, arith, length, not, rules, sym}
use Rattle.sqlite.specs.Held.{state}
use Rattle.house_rows.specs.Fits.{CategoryFits, IsWithin}
use Rattle.house_rows.specs.Limits.{most_categories}
use Rattle.house_rows.specs.declared.people.Category.{Category}
use Rattle.store_rows.specs.Rows.{categories_in}
use Rattle.store_house.proofs.NumbersLemmas.{finds_err, finds_ok, reads_err, reads_still}
use Rattle.store_house.proofs.FindMeaning.{has_category_is}
use Rattle.store_house.proofs.PeopleFinds.{here_number, category_found}
use Rattle.store_house.proofs.look_ups.has_category.Goals as goal
use Rattle.store_house.proofs.look_ups.has_category.Goals.{else-category-ge1-via-then-category-ge1+else-category-le-MOST_CATEGORIES, else-category-ge1-via-else-category-ge1}

pub rows_shown-requires-clause-plain : goal.rows_shown-requires-clause-plain
rows_shown-requires-clause-plain g c = λ b. (has_category_is b).2

pub returns-in_err-rows-clause-finds : goal.returns-in_err-rows-clause-finds
returns-in_err-rows-clause-finds g c =
    finds_err _ _ _ _ _ _ _ c.from_residual.ensures.1 (λ _ _. c.in_err-rows.ensures.sound)
    (reads_err _ _ _ c.from_residual.ensures.1 c.in_err-rows.ensures.read)

pub returns-then-is_empty-clause-finds : goal.returns-then-is_empty-clause-finds
returns-then-is_empty-clause-finds g c =
    let old = state g.S.Store c.args.conn.now in
    let low : c.args.category < 2 ^ 32 = omega (arith, c.ranges.category) in
    let none : c.is_empty.result ≡ (length c.in_ok-rows.rows.items == 0) = search rules in
    finds_ok _ _ _ _ _ _
    (λ clean.
    let shown = rw c.params-to_sql.ensures at (c.in_ok-rows.ensures.rows clean) in
    ap not (sym c.if-is_empty.true ∙ none) ∙ category_found c.args.category low old (state g.S.Store c.rows_shown.new.conn) c.in_ok-rows.rows.items (c.rows_shown.ensures.house clean) shown)
    (reads_still _ _ _ c.in_ok-rows.ensures.read)

pub returns-then-category-le-MOST_CATEGORIES-clause-finds : goal.returns-then-category-le-MOST_CATEGORIES-clause-finds
returns-then-category-le-MOST_CATEGORIES-clause-finds g c =
    let old = state g.S.Store c.args.conn.now in
    let low : c.args.category < 2 ^ 32 = omega (arith, c.ranges.category) in
    let none : c.is_empty.result ≡ (length c.in_ok-rows.rows.items == 0) = search rules in
    finds_ok _ _ _ _ _ _
    (λ clean.
    let shown = rw c.params-to_sql.ensures at (c.in_ok-rows.ensures.rows clean) in
    ap not (sym c.if-is_empty.false ∙ none) ∙ category_found c.args.category low old (state g.S.Store c.rows_shown.new.conn) c.in_ok-rows.rows.items (c.rows_shown.ensures.house clean) shown)
    (reads_still _ _ _ c.in_ok-rows.ensures.read)

pub returns-clause-finds : goal.returns-clause-finds
returns-clause-finds g c =
    let old = state g.S.Store c.args.conn.now in
    let low : c.args.category < 2 ^ 32 = omega (arith, c.ranges.category) in
    let none : c.is_empty.result ≡ (length c.in_ok-rows.rows.items == 0) = search rules in
    record {
      value = λ _. tt;
      damaged = λ clean fits is. (
          let shown = rw c.params-to_sql.ensures at (c.in_ok-rows.ensures.rows clean) in
          let some = ap not (sym c.if-is_empty.false ∙ none) ∙ category_found c.args.category low old (state g.S.Store c.rows_shown.new.conn) c.in_ok-rows.rows.items (c.rows_shown.ensures.house clean) shown in
          let within = here_number (λ (row : Category). row.category) CategoryFits (IsWithin 1 most_categories) c.args.category (categories_in old.now.trees) (λ row fit. fit.category) fits (sym some) in
          elim c.else-category-ge1.branch [
            | else-category-ge1-via-then-category-ge1+else-category-le-MOST_CATEGORIES w ↦ omega (arith, within.1, w.if-category-le-MOST_CATEGORIES.false)
            | else-category-ge1-via-else-category-ge1 w ↦ omega (arith, within.0, w.if-category-ge1.false)
          ]);
      read = reads_still _ _ _ c.in_ok-rows.ensures.read;
    }
