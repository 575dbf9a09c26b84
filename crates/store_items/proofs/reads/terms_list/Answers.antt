use Rattle.std.proofs.Common.{List, ◌++◌, ◌∷◌, [], ◌∙◌, ap, arith, get_or, map, rules, subst, sym, take}
use Rattle.std.specs.List.{AllByRecursion}
use Rattle.std.proofs.lemmas.List.{map-append, take_all, take_more}
use Rattle.sqlite_value.specs.Order.{Row}
use Rattle.house_rows.specs.declared.item.Terms.{Terms}
use Rattle.store_rows.specs.ItemRows.{terms_by}
use Rattle.store_rows.proofs.Wrote.{all_more}
use Rattle.store_items.specs.Standing.{IsShownKept, TermsHold}
use Rattle.store_items.proofs.IsConsistent.{row_has}
use Rattle.store_items.proofs.reads.terms_list.Goals as goal

pub loop-row-preserved : goal.loop-row-preserved
loop-row-preserved c =
    let report = terms_by c.args.rules.now.reserves in
    let held = c.loop-row.invariant in
    let Keeps = IsShownKept c.args.rules.now.editions c.args.rules.now.reserves in
    let rows = c.args.rows.now in
    let i = c.loop-row.row-index in
    let x = get_or rows i c.row-item.result in
    let here = subst (λ (r : Row). Keeps r) c.row-item.is c.in_ok-add_terms.ensures.shown in
    let further = take_more rows i c.row-item.result (omega (arith, c.loop-row-test.true)) in
    record {
      values =
          c.in_ok-add_terms.ensures.value ∙ ap (λ (r : Row). c.loop-row.all.items ++ report r ∷ []) c.row-item.is ∙ ap (λ (l : List Terms). l ++ report x ∷ []) held.values
          ∙ sym (ap (map report) further ∙ map-append report (take i rows) (x ∷ []));
      fits = c.in_ok-add_terms.ensures.fits held.fits;
      is_consistent = c.in_ok-add_terms.ensures.is_consistent held.is_consistent;
      kept = subst (AllByRecursion Keeps) (sym further) (all_more Keeps (take i rows) x held.kept here);
    }

pub returns-clause-kept : goal.returns-clause-kept
returns-clause-kept c =
    subst (λ (l : List Row). AllByRecursion (IsShownKept c.args.rules.now.editions c.args.rules.now.reserves) l) (take_all c.loop-row.row-index c.args.rows.now c.loop-row-test.false) c.loop-row.invariant.kept

pub returns-in_err-add_terms-clause-damaged : goal.returns-in_err-add_terms-clause-damaged
returns-in_err-add_terms-clause-damaged c holds =
    let held = row_has (TermsHold c.args.rules.now.editions c.args.rules.now.reserves) c.args.rows.now c.loop-row.row-index c.row-item.result (omega (arith, c.loop-row-test.true)) holds in
    λ was. c.in_err-add_terms.ensures.damaged (subst (TermsHold c.args.rules.now.editions c.args.rules.now.reserves) (sym c.row-item.is) held) (search rules)
