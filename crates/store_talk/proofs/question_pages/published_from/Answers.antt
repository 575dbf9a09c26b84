use Rattle.std.proofs.Common.{◌≡◌, ◌<◌, ◌^◌, ◌∙◌, ap, arith, rules, map, subst, sym, inl, inr}
use Rattle.std.specs.List.{AllByRecursion}
use Rattle.sqlite.specs.Held.{state}
use Rattle.house_rows.specs.Fits.{QuestionFits}
use Rattle.store_rows.specs.Rows.{question_of}
use Rattle.store_rows.proofs.Both.{ok_both}
use Rattle.store_talk.proofs.QuestionPages.{published_is, published_finite, published_either, no_stray_taken, published_near, stray_askers_is, stray_askers_finite}
use Rattle.store_talk.proofs.question_pages.published_from.Goals as goal

pub listed_rows-requires-clause-plain : goal.listed_rows-requires-clause-plain
listed_rows-requires-clause-plain g c = λ b. (published_is b).2

pub listed_rows-requires-clause-finite : goal.listed_rows-requires-clause-finite
listed_rows-requires-clause-finite g c = published_finite

pub listed_rows-requires-clause-strays_plain : goal.listed_rows-requires-clause-strays_plain
listed_rows-requires-clause-strays_plain g c = λ b. (stray_askers_is b).2

pub listed_rows-requires-clause-strays_finite : goal.listed_rows-requires-clause-strays_finite
listed_rows-requires-clause-strays_finite g c = stray_askers_finite

pub returns-clause-finds : goal.returns-clause-finds
returns-clause-finds g c =
    let low : c.args.item < 2 ^ 32 = omega (arith, c.ranges.item) in
    let small : c.args.from < 2 ^ 32 = omega (arith, c.ranges.from) in
    let old = state g.S.Store c.args.conn.now in
    let new = state g.S.Store c.listed_rows.new.conn in
    let rows = c.in_ok-rows.rows.items in
    let same : c.deref.result.now ≡ rows = search rules in
    record {
      value = λ clean. (
          let first = rw (c.params-to_sql.ensures, c.params-to_sql-2.ensures) at (c.in_ok-rows.ensures.rows clean) in
          let none = rw c.params-to_sql-3.ensures at (c.in_ok-rows.ensures.no_stray clean) in
          ok_both c.all_of.result c.all_of.ensures.value c.all_of.ensures.fits (λ all e fits.
          let report = e ∙ ap (map question_of) same in
          report ∙ published_either c.args.item c.args.from low small old new (c.listed_rows.ensures.house clean) rows none first (subst (AllByRecursion QuestionFits) report fits)));
      damaged = λ clean fits. (
          let first = rw (c.params-to_sql.ensures, c.params-to_sql-2.ensures) at (c.in_ok-rows.ensures.rows clean) in
          let fit = published_near c.args.item c.args.from low small old new (c.listed_rows.ensures.house clean) rows first fits in
          c.all_of.ensures.damaged (subst (AllByRecursion QuestionFits) (sym (ap (map question_of) same)) fit));
      read = search rules;
    }

pub returns-clause-spoiled : goal.returns-clause-spoiled
returns-clause-spoiled g c clean is =
    let first = rw (c.params-to_sql.ensures, c.params-to_sql-2.ensures) at (c.in_ok-rows.ensures.rows clean) in
    let same : c.deref.result.now ≡ c.in_ok-rows.rows.items = search rules in
    inl (record {
      rows = c.in_ok-rows.rows.items;
      first = first;
      unfit = λ fit. c.all_of.ensures.damaged (subst (AllByRecursion QuestionFits) (sym (ap (map question_of) same)) fit) is;
    })

pub returns-in_err-rows-clause-spoiled : goal.returns-in_err-rows-clause-spoiled
returns-in_err-rows-clause-spoiled g c clean is = inr (rw (c.params-to_sql.ensures, c.params-to_sql-2.ensures, c.params-to_sql-3.ensures) at (c.listed_rows.ensures.damaged clean (search rules)))

pub returns-in_err-rows-clause-finds : goal.returns-in_err-rows-clause-finds
returns-in_err-rows-clause-finds g c =
    let low : c.args.item < 2 ^ 32 = omega (arith, c.ranges.item) in
    let small : c.args.from < 2 ^ 32 = omega (arith, c.ranges.from) in
    let new = state g.S.Store c.listed_rows.new.conn in
    record {
      value = search rules;
      damaged = λ clean fits is. (
          let stray = rw (c.params-to_sql.ensures, c.params-to_sql-2.ensures, c.params-to_sql-3.ensures) at (c.listed_rows.ensures.damaged clean (search rules)) in
          no_stray_taken c.args.item c.args.from low small (state g.S.Store c.args.conn.now) new (c.listed_rows.ensures.house clean) new stray fits);
      read = search rules;
    }
