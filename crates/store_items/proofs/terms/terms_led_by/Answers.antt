use Rattle.std.proofs.Common.{◌≡◌, ◌<◌, ◌^◌, ◌∙◌, [], ◌∷◌, pos, ap, sym, subst, arith, rules, map}
use Rattle.std.specs.List.{AllByRecursion}
use Rattle.sqlite_value.specs.declared.value.Value.TheVariants.{Int}
use Rattle.sqlite.specs.Held.{state}
use Rattle.proxy.specs.Bids.{is_leader}
use Rattle.store_rows.proofs.Select.{equals}
use Rattle.store_rows.specs.ItemRows.{terms_by}
use Rattle.store_rows.specs.Rows.{reserves_in}
use Rattle.store_rows.proofs.StateLemmas.{ok_then}
use Rattle.store_items.specs.Standing.{IsShownKept, TermsHold}
use Rattle.store_items.proofs.ConsistentRows.{ok_as}
use Rattle.store_items.proofs.TermMeaning.{terms_led_by_is, terms_led_by_text}
use Rattle.store_items.proofs.TermFinds.{leader_test, terms_back, terms_found, terms_kept}
use Rattle.store_rows.proofs.ReservesServing.{serves}
use Rattle.store_items.proofs.terms.terms_led_by.Goals as goal

pub rows_shown-requires-clause-serves : goal.rows_shown-requires-clause-serves
rows_shown-requires-clause-serves g c = serves c.args.rules.now.reserves (state g.S.Store c.args.conn.now) c.requires

pub rows_shown-requires-clause-plain : goal.rows_shown-requires-clause-plain
rows_shown-requires-clause-plain g c = λ b. (terms_led_by_is b).2

pub returns-clause-finds : goal.returns-clause-finds
returns-clause-finds g c =
    let old = state g.S.Store c.args.conn.now in
    let new = state g.S.Store c.rows_shown.new.conn in
    let editions = c.args.rules.now.editions in
    let items = c.in_ok-rows.rows.items in
    let same : c.deref.result.now ≡ items = search rules in
    let low : c.args.member < 2 ^ 32 = omega (arith, c.ranges.member) in
    let test = leader_test (reserves_in old.now.trees) c.args.member low in
    record {
      value = λ clean. (
          let known = (c.requires (omega (arith, c.rows_shown.ensures.read.crash.clean, clean))).2 in
          let shown = rw c.params-to_sql.ensures at (c.in_ok-rows.ensures.rows clean) in
          ok_then c.terms_list.result c.terms_list.ensures.value (λ _ e. e ∙ ap (λ rs. map (terms_by rs) c.deref.result.now) known ∙ ap (map (terms_by (reserves_in old.now.trees))) same
          ∙ terms_found terms_led_by_text (equals 13 ∷ []) terms_led_by_is (Int (pos c.args.member) ∷ []) old new items (c.rows_shown.ensures.house clean) shown (λ row. is_leader row.item.terms.leader c.args.member) test));
      damaged = λ clean fits. (
          let known = (c.requires (omega (arith, c.rows_shown.ensures.read.crash.clean, clean))).2 in
          let shown = rw c.params-to_sql.ensures at (c.in_ok-rows.ensures.rows clean) in
          c.terms_list.ensures.damaged (subst (λ rs. AllByRecursion (TermsHold editions rs) c.deref.result.now) (sym known) (subst (AllByRecursion (TermsHold editions (reserves_in old.now.trees))) (sym same)
          (terms_kept terms_led_by_text (equals 13 ∷ []) terms_led_by_is (Int (pos c.args.member) ∷ []) old new items (c.rows_shown.ensures.house clean) shown (λ row. is_leader row.item.terms.leader c.args.member) test editions fits))));
      read = search rules;
    }

pub returns-clause-kept : goal.returns-clause-kept
returns-clause-kept g c = λ clean.
    let old = state g.S.Store c.args.conn.now in
    let new = state g.S.Store c.rows_shown.new.conn in
    let editions = c.args.rules.now.editions in
    let items = c.in_ok-rows.rows.items in
    let same : c.deref.result.now ≡ items = search rules in
    let low : c.args.member < 2 ^ 32 = omega (arith, c.ranges.member) in
    let test = leader_test (reserves_in old.now.trees) c.args.member low in
    let known = (c.requires (omega (arith, c.rows_shown.ensures.read.crash.clean, clean))).2 in
    let shown = rw c.params-to_sql.ensures at (c.in_ok-rows.ensures.rows clean) in
    ok_as c.terms_list.result c.terms_list.ensures.kept (λ kept.
    terms_back terms_led_by_text (equals 13 ∷ []) terms_led_by_is (Int (pos c.args.member) ∷ []) old new items (c.rows_shown.ensures.house clean) shown (λ row. is_leader row.item.terms.leader c.args.member) test editions
    (subst (AllByRecursion (IsShownKept editions (reserves_in old.now.trees))) same (subst (λ rs. AllByRecursion (IsShownKept editions rs) c.deref.result.now) known kept)))
