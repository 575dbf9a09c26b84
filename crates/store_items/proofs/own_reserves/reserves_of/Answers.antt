use Rattle.std.proofs.Common.{◌≡◌, ◌<◌, ◌^◌, ◌∙◌, ◌==◌, [], ◌∷◌, pos, List, ap, arith, filter, flat_map, rules, subst, sym, take}
use Rattle.std.specs.Prelude.{is_some}
use Rattle.std.specs.List.{AllByRecursion}
use Rattle.sqlite_value.specs.declared.value.Value.TheVariants.{Int}
use Rattle.sqlite_value.specs.Order.{Row, column}
use Rattle.sqlite.specs.Held.{state}
use Rattle.house_rows.specs.Limits.{most_shown}
use Rattle.house_rows.specs.Taken.{has_own_reserve, up_to}
use Rattle.store_rows.specs.declared.reserve.ReserveRow.{ReserveRow}
use Rattle.store_rows.specs.Rows.{number_in, reserves_in}
use Rattle.store_rows.proofs.Select.{equals}
use Rattle.store_rows.proofs.StateLemmas.{ok_then}
use Rattle.store_items.specs.OwnReserves.{reserve_in, reserve_shown}
use Rattle.store_items.specs.Standing.{IsShownKept, TermsHold}
use Rattle.store_items.proofs.OwnReserves.{own_test, reserves_are}
use Rattle.store_items.proofs.ConsistentRows.{ok_as}
use Rattle.store_items.proofs.TermMeaning.{terms_of_seller_is, terms_of_seller_text}
use Rattle.store_items.proofs.TermFinds.{first_back, first_kept, seller_test, terms_found, terms_numbered}
use Rattle.store_rows.proofs.ReservesServing.{serves}
use Rattle.store_items.proofs.own_reserves.reserves_of.Goals as goal

pub rows_shown-requires-clause-serves : goal.rows_shown-requires-clause-serves
rows_shown-requires-clause-serves g c = serves c.args.rules.now.reserves (state g.S.Store c.args.conn.now) c.requires

pub rows_shown-requires-clause-plain : goal.rows_shown-requires-clause-plain
rows_shown-requires-clause-plain g c = λ b. (terms_of_seller_is b).2

pub returns-clause-finds : goal.returns-clause-finds
returns-clause-finds g c =
    let old = state g.S.Store c.args.conn.now in
    let new = state g.S.Store c.rows_shown.new.conn in
    let db = old.now.trees in
    let editions = c.args.rules.now.editions in
    let low : c.args.member < 2 ^ 32 = omega (arith, c.ranges.member) in
    let items = c.in_ok-rows.rows.items in
    let same : c.deref.result.now ≡ items = search rules in
    let params = Int (pos c.args.member) ∷ [] in
    record {
      value = λ clean. (
          let known = (c.requires (omega (arith, c.rows_shown.ensures.read.crash.clean, clean))).2 in
          let shown = rw c.params-to_sql.ensures at (c.in_ok-rows.ensures.rows clean) in
          let found = terms_found terms_of_seller_text (equals 2 ∷ []) terms_of_seller_is params old new items (c.rows_shown.ensures.house clean) shown
          (λ row. row.item.terms.seller == c.args.member) (seller_test (reserves_in db) c.args.member low) in
          ok_then c.first_reserves.result c.first_reserves.ensures.value (λ _ e. e
          ∙ ap (λ (rs : List ReserveRow). take most_shown (flat_map (reserve_shown rs c.args.from) c.deref.result.now)) known
          ∙ ap (λ (l : List Row). take most_shown (flat_map (reserve_shown (reserves_in db) c.args.from) l)) same
          ∙ reserves_are db c.args.member c.args.from items found));
      damaged = λ clean fit. (
          let known = (c.requires (omega (arith, c.rows_shown.ensures.read.crash.clean, clean))).2 in
          let shown = rw c.params-to_sql.ensures at (c.in_ok-rows.ensures.rows clean) in
          let house = c.rows_shown.ensures.house clean in
          let small = terms_numbered terms_of_seller_text (equals 2 ∷ []) terms_of_seller_is params old new items house shown
          (λ row. row.item.terms.seller == c.args.member) (has_own_reserve c.args.member c.args.from) (λ (r : Row). is_some (reserve_in (reserves_in db) c.args.from r))
          (seller_test (reserves_in db) c.args.member low) (own_test (reserves_in db) c.args.member c.args.from low) most_shown fit.numbered in
          let held = first_kept terms_of_seller_text (equals 2 ∷ []) terms_of_seller_is params old new items house shown
          (has_own_reserve c.args.member c.args.from) (λ (r : Row). is_some (reserve_in (reserves_in db) c.args.from r)) (own_test (reserves_in db) c.args.member c.args.from low) editions most_shown fit.shown in
          let Held = λ (rs : List ReserveRow) (l : List Row). AllByRecursion (TermsHold editions rs) (take most_shown (filter (λ (r : Row). is_some (reserve_in rs c.args.from r)) l)) in
          let Low = λ (rs : List ReserveRow) (l : List Row). AllByRecursion (λ (r : Row). number_in (column r 0) < 2 ^ 32) (up_to most_shown (λ (r : Row). is_some (reserve_in rs c.args.from r)) l) in
          c.first_reserves.ensures.damaged
          (subst (λ (rs : List ReserveRow). Low rs c.deref.result.now) (sym known) (subst (Low (reserves_in db)) (sym same) small))
          (subst (λ (rs : List ReserveRow). Held rs c.deref.result.now) (sym known) (subst (Held (reserves_in db)) (sym same) held)));
      read = search rules;
    }

pub returns-clause-kept : goal.returns-clause-kept
returns-clause-kept g c = λ clean.
    let old = state g.S.Store c.args.conn.now in
    let new = state g.S.Store c.rows_shown.new.conn in
    let db = old.now.trees in
    let editions = c.args.rules.now.editions in
    let low : c.args.member < 2 ^ 32 = omega (arith, c.ranges.member) in
    let items = c.in_ok-rows.rows.items in
    let same : c.deref.result.now ≡ items = search rules in
    let params = Int (pos c.args.member) ∷ [] in
    let known = (c.requires (omega (arith, c.rows_shown.ensures.read.crash.clean, clean))).2 in
    let shown = rw c.params-to_sql.ensures at (c.in_ok-rows.ensures.rows clean) in
    let Kept = λ (rs : List ReserveRow) (l : List Row). AllByRecursion (IsShownKept editions rs) (take most_shown (filter (λ (r : Row). is_some (reserve_in rs c.args.from r)) l)) in
    ok_as c.first_reserves.result c.first_reserves.ensures.kept (λ kept.
    first_back terms_of_seller_text (equals 2 ∷ []) terms_of_seller_is params old new items (c.rows_shown.ensures.house clean) shown
    (has_own_reserve c.args.member c.args.from) (λ (r : Row). is_some (reserve_in (reserves_in db) c.args.from r)) (own_test (reserves_in db) c.args.member c.args.from low) editions most_shown
    (subst (Kept (reserves_in db)) same (subst (λ (rs : List ReserveRow). Kept rs c.deref.result.now) known kept)))
