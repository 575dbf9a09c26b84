use Rattle.std.proofs.Common.{◌≡◌, ◌<◌, ◌^◌, ◌∙◌, ap, arith, rules, sym, subst, is_some, slice_get, option_map, IfSome}
use Rattle.sqlite.specs.Held.{state}
use Rattle.house_rows.specs.Fits.{FeedbackFits}
use Rattle.house_rows.specs.declared.talk.Feedback.{Feedback}
use Rattle.std.specs.Prelude.{Option}
use Rattle.store_rows.specs.Rows.{feedback_of}
use Rattle.store_talk.proofs.TalkMeaning.{is_given_is}
use Rattle.store_talk.proofs.FeedbackFinds.{feedback_found, given_here, key_found}
use Rattle.store_talk.proofs.given.is_given.Goals as goal

pub rows_shown-requires-clause-plain : goal.rows_shown-requires-clause-plain
rows_shown-requires-clause-plain g c = λ b. (is_given_is b).2

pub returns : goal.returns
returns g c =
    let low : c.args.item < 2 ^ 32 = omega (arith, c.ranges.item) in
    let small : c.args.giver < 2 ^ 32 = omega (arith, c.ranges.giver) in
    let old = state g.S.Store c.args.conn.now in
    let new = state g.S.Store c.rows_shown.new.conn in
    let items = c.in_ok-rows.rows.items in
    let same : c.deref.result.now ≡ items = search rules in
    let given_is : c.in_ok-given.given ≡ option_map feedback_of (slice_get items 0) = c.in_ok-given.ensures.value ∙ ap (λ l. option_map feedback_of (slice_get l 0)) same in
    let some : c.is_some.result ≡ is_some c.in_ok-given.given = search rules in
    let is = some ∙ ap (λ (o : Option Feedback). is_some o) given_is in
    record {
      value = λ clean. (
          let house = c.rows_shown.ensures.house clean in
          let shown = rw (c.params-to_sql.ensures, c.params-to_sql-2.ensures) at (c.in_ok-rows.ensures.rows clean) in
          record {
            found = is ∙ feedback_found c.args.item c.args.giver low small old new items house shown (subst (λ (o : Option Feedback). IfSome o FeedbackFits) given_is c.in_ok-given.ensures.fits);
            key = is ∙ key_found c.args.item c.args.giver low small old new items house shown;
          });
      damaged = search rules;
      read = search rules;
    }

pub returns-in_err-given : goal.returns-in_err-given
returns-in_err-given g c =
    let low : c.args.item < 2 ^ 32 = omega (arith, c.ranges.item) in
    let small : c.args.giver < 2 ^ 32 = omega (arith, c.ranges.giver) in
    let items = c.in_ok-rows.rows.items in
    let same : c.deref.result.now ≡ items = search rules in
    record {
      value = search rules;
      damaged = λ clean fits is. (
          let shown = rw (c.params-to_sql.ensures, c.params-to_sql-2.ensures) at (c.in_ok-rows.ensures.rows clean) in
          let fit = given_here c.args.item c.args.giver low small (state g.S.Store c.args.conn.now) (state g.S.Store c.rows_shown.new.conn) items (c.rows_shown.ensures.house clean) shown fits in
          c.first_of.ensures.damaged (subst (λ l. IfSome (option_map feedback_of (slice_get l 0)) FeedbackFits) (sym same) fit) (search rules));
      read = search rules;
    }
