use Rattle.std.proofs.Common.{rules, arith, ◌≡◌, refl, ◌∙◌, sym, Some, None}
use Rattle.std.proofs.lemmas.Grind.{common_steps}
use Rattle.house_rows.specs.Found.{is_given}
use Rattle.house_rows.specs.Verdict.{feedback_rules}
use Rattle.house.proofs.Decides.{accepts, looked, refuses}
use Rattle.house.proofs.NewFeedback.{feedback_accepts, feedback_fits, feedback_judged, feedback_refused}
use Rattle.house.proofs.OnItems.{row_there}
use Rattle.house.proofs.Reported.{of_found}
use Rattle.house.proofs.Unchanged.{still_there}
use Rattle.house.proofs.ratings.feedback.Goals as goal
use Rattle.house.proofs.ratings.feedback.Goals.{In_ok-is_given}

-- what the second read answered is true of the tables before the first
given : (g : _) (c : In_ok-is_given g) → g.K.Keep.is_honest c.given.new.self → c.in_ok-is_given.is_given ≡ is_given (g.K.Keep.content c.args.keep.now) c.args.item c.args.caller
given g c honest =
    rw (still_there c.in_ok-on.field-0 g.K.Keep.content g.K.Keep.is_failed g.K.Keep.is_honest g.K.Keep.may_leave c.args.keep.now c.on_item.new.keep
    c.in_ok-on.ensures.faults c.in_ok-on.ensures.read (c.in_ok-is_given.ensures.read.honest honest)) at (c.in_ok-is_given.ensures.value honest)

pub returns-in-Err : goal.returns-in-Err
returns-in-Err g c = refuses c.in_ok-on.ensures.faults c.in_ok-on.ensures.read (λ honest settings h is e.
    feedback_refused (g.K.Keep.content c.args.keep.now) settings h c.args.moment c.args.caller c.args.item c.args.rating c.args.text.now c.in-Err.refusal e (rw c.in-Err.is at c.in_ok-on.ensures.value honest))
    (λ honest rows. (rw c.in-Err.is at c.in_ok-on.ensures.value honest) (feedback_rules c.args.caller c.args.rating c.args.text.now (is_given (g.K.Keep.content c.args.keep.now) c.args.item c.args.caller)))

pub returns-in-Err-taken_rating : goal.returns-in-Err-taken_rating
returns-in-Err-taken_rating g c = refuses c.in_ok-is_given.ensures.faults
    (looked c.in_ok-on.ensures.faults c.in_ok-on.ensures.read c.in_ok-is_given.ensures.read) (λ honest settings h is e.
    let on = rw c.in-Ok.is at c.in_ok-on.ensures.value (c.in_ok-is_given.ensures.read.honest honest) in
    feedback_judged (g.K.Keep.content c.args.keep.now) settings h c.args.moment c.args.caller c.args.item c.args.rating c.args.text.now c.in-Ok.on.terms e on.1 on.2
    ∙ sym (rw (given g (goal.at.returns-in-Err-taken_rating g c).In_ok-is_given honest) at c.in-Err-taken_rating.ensures))
    (λ honest rows.
    let on = rw c.in-Ok.is at c.in_ok-on.ensures.value (c.in_ok-is_given.ensures.read.honest honest) in
    of_found (g.K.Keep.content c.args.keep.now) c.args.moment c.args.caller c.args.item c.in-Ok.on.terms (feedback_rules c.args.caller c.args.rating c.args.text.now (is_given (g.K.Keep.content c.args.keep.now) c.args.item c.args.caller)) (Some c.in-Err-taken_rating.refusal) on.1 on.2
    (rw (given g (goal.at.returns-in-Err-taken_rating g c).In_ok-is_given honest) at c.in-Err-taken_rating.ensures))

pub returns-in-Ok-taken_rating : goal.returns-in-Ok-taken_rating
returns-in-Ok-taken_rating g c = accepts c.in_ok-is_given.ensures.faults
    (looked c.in_ok-on.ensures.faults c.in_ok-on.ensures.read c.in_ok-is_given.ensures.read)
    (λ honest settings h is e.
    let on = rw c.in-Ok.is at c.in_ok-on.ensures.value (c.in_ok-is_given.ensures.read.honest honest) in
    let taken = rw (given g (goal.at.returns-in-Ok-taken_rating g c).In_ok-is_given honest) at c.in-Ok-taken_rating.ensures in
    feedback_accepts (g.K.Keep.content c.args.keep.now) settings h c.args.moment c.args.caller c.args.item c.args.rating c.args.text.now c.in-Ok.on.terms c.in-Ok.on.member c.other_party.result c.in-Ok-taken_rating.rating c.args.text
    e refl on.0 c.other_party.ensures taken.0 on.1 on.2 taken.1)
    (λ honest rows.
    let on = rw c.in-Ok.is at c.in_ok-on.ensures.value (c.in_ok-is_given.ensures.read.honest honest) in
    let taken = rw (given g (goal.at.returns-in-Ok-taken_rating g c).In_ok-is_given honest) at c.in-Ok-taken_rating.ensures in
    of_found (g.K.Keep.content c.args.keep.now) c.args.moment c.args.caller c.args.item c.in-Ok.on.terms (feedback_rules c.args.caller c.args.rating c.args.text.now (is_given (g.K.Keep.content c.args.keep.now) c.args.item c.args.caller)) None on.1 on.2 taken.1)
    (λ honest rows change_rows.
    let on = rw c.in-Ok.is at c.in_ok-on.ensures.value (c.in_ok-is_given.ensures.read.honest honest) in
    let taken = rw (given g (goal.at.returns-in-Ok-taken_rating g c).In_ok-is_given honest) at c.in-Ok-taken_rating.ensures in
    feedback_fits (g.K.Keep.content c.args.keep.now) c.args.moment c.args.caller c.args.item c.args.rating c.args.text.now c.in-Ok.on.terms c.in-Ok.on.member c.other_party.result c.args.text
    refl on.0 c.other_party.ensures on.1 on.2 taken.1)
    (λ honest.
    let on = rw c.in-Ok.is at c.in_ok-on.ensures.value (c.in_ok-is_given.ensures.read.honest honest) in
    record {
      same_command = rw ((row_there (g.K.Keep.content c.args.keep.now) c.args.item c.in-Ok.on.terms on.1).numbered, c.in-Ok-taken_rating.ensures.0) refl;
      same_caller = on.0;
      same_moment = refl;
    })

pub returns-in_err-is_given : goal.returns-in_err-is_given
returns-in_err-is_given g c = record {
  decided = search rules;
  by_tables = search rules;
  fits = search rules;
  sound = search rules;
  own = search rules;
  faults = search rules;
  damaged = grind (arith, common_steps);
  read = looked c.in_ok-on.ensures.faults c.in_ok-on.ensures.read c.in_err-is_given.ensures.read;
}
