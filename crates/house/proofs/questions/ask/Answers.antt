use Rattle.std.proofs.Common.{◌≡◌, refl, ◌∙◌, sym, Some, None}
use Rattle.house_rows.specs.Found.{ask_count}
use Rattle.house_rows.specs.Verdict.{question_rules}
use Rattle.house.proofs.Decides.{accepts, looked, refuses}
use Rattle.house.proofs.NewQuestions.{ask_accepts, ask_fits, ask_judged, ask_refused}
use Rattle.house.proofs.OnItems.{row_there}
use Rattle.house.proofs.Reported.{of_found}
use Rattle.house.proofs.Unchanged.{still_there}
use Rattle.house.proofs.questions.ask.Goals as goal
use Rattle.house.proofs.questions.ask.Goals.{In_ok-count}

-- what the second read answered is true of the tables before the first
counted : (g : _) (c : In_ok-count g) → g.K.Keep.is_honest c.ask_count.new.self → c.in_ok-count.count ≡ ask_count (g.K.Keep.content c.args.keep.now) c.args.caller c.args.item
counted g c honest =
    rw (still_there c.in_ok-on.field-0 g.K.Keep.content g.K.Keep.is_failed g.K.Keep.is_honest g.K.Keep.may_leave c.args.keep.now c.on_item.new.keep
    c.in_ok-on.ensures.faults c.in_ok-on.ensures.read (c.in_ok-count.ensures.read.honest honest)) at (c.in_ok-count.ensures.value honest)

pub returns-in-Err : goal.returns-in-Err
returns-in-Err g c = refuses c.in_ok-on.ensures.faults c.in_ok-on.ensures.read (λ honest settings h is e.
    ask_refused (g.K.Keep.content c.args.keep.now) settings h c.args.moment c.args.caller c.args.item c.args.text.now c.in-Err.refusal e (rw c.in-Err.is at c.in_ok-on.ensures.value honest))
    (λ honest rows. (rw c.in-Err.is at c.in_ok-on.ensures.value honest) (question_rules c.args.moment c.args.caller c.args.text.now (ask_count (g.K.Keep.content c.args.keep.now) c.args.caller c.args.item)))

pub returns-in-Err-next_number : goal.returns-in-Err-next_number
returns-in-Err-next_number g c = refuses c.in_ok-count.ensures.faults
    (looked c.in_ok-on.ensures.faults c.in_ok-on.ensures.read c.in_ok-count.ensures.read) (λ honest settings h is e.
    let on = rw c.in-Ok.is at c.in_ok-on.ensures.value (c.in_ok-count.ensures.read.honest honest) in
    ask_judged (g.K.Keep.content c.args.keep.now) settings h c.args.moment c.args.caller c.args.item c.args.text.now c.in-Ok.on.terms e on.1 on.2
    ∙ sym (rw (counted g (goal.at.returns-in-Err-next_number g c).In_ok-count honest) at c.in-Err-next_number.ensures))
    (λ honest rows.
    let on = rw c.in-Ok.is at c.in_ok-on.ensures.value (c.in_ok-count.ensures.read.honest honest) in
    of_found (g.K.Keep.content c.args.keep.now) c.args.moment c.args.caller c.args.item c.in-Ok.on.terms (question_rules c.args.moment c.args.caller c.args.text.now (ask_count (g.K.Keep.content c.args.keep.now) c.args.caller c.args.item)) (Some c.in-Err-next_number.refusal) on.1 on.2
    (rw (counted g (goal.at.returns-in-Err-next_number g c).In_ok-count honest) at c.in-Err-next_number.ensures))

pub returns-in-Ok-next_number : goal.returns-in-Ok-next_number
returns-in-Ok-next_number g c = accepts c.in_ok-count.ensures.faults
    (looked c.in_ok-on.ensures.faults c.in_ok-on.ensures.read c.in_ok-count.ensures.read)
    (λ honest settings h is e.
    let on = rw c.in-Ok.is at c.in_ok-on.ensures.value (c.in_ok-count.ensures.read.honest honest) in
    let next = rw (counted g (goal.at.returns-in-Ok-next_number g c).In_ok-count honest) at c.in-Ok-next_number.ensures in
    ask_accepts (g.K.Keep.content c.args.keep.now) settings h c.args.moment c.args.caller c.args.item c.args.text.now c.in-Ok.on.terms c.in-Ok.on.member c.in-Ok-next_number.number c.args.text
    is e refl on.0 next.0 on.1 on.2 next.1)
    (λ honest rows.
    let on = rw c.in-Ok.is at c.in_ok-on.ensures.value (c.in_ok-count.ensures.read.honest honest) in
    let next = rw (counted g (goal.at.returns-in-Ok-next_number g c).In_ok-count honest) at c.in-Ok-next_number.ensures in
    of_found (g.K.Keep.content c.args.keep.now) c.args.moment c.args.caller c.args.item c.in-Ok.on.terms (question_rules c.args.moment c.args.caller c.args.text.now (ask_count (g.K.Keep.content c.args.keep.now) c.args.caller c.args.item)) None on.1 on.2 next.1)
    (λ honest rows change_rows.
    let on = rw c.in-Ok.is at c.in_ok-on.ensures.value (c.in_ok-count.ensures.read.honest honest) in
    let next = rw (counted g (goal.at.returns-in-Ok-next_number g c).In_ok-count honest) at c.in-Ok-next_number.ensures in
    ask_fits (g.K.Keep.content c.args.keep.now) c.args.moment c.args.caller c.args.item c.args.text.now c.in-Ok.on.terms c.in-Ok.on.member c.in-Ok-next_number.number c.args.text
    refl on.0 next.0 on.1 on.2 next.1)
    (λ honest.
    let on = rw c.in-Ok.is at c.in_ok-on.ensures.value (c.in_ok-count.ensures.read.honest honest) in
    record { same_command = rw (row_there (g.K.Keep.content c.args.keep.now) c.args.item c.in-Ok.on.terms on.1).numbered refl; same_caller = on.0; same_moment = tt })
