use Rattle.std.proofs.Common.{◌≡◌, ◌≢◌, ℕ, true, false, refl, ◌∙◌, sym, arith, Some, None}
use Rattle.std.specs.Prelude.{◌==◌}
use Rattle.std.proofs.lemmas.Bool.Decides.{nat_tests}
use Rattle.house_rows.specs.declared.refusal.Refusal.TheVariants.{SellerOnly}
use Rattle.house_rows.specs.Found.{question_at}
use Rattle.house.specs.ByTables.{reply_rules}
use Rattle.house.specs.Waiting.{waiting_rules}
use Rattle.house.proofs.Decides.{accepts, looked, refuses}
use Rattle.house.proofs.NewAnswers.{answer_accepts, answer_fits, answer_of_other, answer_of_seller, answer_refused, question_named}
use Rattle.house.proofs.Reported.{by_another, by_seller, of_found}
use Rattle.house.proofs.Unchanged.{still_there}
use Rattle.house.proofs.answers.answer.Goals as goal
use Rattle.house.proofs.answers.answer.Goals.{In_ok-question}

sells : (n seller caller : ℕ) → n ≡ seller → n ≡ caller → (seller == caller) ≡ true
sells n seller caller e same = grind (arith, nat_tests)

sells_not : (n seller caller : ℕ) → n ≡ seller → n ≢ caller → (seller == caller) ≡ false
sells_not n seller caller e other = grind (arith, nat_tests)

-- what the second read answered is true of the tables before the first
found : (g : _) (c : In_ok-question g) → g.K.Keep.is_honest c.question.new.self
    → c.in_ok-question.field-0 ≡ question_at (g.K.Keep.content c.args.keep.now) c.args.item c.args.asker c.args.number
found g c honest =
    rw (still_there c.in_ok-on.field-0 g.K.Keep.content g.K.Keep.is_failed g.K.Keep.is_honest g.K.Keep.may_leave c.args.keep.now c.on_item.new.keep
    c.in_ok-on.ensures.faults c.in_ok-on.ensures.read (c.in_ok-question.ensures.answers.read.honest honest)) at (c.in_ok-question.ensures.answers.value honest)

pub returns-in-Err : goal.returns-in-Err
returns-in-Err g c = refuses c.in_ok-on.ensures.faults c.in_ok-on.ensures.read (λ honest settings h is e.
    answer_refused (g.K.Keep.content c.args.keep.now) settings h c.args.moment c.args.caller c.args.item c.args.asker c.args.number c.args.text.now c.in-Err.refusal e (rw c.in-Err.is at c.in_ok-on.ensures.value honest))
    (λ honest rows. (rw c.in-Err.is at c.in_ok-on.ensures.value honest) (reply_rules c.args.caller c.args.text.now (question_at (g.K.Keep.content c.args.keep.now) c.args.item c.args.asker c.args.number)))

pub returns-then-from-caller : goal.returns-then-from-caller
returns-then-from-caller g c = refuses c.in_ok-on.ensures.faults c.in_ok-on.ensures.read (λ honest settings h is e.
    let on = rw c.in-Ok.is at c.in_ok-on.ensures.value honest in
    answer_of_other (g.K.Keep.content c.args.keep.now) settings h c.args.moment c.args.caller c.args.item c.args.asker c.args.number c.args.text.now c.in-Ok.on.terms e on.1 on.2
    (sells_not c.from.result c.in-Ok.on.terms.seller c.args.caller c.from.ensures c.if-from-caller.true))
    (λ honest rows.
    let on = rw c.in-Ok.is at c.in_ok-on.ensures.value honest in
    of_found (g.K.Keep.content c.args.keep.now) c.args.moment c.args.caller c.args.item c.in-Ok.on.terms (reply_rules c.args.caller c.args.text.now (question_at (g.K.Keep.content c.args.keep.now) c.args.item c.args.asker c.args.number)) (Some SellerOnly) on.1 on.2
    (by_another (c.in-Ok.on.terms.seller == c.args.caller) (waiting_rules (question_at (g.K.Keep.content c.args.keep.now) c.args.item c.args.asker c.args.number) c.args.text.now)
    (sells_not c.from.result c.in-Ok.on.terms.seller c.args.caller c.from.ensures c.if-from-caller.true)))

pub returns-in-Err-waiting : goal.returns-in-Err-waiting
returns-in-Err-waiting g c = refuses c.in_ok-question.ensures.answers.faults
    (looked c.in_ok-on.ensures.faults c.in_ok-on.ensures.read c.in_ok-question.ensures.answers.read) (λ honest settings h is e.
    let on = rw c.in-Ok.is at c.in_ok-on.ensures.value (c.in_ok-question.ensures.answers.read.honest honest) in
    answer_of_seller (g.K.Keep.content c.args.keep.now) settings h c.args.moment c.args.caller c.args.item c.args.asker c.args.number c.args.text.now c.in-Ok.on.terms e on.1 on.2
    (sells c.from.result c.in-Ok.on.terms.seller c.args.caller c.from.ensures c.if-from-caller.false)
    ∙ sym (rw (found g (goal.at.returns-in-Err-waiting g c).In_ok-question honest) at c.in-Err-waiting.ensures))
    (λ honest rows.
    let on = rw c.in-Ok.is at c.in_ok-on.ensures.value (c.in_ok-question.ensures.answers.read.honest honest) in
    of_found (g.K.Keep.content c.args.keep.now) c.args.moment c.args.caller c.args.item c.in-Ok.on.terms (reply_rules c.args.caller c.args.text.now (question_at (g.K.Keep.content c.args.keep.now) c.args.item c.args.asker c.args.number)) (Some c.in-Err-waiting.refusal) on.1 on.2
    (by_seller (c.in-Ok.on.terms.seller == c.args.caller) (waiting_rules (question_at (g.K.Keep.content c.args.keep.now) c.args.item c.args.asker c.args.number) c.args.text.now) (Some c.in-Err-waiting.refusal)
    (sells c.from.result c.in-Ok.on.terms.seller c.args.caller c.from.ensures c.if-from-caller.false)
    (rw (found g (goal.at.returns-in-Err-waiting g c).In_ok-question honest) at c.in-Err-waiting.ensures)))

pub returns-in-Ok-waiting : goal.returns-in-Ok-waiting
returns-in-Ok-waiting g c = accepts c.in_ok-question.ensures.answers.faults
    (looked c.in_ok-on.ensures.faults c.in_ok-on.ensures.read c.in_ok-question.ensures.answers.read)
    (λ honest settings h is e.
    let on = rw c.in-Ok.is at c.in_ok-on.ensures.value (c.in_ok-question.ensures.answers.read.honest honest) in
    let asked = rw (found g (goal.at.returns-in-Ok-waiting g c).In_ok-question honest) at c.in-Ok-waiting.ensures in
    answer_accepts (g.K.Keep.content c.args.keep.now) settings h c.args.moment c.args.caller c.args.item c.args.asker c.args.number c.args.text.now c.in-Ok.on.terms c.in-Ok-waiting.question c.args.text
    e refl on.1 on.2 (sells c.from.result c.in-Ok.on.terms.seller c.args.caller c.from.ensures c.if-from-caller.false) asked.0 asked.1)
    (λ honest rows.
    let on = rw c.in-Ok.is at c.in_ok-on.ensures.value (c.in_ok-question.ensures.answers.read.honest honest) in
    let asked = rw (found g (goal.at.returns-in-Ok-waiting g c).In_ok-question honest) at c.in-Ok-waiting.ensures in
    of_found (g.K.Keep.content c.args.keep.now) c.args.moment c.args.caller c.args.item c.in-Ok.on.terms (reply_rules c.args.caller c.args.text.now (question_at (g.K.Keep.content c.args.keep.now) c.args.item c.args.asker c.args.number)) None on.1 on.2
    (by_seller (c.in-Ok.on.terms.seller == c.args.caller) (waiting_rules (question_at (g.K.Keep.content c.args.keep.now) c.args.item c.args.asker c.args.number) c.args.text.now) None
    (sells c.from.result c.in-Ok.on.terms.seller c.args.caller c.from.ensures c.if-from-caller.false) asked.1))
    (λ honest rows change_rows.
    let on = rw c.in-Ok.is at c.in_ok-on.ensures.value (c.in_ok-question.ensures.answers.read.honest honest) in
    let asked = rw (found g (goal.at.returns-in-Ok-waiting g c).In_ok-question honest) at c.in-Ok-waiting.ensures in
    answer_fits (g.K.Keep.content c.args.keep.now) c.args.moment c.args.caller c.args.item c.args.asker c.args.number c.args.text.now c.in-Ok-waiting.question c.args.text
    refl on.2 asked.0 asked.1)
    (λ honest.
    let asked = rw (found g (goal.at.returns-in-Ok-waiting g c).In_ok-question honest) at c.in-Ok-waiting.ensures in
    let named = question_named (g.K.Keep.content c.args.keep.now) c.args.item c.args.asker c.args.number c.in-Ok-waiting.question asked.0 in
    record { same_command = rw (named.same_item, named.same_asker, named.same_number) refl; same_caller = tt; same_moment = refl })
