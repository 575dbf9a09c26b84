use Rattle.std.proofs.Common.{rules, ◌∙◌, refl, sym}
use Rattle.house.proofs.Decides.{accepts, refuses}
use Rattle.house.proofs.NewNames.{register_accepts, register_fits, register_refusal}
use Rattle.house.proofs.people.register.Goals as goal

pub returns-in-Some : goal.returns-in-Some
returns-in-Some g c = refuses c.in_ok-refusal.ensures.faults c.in_ok-refusal.ensures.read (λ honest settings h is e.
    register_refusal (g.K.Keep.content c.args.keep.now) settings h c.args.moment c.args.caller c.args.name.now c.in-Some.refusal e (sym c.in-Some.is ∙ c.in_ok-refusal.ensures.value honest))
    (λ honest rows. sym c.in-Some.is ∙ c.in_ok-refusal.ensures.value honest)

pub returns-in-None : goal.returns-in-None
returns-in-None g c = accepts c.in_ok-refusal.ensures.faults c.in_ok-refusal.ensures.read
    (λ honest settings h is e.
    register_accepts (g.K.Keep.content c.args.keep.now) settings h c.args.moment c.args.caller c.args.name.now c.args.name refl e (sym c.in-None.is ∙ c.in_ok-refusal.ensures.value honest))
    (λ honest rows. sym c.in-None.is ∙ c.in_ok-refusal.ensures.value honest)
    (λ honest rows change_rows.
    register_fits (g.K.Keep.content c.args.keep.now) c.args.moment c.args.caller c.args.name.now c.args.name refl (sym c.in-None.is ∙ c.in_ok-refusal.ensures.value honest))
    (search rules)
