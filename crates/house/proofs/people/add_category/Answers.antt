use Rattle.std.proofs.Common.{rules, ◌∙◌, refl, sym}
use Rattle.house.proofs.Decides.{accepts, refuses}
use Rattle.house.proofs.NewNames.{category_accepts, category_fits, category_refusal}
use Rattle.house.proofs.people.add_category.Goals as goal

pub returns-in-Some : goal.returns-in-Some
returns-in-Some g c = refuses c.in_ok-refusal.ensures.faults c.in_ok-refusal.ensures.read (λ honest settings h is e.
    category_refusal (g.K.Keep.content c.args.keep.now) settings h c.args.moment c.args.caller c.args.name.now c.in-Some.refusal e (sym c.in-Some.is ∙ c.in_ok-refusal.ensures.value honest))
    (λ honest rows. sym c.in-Some.is ∙ c.in_ok-refusal.ensures.value honest)

pub returns-in-None : goal.returns-in-None
returns-in-None g c = accepts c.in_ok-refusal.ensures.faults c.in_ok-refusal.ensures.read
    (λ honest settings h is e.
    category_accepts (g.K.Keep.content c.args.keep.now) settings h c.args.moment c.args.caller c.args.name.now c.args.name refl e (sym c.in-None.is ∙ c.in_ok-refusal.ensures.value honest))
    (λ honest rows. sym c.in-None.is ∙ c.in_ok-refusal.ensures.value honest)
    (λ honest rows change_rows.
    category_fits (g.K.Keep.content c.args.keep.now) c.args.moment c.args.caller c.args.name.now c.args.name refl (sym c.in-None.is ∙ c.in_ok-refusal.ensures.value honest))
    (search rules)
