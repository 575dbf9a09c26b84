use Rattle.std.proofs.Common.{refl, sym, rules, ◌∙◌}
use Rattle.cents.proofs.SpellingLemmas.{parts_form, parts_ok, parts_too_large, no_point_parts, pointed_parts}
use Rattle.cents.proofs.amount.Cents.parse.Goals as goal

pub returns-in-Some-clause-ok : goal.returns-in-Some-clause-ok
returns-in-Some-clause-ok c =
    let p = c.in-Some.ensures.some in
    parts_ok _ _ _ c.amount.result (pointed_parts c.args.text.now c.in-Some.whole.now c.in-Some.cents.now (sym c.as_bytes-text.ensures.value ∙ p.0) p.1) c.amount.ensures.ok

pub returns-in-Some-clause-form : goal.returns-in-Some-clause-form
returns-in-Some-clause-form c =
    let p = c.in-Some.ensures.some in
    parts_form _ _ _ c.amount.result (pointed_parts c.args.text.now c.in-Some.whole.now c.in-Some.cents.now (sym c.as_bytes-text.ensures.value ∙ p.0) p.1) (search rules) c.amount.ensures.form

pub returns-in-Some-clause-too_large : goal.returns-in-Some-clause-too_large
returns-in-Some-clause-too_large c =
    let p = c.in-Some.ensures.some in
    parts_too_large _ _ _ c.amount.result (pointed_parts c.args.text.now c.in-Some.whole.now c.in-Some.cents.now (sym c.as_bytes-text.ensures.value ∙ p.0) p.1) c.amount.ensures.too_large

pub returns-in-None-clause-ok : goal.returns-in-None-clause-ok
returns-in-None-clause-ok c =
    parts_ok _ _ _ c.amount-in-None.result (no_point_parts c.args.text.now c.as_bytes-text.result.now c.as_bytes-text.ensures.value (c.in-None.ensures.none refl)) c.amount-in-None.ensures.ok

pub returns-in-None-clause-form : goal.returns-in-None-clause-form
returns-in-None-clause-form c =
    parts_form _ _ _ c.amount-in-None.result (no_point_parts c.args.text.now c.as_bytes-text.result.now c.as_bytes-text.ensures.value (c.in-None.ensures.none refl)) (search rules) c.amount-in-None.ensures.form

pub returns-in-None-clause-too_large : goal.returns-in-None-clause-too_large
returns-in-None-clause-too_large c =
    parts_too_large _ _ _ c.amount-in-None.result (no_point_parts c.args.text.now c.as_bytes-text.result.now c.as_bytes-text.ensures.value (c.in-None.ensures.none refl)) c.amount-in-None.ensures.too_large
