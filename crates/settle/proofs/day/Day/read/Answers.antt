use Rattle.std.proofs.Common.{◌≡◌, refl, sym, ◌∙◌, ap, Ok}
use Rattle.settle.proofs.CalendarLemmas.{date_of-injective, day_spelled, spelled, unspelled}
use Rattle.settle.proofs.day.Day.read.Goals as goal

pub returns-in_default-clause-ok : goal.returns-in_default-clause-ok
returns-in_default-clause-ok c =
    λ d. ((λ e. cc), (λ h. absurd (unspelled c.args.text.now (rw c.as_bytes.ensures.value at (c.in_default.ensures.none refl)) d h.0 h.1)))

pub returns-in_default-clause-date : goal.returns-in_default-clause-date
returns-in_default-clause-date c =
    ((λ e d. unspelled c.args.text.now (rw c.as_bytes.ensures.value at (c.in_default.ensures.none refl)) d), (λ h. refl))

pub returns-in-Some-of_parts-clause-ok : goal.returns-in-Some-of_parts-clause-ok
returns-in-Some-of_parts-clause-ok c d =
    let p = rw c.as_bytes.ensures.value at c.in-Some.ensures.some in
    let n = c.in-Some-of_parts.ensures.some in (
      (λ e. let same : d ≡ c.in-Some-of_parts.day = cc in rw same (n.0, day_spelled c.args.text.now _ c.in-Some-of_parts.day p.3 n.1)),
      (λ h. ap Ok (date_of-injective c.in-Some-of_parts.day d n.0 h.0 (n.1 ∙ sym (spelled c.args.text.now _ d p.0 p.1 p.2 p.3 h.0 h.1)))),
    )

pub returns-in-Some-of_parts-clause-date : goal.returns-in-Some-of_parts-clause-date
returns-in-Some-of_parts-clause-date c =
    let p = rw c.as_bytes.ensures.value at c.in-Some.ensures.some in
    let n = c.in-Some-of_parts.ensures.some in
    ((λ e. cc), (λ h. absurd (h c.in-Some-of_parts.day n.0 (day_spelled c.args.text.now _ c.in-Some-of_parts.day p.3 n.1))))

pub returns-in-None-clause-ok : goal.returns-in-None-clause-ok
returns-in-None-clause-ok c d =
    let p = rw c.as_bytes.ensures.value at c.in-Some.ensures.some in
    ((λ e. cc), (λ h. absurd (c.in-None.ensures.none refl d h.0 (spelled c.args.text.now _ d p.0 p.1 p.2 p.3 h.0 h.1))))

pub returns-in-None-clause-date : goal.returns-in-None-clause-date
returns-in-None-clause-date c =
    let p = rw c.as_bytes.ensures.value at c.in-Some.ensures.some in
    ((λ _ d within e. c.in-None.ensures.none refl d within (spelled c.args.text.now _ d p.0 p.1 p.2 p.3 within e)), (λ h. refl))
