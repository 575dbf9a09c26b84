use Rattle.std.proofs.Common.{◌≡◌, Some, sym, ◌∙◌, subst}
use Rattle.cents.specs.Spelling.{IsSpelling}
use Rattle.office.proofs.lot.amount.Goals as goal

pub returns-in-Err-clause-none : goal.returns-in-Err-clause-none
returns-in-Err-clause-none c none n is =
    let there : Some is.text ≡ Some c.in_ok-text.field-0.now =
    sym is.is_text.there ∙ c.in_ok-text.ensures.some.there in
    let same : is.text ≡ c.in_ok-text.field-0.now = cc in
    let read = (c.parse.ensures.ok n).1 (subst (λ t. IsSpelling t n) same is.spelled, is.within) in
    cc (c.in-Err.is, read)
