use Rattle.std.proofs.Common.{refl}
use Rattle.cents.proofs.SpellingLemmas.{amount_made, amount_ok, amount_too_large}
use Rattle.cents.proofs.digits.amount.Goals as goal

pub returns-in-Some-Some-clause-ok : goal.returns-in-Some-Some-clause-ok
returns-in-Some-Some-clause-ok c =
    let whole = c.in-Some-Some.ensures in
    let cents = c.in-Some-Some.ensures' in
    let made = amount_made c.args.whole.now c.args.cents.now c.in-Some-Some.whole c.in-Some-Some.cents c.new.result c.ok_or.result c.requires (cents.digits.0 refl) whole.number cents.number c.new.ensures.within c.new.ensures.value c.ok_or.ensures.value in
    amount_ok c.args.whole.now c.args.cents.now c.ok_or.result (whole.digits.0 refl) (cents.digits.0 refl) made

pub returns-in-Some-Some-clause-too_large : goal.returns-in-Some-Some-clause-too_large
returns-in-Some-Some-clause-too_large c =
    let whole = c.in-Some-Some.ensures in
    let cents = c.in-Some-Some.ensures' in
    let made = amount_made c.args.whole.now c.args.cents.now c.in-Some-Some.whole c.in-Some-Some.cents c.new.result c.ok_or.result c.requires (cents.digits.0 refl) whole.number cents.number c.new.ensures.within c.new.ensures.value c.ok_or.ensures.value in
    amount_too_large c.args.whole.now c.args.cents.now c.ok_or.result (whole.digits.0 refl) (cents.digits.0 refl) made
