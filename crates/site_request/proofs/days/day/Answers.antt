use Rattle.std.proofs.Common.{refl}
use Rattle.site_request.proofs.DayLemmas.{day_is, no_day, no_text}
use Rattle.site_request.proofs.days.day.Goals as goal

pub returns-in-Ok-read : goal.returns-in-Ok-read
returns-in-Ok-read c =
    let text = c.in-Ok.ensures.cases in
    let is = (c.in-Ok-read.ensures.ok c.in-Ok-read.day).0 refl in
    day_is c.args.text.now c.in-Ok.text.now c.in-Ok-read.day text.0 text.1 is.0 is.1
    (λ e le spelt. let same = (c.in-Ok-read.ensures.ok e).1 (le, spelt) in cc)

pub returns-in-Err-read : goal.returns-in-Err-read
returns-in-Err-read c =
    let text = c.in-Ok.ensures.cases in
    no_day c.args.text.now c.in-Ok.text.now text.0 text.1 (λ d le spelt. let read =
    (c.in-Err-read.ensures.ok d).1 (le, spelt) in cc)

pub returns-in-Err : goal.returns-in-Err
returns-in-Err c = no_text c.args.text.now c.in-Err.ensures.cases.0
