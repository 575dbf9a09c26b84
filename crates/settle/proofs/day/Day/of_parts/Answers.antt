use Rattle.std.proofs.Common.{◌≡◌, ◌∙◌, rules, arith, pos, to_z, w8, w16}
use Rattle.std.proofs.lemmas.Option.{IfSome_then}
use Rattle.jiff_core.proofs.SignedLemmas.{signed_arith}
use Rattle.settle.proofs.CalendarLemmas.{parts_are, number_is, has_parts}
use Rattle.settle.proofs.day.Day.of_parts.Goals as goal

pub returns-in-Ok-clause-some : goal.returns-in-Ok-clause-some
returns-in-Ok-clause-some c =
    let y : to_z w16 c.args.year ≡ pos c.args.year = search rules in
    let m : to_z w8 c.args.month ≡ pos c.args.month = search rules in
    let d : to_z w8 c.args.day ≡ pos c.args.day = search rules in
    let ymd = c.in-Ok.ensures.value in
    let month : c.in-Ok.date.month ≡ c.args.month = omega (arith, signed_arith, ymd.1 ∙ m) in
    let day : c.in-Ok.date.day ≡ c.args.day = omega (arith, signed_arith, ymd.2 ∙ d) in
    IfSome_then c.from_date.result c.from_date.ensures.some (λ n h. (h.0, parts_are c.in-Ok.date c.args.year c.args.month c.args.day n (ymd.0 ∙ y) month day h.0 h.1))

pub returns-in-Ok-clause-none : goal.returns-in-Ok-clause-none
returns-in-Ok-clause-none c none n within e =
    let y : to_z w16 c.args.year ≡ pos c.args.year = search rules in
    let m : to_z w8 c.args.month ≡ pos c.args.month = search rules in
    let d : to_z w8 c.args.day ≡ pos c.args.day = search rules in
    let ymd = c.in-Ok.ensures.value in
    let month : c.in-Ok.date.month ≡ c.args.month = omega (arith, signed_arith, ymd.1 ∙ m) in
    let day : c.in-Ok.date.day ≡ c.args.day = omega (arith, signed_arith, ymd.2 ∙ d) in
    c.from_date.ensures.none none n within (number_is c.in-Ok.date c.args.year c.args.month c.args.day n (ymd.0 ∙ y) month day within e)

pub returns-in-Err-clause-none : goal.returns-in-Err-clause-none
returns-in-Err-clause-none c none n within e =
    let y : to_z w16 c.args.year ≡ pos c.args.year = search rules in
    let m : to_z w8 c.args.month ≡ pos c.args.month = search rules in
    let d : to_z w8 c.args.day ≡ pos c.args.day = search rules in
    let has = has_parts c.args.year c.args.month c.args.day n within e in
    let is = c.in-Err.ensures.succeeds.1 (rw (y, m, d) has) in
    cc
