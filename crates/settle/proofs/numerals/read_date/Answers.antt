use Rattle.std.proofs.Common.{◌≡◌, length, arith, rules}
use Rattle.settle.proofs.CalendarLemmas.{words_of}
use Rattle.settle.proofs.numerals.read_date.Goals as goal

pub returns-clause-some : goal.returns-clause-some
returns-clause-some c =
    let size : length c.args.text.now ≡ 10 = omega arith in
    let year = c.in_ok-year.ensures.some in
    rw (c.from.ensures, c.from-2.ensures) (
      omega (arith, c.in_ok-century.ensures.some.0, year.0),
      c.in_ok-month.ensures.some.0,
      c.in_ok-day.ensures.some.0,
      words_of c.args.text.now c.in_ok-century.century c.in_ok-year.year c.in_ok-month.month c.in_ok-day.day size year.0
          c.in_ok-century.ensures.some.1 year.1 (search rules) c.in_ok-month.ensures.some.1 (search rules) c.in_ok-day.ensures.some.1,
    )
