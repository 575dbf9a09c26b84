-- The calendar date of a day, and how it is written.
use Rattle.std.specs.Prelude.{ℕ, zero, suc, ◌+◌, ◌-◌, ◌/◌, ◌%◌, pos, nat_lt, ◌==◌, if◌then◌else◌, List, ◌++◌, codes}
use Rattle.jiff.specs.Words.{days_in_month}
use Rattle.cents.specs.Spelling.{two_digits}

-- a year with a month and a day of it, each counted from 1
pub record YearMonthDay : Type 0 where
  pub year : ℕ
  pub month : ℕ
  pub day : ℕ

-- the date that is so many days after the first of a month: whole months are taken off, as long as
-- there are that many days; so many further months are looked at
unfoldable pub date_from : ℕ → ℕ → ℕ → ℕ → YearMonthDay
date_from zero year month days = record { year = year; month = month; day = days + 1 }
date_from (suc more) year month days =
    if nat_lt days (days_in_month (pos year) month)
    then record { year = year; month = month; day = days + 1 }
    else (if month == 12
    then date_from more (year + 1) 1 (days - 31)
    else date_from more year (month + 1) (days - days_in_month (pos year) month))

-- the date of the day with that number, 1970-01-01 being 0
unfoldable pub date_of : ℕ → YearMonthDay
date_of n = date_from 1709 1970 1 n

-- `YYYY-MM-DD`
unfoldable pub date_words : YearMonthDay → List ℕ
date_words d =
    two_digits (d.year / 100) ++ two_digits (d.year % 100) ++ codes "-" ++ two_digits d.month
    ++ codes "-" ++ two_digits d.day

-- how the day with that number is written
unfoldable pub day_text : ℕ → List ℕ
day_text n = date_words (date_of n)
