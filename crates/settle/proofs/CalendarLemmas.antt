-- Whole months taken off lead to the date of a day, and no other date is that day's.
use Rattle.std.proofs.Common.{◌≡◌, ◌≢◌, ℕ, zero, suc, ◌+◌, ◌-◌, ◌*◌, ◌/◌, ◌%◌, ◌<◌, ◌≤◌, nat_lt, ◌==◌, if◌then◌else◌, Bool, true, false, List, [], ◌∷◌, length, get_or, refl, sym, ap, ◌∙◌, arith, rules, pos, codes}
use Rattle.std.proofs.lemmas.Bool.Decides.{nat_tests}
use Rattle.jiff_core.proofs.SignedLemmas.{signed_arith}
use Rattle.jiff_core.proofs.CalendarLemmas.{days_from_civil-day_count, days_in_month_bounds, day_count-day, day_count-next_month, day_count-next_year, day_count-last_of_year, day_count-epoch}
use Rattle.jiff_core.proofs.DateLemmas.{epoch_day_injective, epoch_day_same}
use Rattle.jiff_core.specs.Calendar.{day_count, days_from_civil, days_in_month, days_of_months, days_of_years, IsDate}
use Rattle.jiff_core.specs.Date.{epoch_day}
use Rattle.jiff_core.specs.declared.civil.date.Date.{Date}
use Rattle.jiff.specs.Words.{date_text}
use Rattle.cents.specs.Spelling.{two_digits}
use Rattle.settle.specs.Calendar.{YearMonthDay, date_from, date_of, date_words, day_text}
use Rattle.settle.specs.declared.day.TheConstants.{LAST_DAY}

-- the date lies so many days after the first of the month
pub record IsReached (more year month days : ℕ) (d : YearMonthDay) : Type 0 where
  pub from : year ≤ d.year
  pub to : d.year ≤ year + more
  pub first : 1 ≤ d.month
  pub last : d.month ≤ 12
  pub day : 1 ≤ d.day
  pub within : d.day ≤ days_in_month (pos d.year) d.month
  pub count : day_count (pos d.year) d.month d.day ≡ day_count (pos year) month 1 + days

abbrev made : ℕ → ℕ → ℕ → YearMonthDay
made year month day = record { year = year; month = month; day = day }

here : (more year month days : ℕ) → 1 ≤ month → month ≤ 12 → days < days_in_month (pos year) month → IsReached more year month days (made year month (days + 1))
here more year month days first last within =
    let moved = day_count-day (pos year) month (days + 1) 1 (omega arith) (omega arith) in
    record { from = omega arith; to = omega arith; first = first; last = last; day = omega arith; within = omega arith; count = omega (arith, moved) }

in_next_year : (more year days : ℕ) (d : YearMonthDay) → days_in_month (pos year) 12 ≤ days → IsReached more (year + 1) 1 (days - 31) d → IsReached (suc more) year 12 days d
in_next_year more year days d past h =
    let next = day_count-next_year (pos year) (pos (year + 1)) (omega (arith, signed_arith)) (omega (arith, signed_arith)) in
    let last = day_count-last_of_year (pos year) in
    let moved = day_count-day (pos year) 12 31 1 (omega arith) (omega arith) in
    let enough : 31 ≤ days = past in
    record { from = omega (arith, h.from); to = omega (arith, h.to); first = h.first; last = h.last; day = h.day; within = h.within; count = omega (arith, h.count, next, last, moved, enough) }

in_next_month : (more year month days : ℕ) (d : YearMonthDay) → 1 ≤ month → days_in_month (pos year) month ≤ days
    → IsReached more year (month + 1) (days - days_in_month (pos year) month) d → IsReached (suc more) year month days d
in_next_month more year month days d first past h =
    let next = day_count-next_month (pos year) month first in
    record { from = omega (arith, h.from); to = omega (arith, h.to); first = h.first; last = h.last; day = h.day; within = h.within; count = omega (arith, h.count, next) }

-- the two tests of a step, and what each outcome leads to
step : (more year month days : ℕ) (stop last : Bool) (next_year next_month : YearMonthDay)
    → nat_lt days (days_in_month (pos year) month) ≡ stop → (month == 12) ≡ last → 1 ≤ month → month ≤ 12
    → (month ≡ 12 → days_in_month (pos year) month ≤ days → IsReached more (year + 1) 1 (days - 31) next_year)
    → (month < 12 → days_in_month (pos year) month ≤ days → IsReached more year (month + 1) (days - days_in_month (pos year) month) next_month)
    → IsReached (suc more) year month days (if stop then made year month (days + 1) else (if last then next_year else next_month))
step more year month days true last ny nm s l first high a b = here (suc more) year month days first high (grind (arith, nat_tests))
step more year month days false true ny nm s l first high a b =
    let december : month ≡ 12 = grind (arith, nat_tests) in
    let past : days_in_month (pos year) month ≤ days = grind (arith, nat_tests) in
    let found : IsReached more (year + 1) 1 (days - 31) ny = a december past in
    rw december (in_next_year more year days ny (rw december at past) found)
step more year month days false false ny nm s l first high a b =
    let before : month < 12 = grind (arith, nat_tests) in
    let past : days_in_month (pos year) month ≤ days = grind (arith, nat_tests) in
    in_next_month more year month days nm first past (b before past)

walk : (more year month days : ℕ) → 1 ≤ month → month ≤ 12 → days < 28 * (more + 1) → IsReached more year month days (date_from more year month days)
unfolding date_from
walk zero year month days first last few =
    here 0 year month days first last (omega (arith, days_in_month_bounds (pos year) month))
walk (suc more) year month days first last few =
    step more year month days _ _ _ _ refl refl first last
    (λ december past. walk more (year + 1) 1 (days - 31) (omega arith) (omega arith) (omega arith))
    (λ before past. walk more year (month + 1) (days - days_in_month (pos year) month) (omega arith) (omega arith) (omega (arith, days_in_month_bounds (pos year) month)))

-- a day's date is a date of the calendar
pub date_of_is : (n : ℕ) → n ≤ LAST_DAY → IsReached 1709 1970 1 n (date_of n)
unfolding date_of
date_of_is n within = walk 1709 1970 1 n (omega arith) (omega arith) (omega arith)

-- and `jiff` has it
pub civil : (n : ℕ) → n ≤ LAST_DAY → Date
civil n within =
    let d = date_of_is n within in
    record {
      year = pos (date_of n).year;
      month = (date_of n).month;
      day = (date_of n).day;
      year_in = omega (arith, signed_arith, d.from, d.to);
      month_in = (d.first, d.last);
      day_in = (d.day, d.within);
    }

pub epoch_day-civil : (n : ℕ) (within : n ≤ LAST_DAY) → epoch_day (civil n within) ≡ pos n
unfolding civil
epoch_day-civil n within =
    let d = date_of_is n within in
    omega (arith, signed_arith, days_from_civil-day_count (pos (date_of n).year) (date_of n).month (date_of n).day, d.count, day_count-epoch)

-- a date with that day number has those parts
pub parts_of_day : (date : Date) (n : ℕ) → n ≤ LAST_DAY → epoch_day date ≡ pos n
    → (date.year ≡ pos (date_of n).year) × (date.month ≡ (date_of n).month) × (date.day ≡ (date_of n).day)
unfolding civil
parts_of_day date n within e = epoch_day_injective date (civil n within) (e ∙ sym (epoch_day-civil n within))

-- and is written as it is
pub text_of_day : (date : Date) (n : ℕ) → n ≤ LAST_DAY → epoch_day date ≡ pos n → day_text n ≡ date_text date
unfolding day_text date_words
text_of_day date n within e =
    let same = parts_of_day date n within e in
    let year = same.0 in
    let month = same.1 in
    let day = same.2 in
    rw (year, month, day) refl

-- dates with the same words are the same
pub words_are_one : (a b : YearMonthDay) → a.year < 10000 → a.month < 100 → a.day < 100 → b.year < 10000 → b.month < 100 → b.day < 100
    → date_words a ≡ date_words b → (a.year ≡ b.year) × (a.month ≡ b.month) × (a.day ≡ b.day)
unfolding date_words
words_are_one a b ay am ad by bm bd e =
    let t0 : 48 + a.year / 100 / 10 ≡ 48 + b.year / 100 / 10 = cc in
    let t1 : 48 + a.year / 100 % 10 ≡ 48 + b.year / 100 % 10 = cc in
    let t2 : 48 + a.year % 100 / 10 ≡ 48 + b.year % 100 / 10 = cc in
    let t3 : 48 + a.year % 100 % 10 ≡ 48 + b.year % 100 % 10 = cc in
    let t4 : 48 + a.month / 10 ≡ 48 + b.month / 10 = cc in
    let t5 : 48 + a.month % 10 ≡ 48 + b.month % 10 = cc in
    let t6 : 48 + a.day / 10 ≡ 48 + b.day / 10 = cc in
    let t7 : 48 + a.day % 10 ≡ 48 + b.day % 10 = cc in
    (omega arith, omega arith, omega arith)

-- the parts of a day's date have at most four, two and two digits
pub date_of-small : (n : ℕ) → n ≤ LAST_DAY → ((date_of n).year < 10000) × ((date_of n).month < 100) × ((date_of n).day < 100)
date_of-small n within =
    let d = date_of_is n within in
    (omega (arith, d.to), omega (arith, d.last), omega (arith, d.within, days_in_month_bounds (pos (date_of n).year) (date_of n).month))

-- days with one date are the same
pub date_of-injective : (m n : ℕ) → m ≤ LAST_DAY → n ≤ LAST_DAY → date_of m ≡ date_of n → m ≡ n
date_of-injective m n wm wn e =
    let a = rw e at (date_of_is m wm).count in
    let b = (date_of_is n wn).count in
    omega (arith, a, b)

one_date : (y m d y₂ m₂ d₂ : ℕ) → y ≡ y₂ → m ≡ m₂ → d ≡ d₂ → made y m d ≡ made y₂ m₂ d₂
one_date y m d y₂ m₂ d₂ p q r = cc

-- a text that spells a date and a day: the date is the day's
pub spelled : (text : List ℕ) (p : YearMonthDay) (n : ℕ) → p.year < 10000 → p.month < 100 → p.day < 100 → text ≡ date_words p → n ≤ LAST_DAY
    → text ≡ day_text n → date_of n ≡ p
unfolding day_text
spelled text p n year month day words within e =
    let small = date_of-small n within in
    let same = words_are_one (date_of n) p small.0 small.1 small.2 year month day (sym e ∙ words) in
    one_date _ _ _ _ _ _ same.0 same.1 same.2

-- a text that spells no date spells no day
pub unspelled : (text : List ℕ) → ((d : YearMonthDay) → d.year < 10000 → d.month < 100 → d.day < 100 → text ≢ date_words d) → (n : ℕ) → n ≤ LAST_DAY → text ≢ day_text n
unfolding day_text
unspelled text none n within e =
    let small = date_of-small n within in none (date_of n) small.0 small.1 small.2 e

-- a text that spells a day's date spells the day
pub day_spelled : (text : List ℕ) (p : YearMonthDay) (n : ℕ) → text ≡ date_words p → date_of n ≡ p → text ≡ day_text n
unfolding day_text
day_spelled text p n words e = words ∙ ap date_words (sym e)

-- the date that `jiff` has with these parts is the day's
pub parts_are : (date : Date) (year month day : ℕ) (n : ℕ) → date.year ≡ pos year → date.month ≡ month → date.day ≡ day → n ≤ LAST_DAY → epoch_day date ≡ pos n
    → date_of n ≡ made year month day
parts_are date year month day n y m d within e =
    let same = parts_of_day date n within e in
    let years : (date_of n).year ≡ year = omega (arith, signed_arith, sym same.0 ∙ y) in
    one_date _ _ _ _ _ _ years (sym same.1 ∙ m) (sym same.2 ∙ d)

-- and where the parts are a day's, `jiff` has the date, and it has the day's number
pub number_is : (date : Date) (year month day : ℕ) (n : ℕ) → date.year ≡ pos year → date.month ≡ month → date.day ≡ day → n ≤ LAST_DAY
    → date_of n ≡ made year month day → epoch_day date ≡ pos n
unfolding civil
number_is date year month day n y m d within e =
    let years : pos year ≡ pos (date_of n).year = ap (λ (p : YearMonthDay). pos p.year) (sym e) in
    let months : month ≡ (date_of n).month = ap (λ (p : YearMonthDay). p.month) (sym e) in
    let days : day ≡ (date_of n).day = ap (λ (p : YearMonthDay). p.day) (sym e) in
    epoch_day_same date (civil n within) (y ∙ years) (m ∙ months) (d ∙ days) ∙ epoch_day-civil n within

pub has_parts : (year month day : ℕ) (n : ℕ) → n ≤ LAST_DAY → date_of n ≡ made year month day → IsDate (pos year) (pos month) (pos day)
has_parts year month day n within e =
    let d = rw e at (date_of_is n within) in
    (omega (arith, signed_arith, d.from, d.to), omega (arith, signed_arith, d.first, d.last), omega (arith, signed_arith, d.day, d.within))

-- a text of ten bytes is the date that its digits give
pub words_of : (text : List ℕ) (century year month day : ℕ) → length text ≡ 10 → year < 100
    → two_digits century ≡ get_or text 0 0 ∷ get_or text 1 0 ∷ [] → two_digits year ≡ get_or text 2 0 ∷ get_or text 3 0 ∷ [] → get_or text 4 0 ≡ 45
    → two_digits month ≡ get_or text 5 0 ∷ get_or text 6 0 ∷ [] → get_or text 7 0 ≡ 45 → two_digits day ≡ get_or text 8 0 ∷ get_or text 9 0 ∷ []
    → text ≡ date_words (made (century * 100 + year) month day)
unfolding date_words
words_of (a ∷ b ∷ c ∷ d ∷ e ∷ f ∷ g ∷ h ∷ i ∷ j ∷ []) century year month day size small cs ys dash ms dash2 ds =
    let front : (century * 100 + year) / 100 ≡ century = omega arith in
    let back : (century * 100 + year) % 100 ≡ year = omega arith in
    rw (front, back) cc
words_of [] century year month day size small cs ys dash ms dash2 ds = absurd (omega arith)
words_of (a ∷ []) century year month day size small cs ys dash ms dash2 ds = absurd (omega arith)
words_of (a ∷ b ∷ []) century year month day size small cs ys dash ms dash2 ds = absurd (omega arith)
words_of (a ∷ b ∷ c ∷ []) century year month day size small cs ys dash ms dash2 ds = absurd (omega arith)
words_of (a ∷ b ∷ c ∷ d ∷ []) century year month day size small cs ys dash ms dash2 ds = absurd (omega arith)
words_of (a ∷ b ∷ c ∷ d ∷ e ∷ []) century year month day size small cs ys dash ms dash2 ds = absurd (omega arith)
words_of (a ∷ b ∷ c ∷ d ∷ e ∷ f ∷ []) century year month day size small cs ys dash ms dash2 ds = absurd (omega arith)
words_of (a ∷ b ∷ c ∷ d ∷ e ∷ f ∷ g ∷ []) century year month day size small cs ys dash ms dash2 ds = absurd (omega arith)
words_of (a ∷ b ∷ c ∷ d ∷ e ∷ f ∷ g ∷ h ∷ []) century year month day size small cs ys dash ms dash2 ds = absurd (omega arith)
words_of (a ∷ b ∷ c ∷ d ∷ e ∷ f ∷ g ∷ h ∷ i ∷ []) century year month day size small cs ys dash ms dash2 ds = absurd (omega arith)
words_of (a ∷ b ∷ c ∷ d ∷ e ∷ f ∷ g ∷ h ∷ i ∷ j ∷ k ∷ rest) century year month day size small cs ys dash ms dash2 ds = absurd (omega arith)

-- ---- where days and moments end

end_of_2100 : Date
end_of_2100 = record { year = pos 2100; month = 12; day = 31; year_in = search rules; month_in = search rules; day_in = search rules }

pub last_day_text : day_text LAST_DAY ≡ codes "2100-12-31"
unfolding end_of_2100 days_from_civil day_count days_of_years days_of_months
last_day_text = text_of_day end_of_2100 LAST_DAY (omega arith) refl

start_of_2100 : Date
start_of_2100 = record { year = pos 2100; month = 1; day = 1; year_in = search rules; month_in = search rules; day_in = search rules }

pub new_year_text : day_text 47482 ≡ codes "2100-01-01"
unfolding start_of_2100 days_from_civil day_count days_of_years days_of_months
new_year_text = text_of_day start_of_2100 47482 (omega arith) refl
