use Rattle.settle.proofs.CalendarLemmas.{last_day_text, new_year_text}
use Rattle.settle.proofs.laws.days_and_moments_end.Goals as goal

pub returns-clause-date : goal.returns-clause-date
returns-clause-date c = last_day_text

pub returns-clause-new_year : goal.returns-clause-new_year
returns-clause-new_year c = new_year_text
