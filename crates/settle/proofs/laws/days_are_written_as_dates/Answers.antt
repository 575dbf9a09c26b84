use Rattle.settle.proofs.CalendarLemmas.{text_of_day}
use Rattle.settle.proofs.laws.days_are_written_as_dates.Goals as goal

pub returns : goal.returns
returns c = text_of_day
