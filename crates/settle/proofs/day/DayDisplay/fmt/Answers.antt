use Rattle.settle.proofs.CalendarLemmas.{text_of_day}
use Rattle.settle.proofs.day.DayDisplay.fmt.Goals as goal

pub returns-clause-writes : goal.returns-clause-writes
returns-clause-writes g c plain ok =
    rw (text_of_day c.date.result c.args.self.now c.date.ensures.within c.date.ensures.value) (c.fmt.ensures.writes plain ok)
