use Rattle.cents.proofs.DigitLemmas.{text_written}
use Rattle.cents.proofs.shown.ShownDisplay.fmt.Goals as goal

pub returns-clause-writes : goal.returns-clause-writes
returns-clause-writes g c = rw (c.laid_out.ensures, text_written c.self.inside.cents, c.self.view_is) at c.write.ensures.writes
