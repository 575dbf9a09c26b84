use Rattle.cents.proofs.SpellingLemmas.{one_spelling, shown_spells}
use Rattle.cents.proofs.laws.shown_amounts_read_back.Goals as goal

pub returns-clause-spelled : goal.returns-clause-spelled
returns-clause-spelled c = shown_spells

pub returns-clause-one : goal.returns-clause-one
returns-clause-one c = one_spelling
