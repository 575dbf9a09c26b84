use Rattle.office.proofs.Answered.{item_told, name_told}
use Rattle.office.proofs.laws.lines_tell_their_answers.Goals as goal

pub returns-clause-item : goal.returns-clause-item
returns-clause-item c = item_told

pub returns-clause-name : goal.returns-clause-name
returns-clause-name c = name_told
