use Rattle.store_making.proofs.HeldLemmas.{holds_house, holds_sound}
use Rattle.store_making.proofs.laws.made_houses_are_held.Goals as goal

pub returns-clause-house : goal.returns-clause-house
returns-clause-house c = holds_house

pub returns-clause-sound : goal.returns-clause-sound
returns-clause-sound c = holds_sound
