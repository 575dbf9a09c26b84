use Rattle.wire.proofs.Fronts.{message_stays}
use Rattle.wire.proofs.laws.a_message_stays.Goals as goal

pub returns : goal.returns
returns c = λ stream more message rest here. message_stays stream more message rest here
