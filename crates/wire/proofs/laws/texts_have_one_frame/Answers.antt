use Rattle.wire.proofs.OneFrame.{one_frame}
use Rattle.wire.proofs.laws.texts_have_one_frame.Goals as goal

pub returns : goal.returns
returns c = λ text frame other is also. one_frame text frame other is also
