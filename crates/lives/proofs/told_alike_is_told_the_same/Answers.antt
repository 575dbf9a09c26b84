use Rattle.lives.proofs.Told.{same_replies}
use Rattle.lives.proofs.told_alike_is_told_the_same.Goals as goal

pub returns : goal.returns
returns c caller asked other replies answers life second alike =
    same_replies caller asked other replies answers life second alike
