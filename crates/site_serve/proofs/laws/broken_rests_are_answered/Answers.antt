use Rattle.site_serve.proofs.FaultTexts.{fault_answered}
use Rattle.site_serve.proofs.laws.broken_rests_are_answered.Goals as goal

pub returns : goal.returns
returns c = λ settings zone h f. fault_answered settings zone h f
