use Rattle.settle.proofs.ZoneLemmas.{same_day}
use Rattle.settle.proofs.laws.zones_of_one_text_agree.Goals as goal

pub returns : goal.returns
returns c = same_day
