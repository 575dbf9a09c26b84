use Rattle.site.proofs.Isolated.{isolated}
use Rattle.site.proofs.laws.isolation.Goals as goal

pub returns : goal.returns
returns c = isolated
