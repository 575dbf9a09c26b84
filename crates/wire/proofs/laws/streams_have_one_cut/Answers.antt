use Rattle.wire.proofs.OneCut.{one_cut}
use Rattle.wire.proofs.laws.streams_have_one_cut.Goals as goal

pub returns : goal.returns
returns c = λ stream most messages others rest other stop end cut also. one_cut stream most messages others rest other stop end cut also
