use Rattle.proxy.proofs.Prices.{price_rises}
use Rattle.proxy.proofs.laws.price_never_falls.Goals as goal

pub returns : goal.returns
returns c = λ bands opening bids member maximum. price_rises bands opening bids _
