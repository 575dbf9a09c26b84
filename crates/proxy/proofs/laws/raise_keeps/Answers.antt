use Rattle.proxy.proofs.Prices.{leader-raise, second-raise, price-raise}
use Rattle.proxy.proofs.laws.raise_keeps.Goals as goal

pub returns-clause-leader : goal.returns-clause-leader
returns-clause-leader c = λ bands opening bids member maximum. leader-raise bands opening bids _

pub returns-clause-second : goal.returns-clause-second
returns-clause-second c = λ bands opening bids member maximum. second-raise bands opening bids _

pub returns-clause-price : goal.returns-clause-price
returns-clause-price c = λ bands opening bids member maximum. price-raise bands opening bids _
