use Rattle.proxy.proofs.Prices.{price_starts}
use Rattle.proxy.proofs.Rises.{price_covered}
use Rattle.proxy.proofs.laws.price_is_between.Goals as goal

pub returns-clause-start : goal.returns-clause-start
returns-clause-start c = price_starts

pub returns-clause-maximum : goal.returns-clause-maximum
returns-clause-maximum c = price_covered
