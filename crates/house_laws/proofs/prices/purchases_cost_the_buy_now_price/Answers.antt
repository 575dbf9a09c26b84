use Rattle.house_laws.proofs.Purchases.{buyer_stays, costs_buy_now}
use Rattle.house_laws.proofs.prices.purchases_cost_the_buy_now_price.Goals as goal

pub returns-clause-price : goal.returns-clause-price
returns-clause-price c = costs_buy_now

pub returns-clause-buyer : goal.returns-clause-buyer
returns-clause-buyer c = buyer_stays
