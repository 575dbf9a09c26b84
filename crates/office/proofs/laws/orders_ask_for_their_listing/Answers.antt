use Rattle.office.proofs.Listed.{order_lists, spelled_listable}
use Rattle.office.proofs.laws.orders_ask_for_their_listing.Goals as goal

pub returns-clause-order : goal.returns-clause-order
returns-clause-order c = order_lists

pub returns-clause-row : goal.returns-clause-row
returns-clause-row c = spelled_listable
