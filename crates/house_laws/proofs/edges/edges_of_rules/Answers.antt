use Rattle.std.proofs.Common.{refl}
use Rattle.steps.specs.Table.{step_at}
use Rattle.proxy.specs.Bids.{greatest, leader, price, second, top}
use Rattle.house_rows.specs.Items.{items, items_shown}
use Rattle.house_rows.specs.Pages.{page_of}
use Rattle.house_rows.specs.Questions.{published, questions, waiting}
use Rattle.house_rows.specs.Verdict.{verdict}
use Rattle.house_laws.proofs.edges.edges_of_rules.Goals as goal

pub returns-clause-step_begins_at_its_band : goal.returns-clause-step_begins_at_its_band
unfolding verdict items items_shown greatest leader price second top step_at questions published waiting page_of
returns-clause-step_begins_at_its_band c = ((refl, refl), (refl, refl), (refl, refl))

pub returns-clause-raise_lifts_a_capped_price : goal.returns-clause-raise_lifts_a_capped_price
unfolding verdict items items_shown greatest leader price second top step_at questions published waiting page_of
returns-clause-raise_lifts_a_capped_price c = ((refl, refl), (refl, refl), (refl, refl))

pub returns-clause-listing_rules_come_in_order : goal.returns-clause-listing_rules_come_in_order
unfolding verdict items items_shown greatest leader price second top step_at questions published waiting page_of
returns-clause-listing_rules_come_in_order c = (refl, refl, refl, refl, refl, refl)

pub returns-clause-listings_are_refused : goal.returns-clause-listings_are_refused
unfolding verdict items items_shown greatest leader price second top step_at questions published waiting page_of
returns-clause-listings_are_refused c = (refl, refl, refl, refl, refl)

pub returns-clause-close_leaves_what_was_bought : goal.returns-clause-close_leaves_what_was_bought
unfolding verdict items items_shown greatest leader price second top step_at questions published waiting page_of
returns-clause-close_leaves_what_was_bought c = ((refl, refl), refl)

pub returns-clause-parties_of_a_purchase_rate_each_other : goal.returns-clause-parties_of_a_purchase_rate_each_other
unfolding verdict items items_shown greatest leader price second top step_at questions published waiting page_of
returns-clause-parties_of_a_purchase_rate_each_other c = (refl, (refl, refl), refl, refl, (refl, refl), refl)
