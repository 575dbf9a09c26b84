use Rattle.std.proofs.Common.{refl}
use Rattle.steps.specs.Table.{step_at}
use Rattle.steps.specs.Valid.{is_band_table}
use Rattle.proxy.specs.Bids.{greatest, leader, price, second, top}
use Rattle.house_rows.specs.Items.{items_shown}
use Rattle.house_rows.specs.Pages.{page_of}
use Rattle.house_rows.specs.Questions.{published, waiting}
use Rattle.house_rows.specs.Verdict.{verdict}
use Rattle.house_laws.proofs.bands.editions_of_tables.Goals as goal

pub returns-clause-new_table_is_for_new_items : goal.returns-clause-new_table_is_for_new_items
unfolding verdict items_shown greatest leader price second top step_at is_band_table published waiting page_of
returns-clause-new_table_is_for_new_items c = ((refl, refl), (refl, refl), (refl, refl))

pub returns-clause-each_item_keeps_its_table : goal.returns-clause-each_item_keeps_its_table
unfolding verdict items_shown greatest leader price second top step_at is_band_table published waiting page_of
returns-clause-each_item_keeps_its_table c = ((refl, refl), (refl, refl))

pub returns-clause-tables_are_judged : goal.returns-clause-tables_are_judged
unfolding verdict items_shown greatest leader price second top step_at is_band_table published waiting page_of
returns-clause-tables_are_judged c = (refl, refl, refl, refl)

pub returns-clause-next_item_goes_by_the_newest : goal.returns-clause-next_item_goes_by_the_newest
unfolding verdict items_shown greatest leader price second top step_at is_band_table published waiting page_of
returns-clause-next_item_goes_by_the_newest c = (refl, refl, refl)

pub returns-clause-tables_are_shown : goal.returns-clause-tables_are_shown
unfolding verdict items_shown greatest leader price second top step_at is_band_table published waiting page_of
returns-clause-tables_are_shown c = (refl, refl, refl, refl, refl, refl)
