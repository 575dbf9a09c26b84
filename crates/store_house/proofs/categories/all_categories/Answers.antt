use Rattle.store_house.proofs.NamedTable.{all_list}
use Rattle.store_house.proofs.People.{categories}
use Rattle.store_house.proofs.PeopleMeaning.{all_categories_are}
use Rattle.store_house.proofs.categories.all_categories.Goals as goal

pub rows_found-requires-clause-plain : goal.rows_found-requires-clause-plain
rows_found-requires-clause-plain g c = all_categories_are.1

pub returns-clause-finds : goal.returns-clause-finds
returns-clause-finds g c = c.rows_found.ensures.finds _ (all_list categories _ _ _ all_categories_are)
