use Rattle.house_rows.specs.Text.{same_text}
use Rattle.store_rows.specs.Rows.{categories_in}
use Rattle.store_house.proofs.NamedTable.{named_lists}
use Rattle.store_house.proofs.People.{categories}
use Rattle.store_house.proofs.PeopleMeaning.{category_named_is}
use Rattle.store_house.proofs.categories.category_named.Goals as goal

pub row_found-requires-clause-plain : goal.row_found-requires-clause-plain
row_found-requires-clause-plain g c = category_named_is.1

pub returns-clause-finds : goal.returns-clause-finds
returns-clause-finds g c =
    rw c.params-to_sql.ensures at (c.row_found.ensures.finds categories_in (λ x. same_text x.name c.args.name.now)) (named_lists categories _ _ _ category_named_is c.args.name.now c.utf8.name)
