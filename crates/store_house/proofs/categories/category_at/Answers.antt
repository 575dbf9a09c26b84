use Rattle.std.proofs.Common.{◌==◌, arith}
use Rattle.store_rows.specs.Rows.{categories_in}
use Rattle.store_house.proofs.NamedTable.{at_lists}
use Rattle.store_house.proofs.People.{categories}
use Rattle.store_house.proofs.PeopleMeaning.{category_at_is}
use Rattle.store_house.proofs.categories.category_at.Goals as goal

pub row_found-requires-clause-plain : goal.row_found-requires-clause-plain
row_found-requires-clause-plain g c = category_at_is.1

pub returns-clause-finds : goal.returns-clause-finds
returns-clause-finds g c =
    rw c.params-to_sql.ensures at (c.row_found.ensures.finds categories_in (λ x. x.category == c.args.number)) (at_lists categories _ _ _ category_at_is c.args.number (omega (arith, c.ranges.number)))
