use Rattle.std.proofs.Common.{◌==◌, arith}
use Rattle.store_rows.specs.Rows.{members_in}
use Rattle.store_house.proofs.NamedTable.{at_lists}
use Rattle.store_house.proofs.People.{members}
use Rattle.store_house.proofs.PeopleMeaning.{member_at_is}
use Rattle.store_house.proofs.members.member_at.Goals as goal

pub row_found-requires-clause-plain : goal.row_found-requires-clause-plain
row_found-requires-clause-plain g c = member_at_is.1

pub returns-clause-finds : goal.returns-clause-finds
returns-clause-finds g c =
    rw c.params-to_sql.ensures at (c.row_found.ensures.finds members_in (λ x. x.member == c.args.number)) (at_lists members _ _ _ member_at_is c.args.number (omega (arith, c.ranges.number)))
