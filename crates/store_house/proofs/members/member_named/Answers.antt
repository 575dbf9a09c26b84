use Rattle.house_rows.specs.Text.{same_text}
use Rattle.store_rows.specs.Rows.{members_in}
use Rattle.store_house.proofs.NamedTable.{named_lists}
use Rattle.store_house.proofs.People.{members}
use Rattle.store_house.proofs.PeopleMeaning.{member_named_is}
use Rattle.store_house.proofs.members.member_named.Goals as goal

pub row_found-requires-clause-plain : goal.row_found-requires-clause-plain
row_found-requires-clause-plain g c = member_named_is.1

pub returns-clause-finds : goal.returns-clause-finds
returns-clause-finds g c =
    rw c.params-to_sql.ensures at (c.row_found.ensures.finds members_in (λ x. same_text x.name c.args.name.now)) (named_lists members _ _ _ member_named_is c.args.name.now c.utf8.name)
