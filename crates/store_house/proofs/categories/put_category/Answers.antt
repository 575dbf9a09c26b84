use Rattle.std.proofs.Common.{arith}
use Rattle.store_rows.proofs.StateLemmas.{ok_then}
use Rattle.store_house.proofs.NamedTable.{adds}
use Rattle.store_house.proofs.People.{categories}
use Rattle.store_house.proofs.PeopleMeaning.{put_category_is}
use Rattle.store_house.proofs.categories.put_category.Goals as goal

pub returns-clause-ok : goal.returns-clause-ok
returns-clause-ok g c clean =
    ok_then c.run.result (rw (c.params-to_sql.ensures, c.params-to_sql-2.ensures) at (c.run.ensures.ran clean)) (λ _ ran.
    let added = adds categories _ _ _ put_category_is c.args.number c.args.name.now ran.0 (omega (arith, c.ranges.number)) c.utf8.name (c.run.ensures.house clean) ran.1 in
    record { house = added.house; schema = added.schema; others = added.others; categories = added.rows })
