use Rattle.sqlite.proofs.Callers.{memory_is_clean}
use Rattle.store_house.proofs.schemas.house_in_memory.Goals as goal

pub returns-clause-schema : goal.returns-clause-schema
returns-clause-schema c = c.in_ok-make_schema.ensures.ok (memory_is_clean c.make_schema.new.conn)
