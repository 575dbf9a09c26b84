use Rattle.steps.proofs.TableLemmas.{ok_through}
use Rattle.steps.proofs.reading.table.Goals as goal

pub returns-clause-ok : goal.returns-clause-ok
returns-clause-ok g c =
    ok_through c.read_rows.result (λ bands report text is. report text (c.in_ok-read_head.ensures.ok text (c.plain_reader-reader.ensures text is))) c.read_rows.ensures.ok
