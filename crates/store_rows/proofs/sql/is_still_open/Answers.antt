use Rattle.store_rows.proofs.StateLemmas.{prepared_ended}
use Rattle.store_rows.proofs.sql.is_still_open.Goals as goal

pub returns-clause-kept : goal.returns-clause-kept
returns-clause-kept g c = λ clean. prepared_ended _ _ _ _ c.prepare.result (c.prepare.ensures.ok clean) (c.prepare.ensures.err clean)
