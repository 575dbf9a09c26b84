use Rattle.store_house.proofs.NumbersLemmas.{reads_err, reads_still}
use Rattle.store_house.proofs.numbers.shows_none.Goals as goal

pub returns-in_err-rows-clause-read : goal.returns-in_err-rows-clause-read
returns-in_err-rows-clause-read g c = reads_err _ _ _ c.from_residual.ensures.1 c.in_err-rows.ensures.read

pub returns-then-is_empty-clause-read : goal.returns-then-is_empty-clause-read
returns-then-is_empty-clause-read g c = reads_still _ _ _ c.in_ok-rows.ensures.read

pub returns-clause-read : goal.returns-clause-read
returns-clause-read g c = reads_still _ _ _ c.in_ok-rows.ensures.read
