use Rattle.std.proofs.Common.{sym, arith, ◌∙◌}
use Rattle.steps.proofs.FieldLemmas.{last_is}
use Rattle.steps.proofs.RowLemmas.{next_is}
use Rattle.steps.proofs.judged.next_row.Goals as goal

pub returns : goal.returns
returns c = next_is c.args.bands.now c.args.row c.follows.result (omega arith) (sym c.is_band.ensures ∙ c.if-not-is_band.false) (rw (c.last.ensures.value, last_is c.args.bands.now) at c.follows.ensures)
