use Rattle.std.proofs.Common.{◌∙◌, rules}
use Rattle.store_rows.proofs.ColumnReads.{maybe_text_there, maybe_reported}
use Rattle.store_rows.proofs.columns.maybe_text_at.Goals as goal

pub returns-clause-value : goal.returns-clause-value
returns-clause-value c = c.in_ok-shared.ensures.value ∙ maybe_reported _ c.in_ok-text.text c.in_ok-text.ensures.value

pub returns-in_err-text-clause-damaged : goal.returns-in_err-text-clause-damaged
returns-in_err-text-clause-damaged c in_row there = λ was. c.in_err-text.ensures.damaged in_row (maybe_text_there _ there) (search rules)
