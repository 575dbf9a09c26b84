use Rattle.std.proofs.Common.{◌∙◌, ap, sym, rules}
use Rattle.std.proofs.lemmas.Str.{IsUtf8-string_bytes}
use Rattle.store_rows.specs.Rows.{text_in}
use Rattle.store_rows.proofs.ColumnReads.{text_there}
use Rattle.store_rows.proofs.TextLemmas.{text_back}
use Rattle.store_rows.proofs.columns.text_at.Goals as goal

pub returns-clause-value : goal.returns-clause-value
returns-clause-value c = c.in_ok-shared.ensures.value ∙ sym (ap text_in c.in_ok-text.ensures.value ∙ text_back _ (IsUtf8-string_bytes c.in_ok-text.text))

pub returns-in_err-text-clause-damaged : goal.returns-in_err-text-clause-damaged
returns-in_err-text-clause-damaged c there = let is = text_there c.args.row.now c.args.at there in λ was. c.in_err-text.ensures.damaged is.0 is.1 (search rules)
