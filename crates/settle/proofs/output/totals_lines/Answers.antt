use Rattle.std.proofs.Common.{◌∙◌, codes}
use Rattle.std.proofs.lemmas.Result.{IfOk-weaker}
use Rattle.cents.specs.Spelling.{amount_text}
use Rattle.settle.proofs.TextLemmas.{totals_are}
use Rattle.settle.specs.Text.{totals_text}
use Rattle.settle.proofs.output.totals_lines.Goals as goal

pub returns : goal.returns
unfolding totals_text
returns c =
    rw (← c.show.ensures, ← c.show-2.ensures, ← c.show-3.ensures, ← c.show-4.ensures)
    (IfOk-weaker c.format.result _ _ (λ s e. e ∙ totals_are (codes "sold ") (codes "fees ") (codes "net ") (codes "bought ")
    (amount_text c.show.result) (amount_text c.show-2.result) (amount_text c.show-3.result) (amount_text c.show-4.result)) c.format.ensures.ok)
