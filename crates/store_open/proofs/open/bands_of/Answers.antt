use Rattle.std.proofs.Common.{◌≡◌, ◌∙◌, rules, subst, sym}
use Rattle.steps.specs.Table.{IsBandTable}
use Rattle.store_rows.proofs.StateLemmas.{ok_then}
use Rattle.store_open.proofs.open.bands_of.Goals as goal

pub returns-clause-value : goal.returns-clause-value
returns-clause-value c =
    let lent : c.deref.result.now ≡ c.in_ok-pairs.pairs.items = search rules in
    ok_then c.table_of.result c.table_of.ensures.value (λ _ e. e.0 ∙ lent ∙ c.in_ok-pairs.ensures.value)

pub returns-clause-damaged : goal.returns-clause-damaged
returns-clause-damaged c table =
    let lent : c.deref.result.now ≡ c.in_ok-pairs.pairs.items = search rules in
    c.table_of.ensures.damaged (subst IsBandTable (sym (lent ∙ c.in_ok-pairs.ensures.value)) table)
