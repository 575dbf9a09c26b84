use Rattle.std.proofs.Common.{◌≡◌, ◌∙◌, refl, rules, sym}
use Rattle.steps.specs.declared.fault.BandsFault.TheVariants.{Memory}
use Rattle.store_open.proofs.editions.table_of.Goals as goal

pub returns-in-Ok-clause-value : goal.returns-in-Ok-clause-value
returns-in-Ok-clause-value c =
    let judged = c.of_rows.ensures (λ e. let is = c.in-Ok.is in cc) in
    (judged.ok c.in-Ok.bands).0 c.in-Ok.is

pub returns-in-Err-2-clause-damaged : goal.returns-in-Err-2-clause-damaged
returns-in-Err-2-clause-damaged c table is =
    let other : c.in-Err.fault ≡ Memory → ⊥ = λ e. search rules in
    let judged = c.of_rows.ensures (λ e. other (let x = sym c.in-Err.is ∙ e in cc)) in
    let taken = (judged.ok c.args.rows.now).1 (refl, table) in
    let both = sym c.in-Err.is ∙ taken in cc
