use Rattle.std.proofs.Common.{Result, Ok, Err, refl}
use Rattle.std.specs.Prelude.{[], IfOk, Vec}
use Rattle.house.specs.Filled.{after}
use Rattle.house_rows.specs.Tables.{Tables, tables_of}
use Rattle.house_rows.specs.declared.change.Change.{Change}
use Rattle.house_script.specs.Housed.{LeadTo, set_up}
use Rattle.house_script.proofs.filled_keep.accept_all.Goals as goal

-- changes lead to the tables that are after them
led : {Z E : Type 0} (result : Result (Vec Change Z) E) (t : Tables) → IfOk result (λ changes. LeadTo changes.items t) → IfOk result (λ changes. LeadTo changes.items (after (tables_of set_up []) changes.items))
led (Ok changes) t is = record { housed = rw is.leads is.housed; fits = is.fits; leads = refl }
led (Err e) t is = tt

pub returns : goal.returns
returns c = led c.given.result _ (c.given.ensures.lead tt refl)
