use Rattle.std.proofs.Common.{◌≡◌, ◌≢◌, ◌∙◌, List, Result, Ok, Err, refl}
use Rattle.steps.specs.Rows.{AreJudged}
use Rattle.steps.specs.Table.{Band, IsBandTable}
use Rattle.steps.specs.declared.fault.BandsFault.{BandsFault}
use Rattle.steps.specs.declared.fault.BandsFault.TheVariants.{Csv, Head, Row, First, Order, Falls, TooMany, Device, Memory}
use Rattle.auction_words.proofs.settings.same_bands.Goals as goal

-- a table is taken, so out of memory is the only fault of its rows
other_fault : (rows : List Band) (r : Result (List Band) BandsFault) (fault : BandsFault)
    → IsBandTable rows → (r ≢ Err Memory → AreJudged rows r) → r ≡ Err fault → fault ≢ Memory → ⊥
other_fault rows r fault valid judged is other =
    let taken : r ≡ Ok rows = ((judged (λ e. other cc)).ok rows).1 (refl, valid) in cc

only_memory : (rows : List Band) (r : Result (List Band) BandsFault) (fault : BandsFault)
    → IsBandTable rows → (r ≢ Err Memory → AreJudged rows r) → r ≡ Err fault → fault ≡ Memory
only_memory rows r Memory valid judged is = refl
only_memory rows r Csv valid judged is = absurd (other_fault rows r Csv valid judged is (λ e. cc))
only_memory rows r Head valid judged is = absurd (other_fault rows r Head valid judged is (λ e. cc))
only_memory rows r (Row n) valid judged is = absurd (other_fault rows r (Row n) valid judged is (λ e. cc))
only_memory rows r First valid judged is = absurd (other_fault rows r First valid judged is (λ e. cc))
only_memory rows r (Order n) valid judged is = absurd (other_fault rows r (Order n) valid judged is (λ e. cc))
only_memory rows r (Falls n) valid judged is = absurd (other_fault rows r (Falls n) valid judged is (λ e. cc))
only_memory rows r TooMany valid judged is = absurd (other_fault rows r TooMany valid judged is (λ e. cc))
only_memory rows r Device valid judged is = absurd (other_fault rows r Device valid judged is (λ e. cc))

pub returns-in-Ok-clause-same : goal.returns-in-Ok-clause-same
returns-in-Ok-clause-same c =
    let judged = c.of_rows.ensures (λ e. let is = c.in-Ok.is in cc) in
    ((judged.ok c.in-Ok.same).0 c.in-Ok.is).0 ∙ c.rows.ensures.rows

pub returns-in-Err-clause-memory : goal.returns-in-Err-clause-memory
returns-in-Err-clause-memory c =
    let memory = only_memory c.rows.result.now c.of_rows.result c.in-Err.fault c.rows.ensures.valid
    c.of_rows.ensures c.in-Err.is in
    cc
