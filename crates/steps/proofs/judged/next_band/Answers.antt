use Rattle.std.proofs.Common.{arith}
use Rattle.csv.specs.Records.{fields_of}
use Rattle.steps.proofs.FieldLemmas.{last_is, spelled_next}
use Rattle.steps.proofs.judged.next_band.Goals as goal

pub returns-in-Some-band : goal.returns-in-Some-band
returns-in-Some-band c =
    spelled_next c.args.bands.now (fields_of c.args.row.now) c.in-Some.at.now c.in-Some.step.now c.in-Some-band.band c.follows.result (omega arith)
    c.in-Some.ensures c.in-Some-band.ensures (rw (c.last.ensures.value, last_is c.args.bands.now) at c.follows.ensures)
