use Rattle.std.proofs.Common.{inl}
use Rattle.csv.specs.Records.{fields_of}
use Rattle.steps.proofs.ReadLemmas.{read_on}
use Rattle.office.proofs.Fields.{reading_fails}
use Rattle.office.proofs.records.next.Goals as goal

pub returns-in-Ok-clause-ok : goal.returns-in-Ok-clause-ok
returns-in-Ok-clause-ok g c rows text has =
    let report = c.in-Ok.ensures in
    let plain = has.plain in
    read_on g.R.Read.remaining c.args.reader.now c.read_byte_record.new.self c.in-Ok.found rows
    (fields_of c.read_byte_record.new.row) text has
    (report.reads plain.untrimmed plain.ready) report.flexible (inl (report.ready plain.untrimmed))

pub returns-in-Err-clause-fault : goal.returns-in-Err-clause-fault
returns-in-Err-clause-fault g c rows text has =
    rw c.fault_of.ensures (reading_fails g.R.Read.remaining c.args.reader.now
    c.read_byte_record.new.self c.in-Err.error.kind has.plain
    (c.in-Err.ensures.why has.plain.ready))
