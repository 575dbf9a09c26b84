use Rattle.std.proofs.Common.{take, Ok}
use Rattle.settle.specs.Text.{records_text}
use Rattle.settle.specs.Written.{IsWritten}
use Rattle.settle.proofs.output.write_rows.Given as goal

abbrev pub invariant-loop-line : goal.invariant-loop-line
invariant-loop-line g l =
    IsWritten (g.W.Sink.taken l.initial.sink) (g.W.Sink.taken l.sink) (g.W.Sink.has_failed l.initial.sink) (g.W.Sink.has_failed l.sink)
    (Ok tt) (records_text l.form (take l.line-index l.rows))
