use Rattle.std.proofs.KnownBytes.{Keeps-refl}
use Rattle.site_serve.specs.Serving.{keep_of}
use Rattle.auction_runs.proofs.NoRecord.{not_recorded}
use Rattle.auction_runs.proofs.replay.append_record.Goals as goal

pub returns-in_err-record-clause-cause : goal.returns-in_err-record-clause-cause
returns-in_err-record-clause-cause g c =
    not_recorded g.K.Keep (g.W.Sink.taken c.args.sink.now) (g.W.Sink.taken c.args.sink.now)
    (keep_of c.args.site.now) (keep_of c.record.new.self) c.record.result
    c.in_err-record.field-0.0 c.from_residual.result c.from_residual.ensures c.in_err-record.was
    c.record.ensures.faults.store c.record.ensures.undamaged c.record.ensures.read
    (Keeps-refl (g.W.Sink.taken c.args.sink.now))
