use Rattle.std.proofs.Common.{inl, inr, rules}
use Rattle.std.proofs.KnownBytes.{Keeps-refl}
use Rattle.std.proofs.lemmas.Result.{err_from_is_err_and}
use Rattle.auction_runs.specs.Faults.{fault_of_serving}
use Rattle.auction_runs.proofs.Outcomes.{if_err_then}
use Rattle.auction_runs.proofs.Replays.{by_fault, of_record, of_serve, on_err, serve_fault, unserved}
use Rattle.auction_runs.proofs.Waits.{never_after, never_read, read_by_serving}
use Rattle.site.specs.Replies.{zone_of}
use Rattle.site_serve.specs.Serving.{keep_of}
use Rattle.auction_runs.proofs.replay.reply_over.Goals as goal

pub returns-in_err-serve-clause-part : goal.returns-in_err-serve-clause-part
returns-in_err-serve-clause-part g c = λ kept_zone.
    on_err c.from_residual-in_err-serve.result (
    of_serve g.K.Keep c.args.asked (zone_of c.prepare.new.site) (zone_of c.args.site.now)
    _ _ _ (keep_of c.args.site.now) (keep_of c.prepare.new.site) (keep_of c.serve.new.site)
    c.in_ok-prepare.ensures.zone kept_zone c.in_ok-prepare.ensures.set_up _ c.serve.result
    c.in_err-serve.field-0.0 c.in_err-serve.was c.serve.ensures.read c.serve.ensures.write
    (search rules))

pub returns-clause-part : goal.returns-clause-part
returns-clause-part g c = λ kept_zone.
    of_record g.K.Keep c.args.asked (zone_of c.prepare.new.site) (zone_of c.args.site.now)
    _ _ _ (keep_of c.args.site.now) (keep_of c.prepare.new.site) (keep_of c.serve.new.site)
    c.in_ok-prepare.ensures.zone kept_zone c.in_ok-prepare.ensures.set_up _ _ c.in_ok-serve.field-0
    c.finish.result c.in_ok-serve.ensures.served c.finish.ensures.part

pub returns-in_err-prepare-clause-waits : goal.returns-in_err-prepare-clause-waits
returns-in_err-prepare-clause-waits g c = never_read c.in_err-prepare.field-0.0 c.from_residual.result
    c.from_residual.ensures c.in_err-prepare.ensures.fault

pub returns-in_err-serve-clause-waits : goal.returns-in_err-serve-clause-waits
returns-in_err-serve-clause-waits g c = read_by_serving c.serve.result c.in_err-serve.field-0.0
    c.from_residual-in_err-serve.result c.from_residual-in_err-serve.ensures c.in_err-serve.was
    c.serve.ensures.waits

pub returns-clause-waits : goal.returns-clause-waits
returns-clause-waits g c =
    never_after (g.W.Sink.has_failed c.finish.new.sink) c.finish.result c.finish.ensures.fault

pub returns-in_err-prepare-clause-cause : goal.returns-in_err-prepare-clause-cause
returns-in_err-prepare-clause-cause g c =
    let p = err_from_is_err_and c.from_residual.result c.from_residual.ensures.1 in
    rw (p.1, p.2) (inl (
      c.in_err-prepare.ensures.why,
      Keeps-refl (g.W.Sink.taken c.args.sink.now),
    ))

pub returns-in_err-serve-clause-cause : goal.returns-in_err-serve-clause-cause
returns-in_err-serve-clause-cause g c =
    let p = err_from_is_err_and c.from_residual-in_err-serve.result
    c.from_residual-in_err-serve.ensures.1 in
    let left = g.R.Source.left c.args.source.now in
    let now = g.R.Source.left c.serve.new.source in
    let before = g.W.Sink.taken c.args.sink.now in
    let after = g.W.Sink.taken c.serve.new.sink in
    let zone = zone_of c.prepare.new.site in
    let begun = keep_of c.prepare.new.site in
    let last = keep_of c.serve.new.site in
    let fault = c.in_err-serve.field-0.0 in
    rw (p.1, p.2) (
    by_fault g.K.Keep c.args.asked zone (zone_of c.args.site.now) left now before after
    (keep_of c.args.site.now) begun last (fault_of_serving fault) c.in_ok-prepare.ensures.zone
    c.in_ok-prepare.ensures.set_up
    (inl (serve_fault g.K.Keep zone left now before after begun last c.serve.result fault
    c.in_err-serve.was c.serve.ensures.read c.serve.ensures.write
    (λ is. unserved g.W.Sink.taken c.args.sink.now c.serve.new.sink c.prepare.new.site
    c.serve.new.site (c.serve.ensures.memory is)))))

pub returns-clause-cause : goal.returns-clause-cause
returns-clause-cause g c = if_err_then c.finish.result c.finish.ensures.cause (λ fault why.
    by_fault g.K.Keep c.args.asked (zone_of c.prepare.new.site) (zone_of c.args.site.now)
    (g.R.Source.left c.args.source.now) (g.R.Source.left c.serve.new.source)
    (g.W.Sink.taken c.args.sink.now) (g.W.Sink.taken c.finish.new.sink)
    (keep_of c.args.site.now) (keep_of c.prepare.new.site) (keep_of c.finish.new.site) fault
    c.in_ok-prepare.ensures.zone c.in_ok-prepare.ensures.set_up (inr (record {
      ended = keep_of c.serve.new.site;
      between = g.W.Sink.taken c.serve.new.sink;
      served = c.in_ok-serve.field-0;
      answered = c.in_ok-serve.ensures.served;
      cause = why;
    })))
