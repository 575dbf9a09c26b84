use Rattle.std.proofs.Common.{inl, inr, subst}
use Rattle.std.proofs.KnownBytes.{Keeps-refl}
use Rattle.std.proofs.lemmas.Result.{err_from_is_err_and}
use Rattle.site.specs.Replies.{zone_of}
use Rattle.site_serve.specs.Serving.{keep_of}
use Rattle.auction_runs.specs.Replayed.{IsReplyFault}
use Rattle.auction_runs.proofs.Outcomes.{if_err_then}
use Rattle.auction_runs.proofs.Waits.{never_read}
use Rattle.auction_runs.proofs.replay.reply_all.Goals as goal

pub returns-in_err-site-clause-waits : goal.returns-in_err-site-clause-waits
returns-in_err-site-clause-waits g c = never_read c.in_err-site.field-0.0 c.from_residual.result
    c.from_residual.ensures c.in_err-site.ensures.fault

pub returns-in_err-site-clause-cause : goal.returns-in_err-site-clause-cause
returns-in_err-site-clause-cause g c =
    let p = err_from_is_err_and c.from_residual.result c.from_residual.ensures.1 in
    rw (p.1, p.2) (inl (
      c.in_err-site.ensures.cause,
      Keeps-refl (g.W.Sink.taken c.args.sink.now),
    ))

pub returns-clause-cause : goal.returns-clause-cause
returns-clause-cause g c =
    let site = c.in_ok-site.site in
    let last = keep_of c.reply_over.new.site in
    let left = g.R.Source.left c.args.source.now in
    let now = g.R.Source.left c.reply_over.new.source in
    let before = g.W.Sink.taken c.args.sink.now in
    let after = g.W.Sink.taken c.reply_over.new.sink in
    if_err_then c.reply_over.result c.reply_over.ensures.cause (λ fault why. inr (record {
      zone = zone_of site;
      kept_zone = c.in_ok-site.ensures.zone;
      last = last;
      cause = subst (λ q. IsReplyFault g.K.Keep c.args.asked (zone_of site) left now before after q
          last fault) c.in_ok-site.ensures.keep why;
    }))
