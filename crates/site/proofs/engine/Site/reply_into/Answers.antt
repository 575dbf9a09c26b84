use Rattle.std.proofs.Common.{refl, Ok}
use Rattle.site_request.specs.Asked.{asked_of}
use Rattle.site.proofs.Steps.{step_acted, step_unread}
use Rattle.site.proofs.engine.Site.reply_into.Goals as goal

pub returns-in-Ok-clause-step : goal.returns-in-Ok-clause-step
returns-in-Ok-clause-step g c =
    let k = g.K.Keep in
    rw (← c.in-Ok.ensures)
    (step_acted k.content k.is_failed k.is_honest k.may_leave c.args.self.now.writer.zone
    c.in-Ok.asked
    c.act-acted.result c.or_fault_text.result c.args.out.now.items c.act-acted.new.out.items
    c.args.self.now.keep c.act-acted.new.keep c.act-acted.ensures.acted c.or_fault_text.ensures)

pub returns-in-Err-clause-step : goal.returns-in-Err-clause-step
unfolding asked_of
returns-in-Err-clause-step g c =
    let k = g.K.Keep in (
      c.unread_text.result.now,
      (refl, refl),
      step_unread k.content k.is_failed k.is_honest k.may_leave c.args.self.now.writer.zone
          (asked_of (Ok c.args.request.now)) c.in-Err.refused.closes c.unread_text.result.now
          c.args.self.now.keep c.in-Err.ensures.0 c.in-Err.ensures.1
          c.unread_text.ensures.failed c.unread_text.ensures.going,
    )
