use Rattle.std.proofs.Common.{◌∙◌, ap, refl, Ok, Err}
use Rattle.site_request.specs.Asked.{asked_of}
use Rattle.site.specs.Replies.{broken_text}
use Rattle.site.proofs.Steps.{not_broken, one_fault, step_broken}
use Rattle.site.proofs.Stops.{down_text}
use Rattle.site.proofs.engine.Site.reply.Goals as goal

pub returns-in-Ok-clause-step : goal.returns-in-Ok-clause-step
returns-in-Ok-clause-step g c = (
  asked_of (Ok c.in-Ok.request),
  (Ok c.in-Ok.request, c.in-Ok.ensures, refl),
  c.reply_whole.ensures.step,
)

pub returns-in-Ok-clause-down : goal.returns-in-Ok-clause-down
returns-in-Ok-clause-down g c =
    let k = g.K.Keep in
    down_text k.content k.is_failed k.is_honest k.may_leave c.args.self.now.writer.zone
    c.args.message.now _ c.args.self.now.keep c.reply_whole.new.self.keep (
      asked_of (Ok c.in-Ok.request),
      (Ok c.in-Ok.request, c.in-Ok.ensures, refl),
      c.reply_whole.ensures.step,
    )

pub returns-in-Ok-clause-broken : goal.returns-in-Ok-clause-broken
returns-in-Ok-clause-broken g c =
    λ fault is. absurd (not_broken c.args.message.now c.in-Ok.request fault c.in-Ok.ensures is)

pub returns-in-Err-clause-step : goal.returns-in-Err-clause-step
returns-in-Err-clause-step g c =
    let k = g.K.Keep in (
      asked_of (Err c.in-Err.fault),
      (Err c.in-Err.fault, c.in-Err.ensures, refl),
      rw c.broken_frame.ensures
          (step_broken k.content k.is_failed k.is_honest k.may_leave c.args.self.now.writer.zone
          c.in-Err.fault c.args.self.now.keep),
    )

pub returns-in-Err-clause-down : goal.returns-in-Err-clause-down
returns-in-Err-clause-down g c =
    let k = g.K.Keep in
    down_text k.content k.is_failed k.is_honest k.may_leave c.args.self.now.writer.zone
    c.args.message.now c.broken_frame.result.now c.args.self.now.keep c.args.self.now.keep (
      asked_of (Err c.in-Err.fault),
      (Err c.in-Err.fault, c.in-Err.ensures, refl),
      rw c.broken_frame.ensures
          (step_broken k.content k.is_failed k.is_honest k.may_leave c.args.self.now.writer.zone
          c.in-Err.fault c.args.self.now.keep),
    )

pub returns-in-Err-clause-broken : goal.returns-in-Err-clause-broken
returns-in-Err-clause-broken g c = λ fault is. (
  c.broken_frame.ensures
      ∙ ap broken_text (one_fault c.args.message.now c.in-Err.fault fault c.in-Err.ensures is),
  refl,
)
