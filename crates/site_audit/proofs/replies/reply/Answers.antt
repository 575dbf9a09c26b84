use Rattle.std.specs.Cow.{cow_slice_items}
use Rattle.site_audit.proofs.Places.{step_reported}
use Rattle.site_audit.proofs.replies.reply.Goals as goal

pub returns-clause-report : goal.returns-clause-report
returns-clause-report g c = λ honest settings h is e asked asks.
    let k = g.K.Keep in
    let (found, also, step) = c.reply.ensures.step in
    step_reported k.content k.is_failed k.is_honest k.may_leave cow_slice_items settings
    c.args.site.now.writer.zone h c.args.text.now found asked c.reply.result
    c.args.site.now.keep c.reply.new.self.keep c.check_status.result also asks step
    c.check_status.ensures.judged
    honest is e

pub returns-clause-used : goal.returns-clause-used
returns-clause-used g c =
    let (found, also, step) = c.reply.ensures.step in
    record { honest = step.honest; stays = step.stays; zone = c.reply.ensures.zone }
