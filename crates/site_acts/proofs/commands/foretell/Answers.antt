use Rattle.site_acts.proofs.Acts.{done_text, result_text}
use Rattle.site_acts.proofs.commands.foretell.Goals as goal

pub returns-clause-text : goal.returns-clause-text
returns-clause-text g c =
    done_text c.write.result c.args.writer.now.zone c.args.closes c.in_ok-report.report
    c.args.out.now.items c.write.new.out.items c.write.ensures.ok

pub returns-clause-told : goal.returns-clause-told
returns-clause-told g c = λ honest.
    result_text c.write.result c.args.writer.now.zone c.args.closes
    (g.K.Keep.content c.args.keep.now) c.args.change.now c.in_ok-report.report
    c.args.out.now.items c.write.new.out.items (c.in_ok-report.ensures.answers.value honest)
    c.write.ensures.ok
