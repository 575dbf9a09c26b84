use Rattle.site_acts.proofs.Acts.{acted_by_nothing}
use Rattle.site_acts.proofs.messages.act.Goals as goal

pub returns-in-Broken-clause-acted : goal.returns-in-Broken-clause-acted
returns-in-Broken-clause-acted g c =
    rw c.in-Broken.is (
    acted_by_nothing g.K.Keep.content g.K.Keep.is_failed g.K.Keep.is_honest g.K.Keep.may_leave
    c.args.writer.now.zone c.args.asked.now.closes c.in-Broken.caller c.in-Broken.fault
    c.write.result c.args.out.now.items c.write.new.out.items c.args.keep.now c.write.ensures.ok
    c.write.ensures.err c.write.ensures.memory
    )
