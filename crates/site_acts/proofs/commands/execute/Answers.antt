use Rattle.std.proofs.Common.{refl, Err}
use Rattle.house.proofs.Unchanged.{not_failed, still_there}
use Rattle.house_rows.specs.declared.reply.Reply.TheVariants.{Denied}
use Rattle.site_acts.proofs.Acts.{acted_by_change, acted_by_reading, refused_text, some_text}
use Rattle.site_acts.proofs.Staying.{faults_after, faults_err, refused_reads, undamaged_after}
use Rattle.site_acts.proofs.Staying.{undamaged_err}
use Rattle.site_acts.proofs.commands.execute.Goals as goal

pub returns-in-Ok-Ok-clause-acted : goal.returns-in-Ok-Ok-clause-acted
returns-in-Ok-Ok-clause-acted g c =
    let d = c.in-Ok-Ok.ensures in
    acted_by_change g.K.Keep.content g.K.Keep.is_failed g.K.Keep.is_honest g.K.Keep.may_leave
    c.args.writer.now.zone c.args.closes c.args.moment c.args.caller c.args.command.now
    c.in-Ok-Ok.change c.enter.result c.args.out.now.items c.enter.new.out.items c.args.keep.now
    c.decide.new.keep c.enter.new.keep
    (record {
      going = not_failed c.in-Ok-Ok.field-0 _ _ _ d.faults;
      read = d.read;
      same = λ honest. still_there c.in-Ok-Ok.field-0 g.K.Keep.content g.K.Keep.is_failed
          g.K.Keep.is_honest g.K.Keep.may_leave c.args.keep.now c.decide.new.keep d.faults d.read
          honest;
      accepted = λ honest settings h is e.
          rw c.in-Ok-Ok.field-0-is at (d.decided honest settings h is e);
      fits = λ honest rows made. (rw c.in-Ok-Ok.field-0-is at (d.fits honest rows)) made;
      own = λ honest. rw c.in-Ok-Ok.field-0-is at (d.own honest);
    })
    c.enter.ensures.report c.enter.ensures.text c.enter.ensures.told c.enter.ensures.err
    c.enter.ensures.applied

pub returns-in-Ok-Err-clause-acted : goal.returns-in-Ok-Err-clause-acted
returns-in-Ok-Err-clause-acted g c =
    let d = c.in-Ok-Err.ensures in
    acted_by_reading g.K.Keep.content g.K.Keep.is_failed g.K.Keep.is_honest g.K.Keep.may_leave
    c.args.writer.now.zone c.args.closes _
    c.write.result c.args.out.now.items c.write.new.out.items c.args.keep.now c.decide.new.keep refl
    (λ honest settings h is e.
    refused_reads c.write.result c.args.writer.now.zone c.args.closes settings h c.args.moment
    c.args.caller c.args.command.now c.in-Ok-Err.refusal c.args.out.now.items
    c.write.new.out.items
    (rw c.in-Ok-Err.field-0-is at (d.decided honest settings h is e)) c.write.ensures.ok)
    (some_text c.write.result c.args.writer.now.zone c.args.closes (Denied c.in-Ok-Err.refusal)
    c.args.out.now.items c.write.new.out.items c.write.ensures.ok)
    (λ honest. refused_text c.write.result c.args.writer.now.zone c.args.closes c.in-Ok-Err.refusal
    c.args.out.now.items c.write.new.out.items c.write.ensures.ok)
    c.write.ensures.err (faults_after c.in-Ok-Err.field-0 c.write.result _ _ _ d.faults
    c.write.ensures.memory)
    (λ honest fit. undamaged_after c.write.result c.write.ensures.memory) d.read

pub returns-in-Err-clause-acted : goal.returns-in-Err-clause-acted
returns-in-Err-clause-acted g c =
    acted_by_reading g.K.Keep.content g.K.Keep.is_failed g.K.Keep.is_honest g.K.Keep.may_leave
    c.args.writer.now.zone c.args.closes _
    (Err c.in-Err.fault) c.args.out.now.items c.args.out.now.items c.args.keep.now c.decide.new.keep
    refl
    (λ honest settings h is e. tt) tt (λ honest. tt) refl
    (faults_err _ _ c.in-Err.fault _ _ _ c.in-Err.ensures.faults)
    (λ honest fit. undamaged_err _ _ c.in-Err.fault (c.in-Err.ensures.damaged honest fit.0))
    c.in-Err.ensures.read
