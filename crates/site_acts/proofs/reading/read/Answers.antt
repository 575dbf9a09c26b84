use Rattle.std.proofs.Common.{refl, Err}
use Rattle.std.proofs.lemmas.Result.{err_from_is_err_and}
use Rattle.house_rows.specs.declared.reply.Reply.TheVariants.{Shows}
use Rattle.site_acts.proofs.Acts.{acted_by_reading, some_text}
use Rattle.pages_laws.specs.ByTables.{page_by}
use Rattle.site_acts.proofs.Staying.{faults_after, faults_err, shown_page, shown_reads, undamaged_after, undamaged_err}
use Rattle.site_acts.proofs.reading.read.Goals as goal

pub returns-in_err-page-clause-acted : goal.returns-in_err-page-clause-acted
returns-in_err-page-clause-acted g c =
    let exit = err_from_is_err_and c.from_residual.result
    c.from_residual.ensures.1 in
    let fault = c.in_err-page.field-0.0 in
    rw (exit.1, exit.2) (
    acted_by_reading g.K.Keep.content g.K.Keep.is_failed g.K.Keep.is_honest g.K.Keep.may_leave
    c.args.writer.now.zone c.args.closes _
    (Err fault) c.args.out.now.items c.args.out.now.items c.args.keep.now c.read.new.keep refl
    (λ honest settings h is e. tt) tt (λ honest. tt) refl (faults_err _ _ fault _ _ _ c.in_err-page.ensures.faults)
    (λ honest fit. undamaged_err _ _ fault (c.in_err-page.ensures.damaged honest fit))
    c.in_err-page.ensures.read
    )

pub returns-clause-acted : goal.returns-clause-acted
returns-clause-acted g c =
    let p = c.in_ok-page.ensures in
    acted_by_reading g.K.Keep.content g.K.Keep.is_failed g.K.Keep.is_honest g.K.Keep.may_leave
    c.args.writer.now.zone c.args.closes _
    c.write.result c.args.out.now.items c.write.new.out.items c.args.keep.now c.read.new.keep refl
    (λ honest settings h is e.
    shown_reads c.write.result c.args.writer.now.zone c.args.closes settings h c.args.caller
    c.args.query.now c.in_ok-page.page c.args.out.now.items c.write.new.out.items
    (p.page honest settings h e) c.write.ensures.ok)
    (some_text c.write.result c.args.writer.now.zone c.args.closes
    (Shows c.in_ok-page.page) c.args.out.now.items c.write.new.out.items c.write.ensures.ok)
    (λ honest. shown_page c.write.result c.args.writer.now.zone c.args.closes c.in_ok-page.page
    (page_by (g.K.Keep.content c.args.keep.now) c.args.caller c.args.query.now)
    c.args.out.now.items c.write.new.out.items (p.tables honest) c.write.ensures.ok)
    c.write.ensures.err (faults_after c.in_ok-page.page c.write.result _ _ _ p.faults
    c.write.ensures.memory) (λ honest fit. undamaged_after c.write.result c.write.ensures.memory) p.read
