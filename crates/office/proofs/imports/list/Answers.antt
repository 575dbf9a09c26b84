use Rattle.std.proofs.Common.{◌≡◌, None, Some}
use Rattle.std.specs.Io.KnownBytes.{Appends}
use Rattle.site.specs.Replies.{IsStep, zone_of}
use Rattle.office.specs.Imports.{keep_of}
use Rattle.office.specs.Orders.{message_of}
use Rattle.office.proofs.Chains.{report_done, report_ended, report_ordered}
use Rattle.office.proofs.Rows.{long_done, long_ended, write_is_consistent}
use Rattle.office.proofs.imports.list.Goals as goal

pub returns-then-branch-clause-done : goal.returns-then-branch-clause-done
returns-then-branch-clause-done g c =
    let k = g.K.Keep in
    let step =
    IsStep k.content k.is_failed k.is_honest k.may_leave (zone_of c.args.site.now) in
    let fits : message_of c.args.by c.args.lot.now ≡ Some c.write.new.self.text.items =
    rw c.if-branch.true at c.in_ok-write.ensures in
    report_done step (Appends (g.W.Write.contents c.args.output.now) (g.W.Write.contents c.ask.new.output))
    c.args.by c.args.lot.now c.write.new.self.text.items c.args.number c.ask.result
    (keep_of c.args.site.now) (keep_of c.ask.new.site) c.requires fits
    (rw c.deref.ensures.value at c.ask.ensures.report)

pub returns-then-branch-clause-ended : goal.returns-then-branch-clause-ended
returns-then-branch-clause-ended g c =
    let k = g.K.Keep in
    let step =
    IsStep k.content k.is_failed k.is_honest k.may_leave (zone_of c.args.site.now) in
    let fits : message_of c.args.by c.args.lot.now ≡ Some c.write.new.self.text.items =
    rw c.if-branch.true at c.in_ok-write.ensures in
    report_ended step (Appends (g.W.Write.contents c.args.output.now) (g.W.Write.contents c.ask.new.output))
    c.args.by c.args.lot.now c.write.new.self.text.items c.args.number c.ask.result
    (keep_of c.args.site.now) (keep_of c.ask.new.site) c.requires fits
    (rw c.deref.ensures.value at c.ask.ensures.report)

pub returns-then-branch-clause-ordered : goal.returns-then-branch-clause-ordered
returns-then-branch-clause-ordered g c =
    let k = g.K.Keep in
    let step =
    IsStep k.content k.is_failed k.is_honest k.may_leave (zone_of c.args.site.now) in
    let fits : message_of c.args.by c.args.lot.now ≡ Some c.write.new.self.text.items =
    rw c.if-branch.true at c.in_ok-write.ensures in
    report_ordered step (Appends (g.W.Write.contents c.args.output.now) (g.W.Write.contents c.ask.new.output))
    c.args.by c.args.lot.now c.write.new.self.text.items c.args.number c.ask.result
    (keep_of c.args.site.now) (keep_of c.ask.new.site) c.requires fits
    (rw c.deref.ensures.value at c.ask.ensures.report)

pub returns-else-branch-clause-done : goal.returns-else-branch-clause-done
returns-else-branch-clause-done g c =
    let k = g.K.Keep in
    let step =
    IsStep k.content k.is_failed k.is_honest k.may_leave (zone_of c.args.site.now) in
    let long : message_of c.args.by c.args.lot.now ≡ None =
    rw c.if-branch.false at c.in_ok-write.ensures in
    long_done step (Appends (g.W.Write.contents c.args.output.now) (g.W.Write.contents c.refuse_long.new.output))
    c.args.by c.args.number c.args.lot.now c.refuse_long.result (keep_of c.args.site.now) long
    c.refuse_long.ensures.refused c.refuse_long.ensures.line

pub returns-else-branch-clause-ended : goal.returns-else-branch-clause-ended
returns-else-branch-clause-ended g c =
    let k = g.K.Keep in
    let step =
    IsStep k.content k.is_failed k.is_honest k.may_leave (zone_of c.args.site.now) in
    let long : message_of c.args.by c.args.lot.now ≡ None =
    rw c.if-branch.false at c.in_ok-write.ensures in
    long_ended step c.args.by c.args.number c.args.lot.now c.refuse_long.result
    (keep_of c.args.site.now) long c.refuse_long.ensures.fault

pub returns-else-branch-clause-quiet : goal.returns-else-branch-clause-quiet
returns-else-branch-clause-quiet g c =
    write_is_consistent c.refuse_long.result _ c.refuse_long.ensures.fault
