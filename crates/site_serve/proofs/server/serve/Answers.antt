-- Each exit ends the run so far.
use Rattle.std.proofs.Common.{◌≡◌, ◌∙◌, [], ap, sym, refl, arith, drop, inl, inr}
use Rattle.std.proofs.KnownBytes.{Appends-kept, Keeps-refl}
use Rattle.site_serve.specs.Serving.{fault_bytes}
use Rattle.site_serve.proofs.Ends.{ended_closed, ended_in_fault, ended_in_reply, ended_so_far, has_ended, leaves_lives}
use Rattle.site_serve.proofs.Runs.{all_ok, at_err, failed_after, failed_in_fault, failed_in_reply, flushed_on, if_ok, in_zone, is_zero, on_ok, read_failed, served_broken, served_clean, served_closed, served_limit, serving_more, serving_none, serving_read, whole_begins}
use Rattle.site_serve.proofs.server.serve.Goals as goal

pub loop-messages-init : goal.loop-messages-init
loop-messages-init g c = record {
  run = serving_none _ (g.R.Source.left c.args.source.now) (g.W.Sink.taken c.args.sink.now) _ c.in-Ok.inbox.held c.in-Ok.ensures.0;
  few = omega arith;
  end = λ e. absurd cc;
  some = λ e. absurd cc;
  flushed = λ e. inl refl;
  source = λ e. e;
  zone = refl;
}

-- where the writer failed in a reply
pub returns-then-is_err-clause-write : goal.returns-then-is_err-clause-write
returns-then-is_err-clause-write g c = λ e.
    let (r, step, wrote, part) = c.reply.ensures.step in (
      c.reply.ensures.failed (sym c.is_err.ensures.value ∙ c.if-is_err.true),
      failed_in_reply _ _ _ _ _ _ _ _ _ _ _ r c.in-Whole.request c.loop-messages.messages c.args.most
          c.loop-messages.invariant.run c.loop-messages-test.true c.in-Whole.ensures.0
          (in_zone _ _ _ _ _ _ _ _ _ _ c.loop-messages.invariant.zone step) part,
    )

pub returns-then-closes-clause-served : goal.returns-then-closes-clause-served
returns-then-closes-clause-served g c =
    let (r, step, wrote, part) = c.reply.ensures.step in
    let whole = on_ok c.reply.result (sym c.is_err.ensures.value ∙ c.if-is_err.false) wrote in
    if_ok c.finish.result c.finish.ensures.served (λ served report.
    served_closed _ _ _ _ _ _ _ _ _ _ _ _ r c.in-Whole.request c.loop-messages.messages c.args.most served
    c.loop-messages.invariant.run c.loop-messages-test.true c.in-Whole.ensures.0 (sym c.closes-closes.ensures ∙ c.if-closes.true)
    (in_zone _ _ _ _ _ _ _ _ _ _ c.loop-messages.invariant.zone step) whole
    c.finish.ensures.bytes report.0 report.1)

pub returns-then-closes-clause-write : goal.returns-then-closes-clause-write
returns-then-closes-clause-write g c = λ e.
    let (r, step, wrote, part) = c.reply.ensures.step in
    let whole = on_ok c.reply.result (sym c.is_err.ensures.value ∙ c.if-is_err.false) wrote in
    let fault = at_err _ c.finish.result _ e c.finish.ensures.fault in (
      fault.2,
      failed_in_reply _ _ _ _ _ _ _ _ _ _ _ r c.in-Whole.request c.loop-messages.messages c.args.most
          c.loop-messages.invariant.run c.loop-messages-test.true c.in-Whole.ensures.0
          (in_zone _ _ _ _ _ _ _ _ _ _ c.loop-messages.invariant.zone step)
          (whole_begins _ _ _ r whole c.finish.ensures.bytes),
    )

pub loop-messages-preserved-in-Whole : goal.loop-messages-preserved-in-Whole
loop-messages-preserved-in-Whole g c =
    let (r, step, wrote, part) = c.reply.ensures.step in
    let whole = on_ok c.reply.result (sym c.is_err.ensures.value ∙ c.if-is_err.false) wrote in
    record {
      run = serving_more _ _ _ _ _ _ _ _ _ _ _ c.done.new.self.held r c.in-Whole.request c.loop-messages.messages
          c.loop-messages.invariant.run c.in-Whole.ensures.0
          (c.done.ensures.held ∙ ap (λ n. drop n c.loop-messages.inbox.held) c.length-length.ensures)
          (sym c.closes-closes.ensures ∙ c.if-closes.false) (in_zone _ _ _ _ _ _ _ _ _ _ c.loop-messages.invariant.zone step) whole;
      few = omega (arith, c.loop-messages-test.true);
      end = c.loop-messages.invariant.end;
      some = λ e. omega arith;
      flushed = λ e. absurd cc;
      source = c.loop-messages.invariant.source;
      zone = c.reply.ensures.zone ∙ c.loop-messages.invariant.zone;
    }

-- where it failed as the replies so far were handed on
pub returns-then-is_err-2-clause-write : goal.returns-then-is_err-2-clause-write
returns-then-is_err-2-clause-write g c = λ e.
    let failed = c.hand_on.ensures.failed (sym c.is_err-in-More.ensures.value ∙ c.if-is_err-2.true) in (
      failed.1,
      failed_after _ _ _ _ _ _ _ _ _ c.loop-messages.messages c.args.most
          c.loop-messages.invariant.run (c.loop-messages.invariant.some failed.0) c.loop-messages.invariant.few c.hand_on.ensures.bytes,
    )

pub loop-messages-preserved : goal.loop-messages-preserved
loop-messages-preserved g c =
    let bytes = c.in-Ok-fill.ensures.bytes in
    record {
      run = serving_read _ _ _ _ _ _ _ _ _ _ bytes.0 c.fill.new.inbox.held c.loop-messages.messages
          c.loop-messages.invariant.run bytes.2 bytes.3 c.hand_on.ensures.bytes;
      few = c.loop-messages.invariant.few;
      end = λ e. c.in-Ok-fill.ensures.end (is_zero c.in-Ok-fill.count e);
      some = λ e. absurd cc;
      flushed = λ e. flushed_on g.W.Sink.handed_on g.W.Sink.taken _ _ _ _ c.loop-messages.invariant.flushed
          (on_ok c.hand_on.result (sym c.is_err-in-More.ensures.value ∙ c.if-is_err-2.false) c.hand_on.ensures.flushed);
      source = λ e. absurd (let wrong = c.in-Ok-fill.ensures.failed.1 e in cc);
      zone = c.loop-messages.invariant.zone;
    }

-- where the reader failed, all had been handed on
pub returns-in-Err-clause-read : goal.returns-in-Err-clause-read
returns-in-Err-clause-read g c = λ e. (
  c.in-Err.ensures.failed.0 refl,
  read_failed _ _ _ _ _ _ _ _ _ _ c.loop-messages.messages c.args.most
      c.loop-messages.invariant.run c.loop-messages-test.true c.in-More.ensures.1 c.in-Err.ensures.err c.hand_on.ensures.bytes,
)

pub returns-in-Err-clause-waits : goal.returns-in-Err-clause-waits
returns-in-Err-clause-waits g c = λ e. flushed_on g.W.Sink.handed_on g.W.Sink.taken _ _ _ _ c.loop-messages.invariant.flushed
    (on_ok c.hand_on.result (sym c.is_err-in-More.ensures.value ∙ c.if-is_err-2.false) c.hand_on.ensures.flushed)

pub returns-in-Clean-clause-served : goal.returns-in-Clean-clause-served
returns-in-Clean-clause-served g c =
    if_ok c.finish-in-Clean.result c.finish-in-Clean.ensures.served (λ served report.
    served_clean _ _ _ _ _ _ _ _ _ c.loop-messages.messages c.args.most served
    c.loop-messages.invariant.run c.loop-messages-test.true c.in-Clean.ensures.1 (c.loop-messages.invariant.end c.in-Clean.ensures.0)
    c.finish-in-Clean.ensures.bytes report.0 report.1)

pub returns-in-Clean-clause-handed_on : goal.returns-in-Clean-clause-handed_on
returns-in-Clean-clause-handed_on g c = all_ok c.finish-in-Clean.result c.finish-in-Clean.ensures.flushed
    (flushed_on g.W.Sink.handed_on g.W.Sink.taken _ _ _ _ c.loop-messages.invariant.flushed)

pub returns-in-Clean-clause-write : goal.returns-in-Clean-clause-write
returns-in-Clean-clause-write g c = λ e.
    let fault = at_err _ c.finish-in-Clean.result _ e c.finish-in-Clean.ensures.fault in (
      fault.2,
      failed_after _ _ _ _ _ _ _ _ _ c.loop-messages.messages c.args.most
          c.loop-messages.invariant.run (c.loop-messages.invariant.some fault.1) c.loop-messages.invariant.few c.finish-in-Clean.ensures.bytes,
    )

-- where the rest is broken
pub returns-then-is_err-3-clause-write : goal.returns-then-is_err-3-clause-write
returns-then-is_err-3-clause-write g c = λ e. (
  c.give_all.ensures.failed.0 (sym c.is_err-in-Fault.ensures.value ∙ c.if-is_err-3.true),
  failed_in_fault _ _ _ _ _ _ _ _ _ c.loop-messages.messages c.args.most c.loop-messages.ended c.in-Fault.fault
      c.loop-messages.invariant.run c.loop-messages-test.true c.loop-messages.invariant.end c.in-Fault.ensures.0 c.in-Fault.ensures.1
      (rw c.broken_frame.ensures at c.give_all.ensures.part),
)

pub returns-in-Fault-clause-served : goal.returns-in-Fault-clause-served
returns-in-Fault-clause-served g c =
    let whole = on_ok c.give_all.result (sym c.is_err-in-Fault.ensures.value ∙ c.if-is_err-3.false) c.give_all.ensures.whole in
    if_ok c.finish-in-Fault.result c.finish-in-Fault.ensures.served (λ served report.
    served_broken _ _ _ _ _ _ _ _ _ _ c.loop-messages.messages c.args.most served c.loop-messages.ended c.in-Fault.fault
    c.loop-messages.invariant.run c.loop-messages-test.true c.loop-messages.invariant.end c.in-Fault.ensures.0 c.in-Fault.ensures.1
    (rw c.broken_frame.ensures at whole) c.finish-in-Fault.ensures.bytes report.0 report.1)

pub returns-in-Fault-clause-write : goal.returns-in-Fault-clause-write
returns-in-Fault-clause-write g c = λ e.
    let whole = on_ok c.give_all.result (sym c.is_err-in-Fault.ensures.value ∙ c.if-is_err-3.false) c.give_all.ensures.whole in
    let fault = at_err _ c.finish-in-Fault.result _ e c.finish-in-Fault.ensures.fault in (
      fault.2,
      failed_in_fault _ _ _ _ _ _ _ _ _ c.loop-messages.messages c.args.most c.loop-messages.ended c.in-Fault.fault
          c.loop-messages.invariant.run c.loop-messages-test.true c.loop-messages.invariant.end c.in-Fault.ensures.0 c.in-Fault.ensures.1
          (whole_begins _ _ _ (fault_bytes c.in-Fault.fault) (rw c.broken_frame.ensures at whole) c.finish-in-Fault.ensures.bytes),
    )

-- where as many messages came as were asked for
pub returns-clause-served : goal.returns-clause-served
returns-clause-served g c =
    let all : c.loop-messages.messages ≡ c.args.most = omega (arith, c.loop-messages.invariant.few) in
    if_ok c.finish-2.result c.finish-2.ensures.served (λ served report.
    served_limit _ _ _ _ _ _ _ _ _ c.loop-messages.messages c.args.most served
    c.loop-messages.invariant.run all c.finish-2.ensures.bytes report.0 report.1)

pub returns-clause-handed_on : goal.returns-clause-handed_on
returns-clause-handed_on g c = all_ok c.finish-2.result c.finish-2.ensures.flushed
    (flushed_on g.W.Sink.handed_on g.W.Sink.taken _ _ _ _ c.loop-messages.invariant.flushed)

pub returns-clause-write : goal.returns-clause-write
returns-clause-write g c = λ e.
    let fault = at_err _ c.finish-2.result _ e c.finish-2.ensures.fault in (
      fault.2,
      failed_after _ _ _ _ _ _ _ _ _ c.loop-messages.messages c.args.most
          c.loop-messages.invariant.run (c.loop-messages.invariant.some fault.1) c.loop-messages.invariant.few c.finish-2.ensures.bytes,
    )

pub returns-then-closes-clause-handed_on : goal.returns-then-closes-clause-handed_on
returns-then-closes-clause-handed_on g c = all_ok c.finish.result c.finish.ensures.flushed
    (flushed_on g.W.Sink.handed_on g.W.Sink.taken _ _ _ _ (λ e. absurd cc))

pub returns-in-Fault-clause-handed_on : goal.returns-in-Fault-clause-handed_on
returns-in-Fault-clause-handed_on g c = all_ok c.finish-in-Fault.result c.finish-in-Fault.ensures.flushed
    (flushed_on g.W.Sink.handed_on g.W.Sink.taken _ _ _ _ (λ e. absurd cc))

-- what was answered by each exit, over whatever history there was
pub returns-in_default-clause-isolation_from : goal.returns-in_default-clause-isolation_from
returns-in_default-clause-isolation_from g c =
    ended_so_far _ _ _ _ _ _ _ _ _ _ _ _ _ _ _ 0 c.args.most
    (serving_none _ (g.R.Source.left c.args.source.now) (g.W.Sink.taken c.args.sink.now) _ [] refl)
    (omega arith) (Keeps-refl _) (Keeps-refl _)

pub returns-then-is_err-clause-isolation_from : goal.returns-then-is_err-clause-isolation_from
returns-then-is_err-clause-isolation_from g c =
    let (r, step, wrote, part) = c.reply.ensures.step in
    ended_in_reply _ _ _ _ _ _ _ _ _ _ _ _ _ _ _ r c.in-Whole.request c.loop-messages.messages
    c.args.most c.loop-messages.invariant.run c.loop-messages-test.true c.in-Whole.ensures.0
    (in_zone _ _ _ _ _ _ _ _ _ _ c.loop-messages.invariant.zone step) part

pub returns-then-closes-clause-isolation_from : goal.returns-then-closes-clause-isolation_from
returns-then-closes-clause-isolation_from g c =
    let (r, step, wrote, part) = c.reply.ensures.step in
    let whole = on_ok c.reply.result (sym c.is_err.ensures.value ∙ c.if-is_err.false) wrote in
    ended_closed _ _ _ _ _ _ _ _ _ _ _ _ _ _ _ _ _ r c.in-Whole.request c.loop-messages.messages
    c.args.most c.loop-messages.invariant.run c.loop-messages-test.true c.in-Whole.ensures.0
    (sym c.closes-closes.ensures ∙ c.if-closes.true)
    (in_zone _ _ _ _ _ _ _ _ _ _ c.loop-messages.invariant.zone step) whole
    c.finish.ensures.bytes

pub returns-then-is_err-2-clause-isolation_from : goal.returns-then-is_err-2-clause-isolation_from
returns-then-is_err-2-clause-isolation_from g c =
    ended_so_far _ _ _ _ _ _ _ _ _ _ _ _ _ _ _ c.loop-messages.messages c.args.most
    c.loop-messages.invariant.run c.loop-messages.invariant.few (Keeps-refl _)
    c.hand_on.ensures.bytes

pub returns-in-Err-clause-isolation_from : goal.returns-in-Err-clause-isolation_from
returns-in-Err-clause-isolation_from g c =
    ended_so_far _ _ _ _ _ _ _ _ _ _ _ _ _ _ _ c.loop-messages.messages c.args.most
    c.loop-messages.invariant.run c.loop-messages.invariant.few c.in-Err.ensures.err
    c.hand_on.ensures.bytes

pub returns-in-Clean-clause-isolation_from : goal.returns-in-Clean-clause-isolation_from
returns-in-Clean-clause-isolation_from g c =
    ended_so_far _ _ _ _ _ _ _ _ _ _ _ _ _ _ _ c.loop-messages.messages c.args.most
    c.loop-messages.invariant.run c.loop-messages.invariant.few (Keeps-refl _)
    c.finish-in-Clean.ensures.bytes

pub returns-then-is_err-3-clause-isolation_from : goal.returns-then-is_err-3-clause-isolation_from
returns-then-is_err-3-clause-isolation_from g c =
    ended_in_fault _ _ _ _ _ _ _ _ _ _ _ _ _ _ c.loop-messages.messages c.args.most
    c.loop-messages.ended c.in-Fault.fault c.loop-messages.invariant.run
    c.loop-messages-test.true c.in-Fault.ensures.0 c.in-Fault.ensures.1
    (rw c.broken_frame.ensures at c.give_all.ensures.part) (λ well. absurd cc)

pub returns-in-Fault-clause-isolation_from : goal.returns-in-Fault-clause-isolation_from
returns-in-Fault-clause-isolation_from g c =
    let whole = on_ok c.give_all.result (sym c.is_err-in-Fault.ensures.value ∙ c.if-is_err-3.false)
    c.give_all.ensures.whole in
    let wrote = rw c.broken_frame.ensures at whole in
    ended_in_fault _ _ _ _ _ _ _ _ _ _ _ _ _ _ c.loop-messages.messages c.args.most
    c.loop-messages.ended c.in-Fault.fault c.loop-messages.invariant.run
    c.loop-messages-test.true c.in-Fault.ensures.0 c.in-Fault.ensures.1
    (whole_begins _ _ _ (fault_bytes c.in-Fault.fault) wrote c.finish-in-Fault.ensures.bytes)
    (λ well. Appends-kept _ _ _ (fault_bytes c.in-Fault.fault) wrote
    c.finish-in-Fault.ensures.bytes)

pub returns-clause-isolation_from : goal.returns-clause-isolation_from
returns-clause-isolation_from g c =
    ended_so_far _ _ _ _ _ _ _ _ _ _ _ _ _ _ _ c.loop-messages.messages c.args.most
    c.loop-messages.invariant.run c.loop-messages.invariant.few (Keeps-refl _)
    c.finish-2.ensures.bytes

-- and what a crash leaves there
pub returns-in_default-clause-crash : goal.returns-in_default-clause-crash
returns-in_default-clause-crash g c =
    has_ended _ _ _ _ _ _ _ _ _ _ _ _ _ (returns-in_default-clause-isolation_from g c)

pub returns-then-is_err-clause-crash : goal.returns-then-is_err-clause-crash
returns-then-is_err-clause-crash g c =
    has_ended _ _ _ _ _ _ _ _ _ _ _ _ _ (returns-then-is_err-clause-isolation_from g c)

pub returns-then-closes-clause-crash : goal.returns-then-closes-clause-crash
returns-then-closes-clause-crash g c =
    has_ended _ _ _ _ _ _ _ _ _ _ _ _ _ (returns-then-closes-clause-isolation_from g c)

pub returns-then-is_err-2-clause-crash : goal.returns-then-is_err-2-clause-crash
returns-then-is_err-2-clause-crash g c =
    has_ended _ _ _ _ _ _ _ _ _ _ _ _ _ (returns-then-is_err-2-clause-isolation_from g c)

pub returns-in-Err-clause-crash : goal.returns-in-Err-clause-crash
returns-in-Err-clause-crash g c =
    has_ended _ _ _ _ _ _ _ _ _ _ _ _ _ (returns-in-Err-clause-isolation_from g c)

pub returns-in-Clean-clause-crash : goal.returns-in-Clean-clause-crash
returns-in-Clean-clause-crash g c =
    has_ended _ _ _ _ _ _ _ _ _ _ _ _ _ (returns-in-Clean-clause-isolation_from g c)

pub returns-then-is_err-3-clause-crash : goal.returns-then-is_err-3-clause-crash
returns-then-is_err-3-clause-crash g c =
    has_ended _ _ _ _ _ _ _ _ _ _ _ _ _ (returns-then-is_err-3-clause-isolation_from g c)

pub returns-in-Fault-clause-crash : goal.returns-in-Fault-clause-crash
returns-in-Fault-clause-crash g c =
    has_ended _ _ _ _ _ _ _ _ _ _ _ _ _ (returns-in-Fault-clause-isolation_from g c)

pub returns-clause-crash : goal.returns-clause-crash
returns-clause-crash g c =
    has_ended _ _ _ _ _ _ _ _ _ _ _ _ _ (returns-clause-isolation_from g c)

-- and of which life that is
pub returns-in_default-clause-life : goal.returns-in_default-clause-life
returns-in_default-clause-life g c =
    leaves_lives _ _ _ _ _ _ _ _ _ _ _ _ _ (returns-in_default-clause-isolation_from g c)

pub returns-then-is_err-clause-life : goal.returns-then-is_err-clause-life
returns-then-is_err-clause-life g c =
    leaves_lives _ _ _ _ _ _ _ _ _ _ _ _ _ (returns-then-is_err-clause-isolation_from g c)

pub returns-then-closes-clause-life : goal.returns-then-closes-clause-life
returns-then-closes-clause-life g c =
    leaves_lives _ _ _ _ _ _ _ _ _ _ _ _ _ (returns-then-closes-clause-isolation_from g c)

pub returns-then-is_err-2-clause-life : goal.returns-then-is_err-2-clause-life
returns-then-is_err-2-clause-life g c =
    leaves_lives _ _ _ _ _ _ _ _ _ _ _ _ _ (returns-then-is_err-2-clause-isolation_from g c)

pub returns-in-Err-clause-life : goal.returns-in-Err-clause-life
returns-in-Err-clause-life g c =
    leaves_lives _ _ _ _ _ _ _ _ _ _ _ _ _ (returns-in-Err-clause-isolation_from g c)

pub returns-in-Clean-clause-life : goal.returns-in-Clean-clause-life
returns-in-Clean-clause-life g c =
    leaves_lives _ _ _ _ _ _ _ _ _ _ _ _ _ (returns-in-Clean-clause-isolation_from g c)

pub returns-then-is_err-3-clause-life : goal.returns-then-is_err-3-clause-life
returns-then-is_err-3-clause-life g c =
    leaves_lives _ _ _ _ _ _ _ _ _ _ _ _ _ (returns-then-is_err-3-clause-isolation_from g c)

pub returns-in-Fault-clause-life : goal.returns-in-Fault-clause-life
returns-in-Fault-clause-life g c =
    leaves_lives _ _ _ _ _ _ _ _ _ _ _ _ _ (returns-in-Fault-clause-isolation_from g c)

pub returns-clause-life : goal.returns-clause-life
returns-clause-life g c =
    leaves_lives _ _ _ _ _ _ _ _ _ _ _ _ _ (returns-clause-isolation_from g c)

-- a source that failed is reported as such
pub returns-in_default-clause-source : goal.returns-in_default-clause-source
returns-in_default-clause-source g c = λ e. inl e

pub returns-then-is_err-clause-source : goal.returns-then-is_err-clause-source
returns-then-is_err-clause-source g c = λ e. inl (c.loop-messages.invariant.source e)

pub returns-then-closes-clause-source : goal.returns-then-closes-clause-source
returns-then-closes-clause-source g c = λ e. inl (c.loop-messages.invariant.source e)

pub returns-then-is_err-2-clause-source : goal.returns-then-is_err-2-clause-source
returns-then-is_err-2-clause-source g c = λ e. inl (c.loop-messages.invariant.source e)

pub returns-in-Err-clause-source : goal.returns-in-Err-clause-source
returns-in-Err-clause-source g c = λ e. inr refl

pub returns-in-Clean-clause-source : goal.returns-in-Clean-clause-source
returns-in-Clean-clause-source g c = λ e. inl (c.loop-messages.invariant.source e)

pub returns-then-is_err-3-clause-source : goal.returns-then-is_err-3-clause-source
returns-then-is_err-3-clause-source g c = λ e. inl (c.loop-messages.invariant.source e)

pub returns-in-Fault-clause-source : goal.returns-in-Fault-clause-source
returns-in-Fault-clause-source g c = λ e. inl (c.loop-messages.invariant.source e)

pub returns-clause-source : goal.returns-clause-source
returns-clause-source g c = λ e. inl (c.loop-messages.invariant.source e)
