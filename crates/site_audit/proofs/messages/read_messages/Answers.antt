use Rattle.std.proofs.Common.{Err, ◌∙◌, ◌≡◌, ◌++◌, ◌∷◌, [], ◌+◌, List, ℕ, ap, arith, inl, inr, length, length-drop, map, sym}
use Rattle.std.specs.Prelude.{slice_range}
use Rattle.site_audit.proofs.Cuts.{is_zero, listed_stopped, on_ok, one_is, reading_grown, reading_more, some_message}
use Rattle.site_audit.specs.declared.messages.MessagesFault.TheVariants.{Read}
use Rattle.site_audit.proofs.messages.read_messages.Goals as goal

pub loop-request-smaller-in-Whole : goal.loop-request-smaller-in-Whole
loop-request-smaller-in-Whole g c =
    omega (
      arith,
      some_message c.loop-request.inbox.held c.in-Whole.request _ c.in-Whole.ensures.0,
      c.in-Whole.ensures.1,
      c.length-length.ensures,
      ap length c.done.ensures.held,
      length-drop c.length-length.result c.loop-request.inbox.held,
    )

pub loop-request-preserved-in-Whole : goal.loop-request-preserved-in-Whole
loop-request-preserved-in-Whole g c =
    let n = c.length-length.result in
    let text = c.loop-request.text.items in
    let held = c.loop-request.inbox.held in
    let before : List (List ℕ) = map (λ m. m.items) c.loop-request.messages.items in
    let after : List (List ℕ) = map (λ m. m.items) c.keep_message.new.messages.items in
    let one : List ℕ = slice_range text c.loop-request.cut (c.loop-request.cut + n) in
    let kept : after ≡ before ++ one ∷ [] =
    rw (← c.deref.ensures.value)
    (on_ok c.keep_message.result (sym c.is_err.ensures.value ∙ c.if-is_err.false)
    c.keep_message.ensures.ok) in
    record {
      so = reading_more (g.R.Source.left c.args.source.now) (g.R.Source.left c.loop-request.source)
          before after text held c.done.new.self.held one _ c.in-Whole.request c.loop-request.cut n
          c.loop-request.invariant.so c.in-Whole.ensures.0 c.in-Whole.ensures.1
          c.length-length.ensures c.done.ensures.held
          (one_is _ _ before text held c.loop-request.cut n c.loop-request.invariant.so) kept;
      end = c.loop-request.invariant.end;
      source = c.loop-request.invariant.source;
    }

pub loop-request-preserved : goal.loop-request-preserved
loop-request-preserved g c =
    let bytes = c.in-Ok.ensures.bytes in
    record {
      so = reading_grown _ _ _ _ _ _ bytes.0 _ _ _ c.loop-request.invariant.so bytes.1 bytes.3
          bytes.4;
      end = λ e. c.in-Ok.ensures.end (is_zero c.in-Ok.count e);
      source = λ e. absurd (let wrong = c.in-Ok.ensures.failed.1 e in cc);
    }

pub returns-in-Err-clause-listed : goal.returns-in-Err-clause-listed
returns-in-Err-clause-listed g c =
    listed_stopped (g.R.Source.left c.args.source.now) _ c.in-Err.fault c.in-Err.ensures.fault

-- a source that failed is reported as such
pub returns-in_err-inbox-clause-source : goal.returns-in_err-inbox-clause-source
returns-in_err-inbox-clause-source g c = λ e. inl e

pub returns-then-is_err-clause-source : goal.returns-then-is_err-clause-source
returns-then-is_err-clause-source g c = λ e. inl (c.loop-request.invariant.source e)

pub returns-in-Err-clause-source : goal.returns-in-Err-clause-source
returns-in-Err-clause-source g c = λ e.
    let gave = c.in-Err.ensures.failed.1 e in
    let is : c.in-Err.fault ≡ Read = cc in
    inr (ap Err is)

pub returns-in-Clean-clause-source : goal.returns-in-Clean-clause-source
returns-in-Clean-clause-source g c = λ e. inl (c.loop-request.invariant.source e)

pub returns-in-Fault-clause-source : goal.returns-in-Fault-clause-source
returns-in-Fault-clause-source g c = λ e. inl (c.loop-request.invariant.source e)
