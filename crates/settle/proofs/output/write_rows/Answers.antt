use Rattle.std.proofs.Common.{◌≡◌, ◌≤◌, ◌+◌, ◌++◌, ◌∙◌, ap, sym, get_or, length, take, drop, arith}
use Rattle.std.proofs.lemmas.List.{take_all}
use Rattle.std.proofs.lemmas.Result.{err_from_is_err_and}
use Rattle.settle.proofs.TextLemmas.{records_more, records_split}
use Rattle.settle.proofs.WrittenLemmas.{empty_written, none_written, stopped, then_written}
use Rattle.settle.specs.Text.{fields_of, record_text, records_text}
use Rattle.settle.proofs.output.write_rows.Goals as goal

pub loop-line-init : goal.loop-line-init
unfolding records_text
loop-line-init g c = empty_written (g.W.Sink.taken c.args.sink.now) (g.W.Sink.has_failed c.args.sink.now) c.requires

pub returns-in_err-record : goal.returns-in_err-record
returns-in_err-record g c =
    let p = err_from_is_err_and c.from_residual.result c.from_residual.ensures.1 in
    let rest = records_text c.args.form (drop c.loop-line.line-index c.args.rows.now) in
    rw (p.1, p.2, ← records_split c.args.form c.args.rows.now c.loop-line.line-index)
    (then_written _ _ _ _ _ _ _ _ rest c.loop-line.invariant (none_written _ _ rest))

pub returns-in_err-write_bytes : goal.returns-in_err-write_bytes
returns-in_err-write_bytes g c =
    let p = err_from_is_err_and c.from_residual-in_err-write_bytes.result c.from_residual-in_err-write_bytes.ensures.1 in
    let form = c.args.form in
    let rows = c.args.rows.now in
    let i = c.loop-line.line-index in
    let piece : c.deref.result.now ≡ record_text form (fields_of (get_or rows i c.line-item.result)) =
    c.deref.ensures.value ∙ c.in_ok-record.ensures ∙ ap (λ l. record_text form (fields_of l)) c.line-item.is in
    let text : records_text form (take (i + 1) rows) ≡ records_text form (take i rows) ++ c.deref.result.now =
    records_more form rows i c.line-item.result c.loop-line-test.true ∙ ap (λ t. records_text form (take i rows) ++ t) (sym piece) in
    rw (p.1, p.2, ← records_split form rows (i + 1), text)
    (stopped _ _ _ _ _ _ (records_text form (drop (i + 1) rows)) (then_written _ _ _ _ _ _ _ _ c.deref.result.now c.loop-line.invariant c.in_err-write_bytes.ensures.written))

pub loop-line-preserved : goal.loop-line-preserved
loop-line-preserved g c =
    let form = c.args.form in
    let rows = c.args.rows.now in
    let i = c.loop-line.line-index in
    let piece : c.deref.result.now ≡ record_text form (fields_of (get_or rows i c.line-item.result)) =
    c.deref.ensures.value ∙ c.in_ok-record.ensures ∙ ap (λ l. record_text form (fields_of l)) c.line-item.is in
    let text : records_text form (take (i + 1) rows) ≡ records_text form (take i rows) ++ c.deref.result.now =
    records_more form rows i c.line-item.result c.loop-line-test.true ∙ ap (λ t. records_text form (take i rows) ++ t) (sym piece) in
    rw text (then_written _ _ _ _ _ _ _ _ c.deref.result.now c.loop-line.invariant c.in_ok-write_bytes.ensures.written)

pub returns : goal.returns
returns g c =
    let ended : length c.args.rows.now ≤ c.loop-line.line-index = omega arith in
    rw (take_all c.loop-line.line-index c.args.rows.now ended) at c.loop-line.invariant
