use Rattle.std.proofs.Common.{sym, ap, ◌∙◌, inl, inr, List, ℕ, ◌+◌, ◌++◌, get_or, take, drop}
use Rattle.std.proofs.lemmas.List.{drop_more, take_more, take-append-drop}
use Rattle.std.proofs.lemmas.Result.{err_from_is_err_and}
use Rattle.steps.proofs.RowLemmas.{next_taken}
use Rattle.steps.proofs.judged.table.Goals as goal

pub returns-in_err-next_row-clause-fault : goal.returns-in_err-next_row-clause-fault
returns-in_err-next_row-clause-fault c =
    let p = err_from_is_err_and c.from_residual.result c.from_residual.ensures.1 in
    let rows = c.args.rows.now in
    let i = c.loop-at.at in
    rw (p.1, p.2) (inl (record {
      before = take i rows;
      faulty = get_or rows i (0, 0);
      later = drop (i + 1) rows;
      parts = sym (take-append-drop i rows) ∙ ap (λ (l : List (ℕ × ℕ)). take i rows ++ l) (drop_more rows i (0, 0) c.loop-at-test.true);
      valid = c.loop-at.invariant;
      refused = sym c.in_err-next_row.ensures;
    }))

pub loop-at-preserved : goal.loop-at-preserved
loop-at-preserved c =
    let rows = c.args.rows.now in
    let i = c.loop-at.at in
    rw (take_more rows i (0, 0) c.loop-at-test.true) (inr (next_taken (take i rows) (get_or rows i (0, 0)) c.in_ok-next_row.field-0 c.loop-at.invariant (sym c.in_ok-next_row.ensures)))
