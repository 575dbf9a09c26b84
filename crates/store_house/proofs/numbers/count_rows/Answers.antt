use Rattle.std.proofs.Common.{◌≡◌, ◌∙◌, ap, arith, rules, sym}
use Rattle.sqlite.specs.Held.{state}
use Rattle.sqlite.specs.State.{HasCleanDisk}
use Rattle.store_rows.specs.Counts.{first_number}
use Rattle.store_rows.proofs.CountLemmas.{same_some}
use Rattle.store_rows.proofs.StateLemmas.{ok_then}
use Rattle.store_house.proofs.NumbersLemmas.{finds_err, reads_err, reads_still, rows_counted}
use Rattle.store_house.proofs.numbers.count_rows.Goals as goal

pub returns-in_err-rows-clause-read : goal.returns-in_err-rows-clause-read
returns-in_err-rows-clause-read g c = reads_err _ _ _ c.from_residual.ensures.1 c.in_err-rows.ensures.read

pub returns-in_err-rows-clause-finds : goal.returns-in_err-rows-clause-finds
returns-in_err-rows-clause-finds g c tree is counts =
    finds_err _ _ _ _ _ _ _ c.from_residual.ensures.1 (λ _ _. c.in_err-rows.ensures.sound) (returns-in_err-rows-clause-read g c)

pub returns-clause-read : goal.returns-clause-read
returns-clause-read g c = reads_still _ _ _ c.in_ok-rows.ensures.read

pub returns-clause-finds : goal.returns-clause-finds
returns-clause-finds g c tree is counts =
    let old = state g.S.Store c.args.conn.now in
    let new = state g.S.Store c.rows_shown.new.conn in
    let rows = c.in_ok-rows.rows.items in
    let same : c.deref.result.now ≡ rows = search rules in
    let found = λ (clean : HasCleanDisk new). ap first_number same
    ∙ rows_counted tree is old new (c.rows_shown.ensures.house clean) c.args.sql.now c.requires.plain counts rows (c.in_ok-rows.ensures.rows clean) in
    record {
      value = λ clean. ok_then c.read_count.result c.read_count.ensures.value (λ n e. same_some n _ (sym e ∙ found clean));
      damaged = λ clean _. c.read_count.ensures.damaged _ (found clean) (omega arith);
      read = returns-clause-read g c;
    }
