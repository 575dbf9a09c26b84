use Rattle.std.proofs.Common.{◌≡◌, ◌∙◌, ap, map, rules, subst, sym}
use Rattle.std.specs.List.{AllByRecursion}
use Rattle.sqlite.specs.Held.{state}
use Rattle.sqlite.specs.State.{HasCleanDisk}
use Rattle.store_rows.proofs.StateLemmas.{ok_then}
use Rattle.store_house.proofs.NumbersLemmas.{finds_err, reads_err, reads_still}
use Rattle.store_house.proofs.found.rows_found.Goals as goal

pub returns-in_err-rows-clause-finds : goal.returns-in_err-rows-clause-finds
returns-in_err-rows-clause-finds g c table lists =
    finds_err _ _ _ _ _ _ _ c.from_residual.ensures.1 (λ _ _. c.in_err-rows.ensures.sound)
    (reads_err _ _ _ c.from_residual.ensures.1 c.in_err-rows.ensures.read)

pub returns-clause-finds : goal.returns-clause-finds
returns-clause-finds g c table lists =
    let old = state g.S.Store c.args.conn.now in
    let new = state g.S.Store c.rows_shown.new.conn in
    let rows = c.in_ok-rows.rows.items in
    let same : c.deref.result.now ≡ rows = search rules in
    let found = λ (clean : HasCleanDisk new). ap (map g.T.Stored.report) same ∙ lists (c.rows_shown.ensures.house clean) rows (c.in_ok-rows.ensures.rows clean) in
    record {
      value = λ clean. ok_then c.all_of.result c.all_of.ensures.value (λ _ e. e ∙ found clean);
      damaged = λ clean fits. c.all_of.ensures.damaged (subst (AllByRecursion g.T.Stored.fits) (sym (found clean)) fits);
      read = reads_still old new c.all_of.result c.in_ok-rows.ensures.read;
    }
