use Rattle.std.proofs.Common.{◌≡◌, ◌∙◌, ap, map, rules, subst, sym}
use Rattle.std.specs.List.{AllByRecursion}
use Rattle.sqlite.specs.Held.{state}
use Rattle.sqlite.specs.State.{HasCleanDisk}
use Rattle.store_rows.proofs.StateLemmas.{ok_then}
use Rattle.store_rows.specs.Fitting.{LaterBandRowFits}
use Rattle.store_rows.specs.Rows.{later_band_of}
use Rattle.store_open.proofs.EditionMeaning.{all_bands_are}
use Rattle.store_open.proofs.EditionRowLemmas.{bands_answer}
use Rattle.store_open.proofs.edition_rows.all_later_bands.Goals as goal

pub rows_shown-requires-clause-plain : goal.rows_shown-requires-clause-plain
rows_shown-requires-clause-plain g c = λ b. (all_bands_are b).2

pub returns-clause-finds : goal.returns-clause-finds
returns-clause-finds g c =
    let old = state g.S.Store c.args.conn.now in
    let new = state g.S.Store c.rows_shown.new.conn in
    let rows = c.in_ok-rows.rows.items in
    let same : c.deref.result.now ≡ rows = search rules in
    let found = λ (clean : HasCleanDisk new). ap (map later_band_of) same ∙ bands_answer old new rows (c.rows_shown.ensures.house clean) (c.in_ok-rows.ensures.rows clean) in
    record {
      value = λ clean. ok_then c.all_of.result c.all_of.ensures.value (λ _ e. e ∙ found clean);
      damaged = λ clean fits. c.all_of.ensures.damaged (subst (AllByRecursion LaterBandRowFits) (sym (found clean)) fits);
      read = search rules;
    }
