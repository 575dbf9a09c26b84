use Rattle.std.proofs.Common.{◌≡◌, ◌<◌, ◌+◌, ◌∙◌, List, ap, ap₂, arith, false, length, rules, subst, sym, true≢false}
use Rattle.std.specs.List.{AllByRecursion}
use Rattle.sqlite.specs.Effect.{Database}
use Rattle.sqlite.specs.Held.{state}
use Rattle.sqlite.specs.State.{HasCleanDisk}
use Rattle.steps.specs.Table.{IsBandTable}
use Rattle.house_rows.specs.Fits.{IsWithin}
use Rattle.house_rows.specs.Keeping.{AreInTurn}
use Rattle.house_rows.specs.Limits.{most_editions}
use Rattle.house_rows.specs.Editions.{BandTables}
use Rattle.house_rows.specs.declared.edition.Edition.{Edition}
use Rattle.store_rows.specs.declared.edition.EditionRow.{EditionRow}
use Rattle.store_rows.specs.declared.edition.LaterBandRow.{LaterBandRow}
use Rattle.store_rows.specs.Fitting.{EditionRowFits, LaterBandRowFits}
use Rattle.store_rows.specs.Rows.{edition_rows_in, later_bands_in}
use Rattle.store_rows.specs.Tables.{editions_by, editions_in}
use Rattle.store_open.proofs.EditionLemmas.{as_many, is_within, within_is}
use Rattle.store_open.proofs.editions.read_editions.Goals as goal

pub returns-then-are_within-clause-finds : goal.returns-then-are_within-clause-finds
returns-then-are_within-clause-finds g c = record {
  value = λ clean. (
      let old = (state g.S.Store c.args.conn.now).now.trees in
      let early : HasCleanDisk (state g.S.Store c.all_editions.new.conn) = omega (arith, c.all_later_bands.ensures.finds.read.crash.clean, clean) in
      let same = (c.in_ok-rows.ensures.finds.read.same early).0.now_is in
      let rows : c.in_ok-rows.rows.items ≡ edition_rows_in old = c.in_ok-rows.ensures.finds.value early in
      let bands : c.in_ok-bands.bands.items ≡ later_bands_in old = c.in_ok-bands.ensures.finds.value clean ∙ ap (λ (d : Database). later_bands_in d.trees) same in
      let lent : c.deref.result.now ≡ c.in_ok-rows.rows.items = search rules in
      let also : c.deref-2.result.now ≡ c.in_ok-bands.bands.items = search rules in
      let again : c.deref-3.result.now ≡ c.in_ok-bands.bands.items = search rules in
      let value = c.in_ok-editions.ensures.value in
      let later : c.in_ok-editions.editions.later ≡ editions_in old = ap (λ (b : BandTables). b.later) value ∙ ap₂ editions_by (also ∙ bands) (lent ∙ rows) in
      let newest : c.newest.result ≡ length (edition_rows_in old) + 1 = c.newest.ensures ∙ ap (λ (es : List Edition). length es + 1) later ∙ ap (λ n. n + 1) (as_many (later_bands_in old) (edition_rows_in old)) in
      let passes = within_is c.newest.result c.deref-3.result.now (sym c.are_within.ensures ∙ c.if-are_within.true) in
      record {
        editions_are = later;
        set = record {
          fit = subst (AllByRecursion EditionRowFits) rows c.in_ok-rows.ensures.fits;
          few = subst (λ (rs : List EditionRow). length rs < most_editions) (lent ∙ rows) c.in_ok-editions.ensures.few;
          in_turn = subst (AreInTurn (λ (row : EditionRow). row.edition) 2) (lent ∙ rows) c.in_ok-editions.ensures.in_turn;
          bands_fit = subst (AllByRecursion LaterBandRowFits) bands c.in_ok-bands.ensures.fits;
          tables = subst (AllByRecursion (λ (e : Edition). IsBandTable e.bands)) (ap₂ editions_by (also ∙ bands) (lent ∙ rows)) c.in_ok-editions.ensures.tables;
          within = subst (λ n. AllByRecursion (λ (b : LaterBandRow). IsWithin 2 n b.edition) (later_bands_in old)) newest
              (subst (AllByRecursion (λ (b : LaterBandRow). IsWithin 2 c.newest.result b.edition)) (again ∙ bands) passes);
        };
      });
  damaged = search rules;
  read = search rules;
}

pub returns-in_err-bands-clause-finds : goal.returns-in_err-bands-clause-finds
returns-in_err-bands-clause-finds g c = record {
  value = search rules;
  damaged = λ clean set. (
      let early : HasCleanDisk (state g.S.Store c.all_editions.new.conn) = omega (arith, c.all_later_bands.ensures.finds.read.crash.clean, clean) in
      let same = (c.in_ok-rows.ensures.finds.read.same early).0.now_is in
      let calm = c.in_err-bands.ensures.finds.damaged clean (subst (λ (d : Database). AllByRecursion LaterBandRowFits (later_bands_in d.trees)) (sym same) set.bands_fit) in
      search rules);
  read = search rules;
}

pub returns-in_err-editions-clause-finds : goal.returns-in_err-editions-clause-finds
returns-in_err-editions-clause-finds g c = record {
  value = search rules;
  damaged = λ clean set. (
      let old = (state g.S.Store c.args.conn.now).now.trees in
      let early : HasCleanDisk (state g.S.Store c.all_editions.new.conn) = omega (arith, c.all_later_bands.ensures.finds.read.crash.clean, clean) in
      let same = (c.in_ok-rows.ensures.finds.read.same early).0.now_is in
      let lent : c.deref.result.now ≡ c.in_ok-rows.rows.items = search rules in
      let also : c.deref-2.result.now ≡ c.in_ok-bands.bands.items = search rules in
      let rows : c.deref.result.now ≡ edition_rows_in old = lent ∙ c.in_ok-rows.ensures.finds.value early in
      let bands : c.deref-2.result.now ≡ later_bands_in old = also ∙ c.in_ok-bands.ensures.finds.value clean ∙ ap (λ (d : Database). later_bands_in d.trees) same in
      let calm = c.in_err-editions.ensures.damaged (subst (λ (rs : List EditionRow). length rs < most_editions) (sym rows) set.few)
      (subst (AreInTurn (λ (row : EditionRow). row.edition) 2) (sym rows) set.in_turn)
      (subst (AllByRecursion (λ (e : Edition). IsBandTable e.bands)) (sym (ap₂ editions_by bands rows)) set.tables) in
      search rules);
  read = search rules;
}

pub returns-clause-finds : goal.returns-clause-finds
returns-clause-finds g c = record {
  value = search rules;
  damaged = λ clean set _. (
      let old = (state g.S.Store c.args.conn.now).now.trees in
      let early : HasCleanDisk (state g.S.Store c.all_editions.new.conn) = omega (arith, c.all_later_bands.ensures.finds.read.crash.clean, clean) in
      let same = (c.in_ok-rows.ensures.finds.read.same early).0.now_is in
      let lent : c.deref.result.now ≡ c.in_ok-rows.rows.items = search rules in
      let also : c.deref-2.result.now ≡ c.in_ok-bands.bands.items = search rules in
      let again : c.deref-3.result.now ≡ c.in_ok-bands.bands.items = search rules in
      let rows : c.in_ok-rows.rows.items ≡ edition_rows_in old = c.in_ok-rows.ensures.finds.value early in
      let bands : c.in_ok-bands.bands.items ≡ later_bands_in old = c.in_ok-bands.ensures.finds.value clean ∙ ap (λ (d : Database). later_bands_in d.trees) same in
      let later : c.in_ok-editions.editions.later ≡ editions_in old = ap (λ (b : BandTables). b.later) c.in_ok-editions.ensures.value ∙ ap₂ editions_by (also ∙ bands) (lent ∙ rows) in
      let newest : c.newest.result ≡ length (edition_rows_in old) + 1 = c.newest.ensures ∙ ap (λ (es : List Edition). length es + 1) later ∙ ap (λ n. n + 1) (as_many (later_bands_in old) (edition_rows_in old)) in
      let passes = is_within c.newest.result c.deref-3.result.now (subst (AllByRecursion (λ (b : LaterBandRow). IsWithin 2 c.newest.result b.edition)) (sym (again ∙ bands))
      (subst (λ n. AllByRecursion (λ (b : LaterBandRow). IsWithin 2 n b.edition) (later_bands_in old)) (sym newest) set.within)) in
      true≢false (sym passes ∙ sym c.are_within.ensures ∙ c.if-are_within.false));
  read = search rules;
}
