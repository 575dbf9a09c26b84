use Rattle.std.proofs.Common.{◌≡◌, ◌+◌, ◌++◌, ◌∷◌, ◌∙◌, [], List, arith, ap, get_or, length, rules, sym, take}
use Rattle.std.proofs.lemmas.List.{length-take-le, take_more}
use Rattle.house_rows.specs.Editions.{BandTables}
use Rattle.house_rows.specs.declared.edition.Edition.{Edition}
use Rattle.store_rows.specs.declared.edition.EditionRow.{EditionRow}
use Rattle.store_rows.specs.Tables.{bands_at, editions_by}
use Rattle.store_open.proofs.EditionLemmas.{as_many, editions_more, nth_number, nth_table, tables_more, turn_more}
use Rattle.store_open.proofs.editions.editions_of.Goals as goal

pub loop-row-preserved : goal.loop-row-preserved
loop-row-preserved c =
    let rows = c.args.rows.now in
    let bands = c.args.bands.now in
    let i = c.loop-row.row-index in
    let none : EditionRow = record { edition = 0; first = 0 } in
    let row : EditionRow = get_or rows i none in
    let held = c.loop-row.invariant in
    let low = c.loop-row-test.true in
    let set = c.in_ok-add_edition.ensures in
    let many : length c.loop-row.editions.later ≡ i = ap (λ (b : BandTables). length b.later) held.0 ∙ as_many bands (take i rows) ∙ length-take-le i rows (omega (arith, low)) in
    let here : row.edition ≡ i + 2 = omega (arith, set.next, many) in
    let more : editions_by bands (take (i + 1) rows) ≡ editions_by bands (take i rows) ++ record { edition = row.edition; first = row.first; bands = bands_at row.edition bands } ∷ [] =
    ap (editions_by bands) (take_more rows i none low) ∙ editions_more bands (take i rows) row in (
      set.value ∙ rw held.0 (ap (λ (es : List Edition). record { settings = c.args.settings; later = es }) (sym more)),
      omega (arith, set.room, many),
      turn_more rows i none low held.2 here,
      tables_more bands rows i none low held.3 set.table,
    )

pub returns-in_err-add_edition-clause-damaged : goal.returns-in_err-add_edition-clause-damaged
returns-in_err-add_edition-clause-damaged c few turn tables =
    let rows = c.args.rows.now in
    let bands = c.args.bands.now in
    let i = c.loop-row.row-index in
    let none : EditionRow = record { edition = 0; first = 0 } in
    let held = c.loop-row.invariant in
    let low = c.loop-row-test.true in
    let many : length c.loop-row.editions.later ≡ i = ap (λ (b : BandTables). length b.later) held.0 ∙ as_many bands (take i rows) ∙ length-take-le i rows (omega (arith, low)) in
    let is = nth_number 2 rows i none turn low in
    let calm = c.in_err-add_edition.ensures.damaged (omega (arith, many, low, few)) (omega (arith, is, many)) (nth_table bands rows i none tables low) in
    search rules
