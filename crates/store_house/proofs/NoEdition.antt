-- A house in which no edition was set.
use Rattle.std.proofs.Common.{◌≡◌, ◌+◌, ◌<◌, List, [], map, length, sym, ap, subst, arith}
use Rattle.std.specs.List.{AllByRecursion}
use Rattle.sqlite_trees.specs.Tree.{Trees}
use Rattle.steps.specs.Table.{IsBandTable}
use Rattle.house_rows.specs.Fits.{IsWithin}
use Rattle.house_rows.specs.Keeping.{AreInTurn}
use Rattle.house_rows.specs.Limits.{most_editions}
use Rattle.house_rows.specs.declared.edition.Edition.{Edition}
use Rattle.store_rows.specs.declared.edition.EditionRow.{EditionRow}
use Rattle.store_rows.specs.declared.edition.LaterBandRow.{LaterBandRow}
use Rattle.store_rows.specs.Fitting.{EditionRowFits, LaterBandRowFits}
use Rattle.store_rows.specs.Rows.{edition_row_in, edition_rows_in, later_bands_in}
use Rattle.store_rows.specs.Tables.{editions_by}
use Rattle.store_house.specs.Opening.{AreSet}

pub none_set_yet : (db : Trees) → db 24 ≡ [] → later_bands_in db ≡ [] → AreSet db
none_set_yet db none no_later =
    let rows : edition_rows_in db ≡ [] = ap (map edition_row_in) none in
    record {
      fit = subst (AllByRecursion EditionRowFits) (sym rows) tt;
      few = subst (λ (l : List EditionRow). length l < most_editions) (sym rows) (omega arith);
      in_turn = subst (AreInTurn (λ (r : EditionRow). r.edition) 2) (sym rows) tt;
      bands_fit = subst (AllByRecursion LaterBandRowFits) (sym no_later) tt;
      tables = subst (λ (l : List EditionRow). AllByRecursion (λ (e : Edition). IsBandTable e.bands) (editions_by (later_bands_in db) l)) (sym rows) tt;
      within = subst (AllByRecursion (λ (b : LaterBandRow). IsWithin 2 (length (edition_rows_in db) + 1) b.edition)) (sym no_later) tt;
    }
