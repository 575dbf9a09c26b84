use Rattle.std.proofs.Common.{◌≡◌, ◌<◌, take}
use Rattle.std.specs.List.{AllByRecursion}
use Rattle.steps.specs.Table.{IsBandTable}
use Rattle.house_rows.specs.Keeping.{AreInTurn}
use Rattle.house_rows.specs.Limits.{most_editions}
use Rattle.house_rows.specs.declared.edition.Edition.{Edition}
use Rattle.store_rows.specs.declared.edition.EditionRow.{EditionRow}
use Rattle.store_rows.specs.Tables.{editions_by}
use Rattle.store_open.proofs.editions.editions_of.Given as goal

abbrev pub invariant-loop-row : goal.invariant-loop-row
invariant-loop-row l =
    (l.editions ≡ record { settings = l.fn.settings; later = editions_by l.bands (take l.row-index l.rows) })
    × (l.row-index < most_editions)
    × AreInTurn (λ (row : EditionRow). row.edition) 2 (take l.row-index l.rows)
    × AllByRecursion (λ (e : Edition). IsBandTable e.bands) (editions_by l.bands (take l.row-index l.rows))
