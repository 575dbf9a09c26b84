use Rattle.std.proofs.Common.{◌∙◌}
use Rattle.list_rows.specs.Blocks.{same_key}
use Rattle.list_rows.proofs.Making.{row_absent, row_found, shown_finds, shown_rises}
use Rattle.list_rows.proofs.blocks.row.Goals as goal

pub search-requires : goal.search-requires
search-requires g c = record { rising = shown_rises g.R.Keyed.key c.first.result c.args.blocks.now c.block-block.result.now c.requires c.block-block.ensures }

pub returns-in-Ok : goal.returns-in-Ok
returns-in-Ok g c =
    row_found (λ row. same_key (g.R.Keyed.key row) c.args.wanted) c.block-block.result.now c.in-Ok.place c.index-block-place.result c.in-Ok.ensures.found c.index-block-place.is
    ∙ shown_finds g.R.Keyed.key c.args.wanted c.args.blocks.now c.block-block.result.now c.requires (rw c.first.ensures at c.block-block.ensures)

pub returns-in-Err : goal.returns-in-Err
returns-in-Err g c =
    row_absent (λ row. same_key (g.R.Keyed.key row) c.args.wanted) c.block-block.result.now c.in-Err.ensures.absent
    ∙ shown_finds g.R.Keyed.key c.args.wanted c.args.blocks.now c.block-block.result.now c.requires (rw c.first.ensures at c.block-block.ensures)
