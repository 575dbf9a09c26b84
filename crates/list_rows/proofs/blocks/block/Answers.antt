use Rattle.std.proofs.Common.{sym, ◌∙◌}
use Rattle.list_rows.proofs.Blocked.{block_is, block_past}
use Rattle.list_rows.proofs.Making.{read_block}
use Rattle.list_rows.proofs.blocks.block.Goals as goal

pub returns-then-number-blocks : goal.returns-then-number-blocks
returns-then-number-blocks g c = sym (block_past c.args.blocks.now c.args.number c.if-number-blocks.true) ∙ block_is g.R.Keyed.key c.args.number c.args.blocks.now c.requires

pub returns : goal.returns
returns g c =
    c.deref.ensures.value
    ∙ sym (read_block c.args.blocks.now c.args.number c.index-blocks-number.result c.if-number-blocks.false c.index-blocks-number.is)
    ∙ block_is g.R.Keyed.key c.args.number c.args.blocks.now c.requires
