use Rattle.std.proofs.Common.{◌<◌, length, arith}
use Rattle.list_rows.proofs.Making.{cut_absent, cut_beyond, cut_blocked, cut_found, cut_rows, read_rises}
use Rattle.list_rows.proofs.blocks.cut.Goals as goal

pub returns-then-number-len-clause-rows : goal.returns-then-number-len-clause-rows
returns-then-number-len-clause-rows g c = cut_beyond g.R.Keyed.key c.args.wanted c.args.blocks.now.items c.requires (omega (arith, c.if-number-len.true, c.len.ensures, c.args.blocks.now.ok.0, c.first-number.ensures))

pub search-requires : goal.search-requires
search-requires g c =
    let lt : c.first-number.result < length c.args.blocks.now.items = omega (arith, c.if-number-len.false, c.len.ensures, c.args.blocks.now.ok.0) in
    record { rising = rw c.deref.ensures.value (read_rises g.R.Keyed.key c.args.blocks.now.items c.first-number.result c.index_mut-block.result.now c.requires lt c.index_mut-block.ensures.value) }

pub returns-in-Ok-clause-rows : goal.returns-in-Ok-clause-rows
returns-in-Ok-clause-rows g c =
    let lt : c.first-number.result < length c.args.blocks.now.items = omega (arith, c.if-number-len.false, c.len.ensures, c.args.blocks.now.ok.0) in
    let found = rw c.deref.ensures.value at c.in-Ok.ensures.found in
    let rising = read_rises g.R.Keyed.key c.args.blocks.now.items c.first-number.result c.index_mut-block.result.now c.requires lt c.index_mut-block.ensures.value in
    cut_rows g.R.Keyed.key c.args.wanted c.args.blocks.now.items c.first-number.result c.index_mut-block.result.now c.remove-row.new.self c.requires c.first-number.ensures lt c.index_mut-block.ensures.value
    (cut_found g.R.Keyed.key c.args.wanted c.index_mut-block.result.now.items c.remove-row.new.self.items c.in-Ok.place rising found c.remove-row.ensures.items)

pub returns-in-Ok-clause-blocked : goal.returns-in-Ok-clause-blocked
returns-in-Ok-clause-blocked g c =
    let lt : c.first-number.result < length c.args.blocks.now.items = omega (arith, c.if-number-len.false, c.len.ensures, c.args.blocks.now.ok.0) in
    let found = rw c.deref.ensures.value at c.in-Ok.ensures.found in
    let rising = read_rises g.R.Keyed.key c.args.blocks.now.items c.first-number.result c.index_mut-block.result.now c.requires lt c.index_mut-block.ensures.value in
    cut_blocked g.R.Keyed.key c.args.wanted c.args.blocks.now.items c.first-number.result c.index_mut-block.result.now c.remove-row.new.self c.requires lt c.index_mut-block.ensures.value
    (cut_found g.R.Keyed.key c.args.wanted c.index_mut-block.result.now.items c.remove-row.new.self.items c.in-Ok.place rising found c.remove-row.ensures.items)

pub returns-in_default-clause-rows : goal.returns-in_default-clause-rows
returns-in_default-clause-rows g c =
    let lt : c.first-number.result < length c.args.blocks.now.items = omega (arith, c.if-number-len.false, c.len.ensures, c.args.blocks.now.ok.0) in
    let absent = rw c.deref.ensures.value at c.in_default.ensures.absent in
    cut_rows g.R.Keyed.key c.args.wanted c.args.blocks.now.items c.first-number.result c.index_mut-block.result.now c.index_mut-block.result.now c.requires c.first-number.ensures lt c.index_mut-block.ensures.value
    (cut_absent g.R.Keyed.key c.args.wanted c.index_mut-block.result.now.items absent)
