use Rattle.std.proofs.Common.{◌<◌, length, arith}
use Rattle.std.specs.Vec.{with_item}
use Rattle.list_rows.proofs.Making.{read_rises, update_absent, update_beyond, update_blocked, update_found, update_rows}
use Rattle.list_rows.proofs.blocks.update.Goals as goal

pub returns-then-number-len-clause-rows : goal.returns-then-number-len-clause-rows
returns-then-number-len-clause-rows g c = update_beyond g.R.Keyed.key c.args.wanted (g.C.Changes.changed c.args.change) c.args.blocks.now.items c.requires.blocked (omega (arith, c.if-number-len.true, c.len.ensures, c.args.blocks.now.ok.0, c.first-number.ensures))

pub search-requires : goal.search-requires
search-requires g c =
    let lt : c.first-number.result < length c.args.blocks.now.items = omega (arith, c.if-number-len.false, c.len.ensures, c.args.blocks.now.ok.0) in
    record { rising = rw c.deref.ensures.value (read_rises g.R.Keyed.key c.args.blocks.now.items c.first-number.result c.index_mut-block.result.now c.requires.blocked lt c.index_mut-block.ensures.value) }

pub returns-in-Ok-clause-rows : goal.returns-in-Ok-clause-rows
returns-in-Ok-clause-rows g c =
    let lt : c.first-number.result < length c.args.blocks.now.items = omega (arith, c.if-number-len.false, c.len.ensures, c.args.blocks.now.ok.0) in
    let found = rw c.deref.ensures.value at c.in-Ok.ensures.found in
    let rising = read_rises g.R.Keyed.key c.args.blocks.now.items c.first-number.result c.index_mut-block.result.now c.requires.blocked lt c.index_mut-block.ensures.value in
    update_rows g.R.Keyed.key c.args.wanted (g.C.Changes.changed c.args.change) c.args.blocks.now.items c.first-number.result c.index_mut-block.result.now (with_item c.index_mut-block.result.now c.in-Ok.place c.change.new.row) c.requires.blocked c.first-number.ensures lt c.index_mut-block.ensures.value
    (update_found g.R.Keyed.key c.args.wanted (g.C.Changes.changed c.args.change) c.index_mut-block.result.now.items c.in-Ok.place c.index_mut.result.now c.change.new.row rising found c.index_mut.ensures.value c.change.ensures)

pub returns-in-Ok-clause-blocked : goal.returns-in-Ok-clause-blocked
returns-in-Ok-clause-blocked g c =
    let lt : c.first-number.result < length c.args.blocks.now.items = omega (arith, c.if-number-len.false, c.len.ensures, c.args.blocks.now.ok.0) in
    let found = rw c.deref.ensures.value at c.in-Ok.ensures.found in
    let rising = read_rises g.R.Keyed.key c.args.blocks.now.items c.first-number.result c.index_mut-block.result.now c.requires.blocked lt c.index_mut-block.ensures.value in
    update_blocked g.R.Keyed.key c.args.wanted (g.C.Changes.changed c.args.change) c.args.blocks.now.items c.first-number.result c.index_mut-block.result.now (with_item c.index_mut-block.result.now c.in-Ok.place c.change.new.row) c.requires.blocked lt c.index_mut-block.ensures.value c.requires.keeps
    (update_found g.R.Keyed.key c.args.wanted (g.C.Changes.changed c.args.change) c.index_mut-block.result.now.items c.in-Ok.place c.index_mut.result.now c.change.new.row rising found c.index_mut.ensures.value c.change.ensures)

pub returns-in_default-clause-rows : goal.returns-in_default-clause-rows
returns-in_default-clause-rows g c =
    let lt : c.first-number.result < length c.args.blocks.now.items = omega (arith, c.if-number-len.false, c.len.ensures, c.args.blocks.now.ok.0) in
    let absent = rw c.deref.ensures.value at c.in_default.ensures.absent in
    update_rows g.R.Keyed.key c.args.wanted (g.C.Changes.changed c.args.change) c.args.blocks.now.items c.first-number.result c.index_mut-block.result.now c.index_mut-block.result.now c.requires.blocked c.first-number.ensures lt c.index_mut-block.ensures.value
    (update_absent g.R.Keyed.key c.args.wanted (g.C.Changes.changed c.args.change) c.index_mut-block.result.now.items absent)
