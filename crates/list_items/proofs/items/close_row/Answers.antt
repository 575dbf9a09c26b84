use Rattle.std.proofs.Common.{◌≡◌, ◌+◌, ◌<◌, length}
use Rattle.list_items.specs.Closing.{close_at}
use Rattle.list_items.specs.Indexed.{number_of}
use Rattle.list_items.proofs.Closed.{close_at_apart}
use Rattle.list_items.proofs.Placed.{placed, unplaced}
use Rattle.list_items.proofs.items.close_row.Goals as goal

pub returns-in_default : goal.returns-in_default
returns-in_default c =
    unplaced number_of (close_at c.args.number c.args.moment) c.args.rows.now.items c.args.number c.requires (close_at_apart c.args.number c.args.moment) (rw c.deref.ensures.value at c.place_of.ensures.none c.in_default.is)

pub returns : goal.returns
returns c =
    let within : (c.in-Some.place < length c.deref.result.now) × (c.in-Some.place + 1 ≡ c.args.number) = c.in-Some.ensures.within in
    let there : c.in-Some.place < length c.args.rows.now.items = rw c.deref.ensures.value at within.0 in
    placed number_of (close_at c.args.number c.args.moment) c.args.rows.now.items c.in-Some.place c.args.number c.index_mut-row.result.now c.close_if.new.self c.requires (close_at_apart c.args.number c.args.moment) there within.1 c.index_mut-row.ensures.value c.close_if.ensures
