use Rattle.std.proofs.Common.{sym, ◌∙◌}
use Rattle.tree_order.proofs.PlaceLemmas.{put_there, put_over}
use Rattle.tree_order.proofs.rows.put_row.Goals as goal

pub returns-then-is_taken : goal.returns-then-is_taken
returns-then-is_taken c =
    let place = rw c.deref.ensures.value at c.place-at.ensures in
    let taken = rw c.deref-2.ensures.value at c.if-is_taken.ensures in
    sym (put_over c.args.row c.args.rows.now.items c.place-at.result place taken)

pub returns : goal.returns
returns c =
    let place = rw c.deref.ensures.value at c.place-at.ensures in
    let free = rw c.deref-2.ensures.value at c.if-is_taken.ensures in
    c.in_ok-insert.ensures.items ∙ sym (put_there c.args.row c.args.rows.now.items c.place-at.result place free)
