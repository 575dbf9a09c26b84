use Rattle.std.proofs.Common.{◌≡◌, map}
use Rattle.std.specs.BTreeSet.{btree_set_len}
use Rattle.house_rows.specs.Changed.{with_close}
use Rattle.list_items.specs.Groups.{has_end, number_at, numbers_at}
use Rattle.list_items.specs.Indexed.{IsIndexed}
use Rattle.list_items.proofs.items.Items.close.Given as goal

-- the indexes know the rows, and a close of all rows would still leave the same
abbrev pub invariant-loop-number : goal.invariant-loop-number
invariant-loop-number l = IsIndexed l.self-inside.rows.items (number_at l.self-inside.lots) (numbers_at l.self-inside.categories) (numbers_at l.self-inside.sellers) (numbers_at l.self-inside.purchases) (has_end l.self-inside.ends)
    × (map (with_close l.moment) l.self-inside.rows.items ≡ map (with_close l.moment) l.fn.self)

abbrev pub decreases-loop-number : goal.decreases-loop-number
decreases-loop-number l = btree_set_len l.self-inside.ends
