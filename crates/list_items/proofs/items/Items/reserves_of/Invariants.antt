use Rattle.std.proofs.Common.{◌≡◌, take}
use Rattle.house_rows.specs.Limits.{most_shown}
use Rattle.list_items.specs.Indexed.{number_of}
use Rattle.list_items.specs.Reserves.{reserve_with}
use Rattle.list_items.proofs.Reserves.{made_at}
use Rattle.list_items.proofs.items.Items.reserves_of.Given as goal

-- the first of the reserves of the items so far were found
abbrev pub invariant-loop-number : goal.invariant-loop-number
invariant-loop-number l = l.found.items ≡ take most_shown (made_at (reserve_with l.member l.from) number_of l.self (take l.number-index l.numbers))
