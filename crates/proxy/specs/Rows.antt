-- Which rows are taken as a standing: those whose values fit together. Accepted bids leave no other, but can't leave each of these.
use Rattle.std.specs.Prelude.{ℕ, List, Bool, false, ◌==◌, ◌&&◌, nat_le, Option, Some, None}
use Rattle.steps.specs.Table.{Band}
use Rattle.proxy.specs.Bids.{price_from}
use Rattle.proxy.specs.Opening.{Opening}
use Rattle.proxy.specs.Kept.{Kept, opening_of}

-- nobody has bid; or one member has; or several have, with a second between start and top
abbrev pub is_shape : List Band → Opening → ℕ → ℕ → Option ℕ → Option ℕ → Option ℕ → Bool
is_shape bands opening price count None None None = (count == 0) && (price == opening.start)
is_shape bands opening price count (Some leader) (Some top) None =
    nat_le 1 count && (nat_le count 10000 && (nat_le opening.start top && (price == price_from bands opening top None)))
is_shape bands opening price count (Some leader) (Some top) (Some second) =
    nat_le 2 count && (nat_le count 10000 && (nat_le opening.start second && (nat_le second top && (price == price_from bands opening top (Some second)))))
is_shape bands opening price count None None (Some second) = false
is_shape bands opening price count None (Some top) second = false
is_shape bands opening price count (Some leader) None second = false

-- whether what is kept is taken as one
abbrev pub is_standing : List Band → Kept → Bool
is_standing bands k = is_shape bands (opening_of k) k.price k.count k.leader k.top k.second
