use Rattle.std.proofs.Common.{◌≡◌, drop}
use Rattle.store_house.specs.Places.{tree_named}
use Rattle.store_house.proofs.places.tree_named.Given as goal

-- none of those before has the name
abbrev pub invariant-loop-at : goal.invariant-loop-at
invariant-loop-at l = tree_named l.name l.other l.rows ≡ tree_named l.name l.other (drop l.at l.rows)
