use Rattle.std.proofs.Common.{◌≡◌, ◌++◌, drop, map}
use Rattle.store_house.specs.Places.{trees_named}
use Rattle.store_house.proofs.places.trees_named.Given as goal

-- those of the names so far, and then those of the others
abbrev pub invariant-loop-at : goal.invariant-loop-at
invariant-loop-at l = l.trees.items ++ trees_named (map (λ name. name.now) (drop l.at l.names)) l.at l.rows
    ≡ trees_named (map (λ name. name.now) l.names) 0 l.rows
