-- The reserves of items, which are in a table of their own.
use Rattle.std.proofs.Common.{◌≡◌, ◌<◌, ℕ, false, List, [], ◌∷◌, map, None, refl, ap, arith}
use Rattle.std.specs.Prelude.{◌==◌, All}
use Rattle.std.specs.List.{AllByRecursion}
use Rattle.std.proofs.lemmas.Bool.Decides.{nat_tests}
use Rattle.std.proofs.lemmas.List.Elements.{recursion_from_All}
use Rattle.sqlite.specs.Effect.{Database}
use Rattle.store_rows.specs.declared.reserve.ReserveRow.{ReserveRow}
use Rattle.store_rows.specs.House.{KeepsOthers}
use Rattle.store_rows.specs.ItemRows.{amount_of}
use Rattle.store_rows.specs.Rows.{reserve_in, reserves_in}

-- a write of items leaves the reserves
pub kept_reserves : (old new : Database) → KeepsOthers 6 old new → reserves_in new.trees ≡ reserves_in old.trees
kept_reserves old new others = ap (map reserve_in) (others.1.1.1.1.1.1.1.1.1.0 (λ e. omega (arith, e)))

none_below : (reserves : List ReserveRow) (n : ℕ) → AllByRecursion (λ r. r.item < n) reserves → amount_of reserves n ≡ None
none_below [] n below = refl
none_below (r ∷ reserves) n below =
    let first : r.item < n = below.0 in
    let other : (r.item == n) ≡ false = grind (arith, nat_tests) in
    rw other (none_below reserves n below.1)

-- a number over every other has none
pub no_amount : (reserves : List ReserveRow) (n : ℕ) → All (λ r. r.item < n) reserves → amount_of reserves n ≡ None
no_amount reserves n below = none_below reserves n (recursion_from_All (λ (r : ReserveRow). r.item < n) reserves below)
