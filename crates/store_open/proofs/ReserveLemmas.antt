-- A test of all reserves, as it is read off a slice.
use Rattle.std.proofs.Common.{◌≡◌, ◌≤◌, ℕ, true, List, [], ◌∷◌, refl, arith}
use Rattle.std.specs.Prelude.{nat_le}
use Rattle.std.specs.List.{AllByRecursion, list_all}
use Rattle.std.proofs.lemmas.Bool.Decides.{nat_tests}
use Rattle.sqlite_keyed.proofs.RuleLemmas.{first_of_both, second_of_both}
use Rattle.store_rows.specs.declared.reserve.ReserveRow.{ReserveRow}

pub within_is : (most : ℕ) (rows : List ReserveRow) → list_all (λ r. nat_le r.item most) rows ≡ true → AllByRecursion (λ r. r.item ≤ most) rows
within_is most [] is = tt
within_is most (r ∷ rows) is =
    let first = first_of_both (nat_le r.item most) (list_all (λ s. nat_le s.item most) rows) is in
    (grind (arith, nat_tests, first), within_is most rows (second_of_both (nat_le r.item most) (list_all (λ s. nat_le s.item most) rows) is))

pub is_within : (most : ℕ) (rows : List ReserveRow) → AllByRecursion (λ r. r.item ≤ most) rows → list_all (λ r. nat_le r.item most) rows ≡ true
is_within most [] all = refl
is_within most (r ∷ rows) all =
    let low = all.0 in
    let first : nat_le r.item most ≡ true = grind (arith, nat_tests, low) in
    rw first (is_within most rows all.1)
