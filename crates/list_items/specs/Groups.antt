-- What the indexes of the item table have.
use Rattle.std.specs.Prelude.{ℕ, List, [], Bool, false, nat_lt, Vec, vec_len, vec_capacity, Option, Some, None}
use Rattle.std.specs.BTreeMap as tree
use Rattle.std.specs.BTreeMap.{BTreeMap}
use Rattle.std.specs.HashMap.{HashMap}
use Rattle.std.specs.Option.{option_map_or}
use Rattle.std.specs.BTreeSet as set
use Rattle.std.specs.BTreeSet.{BTreeSet}
use Rattle.std.specs.Ordering.{nat_cmp, ordering_then}
use Rattle.std.specs.declared.rc.RcStr.{RcStr}
use Rattle.list_rows.specs.Shared.{get_by_shared}

-- the numbers of the items that share a number, as that of their category
abbrev pub numbers_at : {Z : Type 0} → BTreeMap ℕ (Vec ℕ Z) → ℕ → List ℕ
numbers_at {Z} groups shared = option_map_or (λ (numbers : Vec ℕ Z). numbers.items) (tree.get nat_cmp groups shared) []

-- whether there is room for one more of them
abbrev pub has_room : {Z : Type 0} → BTreeMap ℕ (Vec ℕ Z) → ℕ → Bool
has_room {Z} groups shared = option_map_or (λ (numbers : Vec ℕ Z). nat_lt (vec_len numbers) (vec_capacity numbers)) (tree.get nat_cmp groups shared) false

-- the number that is at a lot, among the lots of a seller
abbrev pub number_of_lot : {Z S : Type 0} → Option (HashMap (RcStr Z) ℕ S) → List ℕ → Option ℕ
number_of_lot None lot = None
number_of_lot (Some lots) lot = get_by_shared lots lot

-- the number that is at a seller's lot
abbrev pub number_at : {Z S : Type 0} → BTreeMap ℕ (HashMap (RcStr Z) ℕ S) → ℕ → List ℕ → Option ℕ
number_at {Z} {S} sellers seller lot = number_of_lot {Z = Z} {S = S} (tree.get nat_cmp sellers seller) lot

-- whether an end and a number are among the ends
abbrev pub has_end : BTreeSet (ℕ × ℕ) → ℕ → ℕ → Bool
has_end ends end number = set.contains (λ x y. ordering_then (nat_cmp x.0 y.0) (nat_cmp x.1 y.1)) ends (end, number)
