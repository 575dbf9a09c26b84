-- What the members of some sales buy is what they are paid and what they owe in fees.
use Rattle.std.specs.Prelude.{◌≡◌, ℕ, ◌+◌, ◌==◌, if◌then◌else◌, List, [], ◌∷◌, sum_by}
use Rattle.std.specs.List.{list_any}
use Rattle.settle.specs.Statement.{rows_of, totals_of}
use Rattle.settle.specs.declared.sale.Sold.{Sold}
use Rattle.settle.specs.declared.totals.Totals.{Totals}
use Rattle.settle.specs.declared.zone.Zone.{Zone}

-- the members and one more, unless it is there already
abbrev pub with_member : ℕ → List ℕ → List ℕ
with_member member members =
    if list_any (λ m. member == m) members then members else member ∷ members

-- the members that the sales name, each once
unfoldable pub members_of : List Sold → List ℕ
members_of [] = []
members_of (s ∷ rest) = with_member s.seller (with_member s.buyer (members_of rest))

-- the totals of a member's statement
abbrev pub totals_for : List Sold → ℕ → ℕ → Zone → ℕ → ℕ → Totals
totals_for sales from to zone rate member = totals_of (rows_of sales member from to zone rate)

-- over all members that the sales name, what is bought is net plus fees
unfoldable pub IsBalanced : List Sold → ℕ → ℕ → Zone → ℕ → Type 0
IsBalanced sales from to zone rate =
    sum_by (λ m. (totals_for sales from to zone rate m).bought) (members_of sales)
    ≡ sum_by (λ m. (totals_for sales from to zone rate m).net) (members_of sales)
    + sum_by (λ m. (totals_for sales from to zone rate m).fees) (members_of sales)
