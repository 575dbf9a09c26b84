-- A surplus: how far the leader's maximum lies above what leading takes. Amounts are cents.
use Rattle.std.specs.Prelude.{◌≡◌, ℕ, ◌≤◌, List, length, Option, Some, IfSome}
use Rattle.std.specs.List.{AllByRecursion}
use Rattle.steps.specs.Table.{Band, over}
use Rattle.proxy.specs.declared.bid.Bid.{Bid}
use Rattle.proxy.specs.Bids.{bids_not_by, leader, second, top}
use Rattle.proxy.specs.Kept.{Kept}

-- a maximum covers what leading takes: one step over the second, if there is one, and the reserve, if there is one
abbrev pub Covers : List Band → Option ℕ → Option ℕ → ℕ → Type 0
Covers bands reserve second maximum = IfSome second (λ s. over bands s ≤ maximum) × IfSome reserve (λ r. r ≤ maximum)

-- the same leader leads by both lists of bids, which have the same second and count; and both tops cover what leading takes. So
-- what is kept of them differs in the top alone
pub record DifferInTop (bands : List Band) (reserve : Option ℕ) (w : ℕ) (left right : List Bid) : Type 0 where
  pub left_leads : leader left ≡ Some w
  pub right_leads : leader right ≡ Some w
  pub seconds : second left ≡ second right
  pub count : length left ≡ length right
  pub left_covers : Covers bands reserve (second left) (top left)
  pub right_covers : Covers bands reserve (second right) (top right)

-- what is kept, but with that top
abbrev pub with_top : ℕ → Kept → Kept
with_top top k = record { start = k.start; reserve = k.reserve; price = k.price; leader = k.leader; top = Some top; second = k.second; count = k.count }

-- one step over each of these bids lies at most at the amount
abbrev pub AreCovered : List Band → ℕ → List Bid → Type 0
AreCovered bands x bids = AllByRecursion (λ b. over bands b.maximum ≤ x) bids

-- two lists of bids with the same bids of all but one bidder, who leads both by maxima that cover all of these and the reserve
pub record IsSurplus (bands : List Band) (reserve : Option ℕ) (w x y : ℕ) (left right : List Bid) : Type 0 where
  pub others : bids_not_by w left ≡ bids_not_by w right
  pub count : length left ≡ length right
  pub left_leads : leader left ≡ Some w
  pub right_leads : leader right ≡ Some w
  pub left_top : top left ≡ x
  pub right_top : top right ≡ y
  pub covered : AreCovered bands x (bids_not_by w left)
  pub met : IfSome reserve (λ r. r ≤ x)
