-- The leader in the words of ranks: a greater maximum, or the same one earlier.
use Rattle.std.specs.Prelude.{if◌then◌else◌, ◌≡◌, ◌≢◌, ◌⊎◌, ◌<◌, ◌==◌, ◌&&◌, ℕ, ◌+◌, List, [], ◌∷◌}
use Rattle.proxy.specs.declared.bid.Bid.{Bid}
use Rattle.proxy.specs.Bids.{greatest}

-- the place of the first bid of a member with this maximum, from 0, or the number of bids
abbrev pub place_of : ℕ → ℕ → List Bid → ℕ
place_of member amount [] = 0
place_of member amount (b ∷ bids) = if (b.member == member) && (b.maximum == amount) then 0 else place_of member amount bids + 1

-- since: the place of the first bid that has the bidder's greatest maximum
abbrev pub since : List Bid → ℕ → ℕ
since bids member = place_of member (greatest bids member) bids

-- every other member ranks below this one
abbrev pub RanksFirst : List Bid → ℕ → Type 0
RanksFirst bids l = (k : ℕ) → k ≢ l →
    (greatest bids k < greatest bids l) ⊎ ((greatest bids k ≡ greatest bids l) × (since bids l < since bids k))
