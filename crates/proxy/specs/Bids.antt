-- The standing of one item, from the list of its accepted bids, the earliest first. Amounts are cents.
use Rattle.std.specs.Prelude.{if◌then◌else◌, ℕ, ◌+◌, List, [], ◌∷◌, ◌++◌, length, filter, map, nat_le, nat_lt, ◌==◌, ◌&&◌, not, max, min, Bool, false, Option, Some, None, codes, decimal}
use Rattle.steps.specs.Table.{Band, over}
use Rattle.proxy.specs.declared.bid.Bid.{Bid}
use Rattle.proxy.specs.declared.bid.BidRefusal.{BidRefusal}
use Rattle.proxy.specs.declared.bid.BidRefusal.TheVariants.{Low, NotHigher, Full}
use Rattle.proxy.specs.Opening.{Opening}
use Rattle.proxy.specs.Kept.{Kept}
use Rattle.proxy.specs.Rules.{first_failing}

-- the greatest of some numbers, or 0
abbrev pub greatest_of : List ℕ → ℕ
greatest_of [] = 0
greatest_of (x ∷ xs) = max x (greatest_of xs)

-- the greatest of some numbers, if there is one
abbrev pub greatest_if_any : List ℕ → Option ℕ
greatest_if_any [] = None
greatest_if_any (x ∷ xs) = Some (greatest_of (x ∷ xs))

-- the maxima that were bid
abbrev pub maxima : List Bid → List ℕ
maxima bids = map (λ b. b.maximum) bids

-- one bidder's bids
abbrev pub bids_by : ℕ → List Bid → List Bid
bids_by member bids = filter (λ b. b.member == member) bids

-- the bids of all others
abbrev pub bids_not_by : ℕ → List Bid → List Bid
bids_not_by member bids = filter (λ b. not (b.member == member)) bids

-- a bidder's greatest maximum, by which it ranks
unfoldable pub greatest : List Bid → ℕ → ℕ
greatest bids member = greatest_of (maxima (bids_by member bids))

-- the greatest maximum of all
unfoldable pub top : List Bid → ℕ
top bids = greatest_of (maxima bids)

-- the bidder of the first bid with this maximum
abbrev pub first_at : ℕ → List Bid → Option ℕ
first_at amount [] = None
first_at amount (b ∷ bids) = if b.maximum == amount then Some b.member else first_at amount bids

-- the leader: the bidder who was first to bid the greatest maximum
unfoldable pub leader : List Bid → Option ℕ
leader bids = first_at (top bids) bids

-- the bids of all but the leader
abbrev pub others_than : Option ℕ → List Bid → List Bid
others_than None bids = []
others_than (Some l) bids = bids_not_by l bids

-- the second: the greatest maximum of the bidders other than the leader
unfoldable pub second : List Bid → Option ℕ
second bids = greatest_if_any (maxima (others_than (leader bids) bids))

-- what the price is against the second's maximum, by the bids alone
abbrev pub price_by_bids : List Band → ℕ → ℕ → Option ℕ → ℕ
price_by_bids bands start top None = start
price_by_bids bands start top (Some second) = max start (min top (over bands second))

-- a reserve that the top meets raises the price to it
abbrev pub with_reserve : Option ℕ → ℕ → ℕ → ℕ
with_reserve None top price = price
with_reserve (Some reserve) top price = if nat_le reserve top then max price reserve else price

-- what the price is against the second's maximum
abbrev pub price_from : List Band → Opening → ℕ → Option ℕ → ℕ
price_from bands opening top second = with_reserve opening.reserve top (price_by_bids bands opening.start top second)

-- the price: where fewer than two have bid the start, or a reserve that is met
unfoldable pub price : List Band → Opening → List Bid → ℕ
price bands opening bids = price_from bands opening (top bids) (second bids)

-- whether the reserve is met: none without one, else whether there is a top of at least so much
abbrev pub met_by : Option ℕ → Option ℕ → Option Bool
met_by None top = None
met_by (Some reserve) None = Some false
met_by (Some reserve) (Some top) = Some (nat_le reserve top)

-- whether bids meet the reserve
abbrev pub met : Opening → List Bid → Option Bool
met opening bids = met_by opening.reserve (greatest_if_any (maxima bids))

-- the floor: the least that a bidder who doesn't lead may bid
abbrev pub floor : List Band → Opening → List Bid → ℕ
floor bands opening [] = opening.start
floor bands opening (b ∷ bids) = over bands (price bands opening (b ∷ bids))

-- all of it, as it is kept
abbrev pub standing_of : List Band → Opening → List Bid → Kept
standing_of bands opening bids = record {
  start = opening.start;
  reserve = opening.reserve;
  price = price bands opening bids;
  leader = leader bids;
  top = greatest_if_any (maxima bids);
  second = second bids;
  count = length bids;
}

-- whether a bidder is the leader that there is
abbrev pub is_leader : Option ℕ → ℕ → Bool
is_leader None member = false
is_leader (Some l) member = l == member

-- whether a bidder leads
abbrev pub leads : List Bid → ℕ → Bool
leads bids member = is_leader (leader bids) member

-- why a bid is refused: a leader has to raise its own maximum, anybody else has to meet the floor, and an item takes 10000 bids
abbrev pub refusal : List Band → Opening → List Bid → ℕ → ℕ → Option BidRefusal
refusal bands opening bids member maximum = first_failing (
    (leads bids member && nat_le maximum (greatest bids member), NotHigher)
    ∷ (not (leads bids member) && nat_lt maximum (floor bands opening bids), Low (floor bands opening bids))
    ∷ (nat_le 10000 (length bids), Full) ∷ [])

-- the bids with one more, which takes the next number
abbrev pub one_more : List Bid → ℕ → ℕ → List Bid
one_more bids member maximum = bids ++ record { member = member; maximum = maximum; no = length bids + 1 } ∷ []

-- the numbers of the refusals
abbrev pub refusal_number : BidRefusal → ℕ
refusal_number (Low floor) = 1
refusal_number NotHigher = 2
refusal_number Full = 3

-- and their texts
abbrev pub refusal_text : BidRefusal → List ℕ
refusal_text (Low floor) = codes "the maximum is under the floor of " ++ decimal floor
refusal_text NotHigher = codes "the maximum is not above the leader's own"
refusal_text Full = codes "the item takes no more bids"
