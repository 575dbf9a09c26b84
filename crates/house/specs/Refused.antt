-- Refused bids.
use Rattle.proxy.specs.declared.bid.BidRefusal.{BidRefusal}
use Rattle.proxy.specs.declared.bid.BidRefusal.TheVariants as bid
use Rattle.house_rows.specs.declared.refusal.Refusal.{Refusal}
use Rattle.house_rows.specs.declared.refusal.Refusal.TheVariants.{Low, NotHigher, Limit}

-- why a bid is refused, in the words of the house
abbrev pub as_refusal : BidRefusal → Refusal
as_refusal (bid.Low floor) = Low floor
as_refusal bid.NotHigher = NotHigher
as_refusal bid.Full = Limit
