-- What a new bid makes of the bids in the order of their keys.
use Rattle.std.proofs.Common.{◌≡◌, ap, ◌∙◌}
use Rattle.sqlite.specs.Effect.{Database}
use Rattle.house_rows.specs.Bids.{BidRow, bid_key}
use Rattle.house_rows.specs.History.{put_by}
use Rattle.store_rows.specs.House.{AddsBid}
use Rattle.store_rows.specs.Sorted.{sorted_bids, sorted_by}
use Rattle.store_rows.proofs.Sorting.{sorted_more}

pub adds_bid_sorted : (bid : BidRow) (old new : Database) → AddsBid bid old new → sorted_bids new.trees ≡ put_by bid_key bid (sorted_bids old.trees)
adds_bid_sorted bid old new w = ap (sorted_by bid_key) w.bids ∙ sorted_more bid_key _ bid
