-- What the look-up of a bid means.
use Rattle.std.proofs.Common.{refl, List, ℕ, codes}
use Rattle.sqlite_sql.specs.Term.{col}
use Rattle.sqlite.specs.Listing.{understood}
use Rattle.sqlite_tied.specs.Compute.{everything}
use Rattle.store_rows.proofs.FindMeaning.{Finds, of_pair}

abbrev pub has_bid_text : List ℕ
has_bid_text = codes "SELECT no FROM bid WHERE item = ?1 AND no = ?2"

pub has_bid_is : Finds has_bid_text 8 of_pair (col 1 2) (codes "no")
unfolding understood everything
has_bid_is b = (refl, refl, (refl, refl))
