-- What the look-up of a watch means.
use Rattle.std.proofs.Common.{refl, List, ℕ, codes}
use Rattle.sqlite_sql.specs.Term.{col}
use Rattle.sqlite.specs.Listing.{understood}
use Rattle.sqlite_tied.specs.Compute.{everything}
use Rattle.store_rows.proofs.FindMeaning.{Finds, of_pair}

abbrev pub is_watched_text : List ℕ
is_watched_text = codes "SELECT item FROM watch WHERE member = ?1 AND item = ?2"

pub is_watched_is : Finds is_watched_text 10 of_pair (col 1 2) (codes "item")
unfolding understood everything
is_watched_is b = (refl, refl, (refl, refl))
