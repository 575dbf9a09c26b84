-- What the look-ups of members and of categories mean.
use Rattle.std.proofs.Common.{refl, List, [], ◌∷◌, ℕ, codes}
use Rattle.sqlite_sql.specs.Term.{col}
use Rattle.sqlite.specs.Listing.{understood}
use Rattle.sqlite_tied.specs.Compute.{everything}
use Rattle.store_rows.proofs.Select.{equals}
use Rattle.store_rows.proofs.FindMeaning.{Finds}

abbrev pub has_member_text : List ℕ
has_member_text = codes "SELECT id FROM member WHERE id = ?1"

abbrev pub has_category_text : List ℕ
has_category_text = codes "SELECT id FROM category WHERE id = ?1"

-- a query for the row of a number
abbrev pub FindsNumbered : List ℕ → ℕ → Type 0
FindsNumbered sql tree = Finds sql tree (equals 0 ∷ []) (col 1 0) (codes "id")

pub has_member_is : FindsNumbered has_member_text 2
unfolding understood everything
has_member_is b = (refl, refl, (refl, refl))

pub has_category_is : FindsNumbered has_category_text 4
unfolding understood everything
has_category_is b = (refl, refl, (refl, refl))
