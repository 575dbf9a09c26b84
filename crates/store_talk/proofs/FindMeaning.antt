-- What the look-up of questions by asker and item means.
use Rattle.std.proofs.Common.{refl, List, [], ◌∷◌, ℕ, codes}
use Rattle.sqlite_value.specs.declared.keys.Collation.TheVariants.{Binary}
use Rattle.sqlite_sql.specs.Term.{Term, col, op2}
use Rattle.sqlite_sql.specs.declared.ops.BinaryOp.TheVariants.{Compare}
use Rattle.sqlite_sql.specs.declared.ops.CompareOp.TheVariants.{Eq}
use Rattle.sqlite.specs.Listing.{understood}
use Rattle.sqlite_tied.specs.Compute.{everything}
use Rattle.store_rows.proofs.Select.{equals}
use Rattle.store_rows.proofs.FindMeaning.{Finds}

abbrev pub ask_count_text : List ℕ
ask_count_text = codes "SELECT n FROM question WHERE asker = ?1 AND item = ?2"

-- by this asker and on this item
abbrev pub asked_by : List Term
asked_by = equals 2 ∷ op2 (Compare Eq Binary) (col 1 1) (col 0 1) ∷ []

pub ask_count_is : Finds ask_count_text 12 asked_by (col 1 3) (codes "n")
unfolding understood everything
ask_count_is b = (refl, refl, (refl, refl))
