-- What the statements on watches mean.
use Rattle.std.proofs.Common.{◌≡◌, refl, List, [], ◌∷◌, ℕ, codes, Bool}
use Rattle.sqlite_value.specs.declared.value.Value.TheVariants.{Null}
use Rattle.sqlite.specs.Term.{Term, lit, col, op2}
use Rattle.sqlite.specs.Source.TheVariants.{Values}
use Rattle.sqlite.specs.Command.TheVariants.{Insert, Delete}
use Rattle.sqlite.specs.Listing.{understood}
use Rattle.sqlite.proofs.Callers.{IsPlain, command_of}
use Rattle.sqlite_tied.specs.Compute.{everything}
use Rattle.sqlite_value.specs.declared.keys.Collation.TheVariants.{Binary}
use Rattle.sqlite_sql.specs.declared.ops.BinaryOp.TheVariants.{Compare}
use Rattle.sqlite_sql.specs.declared.ops.CompareOp.TheVariants.{Eq}
use Rattle.store_rows.specs.Schema.{house_by}
use Rattle.store_rows.specs.Plain.{plain_query}
use Rattle.store_rows.proofs.Select.{equals}

abbrev pub put_watch_text : List ℕ
put_watch_text = codes "INSERT INTO watch (member, item) VALUES (?1, ?2)"

abbrev pub cut_watch_text : List ℕ
cut_watch_text = codes "DELETE FROM watch WHERE member = ?1 AND item = ?2"

-- this member's of this item
abbrev pub this_watch : List Term
this_watch = equals 1 ∷ op2 (Compare Eq Binary) (col 1 2) (col 0 1) ∷ []

abbrev pub watch_terms : List Term
watch_terms = lit Null ∷ col 0 0 ∷ col 0 1 ∷ []

abbrev pub watch_shown : List Term
watch_shown = col 1 2 ∷ []

pub put_watch_is : (b : Bool) → (command_of (understood (house_by b) put_watch_text) ≡ Insert 6 (Values watch_terms 3)) × IsPlain (understood (house_by b) put_watch_text)
unfolding understood everything
put_watch_is b = (refl, (refl, refl))

pub cut_watch_is : (b : Bool) → (command_of (understood (house_by b) cut_watch_text) ≡ Delete 6 (record { lets = []; body = plain_query 10 this_watch (col 1 0 ∷ []) [] })) × IsPlain (understood (house_by b) cut_watch_text)
unfolding understood everything
cut_watch_is b = (refl, (refl, refl))
