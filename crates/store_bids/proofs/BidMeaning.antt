-- What the statements on bids mean.
use Rattle.std.proofs.Common.{◌≡◌, refl, List, [], ◌∷◌, ℕ, codes, Bool}
use Rattle.sqlite_value.specs.declared.value.Value.TheVariants.{Null}
use Rattle.sqlite.specs.Term.{Term, lit, col, op2}
use Rattle.sqlite.specs.Source.TheVariants.{Values}
use Rattle.sqlite.specs.Command.TheVariants.{Insert}
use Rattle.sqlite.specs.Listing.{understood}
use Rattle.sqlite.proofs.Callers.{IsPlain, command_of}
use Rattle.sqlite_tied.specs.Compute.{everything}
use Rattle.sqlite_value.specs.declared.keys.Collation.TheVariants.{Binary}
use Rattle.sqlite_sql.specs.declared.ops.BinaryOp.TheVariants.{Compare}
use Rattle.sqlite_sql.specs.declared.ops.CompareOp.TheVariants.{Eq}
use Rattle.store_rows.specs.Schema.{house_by}
use Rattle.store_rows.proofs.Select.{equals}

abbrev pub put_bid_text : List ℕ
put_bid_text = codes "INSERT INTO bid (item, no, member, maximum) VALUES (?1, ?2, ?3, ?4)"

abbrev pub bid_terms : List Term
bid_terms = lit Null ∷ col 0 0 ∷ col 0 1 ∷ col 0 2 ∷ col 0 3 ∷ []

abbrev pub bid_shown : List Term
bid_shown = col 1 1 ∷ col 1 2 ∷ col 1 3 ∷ col 1 4 ∷ []

-- of this member and on this item
abbrev pub by_member_on_item : List Term
by_member_on_item = equals 3 ∷ op2 (Compare Eq Binary) (col 1 1) (col 0 1) ∷ []

pub put_bid_is : (b : Bool) → (command_of (understood (house_by b) put_bid_text) ≡ Insert 5 (Values bid_terms 5)) × IsPlain (understood (house_by b) put_bid_text)
unfolding understood everything
put_bid_is b = (refl, (refl, refl))
