-- What the statements on reserves mean.
use Rattle.std.proofs.Common.{◌≡◌, refl, List, [], ◌∷◌, ℕ, codes, false, Bool}
use Rattle.sqlite_value.specs.declared.value.Value.TheVariants.{Null}
use Rattle.sqlite.specs.Term.{Term, lit, col}
use Rattle.sqlite.specs.Source.TheVariants.{Values}
use Rattle.sqlite.specs.Command.TheVariants.{Insert, Select}
use Rattle.sqlite.specs.Listing.{understood, reads_listing}
use Rattle.sqlite.proofs.Callers.{IsPlain, command_of}
use Rattle.sqlite_tied.specs.Compute.{everything}
use Rattle.store_rows.specs.Schema.{house_by}
use Rattle.store_rows.specs.Plain.{plain_query}
use Rattle.store_rows.proofs.Select.{by_rowid}

abbrev pub all_reserves_text : List ℕ
all_reserves_text = codes "SELECT item, amount FROM reserve ORDER BY item"

abbrev pub put_reserve_text : List ℕ
put_reserve_text = codes "INSERT INTO reserve (item, amount) VALUES (?1, ?2)"

-- the number and the other column
abbrev pub pair_shown : List Term
pair_shown = col 1 0 ∷ col 1 2 ∷ []

abbrev pub pair_terms : List Term
pair_terms = col 0 0 ∷ lit Null ∷ col 0 1 ∷ []

pub all_reserves_are : (b : Bool) → (command_of (understood (house_by b) all_reserves_text) ≡ Select (record { lets = []; body = plain_query 23 [] pair_shown by_rowid }) (codes "item" ∷ codes "amount" ∷ []))
    × (reads_listing (house_by b) all_reserves_text ≡ false) × IsPlain (understood (house_by b) all_reserves_text)
unfolding understood everything
all_reserves_are b = (refl, refl, (refl, refl))

pub put_reserve_is : (b : Bool) → (command_of (understood (house_by b) put_reserve_text) ≡ Insert 9 (Values pair_terms 3)) × IsPlain (understood (house_by b) put_reserve_text)
unfolding understood everything
put_reserve_is b = (refl, (refl, refl))
