-- What the statements on the house and the bands mean.
use Rattle.std.proofs.Common.{◌≡◌, refl, List, [], ◌∷◌, ℕ, codes, false, Bool}
use Rattle.sqlite_value.specs.declared.value.Value.TheVariants.{Null}
use Rattle.sqlite.specs.Term.{Term, lit, col}
use Rattle.sqlite.specs.Command.TheVariants.{Select, Update}
use Rattle.sqlite.specs.Listing.{understood, reads_listing}
use Rattle.sqlite.proofs.Callers.{IsPlain, command_of}
use Rattle.sqlite_tied.specs.Compute.{everything}
use Rattle.store_rows.specs.Schema.{house_by}
use Rattle.store_rows.specs.Plain.{plain_query}
use Rattle.store_rows.proofs.Select.{by_rowid, equals}

abbrev pub house_text : List ℕ
house_text = codes "SELECT id, version, clock, rate, zone FROM house WHERE id = ?1 ORDER BY id"

abbrev pub set_clock_text : List ℕ
set_clock_text = codes "UPDATE house SET clock = ?2 WHERE id = ?1"

abbrev pub version_text : List ℕ
version_text = codes "SELECT version FROM house WHERE id = ?1 ORDER BY id"

abbrev pub set_version_text : List ℕ
set_version_text = codes "UPDATE house SET version = ?2 WHERE id = ?1"

abbrev pub bands_text : List ℕ
bands_text = codes "SELECT at, step FROM band ORDER BY at"

abbrev pub house_shown : List Term
house_shown = col 1 0 ∷ col 1 2 ∷ col 1 3 ∷ col 1 4 ∷ col 1 5 ∷ []

abbrev pub version_shown : List Term
version_shown = col 1 2 ∷ []

abbrev pub bands_shown : List Term
bands_shown = col 1 0 ∷ col 1 2 ∷ []

-- the whole new row
abbrev pub clock_set : List Term
clock_set = col 1 0 ∷ lit Null ∷ col 1 2 ∷ col 0 1 ∷ col 1 4 ∷ col 1 5 ∷ []

abbrev pub version_set : List Term
version_set = col 1 0 ∷ lit Null ∷ col 0 1 ∷ col 1 3 ∷ col 1 4 ∷ col 1 5 ∷ []

pub version_is : (b : Bool) → (command_of (understood (house_by b) version_text) ≡ Select (record { lets = []; body = plain_query 0 (equals 0 ∷ []) version_shown by_rowid }) (codes "version" ∷ []))
    × (reads_listing (house_by b) version_text ≡ false) × IsPlain (understood (house_by b) version_text)
unfolding understood everything
version_is b = (refl, refl, (refl, refl))

pub set_version_is : (b : Bool) → (command_of (understood (house_by b) set_version_text) ≡ Update 0 (record { lets = []; body = plain_query 0 (equals 0 ∷ []) (col 1 0 ∷ version_set) [] })) × IsPlain (understood (house_by b) set_version_text)
unfolding understood everything
set_version_is b = (refl, (refl, refl))

pub house_is : (b : Bool) → (command_of (understood (house_by b) house_text)
    ≡ Select (record { lets = []; body = plain_query 0 (equals 0 ∷ []) house_shown by_rowid }) (codes "id" ∷ codes "version" ∷ codes "clock" ∷ codes "rate" ∷ codes "zone" ∷ []))
    × (reads_listing (house_by b) house_text ≡ false) × IsPlain (understood (house_by b) house_text)
unfolding understood everything
house_is b = (refl, refl, (refl, refl))

pub set_clock_is : (b : Bool) → (command_of (understood (house_by b) set_clock_text) ≡ Update 0 (record { lets = []; body = plain_query 0 (equals 0 ∷ []) (col 1 0 ∷ clock_set) [] })) × IsPlain (understood (house_by b) set_clock_text)
unfolding understood everything
set_clock_is b = (refl, (refl, refl))

pub bands_are : (b : Bool) → (command_of (understood (house_by b) bands_text) ≡ Select (record { lets = []; body = plain_query 1 [] bands_shown by_rowid }) (codes "at" ∷ codes "step" ∷ []))
    × (reads_listing (house_by b) bands_text ≡ false) × IsPlain (understood (house_by b) bands_text)
unfolding understood everything
bands_are b = (refl, refl, (refl, refl))
