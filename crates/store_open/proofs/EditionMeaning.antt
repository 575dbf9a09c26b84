-- What the statements on editions and their bands mean.
use Rattle.std.proofs.Common.{◌≡◌, refl, List, [], ◌∷◌, ℕ, codes, false, Bool}
use Rattle.sqlite_value.specs.declared.value.Value.TheVariants.{Null}
use Rattle.sqlite.specs.Term.{Term, lit, col}
use Rattle.sqlite.specs.Source.TheVariants.{Values}
use Rattle.sqlite.specs.Command.TheVariants.{Insert, Select}
use Rattle.sqlite.specs.Listing.{understood, reads_listing}
use Rattle.sqlite.proofs.Callers.{IsPlain, command_of}
use Rattle.sqlite_tied.specs.Compute.{everything}
use Rattle.store_rows.specs.Schema.{house_by}
use Rattle.store_rows.specs.Plain.{plain_query}
use Rattle.store_rows.proofs.Select.{by_rowid}

abbrev pub all_editions_text : List ℕ
all_editions_text = codes "SELECT edition, first FROM edition ORDER BY edition"

abbrev pub all_bands_text : List ℕ
all_bands_text = codes "SELECT edition, at, step FROM later_band ORDER BY rowid"

abbrev pub put_edition_text : List ℕ
put_edition_text = codes "INSERT INTO edition (edition, first) VALUES (?1, ?2)"

abbrev pub put_later_band_text : List ℕ
put_later_band_text = codes "INSERT INTO later_band (edition, at, step) VALUES (?1, ?2, ?3)"

-- the number and the other column
abbrev pub edition_shown : List Term
edition_shown = col 1 0 ∷ col 1 2 ∷ []

abbrev pub band_shown : List Term
band_shown = col 1 1 ∷ col 1 2 ∷ col 1 3 ∷ []

abbrev pub edition_terms : List Term
edition_terms = col 0 0 ∷ lit Null ∷ col 0 1 ∷ []

abbrev pub band_terms : List Term
band_terms = lit Null ∷ col 0 0 ∷ col 0 1 ∷ col 0 2 ∷ []

pub all_editions_are : (b : Bool) → (command_of (understood (house_by b) all_editions_text) ≡ Select (record { lets = []; body = plain_query 24 [] edition_shown by_rowid }) (codes "edition" ∷ codes "first" ∷ []))
    × (reads_listing (house_by b) all_editions_text ≡ false) × IsPlain (understood (house_by b) all_editions_text)
unfolding understood everything
all_editions_are b = (refl, refl, (refl, refl))

pub all_bands_are : (b : Bool) → (command_of (understood (house_by b) all_bands_text) ≡ Select (record { lets = []; body = plain_query 25 [] band_shown by_rowid }) (codes "edition" ∷ codes "at" ∷ codes "step" ∷ []))
    × (reads_listing (house_by b) all_bands_text ≡ false) × IsPlain (understood (house_by b) all_bands_text)
unfolding understood everything
all_bands_are b = (refl, refl, (refl, refl))

pub put_edition_is : (b : Bool) → (command_of (understood (house_by b) put_edition_text) ≡ Insert 10 (Values edition_terms 3)) × IsPlain (understood (house_by b) put_edition_text)
unfolding understood everything
put_edition_is b = (refl, (refl, refl))

pub put_later_band_is : (b : Bool) → (command_of (understood (house_by b) put_later_band_text) ≡ Insert 11 (Values band_terms 4)) × IsPlain (understood (house_by b) put_later_band_text)
unfolding understood everything
put_later_band_is b = (refl, (refl, refl))
