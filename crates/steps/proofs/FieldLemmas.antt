-- The fields of a record of two, and the band that they spell after others.
use Rattle.std.proofs.Common.{◌≡◌, ℕ, ◌+◌, ◌-◌, ◌<◌, List, [], ◌∷◌, length, refl, sym, ap, ◌∙◌, arith, Bool, true, false, Some, Result, Err}
use Rattle.std.specs.Prelude.{if◌then◌else◌, nat_le, slice_get}
use Rattle.std.proofs.lemmas.Bool.Decides.{nat_tests}
use Rattle.csv.specs.Records.{field_at}
use Rattle.steps.specs.Fields.{pair_of}
use Rattle.steps.specs.Records.{band_of, both, follows, last_band, last_of, next_band, number_from, spelled}
use Rattle.steps.specs.declared.fault.BandsFault.{BandsFault}
use Rattle.steps.specs.declared.fault.BandsFault.TheVariants.{TooMany}

-- the fields of a record of two
pub pair_at : (fields : List (List ℕ)) (first second : List ℕ) → length fields ≡ 2 → Some first ≡ field_at fields 0 → Some second ≡ field_at fields 1
    → Some (first, second) ≡ pair_of fields
unfolding field_at
pair_at [] first second two a b = absurd (omega arith)
pair_at (x ∷ []) first second two a b = absurd (omega arith)
pair_at (x ∷ y ∷ []) first second two a b = let p : first ≡ x = cc in let q : second ≡ y = cc in rw (p, q) refl
pair_at (x ∷ y ∷ z ∷ more) first second two a b = absurd (omega arith)

last_there : (band : ℕ × ℕ) (bands : List (ℕ × ℕ)) → slice_get (band ∷ bands) (length bands) ≡ Some (last_band band bands)
last_there band [] = refl
last_there band (next ∷ bands) = last_there next bands

-- the last band, as a slice gives it
pub last_is : (bands : List (ℕ × ℕ)) → slice_get bands (length bands - 1) ≡ last_of bands
last_is [] = refl
last_is (band ∷ bands) = let size : length (band ∷ bands) - 1 ≡ length bands = omega arith in rw size (last_there band bands)

open_room : {A : Type 0} (n : ℕ) (r : Result A BandsFault) → n < 50 → (if nat_le 50 n then Err TooMany else r) ≡ r
open_room n r few = by (nat_le 50 n) (grind (arith, nat_tests))
  where
    by : (test : Bool) → test ≡ false → (if test then Err TooMany else r) ≡ r
    by true e = cc
    by false e = refl

-- the band of a record of these fields, after others
pub spelled_next : (bands : List (ℕ × ℕ)) (fields : List (List ℕ)) (first second : List ℕ) (band : ℕ × ℕ) (r : Result (ℕ × ℕ) BandsFault)
    → length bands < 50 → Some (first, second) ≡ pair_of fields → Some band ≡ both (number_from 0 first) (number_from 1 second)
    → r ≡ follows (length bands + 1) band (last_of bands) → r ≡ next_band bands fields
spelled_next bands [] first second band r few pair spells is = cc
spelled_next bands (x ∷ []) first second band r few pair spells is = cc
spelled_next bands (x ∷ y ∷ []) first second band r few pair spells is =
    let same : (first, second) ≡ (x, y) = cc in
    let p : first ≡ x = ap (λ (t : List ℕ × List ℕ). t.0) same in
    let q : second ≡ y = ap (λ (t : List ℕ × List ℕ). t.1) same in
    let there : both (number_from 0 x) (number_from 1 y) ≡ Some band = sym (rw (p, q) at spells) in
    is ∙ sym (open_room (length bands) (spelled (length bands + 1) (band_of (x ∷ y ∷ [])) (last_of bands)) few ∙ rw there refl)
spelled_next bands (x ∷ y ∷ z ∷ more) first second band r few pair spells is = cc
