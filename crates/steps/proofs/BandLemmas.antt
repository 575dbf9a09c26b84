-- The band of a record goes on with a valid table, and each band of a valid table is that of its record.
use Rattle.std.proofs.Common.{◌≡◌, ℕ, ◌+◌, ◌<◌, ◌≤◌, List, [], ◌∷◌, ◌++◌, length, refl, ap, arith, inl, inr, Bool, true, false, Option, Some, None, Result, Ok, Err, length-append}
use Rattle.std.specs.Prelude.{if◌then◌else◌, not, ◌==◌, ◌&&◌, nat_le, nat_lt}
use Rattle.std.specs.List.{AllByRecursion}
use Rattle.std.specs.Str.Parse.{digits_value}
use Rattle.std.proofs.lemmas.Bool.Decides.{nat_tests}
use Rattle.steps.specs.Table.{IsBand, IsBandTable, RisesFrom, RisesFromZero}
use Rattle.steps.specs.Records.{AreBands, band_of, both, follows, last_band, last_of, is_number, next_band, number_from, spelled}
use Rattle.steps.specs.declared.fault.BandsFault.{BandsFault}
use Rattle.steps.specs.declared.fault.BandsFault.TheVariants.{Csv, First, Order, Falls, TooMany}

-- an answer after a test
pub passed : {A : Type 0} (test : Bool) (fault : BandsFault) (r : Result A BandsFault) (x : A) → (if test then Err fault else r) ≡ Ok x → (test ≡ false) × (r ≡ Ok x)
passed true fault r x e = cc
passed false fault r x e = (refl, e)

pub passes : {A : Type 0} (test : Bool) (fault : BandsFault) (r : Result A BandsFault) (x : A) → test ≡ false → r ≡ Ok x → (if test then Err fault else r) ≡ Ok x
passes true fault r x e ok = cc
passes false fault r x e ok = ok

-- a number that was read is in its range
number_in : (least n : ℕ) (field : List ℕ) → number_from least field ≡ Some n → (least ≤ n) × (n ≤ 1000000000)
number_in least n field e = by (is_number field) (digits_value 10 field) e
  where
    by : (a : Bool) (v : ℕ) → (if a && nat_le least v && nat_le v 1000000000 then Some v else None) ≡ Some n → (least ≤ n) × (n ≤ 1000000000)
    by false v e = cc
    by true v e = within (nat_le least v) (nat_le v 1000000000) refl refl e
      where
        within : (x y : Bool) → nat_le least v ≡ x → nat_le v 1000000000 ≡ y → (if true && x && y then Some v else None) ≡ Some n → (least ≤ n) × (n ≤ 1000000000)
        within false y low high e = cc
        within true false low high e = cc
        within true true low high e = let same : v ≡ n = cc in (grind (arith, nat_tests, low, same), grind (arith, nat_tests, high, same))

both_in : (first second : Option ℕ) (band : ℕ × ℕ) → both first second ≡ Some band → (first ≡ Some band.0) × (second ≡ Some band.1)
both_in None second band e = cc
both_in (Some a) None band e = cc
both_in (Some a) (Some b) band e =
    let same : (a, b) ≡ band = cc in
    (ap (λ (p : ℕ × ℕ). Some p.0) same, ap (λ (p : ℕ × ℕ). Some p.1) same)

-- a record that spells a band has two fields, and the band is within its ranges
pub band_in : (fields : List (List ℕ)) (band : ℕ × ℕ) → band_of fields ≡ Some band → (length fields ≡ 2) × IsBand band
band_in [] band e = cc
band_in (first ∷ []) band e = cc
band_in (first ∷ second ∷ []) band e =
    let parts = both_in (number_from 0 first) (number_from 1 second) band e in
    let low = number_in 0 band.0 first parts.0 in
    let high = number_in 1 band.1 second parts.1 in
    (refl, (low.1, high.0, high.1))
band_in (first ∷ second ∷ third ∷ more) band e = cc

-- one more band above the last
each_more : (bands : List (ℕ × ℕ)) (band : ℕ × ℕ) → AllByRecursion IsBand bands → IsBand band → AllByRecursion IsBand (bands ++ band ∷ [])
each_more [] band each is = (is, tt)
each_more (b ∷ bands) band each is = (each.0, each_more bands band each.1 is)

rises_more : (last : ℕ × ℕ) (bands : List (ℕ × ℕ)) (band : ℕ × ℕ) → RisesFrom last bands
    → (last_band last bands).0 < band.0 → (last_band last bands).1 ≤ band.1 → RisesFrom last (bands ++ band ∷ [])
rises_more last [] band rises above steady = (above, steady, tt)
rises_more last (b ∷ bands) band rises above steady = (rises.0, rises.1, rises_more b bands band rises.2 above steady)

-- and a band of a table is above the last before it
rises_at : (last : ℕ × ℕ) (bands more : List (ℕ × ℕ)) (band : ℕ × ℕ) → RisesFrom last (bands ++ band ∷ more)
    → ((last_band last bands).0 < band.0) × ((last_band last bands).1 ≤ band.1)
rises_at last [] more band rises = (rises.0, rises.1)
rises_at last (b ∷ bands) more band rises = rises_at b bands more band rises.2

-- what follows the last band
follows_in : (n : ℕ) (band last x : ℕ × ℕ) → follows n band (Some last) ≡ Ok x → (x ≡ band) × (last.0 < band.0) × (last.1 ≤ band.1)
follows_in n band last x e =
    let order = passed (nat_le band.0 last.0) (Order n) (if nat_lt band.1 last.1 then Err (Falls n) else Ok band) x e in
    let falls = passed (nat_lt band.1 last.1) (Falls n) (Ok band) x order.1 in
    let above = order.0 in
    let steady = falls.0 in
    (cc falls.1, grind (arith, nat_tests, above), grind (arith, nat_tests, steady))

first_in : (test : Bool) (band x : ℕ × ℕ) → (if test then Ok band else Err First) ≡ Ok x → (test ≡ true) × (x ≡ band)
first_in true band x e = (refl, cc)
first_in false band x e = cc

spelled_in : (n : ℕ) (o : Option (ℕ × ℕ)) (last : Option (ℕ × ℕ)) (x : ℕ × ℕ) → spelled n o last ≡ Ok x → (band : ℕ × ℕ) × (o ≡ Some band) × (follows n band last ≡ Ok x)
spelled_in n None last x e = cc
spelled_in n (Some band) last x e = (band, refl, e)

-- a band that was taken makes a valid table
pub taken : (n : ℕ) (bands : List (ℕ × ℕ)) (band x : ℕ × ℕ) → AreBands bands → IsBand band → length bands < 50 → follows n band (last_of bands) ≡ Ok x
    → (x ≡ band) × IsBandTable (bands ++ band ∷ [])
taken n [] band x valid is few e =
    let first = first_in (band.0 == 0) band x e in
    let zero_first = first.0 in
    let zero : band.0 ≡ 0 = grind (arith, nat_tests, zero_first) in
    (first.1, record { few = omega arith; each = (is, tt); rising = (zero, tt) })
taken n (b ∷ bands) band x (inl none) is few e = cc
taken n (b ∷ bands) band x (inr valid) is few e =
    let next = follows_in n band (last_band b bands) x e in (
      next.0,
      record {
        few = omega (arith, length-append (b ∷ bands) (band ∷ []));
        each = each_more (b ∷ bands) band valid.each is;
        rising = (valid.rising.0, rises_more b bands band valid.rising.1 next.1 next.2);
      },
    )

-- the band of a record after these bands
pub next_taken : (bands : List (ℕ × ℕ)) (fields : List (List ℕ)) (x : ℕ × ℕ) → AreBands bands → next_band bands fields ≡ Ok x
    → IsBandTable (bands ++ x ∷ []) × (band_of fields ≡ Some x) × (length bands < 50)
next_taken bands fields x valid e =
    let two = passed (not (length fields == 2)) Csv (if nat_le 50 (length bands) then Err TooMany else spelled (length bands + 1) (band_of fields) (last_of bands)) x e in
    let room = passed (nat_le 50 (length bands)) TooMany (spelled (length bands + 1) (band_of fields) (last_of bands)) x two.1 in
    let some_room = room.0 in
    let few : length bands < 50 = grind (arith, nat_tests, some_room) in
    let (band, spells, follow) = spelled_in (length bands + 1) (band_of fields) (last_of bands) x room.1 in
    let is = (band_in fields band spells).1 in
    let next = taken (length bands + 1) bands band x valid is few follow in
    (rw next.0 next.1, rw next.0 spells, few)

pub follows_table : (n : ℕ) (bands more : List (ℕ × ℕ)) (band : ℕ × ℕ) → RisesFromZero (bands ++ band ∷ more) → follows n band (last_of bands) ≡ Ok band
follows_table n [] more band rising = let zero = rising.0 in grind (arith, nat_tests, zero)
follows_table n (b ∷ bands) more band rising =
    let next = rises_at b bands more band rising.1 in
    let above = next.0 in
    let steady = next.1 in
    passes (nat_le band.0 (last_band b bands).0) (Order n) (if nat_lt band.1 (last_band b bands).1 then Err (Falls n) else Ok band) band
    (grind (arith, nat_tests, above))
    (passes (nat_lt band.1 (last_band b bands).1) (Falls n) (Ok band) band (grind (arith, nat_tests, steady)) refl)

-- each band of a valid table is taken
pub next_of_table : (bands more : List (ℕ × ℕ)) (band : ℕ × ℕ) (fields : List (List ℕ)) → IsBandTable (bands ++ band ∷ more) → band_of fields ≡ Some band
    → next_band bands fields ≡ Ok band
next_of_table bands more band fields valid spells =
    let two = (band_in fields band spells).0 in
    let count = valid.few in
    let room : length bands < 50 = omega (arith, count, length-append bands (band ∷ more)) in
    let taken : spelled (length bands + 1) (band_of fields) (last_of bands) ≡ Ok band = rw spells (follows_table (length bands + 1) bands more band valid.rising) in
    passes (not (length fields == 2)) Csv (if nat_le 50 (length bands) then Err TooMany else spelled (length bands + 1) (band_of fields) (last_of bands)) band
    (grind (arith, nat_tests, two))
    (passes (nat_le 50 (length bands)) TooMany (spelled (length bands + 1) (band_of fields) (last_of bands)) band (grind (arith, nat_tests, room)) taken)
