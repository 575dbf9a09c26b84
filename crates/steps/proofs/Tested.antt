-- Exactly the band tables pass the test of rows.
use Rattle.std.proofs.Common.{◌≡◌, ℕ, ◌≤◌, ◌<◌, List, [], ◌∷◌, length, refl, ◌∙◌, sym, arith, inl, inr, ◌⊎◌, ◌↔◌, Bool, true, false, Result, Ok, Err}
use Rattle.std.specs.Prelude.{◌&&◌, ◌==◌, nat_le, nat_lt}
use Rattle.std.specs.List.{AllByRecursion, list_all}
use Rattle.std.proofs.lemmas.Bool.Decides.{nat_tests}
use Rattle.steps.specs.Table.{IsBand, IsBandTable, RisesFrom, RisesFromZero}
use Rattle.steps.specs.Rows.{AreJudged, HaveFault, is_band}
use Rattle.steps.specs.Valid.{is_band_table, rise_from, rise_from_zero}
use Rattle.steps.specs.declared.fault.BandsFault.{BandsFault}
use Rattle.steps.proofs.RowLemmas.{fault_judged, is_within}

both : (a b : Bool) → (a && b) ≡ true → (a ≡ true) × (b ≡ true)
both true true e = (refl, refl)
both true false e = cc
both false b e = cc

joined : (a b : Bool) → a ≡ true → b ≡ true → (a && b) ≡ true
joined a b is also = rw (is, also) refl

band_is : (band : ℕ × ℕ) → is_band band ≡ true → IsBand band
band_is band is = (grind (arith, nat_tests, is), grind (arith, nat_tests, is), grind (arith, nat_tests, is))

each_is : (bands : List (ℕ × ℕ)) → list_all is_band bands ≡ true → AllByRecursion IsBand bands
each_is [] is = tt
each_is (band ∷ bands) is = let p = both (is_band band) (list_all is_band bands) is in (band_is band p.0, each_is bands p.1)

each_tested : (bands : List (ℕ × ℕ)) → AllByRecursion IsBand bands → list_all is_band bands ≡ true
each_tested [] each = refl
each_tested (band ∷ bands) each = joined (is_band band) (list_all is_band bands) (is_within band each.0) (each_tested bands each.1)

rises_is : (last : ℕ × ℕ) (bands : List (ℕ × ℕ)) → rise_from last bands ≡ true → RisesFrom last bands
rises_is last [] is = tt
rises_is last (band ∷ bands) is =
    let p = both (nat_lt last.0 band.0) (nat_le last.1 band.1 && rise_from band bands) is in
    let q = both (nat_le last.1 band.1) (rise_from band bands) p.1 in
    let above = p.0 in
    let least = q.0 in
    (grind (arith, nat_tests, above), grind (arith, nat_tests, least), rises_is band bands q.1)

rises_tested : (last : ℕ × ℕ) (bands : List (ℕ × ℕ)) → RisesFrom last bands → rise_from last bands ≡ true
rises_tested last [] rises = refl
rises_tested last (band ∷ bands) rises =
    let above = rises.0 in
    let least = rises.1 in
    joined (nat_lt last.0 band.0) (nat_le last.1 band.1 && rise_from band bands) (grind (arith, nat_tests, above))
    (joined (nat_le last.1 band.1) (rise_from band bands) (grind (arith, nat_tests, least)) (rises_tested band bands rises.2))

zero_is : (bands : List (ℕ × ℕ)) → rise_from_zero bands ≡ true → RisesFromZero bands
zero_is [] is = cc
zero_is (first ∷ bands) is =
    let p = both (first.0 == 0) (rise_from first bands) is in
    let at_zero = p.0 in
    (grind (arith, nat_tests, at_zero), rises_is first bands p.1)

zero_tested : (bands : List (ℕ × ℕ)) → RisesFromZero bands → rise_from_zero bands ≡ true
zero_tested [] rises = absurd rises
zero_tested (first ∷ bands) rises =
    let at_zero = rises.0 in
    joined (first.0 == 0) (rise_from first bands) (grind (arith, nat_tests, at_zero)) (rises_tested first bands rises.1)

pub table_is : (bands : List (ℕ × ℕ)) → is_band_table bands ≡ true → IsBandTable bands
unfolding is_band_table
table_is bands is =
    let p = both (nat_le (length bands) 50) (list_all is_band bands && rise_from_zero bands) is in
    let q = both (list_all is_band bands) (rise_from_zero bands) p.1 in
    let few = p.0 in
    record { few = grind (arith, nat_tests, few); each = each_is bands q.0; rising = zero_is bands q.1 }

pub table_tested : (bands : List (ℕ × ℕ)) → IsBandTable bands → is_band_table bands ≡ true
unfolding is_band_table
table_tested bands valid =
    let few = valid.few in
    joined (nat_le (length bands) 50) (list_all is_band bands && rise_from_zero bands) (grind (arith, nat_tests, few))
    (joined (list_all is_band bands) (rise_from_zero bands) (each_tested bands valid.each) (zero_tested bands valid.rising))

-- rows with a fault are no table
pub fault_tested : (rows : List (ℕ × ℕ)) (fault : BandsFault) → HaveFault rows fault → is_band_table rows ≡ false
fault_tested rows fault has = by_test (is_band_table rows) refl where
  by_test : (b : Bool) → is_band_table rows ≡ b → is_band_table rows ≡ false
  by_test false e = e
  by_test true e =
      let judged : (Err fault ≡ Ok rows) = ((fault_judged rows fault has).ok rows).1 (refl, table_is rows e) in
      absurd cc

-- exactly
pub tested : (bands : List (ℕ × ℕ)) → (is_band_table bands ≡ true) ↔ IsBandTable bands
tested bands = (table_is bands, table_tested bands)
