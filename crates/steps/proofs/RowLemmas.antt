-- Rows of numbers are judged in one way alone.
use Rattle.std.proofs.Common.{◌≡◌, ℕ, ◌+◌, ◌<◌, List, [], ◌∷◌, ◌++◌, length, refl, sym, ap, ◌∙◌, inl, inr, ◌⊎◌, arith, Bool, true, false, Result, Ok, Err, append_assoc, length-append, subst}
use Rattle.std.specs.Prelude.{if◌then◌else◌, nat_le}
use Rattle.std.specs.List.{AllByRecursion}
use Rattle.std.proofs.lemmas.Bool.Decides.{nat_tests}
use Rattle.std.proofs.lemmas.List.{append-nil}
use Rattle.steps.specs.Table.{IsBand, IsBandTable}
use Rattle.steps.specs.Records.{AreBands, follows, last_of}
use Rattle.steps.specs.Rows.{AreJudged, HaveFault, is_band, next_row}
use Rattle.steps.specs.declared.fault.BandsFault.{BandsFault}
use Rattle.steps.specs.declared.fault.BandsFault.TheVariants.{Row, TooMany}
use Rattle.steps.proofs.BandLemmas.{follows_table, passed, passes, taken}
use Rattle.steps.proofs.JudgedLemmas.{Answer, judge_end, judge_on, some_bands}

-- the rows judged one after the other, after these bands
abbrev judge : List (ℕ × ℕ) → List (ℕ × ℕ) → Answer
judge bands [] = judge_end bands
judge bands (row ∷ rows) = judge_on (λ (band : ℕ × ℕ). judge (bands ++ band ∷ []) rows) (next_row bands row)

each_at : (bands more : List (ℕ × ℕ)) (band : ℕ × ℕ) → AllByRecursion IsBand (bands ++ band ∷ more) → IsBand band
each_at [] more band each = each.0
each_at (b ∷ bands) more band each = each_at bands more band each.1

pub is_within : (band : ℕ × ℕ) → IsBand band → is_band band ≡ true
is_within band is = let a = is.0 in let b = is.1 in let c = is.2 in grind (arith, nat_tests)

-- each band of a valid table is taken
next_of_table : (bands more : List (ℕ × ℕ)) (band : ℕ × ℕ) → IsBandTable (bands ++ band ∷ more) → next_row bands band ≡ Ok band
next_of_table bands more band valid =
    let count = valid.few in
    let room : length bands < 50 = omega (arith, count, length-append bands (band ∷ more)) in
    let within = is_within band (each_at bands more band valid.each) in
    passes (nat_le 50 (length bands)) TooMany (if is_band band then follows (length bands + 1) band (last_of bands) else Err (Row (length bands + 1))) band
    (grind (arith, nat_tests, room)) (rw within (follows_table (length bands + 1) bands more band valid.rising))

-- a row that was taken makes a valid table
pub next_taken : (bands : List (ℕ × ℕ)) (row x : ℕ × ℕ) → AreBands bands → next_row bands row ≡ Ok x → IsBandTable (bands ++ row ∷ [])
next_taken bands row x valid e =
    let room = passed (nat_le 50 (length bands)) TooMany (if is_band row then follows (length bands + 1) row (last_of bands) else Err (Row (length bands + 1))) x e in
    let some_room = room.0 in
    let few : length bands < 50 = grind (arith, nat_tests, some_room) in
    elim (by_test (is_band row)) [
      | inl is ↦ (let within : IsBand row = (grind (arith, nat_tests, is), grind (arith, nat_tests, is), grind (arith, nat_tests, is)) in
          (taken (length bands + 1) bands row x valid within few (rw is at room.1)).1)
      | inr not ↦ absurd (let e : Err (Row (length bands + 1)) ≡ Ok x = rw not at room.1 in cc)
    ]
  where
    by_test : (b : Bool) → (b ≡ true) ⊎ (b ≡ false)
    by_test true = inl refl
    by_test false = inr refl

-- the bands of a valid table are passed one by one
judge_bands : (done bands rest : List (ℕ × ℕ)) → AreBands (done ++ bands) → judge done (bands ++ rest) ≡ judge (done ++ bands) rest
judge_bands done [] rest valid = rw append-nil refl
judge_bands done (band ∷ bands) rest valid =
    let next = next_of_table done bands band (some_bands done bands band valid) in
    let joined = append_assoc done (band ∷ []) bands in
    let more = judge_bands (done ++ band ∷ []) bands rest (subst AreBands (sym joined) valid) in
    rw next (more ∙ ap (λ (b : List (ℕ × ℕ)). judge b rest) joined)

ended : (bands : List (ℕ × ℕ)) → IsBandTable bands → judge_end bands ≡ Ok bands
ended [] valid = absurd valid.rising
ended (band ∷ bands) valid = refl

table_judge : (rows : List (ℕ × ℕ)) → IsBandTable rows → judge [] rows ≡ Ok rows
table_judge rows valid = ap (judge []) (sym (append-nil rows)) ∙ judge_bands [] rows [] (inr valid) ∙ ended rows valid

fault_judge : (rows : List (ℕ × ℕ)) (fault : BandsFault) → HaveFault rows fault → judge [] rows ≡ Err fault
fault_judge rows fault (inl row) = ap (judge []) row.parts ∙ judge_bands [] row.before (row.faulty ∷ row.later) row.valid ∙ rw row.refused refl
fault_judge rows fault (inr none) = rw (none.0, none.1) refl

-- a table is judged as itself
pub table_judged : (rows : List (ℕ × ℕ)) → IsBandTable rows → AreJudged rows (Ok rows)
table_judged rows valid = record {
  ok = λ other. ((λ e. let same : rows ≡ other = cc e in (sym same, valid)), (λ is. ap (λ (b : List (ℕ × ℕ)). Ok b) (sym is.0)));
  fault = λ fault. ((λ e. cc e), (λ has. sym (table_judge rows valid) ∙ fault_judge rows fault has));
}

-- and rows with a fault as that fault
pub fault_judged : (rows : List (ℕ × ℕ)) (fault : BandsFault) → HaveFault rows fault → AreJudged rows (Err fault)
fault_judged rows fault has = record {
  ok = λ other. ((λ e. cc e), (λ is. let report : judge [] rows ≡ Ok rows = table_judge rows is.1 in let e : Err fault ≡ Ok rows = sym (fault_judge rows fault has) ∙ report in cc));
  fault = λ other. ((λ e. let same : fault ≡ other = cc e in subst (HaveFault rows) same has), (λ also. sym (fault_judge rows fault has) ∙ fault_judge rows other also));
}

pub next_is : (bands : List (ℕ × ℕ)) (row : ℕ × ℕ) (r : Result (ℕ × ℕ) BandsFault) → length bands < 50 → is_band row ≡ true → r ≡ follows (length bands + 1) row (last_of bands) → r ≡ next_row bands row
next_is bands row r few is e = let room : nat_le 50 (length bands) ≡ false = grind (arith, nat_tests) in rw (room, is) e
