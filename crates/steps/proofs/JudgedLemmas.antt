-- Records are judged in one way alone: as one table, or with one first fault.
use Rattle.std.proofs.Common.{◌≡◌, ◌≢◌, ℕ, List, [], ◌∷◌, ◌++◌, map, refl, sym, ap, ◌∙◌, inl, inr, ◌⊎◌, Some, Result, Ok, Err, append_assoc, subst}
use Rattle.std.proofs.lemmas.List.{append-nil}
use Rattle.steps.specs.Table.{IsBandTable}
use Rattle.steps.specs.Records.{AreBands, HasFault, IsJudged, IsTable, band_of, head, next_band}
use Rattle.steps.specs.declared.fault.BandsFault.{BandsFault}
use Rattle.steps.specs.declared.fault.BandsFault.TheVariants.{Head, First}
use Rattle.steps.proofs.BandLemmas.{next_of_table}

-- what is answered of records
abbrev pub Answer : Type 0
Answer = Result (List (ℕ × ℕ)) BandsFault

-- the answer after one more row
abbrev pub judge_on : (ℕ × ℕ → Answer) → Result (ℕ × ℕ) BandsFault → Answer
judge_on more (Ok band) = more band
judge_on more (Err fault) = Err fault

-- the answer at the end of the rows
abbrev pub judge_end : List (ℕ × ℕ) → Answer
judge_end [] = Err First
judge_end (band ∷ bands) = Ok (band ∷ bands)

-- the rows judged one after the other, after these bands
abbrev judge : List (ℕ × ℕ) → List (List (List ℕ)) → Answer
judge bands [] = judge_end bands
judge bands (row ∷ rows) = judge_on (λ (band : ℕ × ℕ). judge (bands ++ band ∷ []) rows) (next_band bands row)

-- the records are judged so: the head is missing, or the rows after it are judged so
IsAnswer : List (List (List ℕ)) → Answer → Type 0
IsAnswer records answer =
    ((answer ≡ Err Head) × ((rows : List (List (List ℕ))) → records ≢ head ∷ rows)) ⊎ ((rows : List (List (List ℕ))) × (records ≡ head ∷ rows) × (judge [] rows ≡ answer))

-- records have one answer
one_answer : (records : List (List (List ℕ))) (a b : Answer) → IsAnswer records a → IsAnswer records b → a ≡ b
unfolding IsAnswer
one_answer records a b (inl x) (inl y) = x.0 ∙ sym y.0
one_answer records a b (inl x) (inr y) = absurd (x.1 y.0 y.1)
one_answer records a b (inr x) (inl y) = absurd (y.1 x.0 x.1)
one_answer records a b (inr x) (inr y) =
    let same : x.0 ≡ y.0 = tails x.0 y.0 (sym x.1 ∙ y.1) in
    sym x.2 ∙ ap (judge []) same ∙ y.2
  where
    tails : (v w : List (List (List ℕ))) → head ∷ v ≡ head ∷ w → v ≡ w
    tails v w e = cc

pub some_bands : (done bands : List (ℕ × ℕ)) (band : ℕ × ℕ) → AreBands (done ++ band ∷ bands) → IsBandTable (done ++ band ∷ bands)
some_bands done bands band (inr valid) = valid
some_bands [] bands band (inl none) = cc
some_bands (d ∷ done) bands band (inl none) = cc

-- rows that spell the bands of a table are judged band by band
judge_rows : (done bands : List (ℕ × ℕ)) (rows rest : List (List (List ℕ))) → map band_of rows ≡ map (λ (band : ℕ × ℕ). Some band) bands
    → AreBands (done ++ bands) → judge done (rows ++ rest) ≡ judge (done ++ bands) rest
judge_rows done [] [] rest spells valid = rw append-nil refl
judge_rows done (band ∷ bands) [] rest spells valid = cc
judge_rows done [] (row ∷ rows) rest spells valid = cc
judge_rows done (band ∷ bands) (row ∷ rows) rest spells valid =
    let first : band_of row ≡ Some band = cc in
    let others : map band_of rows ≡ map (λ (b : ℕ × ℕ). Some b) bands = cc in
    let next = next_of_table done bands band row (some_bands done bands band valid) first in
    let joined = append_assoc done (band ∷ []) bands in
    let more = judge_rows (done ++ band ∷ []) bands rows rest others (subst AreBands (sym joined) valid) in
    rw next (more ∙ ap (λ (b : List (ℕ × ℕ)). judge b rest) joined)

table_answer : (records : List (List (List ℕ))) (bands : List (ℕ × ℕ)) → IsTable records bands → IsAnswer records (Ok bands)
unfolding IsAnswer
table_answer records bands table =
    let all = judge_rows [] bands table.rows [] table.spelled (inr table.valid) in
    inr (table.rows, table.headed, ap (judge []) (sym (append-nil table.rows)) ∙ all ∙ ended bands table.valid)
  where
    ended : (bands : List (ℕ × ℕ)) → IsBandTable bands → judge_end bands ≡ Ok bands
    ended [] valid = absurd valid.rising
    ended (band ∷ bands) valid = refl

fault_answer : (records : List (List (List ℕ))) (fault : BandsFault) → HasFault records fault → IsAnswer records (Err fault)
unfolding IsAnswer
fault_answer records fault (inl missing) = inl (ap (λ (f : BandsFault). Err f) missing.0, missing.1)
fault_answer records fault (inr (inl row)) =
    let all = judge_rows [] row.bands row.before (row.faulty ∷ row.after) row.spelled row.valid in
    inr (row.before ++ row.faulty ∷ row.after, row.headed, all ∙ rw row.refused refl)
fault_answer records fault (inr (inr none)) = inr ([], none.1, ap (λ (f : BandsFault). Err f) (sym none.0))

-- a table is judged as its bands
pub table_judged : (records : List (List (List ℕ))) (bands : List (ℕ × ℕ)) → IsTable records bands → IsJudged records (Ok bands)
table_judged records bands table = record {
  ok = λ other. ((λ e. let same : bands ≡ other = cc e in subst (IsTable records) same table), (λ t. one_answer records (Ok bands) (Ok other) (table_answer records bands table) (table_answer records other t)));
  fault = λ fault. ((λ e. cc e), (λ h. one_answer records (Ok bands) (Err fault) (table_answer records bands table) (fault_answer records fault h)));
}

-- and records with a fault as that fault
pub fault_judged : (records : List (List (List ℕ))) (fault : BandsFault) → HasFault records fault → IsJudged records (Err fault)
fault_judged records fault has = record {
  ok = λ bands. ((λ e. cc e), (λ t. one_answer records (Err fault) (Ok bands) (fault_answer records fault has) (table_answer records bands t)));
  fault = λ other. ((λ e. let same : fault ≡ other = cc e in subst (HasFault records) same has), (λ h. one_answer records (Err fault) (Err other) (fault_answer records fault has) (fault_answer records other h)));
}
