-- What the records read so far say of the whole table.
use Rattle.std.proofs.Common.{◌≡◌, ◌≢◌, ℕ, List, [], ◌∷◌, ◌++◌, map, refl, sym, ap, ◌∙◌, inl, inr, ◌⊎◌, Option, Some, None, Result, Ok, Err, append_assoc, IfOk, IfSome}
use Rattle.std.proofs.lemmas.List.{map-append}
use Rattle.csv.specs.declared.reader.Reader.{Reader}
use Rattle.steps.specs.Table.{IsBandTable}
use Rattle.steps.specs.Reading.{HasRead, IsOutside, records_of}
use Rattle.steps.specs.Records.{AreBands, HasFault, IsJudged, IsTable, band_of, head, next_band}
use Rattle.steps.specs.declared.fault.BandsFault.{BandsFault}
use Rattle.steps.specs.declared.fault.BandsFault.TheVariants.{Device, First, Head, Memory}
use Rattle.steps.proofs.JudgedLemmas.{fault_judged}
use Rattle.steps.proofs.ReadLemmas.{read_first}

-- no record at all
pub no_head : (records : List (List (List ℕ))) → records ≡ [] → HasFault records Head
no_head records none = inl (refl, λ rows e. cc (none, e))

-- a first record that is not the head
pub other_head : {R : Type 0} (rem : R → Option (List ℕ)) (reader : Reader R) (fields : List (List ℕ)) (text : List ℕ)
    → HasRead rem reader (fields ∷ []) text → fields ≢ head → HasFault (records_of text) Head
other_head rem reader fields text has other =
    let (rest, all) = read_first rem reader (fields ∷ []) text has in
    inl (refl, λ rows e. other (first (sym all ∙ e)))
  where
    first : {x y : List (List ℕ)} {xs ys : List (List (List ℕ))} → x ∷ xs ≡ y ∷ ys → x ≡ y
    first e = cc

-- the rows so far spell the bands so far
abbrev pub Spells : List (List (List ℕ)) → List (ℕ × ℕ) → Type 0
Spells rows bands = map band_of rows ≡ map (λ (band : ℕ × ℕ). Some band) bands

-- the rows were all, and spell a table
pub rows_ended : (records rows : List (List (List ℕ))) (bands : List (ℕ × ℕ)) → records ≡ head ∷ rows → Spells rows bands → IsBandTable bands → IsTable records bands
rows_ended records rows bands headed spells valid = record { rows = rows; headed = headed; spelled = spells; valid = valid }

-- the rows were all, and spell no band
pub rows_none : (records rows : List (List (List ℕ))) (bands : List (ℕ × ℕ)) → records ≡ head ∷ rows → Spells rows bands → bands ≡ [] → HasFault records First
rows_none records [] bands headed spells none = inr (inr (refl, headed))
rows_none records (row ∷ rows) bands headed spells none = cc (rw none at spells)

-- one more row
pub rows_more : (rows : List (List (List ℕ))) (fields : List (List ℕ)) (bands : List (ℕ × ℕ)) (band : ℕ × ℕ) → Spells rows bands → band_of fields ≡ Some band
    → Spells (rows ++ fields ∷ []) (bands ++ band ∷ [])
rows_more rows fields bands band spells one =
    map-append band_of rows (fields ∷ []) ∙ ap (λ (m : List (Option (ℕ × ℕ))). m ++ band_of fields ∷ []) spells
    ∙ ap (λ (o : Option (ℕ × ℕ)). map (λ (b : ℕ × ℕ). Some b) bands ++ o ∷ []) one
    ∙ sym (map-append (λ (b : ℕ × ℕ). Some b) bands (band ∷ []))

-- a row with a fault
pub row_faulty : {R : Type 0} (rem : R → Option (List ℕ)) (reader : Reader R) (rows : List (List (List ℕ))) (fields : List (List ℕ)) (bands : List (ℕ × ℕ)) (fault : BandsFault) (text : List ℕ)
    → HasRead rem reader (head ∷ rows ++ fields ∷ []) text → Spells rows bands → AreBands bands → Err fault ≡ next_band bands fields → HasFault (records_of text) fault
row_faulty rem reader rows fields bands fault text has spells valid refused =
    let (rest, all) = read_first rem reader (head ∷ rows ++ fields ∷ []) text has in
    inr (inl (record {
      before = rows;
      faulty = fields;
      after = rest;
      bands = bands;
      headed = all ∙ ap (λ (r : List (List (List ℕ))). head ∷ r) (append_assoc rows (fields ∷ []) rest);
      spelled = spells;
      valid = valid;
      refused = sym refused;
    }))

-- valid bands so far, of which there are some
pub some_valid : (bands : List (ℕ × ℕ)) → AreBands bands → bands ≢ [] → IsBandTable bands
some_valid bands (inl none) some = absurd (some none)
some_valid bands (inr valid) some = valid

-- what holds of an answer, made weaker
pub ok_through : {T E : Type 0} {P Q : T → Type 0} (r : Result T E) → ((x : T) → P x → Q x) → IfOk r P → IfOk r Q
ok_through (Ok x) weaker h = weaker x h
ok_through (Err e) weaker h = tt

-- what holds of each text that a reader may report
pub if_known : (known : Option (List ℕ)) (P : List ℕ → Type 0) → ((text : List ℕ) → known ≡ Some text → P text) → IfSome known P
if_known None P each = tt
if_known (Some text) P each = each text refl

-- a fault as an answer
abbrev as_answer : BandsFault → Result (List (ℕ × ℕ)) BandsFault
as_answer fault = Err fault

-- an answer that is none of memory's or the device's is the judgement of the records
pub fault_of_records : (records : List (List (List ℕ))) (fault : BandsFault) → IsOutside fault ⊎ HasFault records fault
    → as_answer fault ≢ as_answer Memory → as_answer fault ≢ as_answer Device → IsJudged records (Err fault)
fault_of_records records fault (inl (inl memory)) no_memory no_device = absurd (no_memory (ap as_answer memory))
fault_of_records records fault (inl (inr device)) no_memory no_device = absurd (no_device (ap as_answer device))
fault_of_records records fault (inr has) no_memory no_device = fault_judged records fault has
