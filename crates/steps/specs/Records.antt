-- Which records are a band table, and the first fault of those that are none. A record is the list of its fields, and a field the list of its bytes.
use Rattle.std.specs.Prelude.{if◌then◌else◌, ◌≡◌, ◌≢◌, ◌⊎◌, ◌↔◌, Bool, ℕ, ◌+◌, ◌&&◌, not, ◌==◌, List, [], ◌∷◌, ◌++◌, length, nat_le, nat_lt, map, codes, Option, Some, None, Result, Ok, Err}
use Rattle.std.specs.Char.{is_ascii_digit}
use Rattle.std.specs.List.{list_all}
use Rattle.std.specs.Str.Parse.{digits_value}
use Rattle.steps.specs.Table.{Band, IsBandTable}
use Rattle.steps.specs.declared.fault.BandsFault.{BandsFault}
use Rattle.steps.specs.declared.fault.BandsFault.TheVariants.{Csv, Head, Row, First, Order, Falls, TooMany}

-- the head, which is the first record
abbrev pub head : List (List ℕ)
head = codes "at" ∷ codes "step" ∷ []

-- one to ten digits
abbrev pub is_number : List ℕ → Bool
is_number field = (nat_le 1 (length field) && nat_le (length field) 10) && list_all is_ascii_digit field

-- the number of a field, if it is at least so much and no more than the limit of amounts
abbrev pub number_from : ℕ → List ℕ → Option ℕ
number_from least field =
    if is_number field && nat_le least (digits_value 10 field) && nat_le (digits_value 10 field) 1000000000
    then Some (digits_value 10 field) else None

-- two numbers, if there are both
abbrev pub both : Option ℕ → Option ℕ → Option Band
both None step = None
both (Some at_cents) None = None
both (Some at_cents) (Some step) = Some (at_cents, step)

-- the band that a record spells, as (at, step): an `at` is from 0 and a step from 1
abbrev pub band_of : List (List ℕ) → Option Band
band_of [] = None
band_of (first ∷ []) = None
band_of (first ∷ second ∷ []) = both (number_from 0 first) (number_from 1 second)
band_of (first ∷ second ∷ third ∷ more) = None

-- the last band, after this one
abbrev pub last_band : Band → List Band → Band
last_band band [] = band
last_band band (next ∷ bands) = last_band next bands

-- the last band, if there is one
abbrev pub last_of : List Band → Option Band
last_of [] = None
last_of (band ∷ bands) = Some (last_band band bands)

-- the band of row n after the last one before it, or its fault
abbrev pub follows : ℕ → Band → Option Band → Result Band BandsFault
follows n band None = if band.0 == 0 then Ok band else Err First
follows n band (Some last) =
    if nat_le band.0 last.0 then Err (Order n) else if nat_lt band.1 last.1 then Err (Falls n) else Ok band

-- the same of what a record spells
abbrev pub spelled : ℕ → Option Band → Option Band → Result Band BandsFault
spelled n None last = Err (Row n)
spelled n (Some band) last = follows n band last

-- the band of the record after these bands, or the first fault that it has, in the order of judging
abbrev pub next_band : List Band → List (List ℕ) → Result Band BandsFault
next_band bands fields =
    if not (length fields == 2) then Err Csv
    else if nat_le 50 (length bands) then Err TooMany
    else spelled (length bands + 1) (band_of fields) (last_of bands)

-- the records are the head, and then one for each band of a valid table
pub record IsTable (records : List (List (List ℕ))) (bands : List Band) : Type 0 where
  pub rows : List (List (List ℕ))
  pub headed : records ≡ head ∷ rows
  pub spelled : map band_of rows ≡ map (λ (band : Band). Some band) bands
  pub valid : IsBandTable bands

-- no bands, or a valid table: what the records before a fault spell
abbrev pub AreBands : List Band → Type 0
AreBands bands = (bands ≡ []) ⊎ IsBandTable bands

-- some record has this fault, and no record before it has one
pub record HasFaultyRow (records : List (List (List ℕ))) (fault : BandsFault) : Type 0 where
  pub before : List (List (List ℕ))
  pub faulty : List (List ℕ)
  pub after : List (List (List ℕ))
  pub bands : List Band
  pub headed : records ≡ head ∷ (before ++ faulty ∷ after)
  pub spelled : map band_of before ≡ map (λ (band : Band). Some band) bands
  pub valid : AreBands bands
  pub refused : next_band bands faulty ≡ Err fault

-- this is the first fault of the records: the head is missing, a row has it, or no band follows the head
abbrev pub HasFault : List (List (List ℕ)) → BandsFault → Type 0
HasFault records fault =
    ((fault ≡ Head) × ((rows : List (List (List ℕ))) → records ≢ head ∷ rows)) ⊎ HasFaultyRow records fault ⊎ ((fault ≡ First) × (records ≡ head ∷ []))

-- what is answered of the records: a table as its bands, and else the first fault
pub record IsJudged (records : List (List (List ℕ))) (answer : Result (List Band) BandsFault) : Type 0 where
  pub ok : (bands : List Band) → (answer ≡ Ok bands) ↔ IsTable records bands
  pub fault : (fault : BandsFault) → (answer ≡ Err fault) ↔ HasFault records fault
