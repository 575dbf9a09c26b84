-- The line of a fault of a band table, in parts.
use Rattle.std.proofs.Common.{◌≡◌, ◌≢◌, ◌∙◌, ℕ, List, [], ◌∷◌, ◌++◌, None, Some, ap, refl}
use Rattle.std.specs.Prelude.{codes, decimal}
use Rattle.steps.specs.Fault.{name_of, row_of}
use Rattle.steps.specs.declared.fault.BandsFault.{BandsFault}
use Rattle.steps.specs.declared.fault.BandsFault.TheVariants as bands
use Rattle.auction_runs.specs.Lines.{bands_line}

-- what stands before its row
abbrev pub front : List ℕ → List ℕ
front name = codes "auction: " ++ codes "bands: " ++ name

-- and from there on
abbrev pub rest : List ℕ → List ℕ
rest digits = codes " " ++ digits ++ 10 ∷ []

named : (fault : BandsFault) → fault ≢ bands.Memory → row_of fault ≡ None
    → front (name_of fault) ++ 10 ∷ [] ≡ bands_line fault ++ 10 ∷ []
named bands.Csv other is = refl
named bands.Head other is = refl
named (bands.Row n) other is = absurd cc
named bands.First other is = refl
named (bands.Order n) other is = absurd cc
named (bands.Falls n) other is = absurd cc
named bands.TooMany other is = refl
named bands.Device other is = refl
named bands.Memory other is = absurd (other refl)

numbered : (fault : BandsFault) (row : ℕ) → row_of fault ≡ Some row
    → front (name_of fault) ++ rest (decimal row) ≡ bands_line fault ++ 10 ∷ []
numbered bands.Csv row is = absurd cc
numbered bands.Head row is = absurd cc
numbered (bands.Row n) row is =
    let same : row ≡ n = cc is in ap (λ m. bands_line (bands.Row m) ++ 10 ∷ []) same
numbered bands.First row is = absurd cc
numbered (bands.Order n) row is =
    let same : row ≡ n = cc is in ap (λ m. bands_line (bands.Order m) ++ 10 ∷ []) same
numbered (bands.Falls n) row is =
    let same : row ≡ n = cc is in ap (λ m. bands_line (bands.Falls m) ++ 10 ∷ []) same
numbered bands.TooMany row is = absurd cc
numbered bands.Device row is = absurd cc
numbered bands.Memory row is = absurd cc

begins : (fault : BandsFault) → fault ≢ bands.Memory
    → (tail : List ℕ) × (front (name_of fault) ++ tail ≡ bands_line fault ++ 10 ∷ [])
begins bands.Csv other = (10 ∷ [], refl)
begins bands.Head other = (10 ∷ [], refl)
begins (bands.Row n) other = (rest (decimal n), refl)
begins bands.First other = (10 ∷ [], refl)
begins (bands.Order n) other = (rest (decimal n), refl)
begins (bands.Falls n) other = (rest (decimal n), refl)
begins bands.TooMany other = (10 ∷ [], refl)
begins bands.Device other = (10 ∷ [], refl)
begins bands.Memory other = absurd (other refl)

-- its name is a beginning of its line
pub begins_by_name : (fault : BandsFault) (name : List ℕ) → fault ≢ bands.Memory → name ≡ name_of fault
    → (tail : List ℕ) × (front name ++ tail ≡ bands_line fault ++ 10 ∷ [])
begins_by_name fault name other is =
    let found = begins fault other in (found.0, ap (λ n. front n ++ found.0) is ∙ found.1)

-- the parts are the line of a fault without a row
pub without_row : (fault : BandsFault) (name : List ℕ) → fault ≢ bands.Memory → row_of fault ≡ None
    → name ≡ name_of fault → front name ++ 10 ∷ [] ≡ bands_line fault ++ 10 ∷ []
without_row fault name other is name_is =
    ap (λ n. front n ++ 10 ∷ []) name_is ∙ named fault other is

-- and of one with a row
pub with_row : (fault : BandsFault) (row : ℕ) (name digits : List ℕ) → row_of fault ≡ Some row
    → name ≡ name_of fault → digits ≡ decimal row
    → front name ++ rest digits ≡ bands_line fault ++ 10 ∷ []
with_row fault row name digits is name_is digits_are =
    ap (λ n. front n ++ rest digits) name_is
    ∙ ap (λ d. front (name_of fault) ++ rest d) digits_are ∙ numbered fault row is
