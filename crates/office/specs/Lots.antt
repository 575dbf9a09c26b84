-- What the rows of a lot file spell. A record is the list of its fields, and a field the list of
-- its bytes. Start here.
use Rattle.std.specs.Prelude.{if◌then◌else◌, ◌≡◌, ◌≤◌, ◌&&◌, ℕ, List, [], ◌∷◌, length, nat_le, codes, Option, Some, None, option_and_then}
use Rattle.std.specs.List.{AllByRecursion}
use Rattle.std.specs.Str.{IsUtf8}
use Rattle.cents.specs.Spelling.{IsSpelling}
use Rattle.csv.specs.Records.{field_at}
use Rattle.site_digits.specs.Digits.{digits_after}
use Rattle.office.specs.declared.column.Column.{Column}
use Rattle.office.specs.declared.column.Column.TheVariants as column
use Rattle.office.specs.declared.lot.Lot.{Lot}

-- the name of a field
abbrev pub column_name : Column → List ℕ
column_name column.Lot = codes "lot"
column_name column.Category = codes "category"
column_name column.Title = codes "title"
column_name column.Text = codes "text"
column_name column.Start = codes "start"
column_name column.BuyNow = codes "buy_now"
column_name column.End = codes "end"

-- the first record
abbrev pub head : List (List ℕ)
head = codes "lot" ∷ codes "category" ∷ codes "title" ∷ codes "text" ∷ codes "start"
    ∷ codes "buy_now" ∷ codes "end" ∷ []

-- the number that 1 to 10 digits write, of which zeros may lead
abbrev pub digits_in : List ℕ → Option ℕ
digits_in field =
    if nat_le 1 (length field) && nat_le (length field) 10 then digits_after 0 field else None

-- the number of the field at a place
abbrev pub number_at : List (List ℕ) → ℕ → Option ℕ
number_at fields i = option_and_then digits_in (field_at fields i)

-- the field at a place is this text
pub record IsTextAt (fields : List (List ℕ)) (i : ℕ) (text : List ℕ) : Type 0 where
  pub there : field_at fields i ≡ Some text
  pub utf8 : IsUtf8 text

-- the field at a place spells so many cents
pub record IsAmountAt (fields : List (List ℕ)) (i n : ℕ) : Type 0 where
  pub text : List ℕ
  pub is_text : IsTextAt fields i text
  pub spelled : IsSpelling text n
  pub within : n ≤ 1000000000

-- the field at a place is empty, or spells so many cents
abbrev pub IsChoiceAt : List (List ℕ) → ℕ → Option ℕ → Type 0
IsChoiceAt fields i None = field_at fields i ≡ Some []
IsChoiceAt fields i (Some n) = IsAmountAt fields i n

-- a field can be read
abbrev pub CanRead : List (List ℕ) → Column → Type 0
CanRead fields column.Lot = (text : List ℕ) × IsTextAt fields 0 text
CanRead fields column.Category = (n : ℕ) × (number_at fields 1 ≡ Some n)
CanRead fields column.Title = (text : List ℕ) × IsTextAt fields 2 text
CanRead fields column.Text = (text : List ℕ) × IsTextAt fields 3 text
CanRead fields column.Start = (n : ℕ) × IsAmountAt fields 4 n
CanRead fields column.BuyNow = (n : Option ℕ) × IsChoiceAt fields 5 n
CanRead fields column.End = (n : ℕ) × (number_at fields 6 ≡ Some n)

-- the fields before one
abbrev pub before : Column → List Column
before column.Lot = []
before column.Category = column.Lot ∷ []
before column.Title = column.Lot ∷ column.Category ∷ []
before column.Text = column.Lot ∷ column.Category ∷ column.Title ∷ []
before column.Start = column.Lot ∷ column.Category ∷ column.Title ∷ column.Text ∷ []
before column.BuyNow = column.Lot ∷ column.Category ∷ column.Title ∷ column.Text ∷ column.Start ∷ []
before column.End = column.Lot ∷ column.Category ∷ column.Title ∷ column.Text ∷ column.Start
    ∷ column.BuyNow ∷ []

-- the first field of a row that can't be read
pub record IsFirstFault (fields : List (List ℕ)) (at_fault : Column) : Type 0 where
  pub unreadable : ¬ (CanRead fields at_fault)
  pub earlier : AllByRecursion (CanRead fields) (before at_fault)

-- a row spells a lot
pub record Spells (fields : List (List ℕ)) (lot : Lot) : Type 0 where
  pub code : IsTextAt fields 0 lot.lot.now
  pub category : number_at fields 1 ≡ Some lot.category
  pub title : IsTextAt fields 2 lot.title.now
  pub text : IsTextAt fields 3 lot.text.now
  pub start : IsAmountAt fields 4 lot.start
  pub buy_now : IsChoiceAt fields 5 lot.buy_now
  pub end : number_at fields 6 ≡ Some lot.end
