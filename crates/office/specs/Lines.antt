-- The lines that an import prints.
use Rattle.std.specs.Prelude.{if◌then◌else◌, ℕ, ◌-◌, List, [], ◌∷◌, ◌++◌, nat_eq, length, take, drop, codes, decimal}
use Rattle.office.specs.declared.column.Column.{Column}
use Rattle.office.specs.declared.outcome.Outcome.{Outcome}
use Rattle.office.specs.declared.outcome.Outcome.TheVariants as outcome
use Rattle.office.specs.declared.tally.Imported.{Imported}
use Rattle.office.specs.Lots.{column_name}

-- a text from its first such byte on, and nothing where there is none
abbrev pub from_byte : ℕ → List ℕ → List ℕ
from_byte byte [] = []
from_byte byte (first ∷ rest) =
    if nat_eq first byte then first ∷ rest else from_byte byte rest

-- what comes before it
abbrev pub before_byte : ℕ → List ℕ → List ℕ
before_byte byte text = take (length text - length (from_byte byte text)) text

-- the number of the item in the body of a reply, as in `{"item":2}`
abbrev pub item_in : List ℕ → List ℕ
item_in reply = before_byte 125 (drop 8 (from_byte 123 reply))

-- the name of the refusal, as in `{"error":"Range","number":20}`
abbrev pub name_in : List ℕ → List ℕ
name_in reply = before_byte 34 (drop 10 (from_byte 123 reply))

-- a line about a row: a word, and what is reported of it
abbrev pub row_line : ℕ → List ℕ → List ℕ → List ℕ
row_line number word report =
    codes "row " ++ decimal number ++ codes ": " ++ word ++ codes " " ++ report ++ codes "\n"

-- what the reply to a row's order says
abbrev pub report_line : ℕ → Outcome → List ℕ → List ℕ
report_line number outcome.Listed reply = row_line number (codes "item") (item_in reply)
report_line number outcome.There reply = row_line number (codes "there") (codes "already")
report_line number outcome.Refused reply = row_line number (codes "refused") (name_in reply)

-- a field of a row can't be read
abbrev pub fault_line : ℕ → Column → List ℕ
fault_line number column = row_line number (codes "fault") (column_name column)

-- the body of a row's order would be too long
abbrev pub range_line : ℕ → List ℕ
range_line number = row_line number (codes "refused") (codes "Range")

-- how many rows became what
abbrev pub totals_line : Imported → List ℕ
totals_line t = decimal t.listed ++ codes " listed, " ++ decimal t.there
    ++ codes " there already, " ++ decimal t.refused ++ codes " refused\n"
