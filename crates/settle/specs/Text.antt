-- How a statement is written: as a text in columns, and as CSV.
use Rattle.std.specs.Prelude.{ℕ, ◌-◌, if◌then◌else◌, List, [], ◌∷◌, ◌++◌, length, replicate, decimal, codes}
use Rattle.csv.specs.Writing.{default_writer, row_text}
use Rattle.cents.specs.Spelling.{amount_text}
use Rattle.settle.specs.Calendar.{day_text}
use Rattle.settle.specs.Statement.{Account, totals_of}
use Rattle.settle.specs.declared.columns.Form.{Form}
use Rattle.settle.specs.declared.columns.Form.TheVariants.{Csv, Padded}
use Rattle.settle.specs.declared.line.Line.{Line}
use Rattle.settle.specs.declared.totals.Totals.{Totals}

-- what is in the seven columns of a record
pub record Fields : Type 0 where
  pub day : List ℕ
  pub item : List ℕ
  pub role : List ℕ
  pub other : List ℕ
  pub price : List ℕ
  pub fee : List ℕ
  pub net : List ℕ

-- the names of the columns
abbrev pub head : Fields
head = record {
  day = codes "day";
  item = codes "item";
  role = codes "role";
  other = codes "other";
  price = codes "price";
  fee = codes "fee";
  net = codes "net";
}

-- the role of the member in a line
abbrev pub role_text : Line → List ℕ
role_text line = if line.sell then codes "sell" else codes "buy"

-- a line in its columns
abbrev pub fields_of : Line → Fields
fields_of line = record {
  day = day_text line.day;
  item = decimal line.item;
  role = role_text line;
  other = decimal line.other;
  price = amount_text line.price;
  fee = amount_text line.fee;
  net = amount_text line.net;
}

-- a text at the left end of a column that is so wide, and at its right end
abbrev pub left : ℕ → List ℕ → List ℕ
left width text = text ++ replicate (width - length text) 32

abbrev pub right : ℕ → List ℕ → List ℕ
right width text = replicate (width - length text) 32 ++ text

-- a record in columns, with a space between two, and a line feed
unfoldable pub padded : Fields → List ℕ
padded f =
    left 10 f.day ++ codes " " ++ right 8 f.item ++ codes " " ++ left 4 f.role ++ codes " "
    ++ right 8 f.other ++ codes " " ++ right 14 f.price ++ codes " " ++ right 14 f.fee
    ++ codes " " ++ right 14 f.net ++ 10 ∷ []

-- a record as `csv` writes it with its defaults
unfoldable pub separated : Fields → List ℕ
separated f =
    row_text default_writer
    (f.day ∷ f.item ∷ f.role ∷ f.other ∷ f.price ∷ f.fee ∷ f.net ∷ [])

-- a record in either form
abbrev pub record_text : Form → Fields → List ℕ
record_text Padded f = padded f
record_text Csv f = separated f

-- the records of lines, one after another
unfoldable pub records_text : Form → List Line → List ℕ
records_text form [] = []
records_text form (line ∷ rest) = record_text form (fields_of line) ++ records_text form rest

-- a line with an amount
abbrev pub amount_line : List ℕ → ℕ → List ℕ
amount_line name amount = name ++ amount_text amount ++ 10 ∷ []

-- the four totals, a line each
unfoldable pub totals_text : Totals → List ℕ
totals_text t =
    amount_line (codes "sold ") t.sold ++ amount_line (codes "fees ") t.fees
    ++ amount_line (codes "net ") t.net ++ amount_line (codes "bought ") t.bought

-- the names of the columns and the lines, in either form
abbrev pub table_text : Form → List Line → List ℕ
table_text form rows = record_text form head ++ records_text form rows

-- a statement as a text: the table in columns, and the totals
abbrev pub statement_text : Account → List ℕ
statement_text a = table_text Padded a.rows ++ totals_text (totals_of a.rows)

-- a statement as CSV: the table alone
abbrev pub statement_csv : Account → List ℕ
statement_csv a = table_text Csv a.rows
