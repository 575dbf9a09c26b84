-- What a statement is: the member's sales of a period as lines, in order, and their totals.
use Rattle.std.specs.Prelude.{◌≢◌, ◌≤◌, ℕ, ◌-◌, ◌==◌, ◌&&◌, ◌||◌, nat_lt, int_le, pos, unsigned_abs, Bool, true, false, if◌then◌else◌, List, [], ◌∷◌, map, filter, sum_by}
use Rattle.std.specs.Int.{IsInRange}
use Rattle.settle.specs.Fee.{fee_of}
use Rattle.settle.specs.Zoned.{day_at}
use Rattle.settle.specs.declared.line.Line.{Line}
use Rattle.settle.specs.declared.sale.Sold.{Sold}
use Rattle.settle.specs.declared.totals.Totals.{Totals}
use Rattle.settle.specs.declared.zone.TheConstants.{LAST_MOMENT}
use Rattle.settle.specs.declared.zone.Zone.{Zone}

-- a sale as the house makes them: the numbers of its item and members in their ranges, two
-- different members, and a moment that there is
pub record IsSale (s : Sold) : Type 0 where
  pub item : IsInRange 1 1_000_000 s.item
  pub seller : IsInRange 1 100_000 s.seller
  pub buyer : IsInRange 1 100_000 s.buyer
  pub parties : s.seller ≢ s.buyer
  pub closed : s.closed ≤ LAST_MOMENT

-- the member sold the item or bought it
abbrev pub is_party : ℕ → Sold → Bool
is_party member s = (s.seller == member) || (s.buyer == member)

-- the civil day of the sale lies in the period, to which its first and its last day belong
abbrev pub is_within : ℕ → ℕ → Zone → Sold → Bool
is_within from to zone s =
    int_le (pos from) (day_at zone s.closed) && int_le (day_at zone s.closed) (pos to)

-- what the seller reads of a sale: the fee is taken off
abbrev pub sell_line : Zone → ℕ → Sold → Line
sell_line zone rate s = record {
  day = unsigned_abs (day_at zone s.closed);
  item = s.item;
  sell = true;
  other = s.buyer;
  price = s.price;
  fee = fee_of s.price rate;
  net = s.price - fee_of s.price rate;
}

-- what the buyer reads of it, who pays no fee
abbrev pub buy_line : Zone → Sold → Line
buy_line zone s = record {
  day = unsigned_abs (day_at zone s.closed);
  item = s.item;
  sell = false;
  other = s.seller;
  price = s.price;
  fee = 0;
  net = s.price;
}

-- what a member that is a party reads of it
abbrev pub line_of : ℕ → Zone → ℕ → Sold → Line
line_of member zone rate s = if s.seller == member then sell_line zone rate s else buy_line zone s

-- the first line is before the second: by day, then by item
abbrev pub is_before : Line → Line → Bool
is_before a b = nat_lt a.day b.day || ((a.day == b.day) && nat_lt a.item b.item)

-- a line put where it belongs among lines in order
unfoldable pub insert_line : Line → List Line → List Line
insert_line line [] = line ∷ []
insert_line line (x ∷ xs) = if is_before x line then x ∷ insert_line line xs else line ∷ x ∷ xs

-- lines in order
unfoldable pub in_order : List Line → List Line
in_order [] = []
in_order (x ∷ xs) = insert_line x (in_order xs)

-- what a member reads of its sales of a period
unfoldable pub lines_of : List Sold → ℕ → ℕ → ℕ → Zone → ℕ → List Line
lines_of sales member from to zone rate =
    map (line_of member zone rate)
    (filter (λ s. is_party member s && is_within from to zone s) sales)

-- the same in order
unfoldable pub rows_of : List Sold → ℕ → ℕ → ℕ → Zone → ℕ → List Line
rows_of sales member from to zone rate = in_order (lines_of sales member from to zone rate)

-- a statement: whose it is, and its lines
pub record Account : Type 0 where
  pub member : ℕ
  pub rows : List Line

-- the statement of a member for a period
abbrev pub statement_of : List Sold → ℕ → ℕ → ℕ → Zone → ℕ → Account
statement_of sales member from to zone rate = record {
  member = member;
  rows = rows_of sales member from to zone rate;
}

-- what a line adds to each of the four totals
abbrev pub sold_on : Line → ℕ
sold_on line = if line.sell then line.price else 0

abbrev pub fee_on : Line → ℕ
fee_on line = if line.sell then line.fee else 0

abbrev pub net_on : Line → ℕ
net_on line = if line.sell then line.net else 0

abbrev pub bought_on : Line → ℕ
bought_on line = if line.sell then 0 else line.price

-- the four totals of lines
abbrev pub totals_of : List Line → Totals
totals_of rows = record {
  sold = sum_by sold_on rows;
  fees = sum_by fee_on rows;
  net = sum_by net_on rows;
  bought = sum_by bought_on rows;
}
