-- The numbers and names of the faults of a band table, and the rows that they name.
use Rattle.std.specs.Prelude.{ℕ, List, Option, Some, None, codes}
use Rattle.steps.specs.declared.fault.BandsFault.{BandsFault}
use Rattle.steps.specs.declared.fault.BandsFault.TheVariants.{Csv, Head, Row, First, Order, Falls, TooMany, Device, Memory}

-- the place of a fault in the list of them, from 1 on
abbrev pub number_of : BandsFault → ℕ
number_of Csv = 1
number_of Head = 2
number_of (Row n) = 3
number_of First = 4
number_of (Order n) = 5
number_of (Falls n) = 6
number_of TooMany = 7
number_of Device = 8
number_of Memory = 9

-- the name of a fault
abbrev pub name_of : BandsFault → List ℕ
name_of Csv = codes "Csv"
name_of Head = codes "Head"
name_of (Row n) = codes "Row"
name_of First = codes "First"
name_of (Order n) = codes "Order"
name_of (Falls n) = codes "Falls"
name_of TooMany = codes "TooMany"
name_of Device = codes "Device"
name_of Memory = codes "Memory"

-- the row that a fault names
abbrev pub row_of : BandsFault → Option ℕ
row_of Csv = None
row_of Head = None
row_of (Row n) = Some n
row_of First = None
row_of (Order n) = Some n
row_of (Falls n) = Some n
row_of TooMany = None
row_of Device = None
row_of Memory = None
