-- The numbers of the faults.
use Rattle.std.specs.Prelude.{ℕ}
use Rattle.settle.specs.declared.fault.SettleFault.{SettleFault}
use Rattle.settle.specs.declared.fault.SettleFault.TheVariants.{Date, Order, Zone, Memory, Write}

-- the place of a fault in the list of them, from 1 on
abbrev pub number_of : SettleFault → ℕ
number_of Date = 1
number_of Order = 2
number_of Zone = 3
number_of Memory = 4
number_of Write = 5
