-- The numbers of the faults of a text.
use Rattle.std.specs.Prelude.{ℕ}
use Rattle.cents.specs.declared.fault.CentsFault.{CentsFault}
use Rattle.cents.specs.declared.fault.CentsFault.TheVariants.{Empty, Form, TooLarge}

-- the place of a fault in the list of them, from 1 on
abbrev pub number_of : CentsFault → ℕ
number_of Empty = 1
number_of Form = 2
number_of TooLarge = 3
