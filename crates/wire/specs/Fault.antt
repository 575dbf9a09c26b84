-- The number, the status and the word of a fault.
use Rattle.std.specs.Prelude.{ℕ, List, codes}
use Rattle.wire.specs.declared.fault.WireFault.{WireFault}
use Rattle.wire.specs.declared.fault.WireFault.TheVariants.{Head, Host, Transfer, Length, Size, End, Excess}
use Rattle.status.specs.declared.Status.{Status}
use Rattle.status.specs.declared.Status.TheVariants.{BadRequest, ContentTooLarge, NotImplemented}

-- the place of a fault in the order of judging, from 1 on
abbrev pub number_of : WireFault → ℕ
number_of Head = 1
number_of Host = 2
number_of Transfer = 3
number_of Length = 4
number_of Size = 5
number_of End = 6
number_of Excess = 7

-- the status of its response
abbrev pub status_of : WireFault → Status
status_of Head = BadRequest
status_of Host = BadRequest
status_of Transfer = NotImplemented
status_of Length = BadRequest
status_of Size = ContentTooLarge
status_of End = BadRequest
status_of Excess = BadRequest

-- the word that its response gives
abbrev pub word_of : WireFault → List ℕ
word_of Head = codes "head"
word_of Host = codes "host"
word_of Transfer = codes "transfer"
word_of Length = codes "length"
word_of Size = codes "size"
word_of End = codes "end"
word_of Excess = codes "excess"
