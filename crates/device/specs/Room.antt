-- What a clause reads of the bytes that a gathering sink holds.
use Rattle.std.specs.Prelude.{ℕ, ◌-◌, List, slice_range}
use Rattle.device.specs.declared.room.Room.{Room}

-- the bytes held
abbrev pub items : Room → List ℕ
items r = slice_range r.bytes r.start r.end

-- how many more fit
abbrev pub room : Room → ℕ
room r = 8192 - r.end
