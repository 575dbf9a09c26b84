-- What a clause reads of a source in memory.
use Rattle.std.specs.Prelude.{ℕ, List, Bool, Option}
use Rattle.device.specs.declared.memory_source.MemorySource.{MemorySource}

-- the bytes left
abbrev pub bytes_left : MemorySource → List ℕ
bytes_left s = s.bytes.now

-- the most bytes that a call moves
abbrev pub piece_of : MemorySource → ℕ
piece_of s = s.piece

-- the calls that go well before one fails, where one does
abbrev pub good_calls : MemorySource → Option ℕ
good_calls s = s.good_calls

-- whether it failed
abbrev pub has_failed : MemorySource → Bool
has_failed s = s.failed
