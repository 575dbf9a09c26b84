-- What a clause reads of a sink in memory.
use Rattle.std.specs.Prelude.{ℕ, List, Bool, Option}
use Rattle.device.specs.declared.memory_sink.MemorySink.{MemorySink}

-- the bytes taken
abbrev pub bytes_taken : MemorySink → List ℕ
bytes_taken s = s.bytes.items

-- the most bytes that a call moves
abbrev pub piece_of : MemorySink → ℕ
piece_of s = s.piece

-- the calls that go well before one fails, where one does
abbrev pub good_calls : MemorySink → Option ℕ
good_calls s = s.good_calls

-- whether it failed
abbrev pub has_failed : MemorySink → Bool
has_failed s = s.failed
