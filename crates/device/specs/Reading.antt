-- What a clause reads of a reader as a source.
use Rattle.std.specs.Prelude.{Bool}
use Rattle.device.specs.declared.reading.Reading.{Reading}

-- the reader after it
abbrev pub reader_of : {R : Type 0} → Reading R → R
reader_of s = s.reader

-- whether it failed
abbrev pub reading_has_failed : {R : Type 0} → Reading R → Bool
reading_has_failed s = s.failed
