-- Reads that a new band table may change.
use Rattle.std.specs.Prelude.{Bool, true, false}
use Rattle.house_rows.specs.declared.query.Query.{Query}
use Rattle.house_rows.specs.declared.query.Query.TheVariants.{House, Bands, BandsOf}

-- whether a read shows the clock, or a band table
abbrev pub tells_clock_or_bands : Query → Bool
tells_clock_or_bands House = true
tells_clock_or_bands Bands = true
tells_clock_or_bands (BandsOf edition) = true
tells_clock_or_bands _ = false
