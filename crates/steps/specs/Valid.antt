-- Whether rows are a band table, as a test.
use Rattle.std.specs.Prelude.{Bool, true, false, ◌&&◌, ◌==◌, List, [], ◌∷◌, length, nat_le, nat_lt}
use Rattle.steps.specs.Table.{Band}
use Rattle.std.specs.List.{list_all}
use Rattle.steps.specs.Rows.{is_band}

-- each band begins above the one before it, and no step is smaller than the one before it
abbrev pub rise_from : Band → List Band → Bool
rise_from last [] = true
rise_from last (band ∷ bands) = nat_lt last.0 band.0 && (nat_le last.1 band.1 && rise_from band bands)

-- there is a band, the first begins at 0, and from there they rise
abbrev pub rise_from_zero : List Band → Bool
rise_from_zero [] = false
rise_from_zero (first ∷ bands) = (first.0 == 0) && rise_from first bands

-- whether rows (at, step) are a band table
unfoldable pub is_band_table : List Band → Bool
is_band_table bands = nat_le (length bands) 50 && (list_all is_band bands && rise_from_zero bands)
