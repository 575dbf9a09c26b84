-- The days of a statement, as a path spells them.
use Rattle.std.specs.Prelude.{if◌then◌else◌, ℕ, zero, suc, List, nat_lt, Option, Some, None, Result, Ok, Err}
use Rattle.std.specs.Str.{bytes_eq, is_utf8}
use Rattle.house_rows.specs.declared.query.Query.{Query}
use Rattle.house_rows.specs.declared.query.Query.TheVariants as query
use Rattle.settle.specs.Calendar.{day_text}
use Rattle.site_request.specs.Fields.{◌>>=◌}
use Rattle.site_request.specs.Faults.{or_fault}
use Rattle.site_request.specs.declared.fault.RequestFault.{RequestFault}
use Rattle.site_request.specs.declared.fault.RequestFault.TheVariants as fault

-- how many days there are from 1970-01-01 to 2100-12-31
abbrev pub days : ℕ
days = 47847

-- the day that the text spells, among so many days from 1970-01-01 on
unfoldable pub day_among : ℕ → List ℕ → Option ℕ
day_among zero text = None
day_among (suc n) text = if bytes_eq text (day_text n) then Some n else day_among n text

-- the day that the text spells, as `YYYY-MM-DD`
unfoldable pub day_in : List ℕ → Option ℕ
day_in text = if is_utf8 text then day_among days text else None

-- the read of a statement: both days are judged, then their order
unfoldable pub period_of : List ℕ → List ℕ → Result Query RequestFault
period_of from to = do
  first ← or_fault fault.Date (day_in from)
  last ← or_fault fault.Date (day_in to)
  if nat_lt last first then Err fault.Order else Ok (query.MyStatement first last)
