-- What a call leaves of a keep, by the record of the keep's ghosts. A contract over `K: Keep` has that record as `K.Keep`.
use Rattle.std.specs.Prelude.{◌≡◌, Result}
use Rattle.house_rows.specs.Answered.{IsAnswered}
use Rattle.house_rows.specs.History.{History}
use Rattle.house_rows.specs.Keeping.{IsRead}
use Rattle.house_rows.specs.Tables.{Tables, tables_of}
use Rattle.house_rows.specs.Verdict.{IsHistory}
use Rattle.house_rows.specs.declared.fault.KeepFault.{KeepFault}
use Rattle.house_rows.specs.declared.keep.Keep.{Ghosts}
use Rattle.house_rows.specs.declared.settings.Settings.{Settings}

-- the call only reads: the tables are as before, and a crash leaves what it could have left before
abbrev pub Reads : {K : Type 0} → Ghosts K → K → K → Type 0
Reads keep = IsRead keep.content keep.is_failed keep.is_honest keep.may_leave

-- what a call promises that only looks, as the look-ups of the keep do
abbrev pub Answers : {K A : Type 0} → Ghosts K → K → K → Result A KeepFault → (Tables → A → Type 0) → (Tables → Type 0) → Type 0
Answers keep = IsAnswered keep.content keep.is_failed keep.is_honest keep.may_leave

-- as long as the disk returns what was written: P of each history whose tables the keep had
abbrev pub OverHistory : {K : Type 0} → Ghosts K → K → K → (Settings → History → Type 0) → Type 0
OverHistory keep old new P =
    keep.is_honest new → (settings : Settings) (h : History) → IsHistory settings h
    → keep.content old ≡ tables_of settings h → P settings h
