-- What a call promises that compares two keeps. A contract over `K: Keep` has the record of the keep's ghosts as `K.Keep`.
use Rattle.std.specs.Prelude.{◌≡◌, IfOk, Result}
use Rattle.house_rows.specs.declared.fault.KeepFault.{KeepFault}
use Rattle.house_rows.specs.declared.keep.Keep.{Ghosts}
use Rattle.house_rows.specs.declared.settings.Settings.{Settings}
use Rattle.house_rows.specs.Answers.{Reads}
use Rattle.house_rows.specs.History.{History}
use Rattle.house_rows.specs.Tables.{Tables, tables_of}
use Rattle.house_rows.specs.Taken.{IsUndamaged}
use Rattle.house_views.specs.Views.{PairFaults}

-- As long as both disks return what was written, the answer is what is asked for of the two tables, and it is `Damaged` only
-- where rows that it takes don't fit in one of them. Each fault has its cause, and nothing is changed in either.
pub record Compares {K A : Type 0} (keep : Ghosts K) (old_left new_left old_right new_right : K) (result : Result A KeepFault) (IsAnswer : Tables → Tables → A → Type 0) (Fit : Tables → Type 0) : Type 0 where
  pub report : keep.is_honest new_left → keep.is_honest new_right → IfOk result (IsAnswer (keep.content old_left) (keep.content old_right))
  pub faults : PairFaults result (keep.is_honest new_left × keep.is_honest new_right) (keep.is_failed new_left) (keep.is_failed new_right) (keep.content old_left) (keep.content old_right)
  pub damaged : keep.is_honest new_left → keep.is_honest new_right → Fit (keep.content old_left) → Fit (keep.content old_right) → IsUndamaged result
  pub left : Reads keep old_left new_left
  pub right : Reads keep old_right new_right

-- P of any two histories of the same settings whose tables these are
abbrev pub OverHistories : Tables → Tables → (Settings → History → History → Type 0) → Type 0
OverHistories t u P =
    (settings : Settings) (h k : History) → t ≡ tables_of settings h → u ≡ tables_of settings k → P settings h k
