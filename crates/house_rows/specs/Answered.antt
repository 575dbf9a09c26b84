-- What a look-up of a keep promises, by the four names that clauses have for a keep.
use Rattle.std.specs.Prelude.{Bool, IfOk, Result}
use Rattle.house_rows.specs.Keeping.{Faults, IsRead}
use Rattle.house_rows.specs.Tables.{Tables}
use Rattle.house_rows.specs.Taken.{IsUndamaged}
use Rattle.house_rows.specs.declared.fault.KeepFault.{KeepFault}

-- As long as the disk returns what was written, the answer is what is asked for of the tables, and it is `Damaged` only where
-- rows that it takes don't fit. Each fault has its cause, and nothing is changed.
pub record IsAnswered {K A : Type 0} (content : K → Tables) (is_failed : K → Bool) (is_honest : K → Type 0) (may_leave : K → Tables → Type 0) (old new : K) (result : Result A KeepFault) (IsAnswer : Tables → A → Type 0) (Fit : Tables → Type 0) : Type 0 where
  pub value : is_honest new → IfOk result (IsAnswer (content old))
  pub faults : Faults result (is_honest new) (is_failed new) (content old)
  pub damaged : is_honest new → Fit (content old) → IsUndamaged result
  pub read : IsRead content is_failed is_honest may_leave old new
