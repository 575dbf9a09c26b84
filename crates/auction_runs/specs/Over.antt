-- What is left of a keep, however its end went.
use Rattle.std.specs.Prelude.{◌⊎◌, Bool}
use Rattle.house_rows.specs.Keeping.{IsRead}
use Rattle.house_rows.specs.Tables.{Tables}

-- this is left of a keep that was ended, or could not be
abbrev pub IsOver : {K L : Type 0} → (K → L → Type 0) → (K → L → Type 0) → K → L → Type 0
IsOver is_ended is_left keep left = is_ended keep left ⊎ is_left keep left

-- this is left of a keep that was only read
pub record IsReadOver {K L : Type 0} (content : K → Tables) (is_failed : K → Bool)
    (is_honest : K → Type 0) (may_leave : K → Tables → Type 0) (is_ended is_left : K → L → Type 0)
    (given : K) (left : L) : Type 0 where
  pub last : K
  pub read : IsRead content is_failed is_honest may_leave given last
  pub over : IsOver is_ended is_left last left
