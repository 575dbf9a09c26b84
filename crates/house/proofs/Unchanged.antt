-- Two reads of a keep in a row: the second finds the tables that the first did.
use Rattle.std.proofs.Common.{◌≡◌, Bool, false, inl, inr, Ok, Err}
use Rattle.house_rows.specs.declared.fault.KeepFault.TheVariants.{Store}
use Rattle.house_rows.specs.Keeping.{Faults, IsRead}
use Rattle.house_rows.specs.Tables.{Tables}
use Rattle.house.proofs.Found.{by_test}

-- whoever answers isn't failed
pub not_failed : {A : Type 0} (x : A) (is_honest : Type 0) (is_failed : Bool) (content : Tables) → Faults (Ok x) is_honest is_failed content → is_failed ≡ false
not_failed x is_honest is_failed content faults = elim (by_test is_failed) [ inl failed ↦ absurd (let wrong : Ok x ≡ Err Store = faults.store.1 failed in cc) | inr not ↦ not ]

pub still_there : {A K : Type 0} (x : A) (content : K → Tables) (is_failed : K → Bool) (is_honest : K → Type 0) (may_leave : K → Tables → Type 0) (old new : K)
    → Faults (Ok x) (is_honest new) (is_failed new) (content old) → IsRead content is_failed is_honest may_leave old new → is_honest new → content new ≡ content old
still_there x content is_failed is_honest may_leave old new faults read honest = read.same honest (not_failed x (is_honest new) (is_failed new) (content old) faults)
