-- What two keeps have alike. Start here.
use Rattle.std.specs.Prelude.{◌≡◌, ◌⊎◌, ℕ, Bool, true, false, Result, OnOk, IsErrOf}
use Rattle.house_rows.specs.declared.fault.KeepFault.{KeepFault}
use Rattle.house_rows.specs.declared.fault.KeepFault.TheVariants.{Store, Damaged}
use Rattle.house_rows.specs.Found.{all_items, all_published, waiting_for}
use Rattle.house_rows.specs.Keeping.{AreSound}
use Rattle.house_rows.specs.Tables.{Tables}
use Rattle.house_rows.specs.Taken.{AllWaitingFit, PublicRowsFit}

-- the same members and categories, under the same clock
pub record HaveSamePeople (t u : Tables) : Type 0 where
  pub clock : t.clock ≡ u.clock
  pub members : t.members ≡ u.members
  pub categories : t.categories ≡ u.categories

-- what members say in public is the same
pub record HaveSameTalk (t u : Tables) : Type 0 where
  pub questions : all_published t ≡ all_published u
  pub feedback : t.feedback ≡ u.feedback

-- everything public that may change is the same
pub record HaveSameRows (t u : Tables) : Type 0 where
  pub people : HaveSamePeople t u
  pub editions : t.editions ≡ u.editions
  pub items : all_items t ≡ all_items u
  pub talk : HaveSameTalk t u

-- and the same questions wait for a member
pub record HaveSameView (member : ℕ) (t u : Tables) : Type 0 where
  pub rows : HaveSameRows t u
  pub waiting : waiting_for t member ≡ waiting_for u member

-- the rows that everybody may see fit, and those by which the questions are found that wait for a member
pub record ViewRowsFit (member : ℕ) (t : Tables) : Type 0 where
  pub public : PublicRowsFit t
  pub waiting : AllWaitingFit member t

-- a call over two keeps answers Store only where one of them has failed as it ends, an answer only
-- where neither has, and Damaged only where a row of one doesn't fit
pub record PairFaults {A : Type 0} (result : Result A KeepFault) (are_honest : Type 0)
    (left_failed right_failed : Bool) (left right : Tables) : Type 0 where
  pub store : IsErrOf result Store → (left_failed ≡ true) ⊎ (right_failed ≡ true)
  pub going : OnOk result ((left_failed ≡ false) × (right_failed ≡ false))
  pub damaged : are_honest → AreSound left → AreSound right → ¬ (IsErrOf result Damaged)
