-- Which rows making a change takes, and what a keep promises of its faults.
use Rattle.std.specs.Prelude.{◌≡◌, ◌≤◌, ◌↔◌, ◌==◌, ◌⊎◌, Bool, true, false, Result, OnOk, OnErr, IsErrOf, length}
use Rattle.house_rows.specs.declared.change.Change.{Change}
use Rattle.house_rows.specs.declared.change.Change.TheVariants as change
use Rattle.house_rows.specs.declared.fault.KeepFault.{KeepFault}
use Rattle.house_rows.specs.declared.fault.KeepFault.TheVariants.{Store}
use Rattle.house_rows.specs.Asks.{ChangeFits, IsFree}
use Rattle.house_rows.specs.Changed.{changed}
use Rattle.house_rows.specs.History.{counted}
use Rattle.house_rows.specs.Limits.{most_items, most_watches}
use Rattle.house_rows.specs.Tables.{Tables}
use Rattle.house_rows.specs.Taken.{DueItemsFit, FeedbackFitsFrom, IsUndamaged, ItemFitsAt}

-- the rows that making a change takes fit: a bid, a purchase and a settlement take their item's, a
-- close those that are due, and feedback those of its giver. Of a watch and of a band table it is
-- that the member has no more watches, and the house no more items, than there may be
abbrev pub ChangeRowsFit : Tables → Change → Type 0
ChangeRowsFit t (change.Register moment name) = Unit {0}
ChangeRowsFit t (change.AddCategory moment name) = Unit {0}
ChangeRowsFit t (change.List moment item) = Unit {0}
ChangeRowsFit t (change.Bid moment item placed standing) = ItemFitsAt item t
ChangeRowsFit t (change.Buy moment item buyer price) = ItemFitsAt item t
ChangeRowsFit t (change.Close moment) = DueItemsFit moment t
ChangeRowsFit t (change.Settle moment item) = ItemFitsAt item t
ChangeRowsFit t (change.Watch member item) =
    counted (λ w. w.member == member) t.watches ≤ most_watches
ChangeRowsFit t (change.Unwatch member item) = Unit {0}
ChangeRowsFit t (change.Ask item asker number text) = Unit {0}
ChangeRowsFit t (change.Answer moment item asker number text) = Unit {0}
ChangeRowsFit t (change.Feedback moment item from to rating text) =
    FeedbackFitsFrom from t
ChangeRowsFit t (change.SetBands moment bands) = length t.items ≤ most_items

-- Store comes exactly where the keep is failed as the call ends. Of a change that fits the tables
-- Damaged comes only where a row that it takes doesn't fit, or where its new key is taken; and after
-- Ok that was free
pub record ChangeFaults (result : Result (Unit {0}) KeepFault) (is_honest : Type 0)
    (is_failed : Bool) (content : Tables) (change : Change) : Type 0 where
  pub store : IsErrOf result Store ↔ (is_failed ≡ true)
  pub damaged : is_honest → ChangeFits content change → ChangeRowsFit content change
      → IsFree content change → IsUndamaged result
  pub taken : is_honest → OnOk result (IsFree content change)

-- The change is made whole or not at all. What a crash may leave: after Ok the new tables alone, after
-- Memory or Damaged what it could before, and after the first Store the new tables too
pub record IsApplied {K : Type 0} (content : K → Tables) (is_failed : K → Bool) (is_honest : K → Type 0)
    (may_leave : K → Tables → Type 0) (old new : K) (result : Result (Unit {0}) KeepFault)
    (change : Change) : Type 0 where
  pub ok : is_honest new → OnOk result (content new ≡ changed (content old) change)
  pub err : is_honest new → is_failed new ≡ false → OnErr result (content new ≡ content old)
  pub faults : ChangeFaults result (is_honest new) (is_failed new) (content old) change
  pub honest : is_honest new → is_honest old
  pub stays : is_failed old ≡ true → is_failed new ≡ true
  pub kept : is_honest new → OnOk result ((t : Tables) → may_leave new t → t ≡ content new)
  pub crash : is_honest new → OnErr result ((t : Tables) → may_leave new t → may_leave old t
      ⊎ ((is_failed old ≡ false) × (is_failed new ≡ true) × (t ≡ changed (content old) change)))
