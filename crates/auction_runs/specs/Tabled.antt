-- A band table was set in a house, or why it wasn't.
use Rattle.std.specs.Prelude.{◌≡◌, ◌≢◌, ◌↔◌, ◌⊎◌, ◌≤◌, ℕ, List, ◌∷◌, length, Bool, true, false, Option, Some, None}
use Rattle.std.specs.Io.KnownBytes.{Appends, Keeps}
use Rattle.house.specs.Own.{IsOf}
use Rattle.house_rows.specs.Changed.{changed}
use Rattle.house_rows.specs.declared.change.Change.{Change}
use Rattle.house_rows.specs.declared.command.Command.{Command}
use Rattle.house_rows.specs.declared.command.Command.TheVariants.{SetBands}
use Rattle.house_rows.specs.declared.refusal.Refusal.{Refusal}
use Rattle.house_rows.specs.declared.settings.Settings.{Settings}
use Rattle.house_rows.specs.Editions.{newest_in}
use Rattle.house_rows.specs.History.{History}
use Rattle.house_rows.specs.Limits.{most_items}
use Rattle.house_rows.specs.Runs.{entry}
use Rattle.house_rows.specs.Tables.{Tables, band_tables, tables_of}
use Rattle.house_rows.specs.Verdict.{IsHistory, verdict}
use Rattle.steps.specs.Table.{Band}
use Rattle.auction_runs.specs.Faults.{IsOfClosing, IsOfKeep}
use Rattle.auction_runs.specs.Over.{IsOver}
use Rattle.auction_runs.specs.Printed.{edition_line}
use Rattle.auction_runs.specs.declared.fault.TaskFault.{TaskFault}
use Rattle.auction_runs.specs.declared.fault.TaskFault.TheVariants.{Damaged, Refused, Store, Write}

-- a command sets a band table
abbrev pub IsTable : Command → Type 0
IsTable command = (bands : List Band) × (command ≡ SetBands bands)

-- one change was made to tables, which is the command's own, of the house and at the moment
pub record IsOwnChange (moment : ℕ) (command : Command) (old new : Tables) : Type 0 where
  pub change : Change
  pub own : IsOf moment 0 command change
  pub made : new ≡ changed old change

-- it was, or nothing was changed
abbrev pub IsOwnOrNone : ℕ → Command → Tables → Tables → Type 0
IsOwnOrNone moment command old new = (new ≡ old) ⊎ IsOwnChange moment command old new

-- The house's command was made, over whatever tables, and this is its edition. Over the tables of a
-- history it was accepted, and the new tables are those with it. No crash takes it back
pub record IsTabled {K : Type 0} (content : K → Tables) (may_leave : K → Tables → Type 0)
    (moment : ℕ) (command : Command) (old new : K) (edition : ℕ) : Type 0 where
  pub newest : edition ≡ newest_in (band_tables (content new))
  pub made : IsOwnChange moment command (content old) (content new)
  pub by_history : (settings : Settings) (h : History) → IsHistory settings h
      → content old ≡ tables_of settings h
      → (verdict settings h moment 0 command ≡ None)
      × (content new ≡ tables_of settings (entry moment 0 command ∷ h))
  pub kept : (t : Tables) → may_leave new t → t ≡ content new

-- the house refused its command over the tables of a history, by its verdict, and stays as it was
pub record IsRefused {K : Type 0} (content : K → Tables) (is_honest : K → Type 0) (moment : ℕ)
    (command : Command) (old new : K) (fault : TaskFault) : Type 0 where
  pub refusal : Refusal
  pub report : fault ≡ Refused refusal
  pub by_history : is_honest new → (settings : Settings) (h : History) → IsHistory settings h
      → content old ≡ tables_of settings h → verdict settings h moment 0 command ≡ Some refusal
  pub same : is_honest new → content new ≡ content old

-- why a keep didn't do what the command asks for, or didn't tell the edition: it reported the fault
-- itself, Store exactly where it has failed, and Damaged only over more items than there may be; or
-- the command is refused. Where the keep has not failed nothing else was done to its tables
pub record IsUndone {K : Type 0} (content : K → Tables) (is_failed : K → Bool) (is_honest : K → Type 0)
    (moment : ℕ) (command : Command) (old new : K) (fault : TaskFault) : Type 0 where
  pub cause : IsOfKeep fault ⊎ IsRefused content is_honest moment command old new fault
  pub store : (fault ≡ Store) ↔ (is_failed new ≡ true)
  pub damaged : is_honest new → length (content old).items ≤ most_items → fault ≢ Damaged
  pub same : is_honest new → is_failed new ≡ false
      → IsOwnOrNone moment command (content old) (content new)

-- the keep that was given took the command as this edition, and its end left what is named
pub record HasSet {K : Type 0} (content : K → Tables) (is_honest : K → Type 0)
    (may_leave : K → Tables → Type 0) (is_ended : K → Type 0) (moment : ℕ) (command : Command)
    (given : K) (edition : ℕ) : Type 0 where
  pub left : K
  pub tabled : is_honest left → IsTabled content may_leave moment command given left edition
  pub ended : is_ended left

-- why the command was not done and its keep ended well: the keep that was given didn't do it, and was
-- ended however that went; or it took the command, and the fault is one that its end reported
abbrev pub IsUntabled : {K : Type 0} → (K → Tables) → (K → Bool) → (K → Type 0) → (K → Tables → Type 0)
    → (K → Type 0) → (K → Type 0) → ℕ → Command → K → TaskFault → Type 0
IsUntabled {K} content is_failed is_honest may_leave is_ended is_left moment command given fault =
    ((last : K) × IsUndone content is_failed is_honest moment command given last fault
    × (is_ended last ⊎ is_left last))
    ⊎ (IsOfClosing fault × ((edition : ℕ)
    × HasSet content is_honest may_leave is_left moment command given edition))

-- why no edition was told: the command was not done, and nothing was written; or it was and the keep was
-- ended, and the output failed
abbrev pub IsUntold : {K : Type 0} → (K → Tables) → (K → Bool) → (K → Type 0) → (K → Tables → Type 0)
    → (K → Type 0) → (K → Type 0) → ℕ → Command → Option (List ℕ) → Option (List ℕ) → K → TaskFault
    → Type 0
IsUntold content is_failed is_honest may_leave is_ended is_left moment command before after given fault =
    (IsUntabled content is_failed is_honest may_leave is_ended is_left moment command given fault
    × Keeps before after)
    ⊎ ((fault ≡ Write) × ((edition : ℕ)
    × HasSet content is_honest may_leave is_ended moment command given edition))

-- and its edition was printed
pub record HasTabled {K : Type 0} (content : K → Tables) (is_honest : K → Type 0)
    (may_leave : K → Tables → Type 0) (is_ended : K → Type 0) (moment : ℕ) (command : Command)
    (before after : Option (List ℕ)) (given : K) : Type 0 where
  pub edition : ℕ
  pub set : HasSet content is_honest may_leave is_ended moment command given edition
  pub printed : Appends before after (edition_line edition)

-- A crash after the command leaves what it could leave before, or the tables with the command's own
-- change: over those of a history only where its verdict accepts the command, and then those of the
-- history with it.
pub record MayTable {K : Type 0} (content : K → Tables) (is_honest : K → Type 0)
    (may_leave : K → Tables → Type 0) (moment : ℕ) (command : Command) (old new : K) : Type 0 where
  pub honest : is_honest new → is_honest old
  pub left : is_honest new → (settings : Settings) (h : History) → IsHistory settings h
      → content old ≡ tables_of settings h → (t : Tables) → may_leave new t
      → may_leave old t ⊎ ((verdict settings h moment 0 command ≡ None)
      × (t ≡ tables_of settings (entry moment 0 command ∷ h)))
  pub crash : is_honest new → (t : Tables) → may_leave new t
      → may_leave old t ⊎ IsOwnChange moment command (content old) t

-- this is left of a keep that was given the command, however that ended
pub record IsTabledOver {K L : Type 0} (content : K → Tables) (is_honest : K → Type 0)
    (may_leave : K → Tables → Type 0) (is_ended is_left : K → L → Type 0) (moment : ℕ)
    (command : Command) (given : K) (left : L) : Type 0 where
  pub last : K
  pub may : MayTable content is_honest may_leave moment command given last
  pub over : IsOver is_ended is_left last left
