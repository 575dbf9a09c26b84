-- What a statement's run writes.
use Rattle.std.specs.Prelude.{◌≡◌, ◌↔◌, ◌⊎◌, ◌<◌, ℕ, List, Bool, true, false, Option, is_some}
use Rattle.std.specs.Io.KnownBytes.{Appends, Keeps}
use Rattle.device.specs.Given.{AppendsBeginning}
use Rattle.house_rows.specs.Found.{sales_to}
use Rattle.house_rows.specs.Keeping.{AreSound, IsRead}
use Rattle.house_rows.specs.Pages.{member_at}
use Rattle.house_rows.specs.Tables.{Tables}
use Rattle.house_rows.specs.Taken.{MemberFitsAt, SalesFit}
use Rattle.house_rows.specs.declared.keep.Keep as keep
use Rattle.settle.specs.Statement.{Account, statement_of}
use Rattle.settle.specs.Text.{statement_csv, statement_text}
use Rattle.settle.specs.Zoned.{IsZoneOf}
use Rattle.settle.specs.declared.zone.Zone.{Zone}
use Rattle.site.specs.Replies.{IsReadable}
use Rattle.auction_runs.specs.Faults.{IsOfClosing, IsOfKeep}
use Rattle.auction_runs.specs.declared.fault.TaskFault.{TaskFault}
use Rattle.auction_runs.specs.declared.fault.TaskFault.TheVariants.{Damaged, Member, Memory, Order, Store, Write}
use Rattle.auction_runs.specs.declared.statement.Inquiry.{Inquiry}

-- an account, as records of CSV where they are asked for, and else in columns
abbrev pub account_text : Bool → Account → List ℕ
account_text true account = statement_csv account
account_text false account = statement_text account

-- the account of the member for the period, by the sales, zone and rate of tables
pub record IsAccount (t : Tables) (asked : Inquiry) (account : Account) : Type 0 where
  pub known : is_some (member_at t.members asked.member) ≡ true
  pub zone : Zone
  pub kept_zone : IsZoneOf t.settings.zone zone
  pub lines : account ≡ statement_of (sales_to t asked.member) asked.member asked.from asked.to zone
      t.settings.rate

-- why there is no account: the keep reported a fault of its own, or memory was refused; the period
-- ends before it begins; or nobody has the member's number
abbrev pub IsUnfound : {K : Type 0} → (K → Tables) → (K → Type 0) → Inquiry → K → K → TaskFault → Type 0
IsUnfound content is_honest asked old new fault = IsOfKeep fault
    ⊎ ((fault ≡ Order) × (asked.to < asked.from))
    ⊎ ((fault ≡ Member) × (is_honest new
    → is_some (member_at (content old).members asked.member) ≡ false))

-- by one of these faults: Member and Order only where the zone can be read, Order only of a member that
-- is there, Store exactly where the keep has failed, and Damaged only where the zone can't be read or
-- tables aren't sound, of whose rows the member's own count and those of the items to whose sale it
-- may be a party
pub record IsUnread {K : Type 0} (content : K → Tables) (is_failed : K → Bool) (is_honest : K → Type 0)
    (asked : Inquiry) (old new : K) (fault : TaskFault) : Type 0 where
  pub cause : IsUnfound content is_honest asked old new fault
  pub zone : is_honest old → fault ≡ Member → IsReadable (content old).settings.zone
  pub last : is_honest new → fault ≡ Order → IsReadable (content old).settings.zone
      × (is_some (member_at (content old).members asked.member) ≡ true)
  pub store : (fault ≡ Store) ↔ (is_failed new ≡ true)
  pub damaged : is_honest new → AreSound (content old) → fault ≡ Damaged
      → ¬ (IsReadable (content old).settings.zone)
  pub undamaged : is_honest new → MemberFitsAt asked.member (content old)
      → SalesFit asked.member (content old) → fault ≡ Damaged
      → ¬ (IsReadable (content old).settings.zone)

-- why it was not written: memory was refused, or the output has failed
abbrev pub IsUnwritten : Bool → TaskFault → Type 0
IsUnwritten output_failed fault =
    (fault ≡ Memory) ⊎ ((fault ≡ Write) × (output_failed ≡ true))

-- an account was read from a keep, which changed nothing, and its end left what is named
pub record HasRead {K : Type 0} (content : K → Tables) (is_failed : K → Bool)
    (is_honest : K → Type 0) (may_leave : K → Tables → Type 0) (is_ended : K → Type 0)
    (asked : Inquiry) (given : K) (account : Account) : Type 0 where
  pub left : K
  pub read : IsRead content is_failed is_honest may_leave given left
  pub shown : is_honest left → IsAccount (content given) asked account
  pub ended : is_ended left

-- why no account was read from a keep that was given and then ended: it gave none, and was ended however
-- that went; or it gave one, and the fault is one that its end reported
abbrev pub IsUnmade : {K : Type 0} → keep.Ghosts K → (K → Type 0) → (K → Type 0) → Inquiry → K
    → TaskFault → Type 0
IsUnmade {K} k is_ended is_left asked given fault =
    ((last : K) × IsUnread k.content k.is_failed k.is_honest asked given last fault
    × (is_ended last ⊎ is_left last))
    ⊎ (IsOfClosing fault × ((account : Account)
    × HasRead k.content k.is_failed k.is_honest k.may_leave is_left asked given account))

-- the account that was read wasn't written, or not handed on: a beginning of it may have been
pub record IsPartOf {K : Type 0} (k : keep.Ghosts K) (is_ended : K → Type 0) (asked : Inquiry)
    (before after : Option (List ℕ)) (given : K) : Type 0 where
  pub account : Account
  pub found : HasRead k.content k.is_failed k.is_honest k.may_leave is_ended asked given account
  pub part : AppendsBeginning before after (account_text asked.csv account)

-- why there is no statement of it: no account was read, and nothing was written; or one was and wasn't
-- written
abbrev pub IsUnstated : {K : Type 0} → keep.Ghosts K → (K → Type 0) → (K → Type 0) → Inquiry → Bool
    → Option (List ℕ) → Option (List ℕ) → K → TaskFault → Type 0
IsUnstated k is_ended is_left asked output_failed before after given fault =
    (IsUnmade k is_ended is_left asked given fault × Keeps before after)
    ⊎ (IsUnwritten output_failed fault × IsPartOf k is_ended asked before after given)

-- and it was written
pub record HasStated {K : Type 0} (content : K → Tables) (is_failed : K → Bool)
    (is_honest : K → Type 0) (may_leave : K → Tables → Type 0) (is_ended : K → Type 0)
    (asked : Inquiry) (before after : Option (List ℕ)) (given : K) : Type 0 where
  pub account : Account
  pub found : HasRead content is_failed is_honest may_leave is_ended asked given account
  pub written : Appends before after (account_text asked.csv account)
