-- Whether a surplus is hidden: how far a covered bid lies above what leading takes.
use Rattle.std.specs.Prelude.{◌≡◌, ◌⊎◌, ℕ, List, Bool, true, map, Result, Ok, Err}
use Rattle.std.specs.Cow.{cow_slice_items}
use Rattle.house_laws.specs.Covered.{IsCovered, Sealed, raised}
use Rattle.house_rows.specs.declared.settings.Settings.{Settings}
use Rattle.house_rows.specs.Runs.{history_of}
use Rattle.house_rows.specs.Tables.{Tables, tables_of}
use Rattle.settle.specs.declared.zone.Zone.{Zone}
use Rattle.site.specs.Runs.{replies_to}
use Rattle.site_audit.specs.declared.fault.AuditFault.{AuditFault}
use Rattle.site_audit.specs.declared.fault.AuditFault.TheVariants.{Memory, Store, NotNew}
use Rattle.site_audit.specs.declared.outcome.Surplus.{Surplus}
use Rattle.site_audit.specs.declared.outcome.Surplus.TheVariants.{Same, NotCovered}
use Rattle.site_audit.specs.Audits.{MayBegin, what_is_asked}
use Rattle.site_audit.specs.Places.{Heard, heard_message}
use Rattle.site_audit.specs.SealedBids.{IsRaise}

-- that bid in a place of a list is covered, and it isn't the member's
abbrev pub IsCoveredText : Settings → ℕ → ℕ → ℕ → Sealed → List Heard → Type 0
IsCoveredText settings c place y b heards = IsCovered heard_message settings c place y b heards

-- the bid in a place is covered, and these are the replies to the member along the list, and those
-- along the list in which a text raises the bid. The keeps have the tables after them
pub record IsHiddenBid {K : Type 0} (content : K → Tables) (settings : Settings) (zone : Zone)
    (c place y : ℕ) (heards : List Heard) (replies : List (List ℕ)) (left_keep right_keep : K)
    : Type 0 where
  pub bid : Sealed
  pub covered : IsCoveredText settings c place y bid heards
  pub text : Heard
  pub raise : IsRaise y bid text
  pub left : replies ≡ replies_to settings zone c (what_is_asked heards)
  pub right : replies ≡ replies_to settings zone c (what_is_asked (raised place text heards))
  pub left_tables : content left_keep
      ≡ tables_of settings (history_of settings (map heard_message heards))
  pub right_tables : content right_keep
      ≡ tables_of settings (history_of settings (map heard_message (raised place text heards)))

-- no bid in the place is covered
abbrev pub IsNoSurplus : Settings → ℕ → ℕ → ℕ → List Heard → Type 0
IsNoSurplus settings c place y heards = (b : Sealed) → ¬ (IsCoveredText settings c place y b heards)

-- the result over houses that are new
abbrev pub IsSurplusFound : {K : Type 0} → (K → Tables) → (K → Bool) → Settings → Zone → ℕ → ℕ → ℕ
    → List Heard → K → K → Result Surplus AuditFault → Type 0
IsSurplusFound content is_failed settings zone c place y heards left right (Ok (Same replies)) =
    IsHiddenBid content settings zone c place y heards (map cow_slice_items replies.items) left
    right
IsSurplusFound content is_failed settings zone c place y heards left right (Ok NotCovered) =
    IsNoSurplus settings c place y heards
IsSurplusFound content is_failed settings zone c place y heards left right (Err Memory) = Unit {0}
IsSurplusFound content is_failed settings zone c place y heards left right (Err Store) =
    (is_failed left ≡ true) ⊎ (is_failed right ≡ true)
IsSurplusFound content is_failed settings zone c place y heards left right (Err NotNew) = ⊥

-- the result over any houses: NotNew exactly where an audit can't begin, and then the tables stay
abbrev pub IsSurplusResult : {K : Type 0} → (K → Tables) → (K → Bool) → Settings → Zone → ℕ → ℕ → ℕ
    → List Heard → K → K → K → K → Result Surplus AuditFault → Type 0
IsSurplusResult content is_failed settings zone c place y heards left right left_new right_new
    (Err NotNew) = (¬ (MayBegin (content left) (content right)))
    × (content left_new ≡ content left) × (content right_new ≡ content right)
IsSurplusResult content is_failed settings zone c place y heards left right left_new right_new
    (Err Memory) = Unit {0}
IsSurplusResult content is_failed settings zone c place y heards left right left_new right_new
    (Err Store) = (is_failed left_new ≡ true) ⊎ (is_failed right_new ≡ true)
IsSurplusResult content is_failed settings zone c place y heards left right left_new right_new
    (Ok surplus) = MayBegin (content left) (content right)
    × IsSurplusFound content is_failed settings zone c place y heards left_new right_new (Ok surplus)
