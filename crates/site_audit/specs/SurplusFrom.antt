-- Whether a surplus is hidden in a house that lives on.
use Rattle.std.specs.Prelude.{◌≡◌, ◌⊎◌, ◌+◌, ◌∷◌, ◌++◌, ◌==◌, ℕ, List, Bool, true, false, map, length, Result, Ok, Err}
use Rattle.std.specs.Cow.{cow_slice_items}
use Rattle.house_laws.specs.Covered.{IsCoveredBid, Sealed, bid_message, raised}
use Rattle.house_rows.specs.declared.message.Message.{Message}
use Rattle.house_rows.specs.declared.settings.Settings.{Settings}
use Rattle.house_rows.specs.History.{History}
use Rattle.house_rows.specs.Runs.{history_from}
use Rattle.house_rows.specs.Tables.{Tables, tables_of}
use Rattle.settle.specs.declared.zone.Zone.{Zone}
use Rattle.site.specs.Lives.{replies_to_from}
use Rattle.site_audit.specs.declared.fault.AuditFault.{AuditFault}
use Rattle.site_audit.specs.declared.fault.AuditFault.TheVariants.{Memory, Store, NotNew}
use Rattle.site_audit.specs.declared.outcome.Surplus.{Surplus}
use Rattle.site_audit.specs.declared.outcome.Surplus.TheVariants.{Same, NotCovered}
use Rattle.site_audit.specs.Audits.{what_is_asked}
use Rattle.site_audit.specs.AuditsFrom.{heard_history}
use Rattle.site_audit.specs.Places.{Heard, heard_message}
use Rattle.site_audit.specs.SealedBids.{IsRaise}

-- in a run from a history on, the element in that place, which is counted from 1, means a covered
-- bid, and it isn't the member's. `IsCovered` is the case of the empty history
pub record IsCoveredFrom {A F : Type 0} (meant : A → Message F) (settings : Settings) (h : History)
    (c place y : ℕ) (b : Sealed) (xs : List A) : Type 0 where
  pub before : List A
  pub here : A
  pub later : List A
  pub parts : xs ≡ before ++ here ∷ later
  pub placed : place ≡ length before + 1
  pub means : meant here ≡ bid_message b
  pub covered : IsCoveredBid settings y b (history_from settings h (map meant before))
      (history_from settings h (map meant xs))
  pub apart : (b.member == c) ≡ false

-- that bid in a place of a list is covered, and it isn't the member's
abbrev pub IsCoveredTextFrom : Settings → History → ℕ → ℕ → ℕ → Sealed → List Heard → Type 0
IsCoveredTextFrom settings h c place y b heards =
    IsCoveredFrom heard_message settings h c place y b heards

-- the bid in a place is covered, and these are the replies to the member along the list, and those
-- along the list in which a text raises the bid. The keeps have the tables after them
pub record IsHiddenBidFrom {K : Type 0} (content : K → Tables) (settings : Settings) (zone : Zone)
    (c : ℕ) (h : History) (place y : ℕ) (heards : List Heard) (replies : List (List ℕ))
    (left_keep right_keep : K) : Type 0 where
  pub bid : Sealed
  pub covered : IsCoveredTextFrom settings h c place y bid heards
  pub text : Heard
  pub raise : IsRaise y bid text
  pub left : replies ≡ replies_to_from settings zone c h (what_is_asked heards)
  pub right : replies
      ≡ replies_to_from settings zone c h (what_is_asked (raised place text heards))
  pub left_tables : content left_keep ≡ tables_of settings (heard_history settings h heards)
  pub right_tables : content right_keep
      ≡ tables_of settings (heard_history settings h (raised place text heards))

-- no bid in the place is covered
abbrev pub IsNoSurplusFrom : Settings → History → ℕ → ℕ → ℕ → List Heard → Type 0
IsNoSurplusFrom settings h c place y heards =
    (b : Sealed) → ¬ (IsCoveredTextFrom settings h c place y b heards)

-- the result over two houses that have the tables of one history. It is never NotNew
abbrev pub IsSurplusFoundFrom : {K : Type 0} → (K → Tables) → (K → Bool) → Settings → Zone → ℕ
    → History → ℕ → ℕ → List Heard → K → K → Result Surplus AuditFault → Type 0
IsSurplusFoundFrom content is_failed settings zone c h place y heards left right
    (Ok (Same replies)) =
    IsHiddenBidFrom content settings zone c h place y heards (map cow_slice_items replies.items)
    left right
IsSurplusFoundFrom content is_failed settings zone c h place y heards left right (Ok NotCovered) =
    IsNoSurplusFrom settings h c place y heards
IsSurplusFoundFrom content is_failed settings zone c h place y heards left right (Err Memory) =
    Unit {0}
IsSurplusFoundFrom content is_failed settings zone c h place y heards left right (Err Store) =
    (is_failed left ≡ true) ⊎ (is_failed right ≡ true)
IsSurplusFoundFrom content is_failed settings zone c h place y heards left right (Err NotNew) = ⊥
