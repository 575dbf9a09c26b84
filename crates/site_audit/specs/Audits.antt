-- The result of an audit. Start here.
use Rattle.std.specs.Prelude.{◌≡◌, ◌⊎◌, ◌-◌, ℕ, List, [], Bool, true, map, take, Result, Ok, Err}
use Rattle.std.specs.Cow.{cow_slice_items}
use Rattle.house_rows.specs.declared.settings.Settings.{Settings}
use Rattle.house_rows.specs.Runs.{AreTwins, history_of}
use Rattle.house_rows.specs.Tables.{Tables, tables_of}
use Rattle.settle.specs.declared.zone.Zone.{Zone}
use Rattle.site.specs.Runs.{replies_to}
use Rattle.site_request.specs.declared.asked.Asked.{Asked}
use Rattle.site_audit.specs.declared.fault.AuditFault.{AuditFault}
use Rattle.site_audit.specs.declared.fault.AuditFault.TheVariants.{Memory, Store, NotNew}
use Rattle.site_audit.specs.declared.verdict.Verdict.{Verdict}
use Rattle.site_audit.specs.declared.verdict.Verdict.TheVariants.{Equal, Apart}
use Rattle.site_audit.specs.Places.{Heard, heard_message}

-- what texts ask
abbrev pub what_is_asked : List Heard → List Asked
what_is_asked heards = map (λ heard. heard.asked) heards

-- an audit can begin: both houses are new, and were set up alike
pub record MayBegin (left right : Tables) : Type 0 where
  pub alike : left.settings ≡ right.settings
  pub left_new : left ≡ tables_of left.settings []
  pub right_new : right ≡ tables_of right.settings []

-- two lists of texts are twin runs for the caller: at each place the texts are equal, or neither is
-- the caller's, and after it what is public and what waits for the caller agree
abbrev pub AreTwinTexts : Settings → ℕ → List Heard → List Heard → Type 0
AreTwinTexts settings c lefts rights = AreTwins heard_message settings c lefts rights

-- they are, and these are the replies to the caller along the left list, which were given, and those
-- along the right one: that the two are the same is isolation. The keeps have the tables after them
pub record AreEqual {K : Type 0} (content : K → Tables) (settings : Settings) (zone : Zone) (c : ℕ)
    (lefts rights : List Heard) (replies : List (List ℕ)) (left_keep right_keep : K) : Type 0 where
  pub twins : AreTwinTexts settings c lefts rights
  pub left : replies ≡ replies_to settings zone c (what_is_asked lefts)
  pub right : replies ≡ replies_to settings zone c (what_is_asked rights)
  pub left_tables : content left_keep ≡ tables_of settings (history_of settings (map heard_message lefts))
  pub right_tables : content right_keep ≡ tables_of settings (history_of settings (map heard_message rights))

-- they are none: up to this place, counted from 1, they are not, and before it they were
pub record ArePart (settings : Settings) (c : ℕ) (lefts rights : List Heard) (step : ℕ) : Type 0
  where
    pub before : AreTwinTexts settings c (take (step - 1) lefts) (take (step - 1) rights)
    pub here : ¬ (AreTwinTexts settings c (take step lefts) (take step rights))
    pub whole : ¬ (AreTwinTexts settings c lefts rights)

-- what is found of two lists over houses that are new
abbrev pub IsFound : {K : Type 0} → (K → Tables) → (K → Bool) → Settings → Zone → ℕ → List Heard → List Heard
    → K → K → Result Verdict AuditFault → Type 0
IsFound content is_failed settings zone c lefts rights left right (Ok (Equal replies)) =
    AreEqual content settings zone c lefts rights (map cow_slice_items replies.items) left right
IsFound content is_failed settings zone c lefts rights left right (Ok (Apart step)) =
    ArePart settings c lefts rights step
IsFound content is_failed settings zone c lefts rights left right (Err NotNew) = ⊥
IsFound content is_failed settings zone c lefts rights left right (Err Memory) = Unit {0}
IsFound content is_failed settings zone c lefts rights left right (Err Store) =
    (is_failed left ≡ true) ⊎ (is_failed right ≡ true)

-- the result for two lists over any houses: NotNew exactly where an audit can't begin, and then the
-- tables stay
abbrev pub IsVerdict : {K : Type 0} → (K → Tables) → (K → Bool) → Settings → Zone → ℕ → List Heard
    → List Heard → K → K → K → K → Result Verdict AuditFault → Type 0
IsVerdict content is_failed settings zone c lefts rights left right left_new right_new (Err NotNew) =
    (¬ (MayBegin (content left) (content right)))
    × (content left_new ≡ content left) × (content right_new ≡ content right)
IsVerdict content is_failed settings zone c lefts rights left right left_new right_new (Err Memory) =
    Unit {0}
IsVerdict content is_failed settings zone c lefts rights left right left_new right_new (Err Store) =
    (is_failed left_new ≡ true) ⊎ (is_failed right_new ≡ true)
IsVerdict content is_failed settings zone c lefts rights left right left_new right_new (Ok verdict) =
    MayBegin (content left) (content right)
    × IsFound content is_failed settings zone c lefts rights left_new right_new (Ok verdict)
