-- What the site's clauses say of a step and of a run, by the record of the keep's ghosts.
use Rattle.std.specs.Prelude.{◌≡◌, ℕ, List, length}
use Rattle.std.specs.List.{AllZip}
use Rattle.house_rows.specs.Answers.{OverHistory}
use Rattle.house_rows.specs.History.{History}
use Rattle.house_rows.specs.Tables.{Tables}
use Rattle.house_rows.specs.declared.keep.Keep.{Ghosts}
use Rattle.house_rows.specs.declared.settings.Settings.{Settings}
use Rattle.settle.specs.declared.zone.Zone.{Zone}
use Rattle.site_request.specs.Asked.{IsAsked}
use Rattle.site_request.specs.declared.asked.Asked.{Asked}
use Rattle.site.specs.Replies.{IsStep}

-- no later band table was set, and counts and clock are 0
abbrev pub AreBlank : Tables → Type 0
AreBlank t = (length t.editions ≡ 0) × (length t.members ≡ 0) × (length t.categories ≡ 0)
    × (length t.items ≡ 0) × (t.clock ≡ 0)

-- one message asks, and this is the reply
abbrev pub Steps : {K : Type 0} → Ghosts K → Zone → Asked → List ℕ → K → K → Type 0
Steps keep = IsStep keep.content keep.is_failed keep.is_honest keep.may_leave

-- as long as the disk returns what was written: P of each history whose tables the keep had, and of
-- whatever the messages ask
abbrev pub OverMessages : {K : Type 0} → Ghosts K → K → K → List (List ℕ) → (Settings → History → List Asked → Type 0) → Type 0
OverMessages keep old new messages P =
    OverHistory keep old new (λ settings h. (asked : List Asked) → AllZip IsAsked messages asked → P settings h asked)
