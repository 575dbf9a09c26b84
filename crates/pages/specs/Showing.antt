-- The text of a page, and what a buffer has once it is shown.
use Rattle.std.specs.Prelude.{◌≡◌, ◌++◌, ℕ, List, Bool, true, false, Result, Ok, Err}
use Rattle.settle.specs.declared.zone.Zone.{Zone}
use Rattle.house_rows.specs.declared.page.Page.{Page}
use Rattle.house_rows.specs.declared.page.Page.TheVariants.{Refused}
use Rattle.house_rows.specs.declared.query.Query.{Query}
use Rattle.house_rows.specs.declared.refusal.Refusal.{Refusal}
use Rattle.house_rows.specs.declared.settings.Settings.{Settings}
use Rattle.house_rows.specs.History.{History}
use Rattle.house_rows.specs.Pages.{page_of}
use Rattle.serde_json.specs.View.{view}
use Rattle.serde_json.specs.declared.value.Value.{Value}
use Rattle.pages_json.specs.Words.{text_of}
use Rattle.pages_text.specs.Trees.{page_tree}

-- the text of what a read shows
abbrev pub shown_text : Settings → Zone → History → ℕ → Query → List ℕ
shown_text settings zone h caller query = text_of (page_tree zone (page_of settings h caller query))

-- whether a page says why nothing is shown
abbrev pub is_refused : Page → Bool
is_refused (Refused refusal) = true
is_refused _ = false

-- what was there stands first
pub record BeginsWith (old new : List ℕ) : Type 0 where
  pub rest : List ℕ
  pub parts : new ≡ old ++ rest

-- the text of the page comes after what was there, or the read is refused and nothing does
abbrev pub IsReported : Zone → Page → Result (Unit {0}) Refusal → List ℕ → List ℕ → Type 0
IsReported zone page (Ok u) old new =
    (is_refused page ≡ false) × (new ≡ old ++ text_of (page_tree zone page))
IsReported zone page (Err refusal) old new = (page ≡ Refused refusal) × (new ≡ old)

-- what is made is the tree of the page, or the read is refused
abbrev pub IsGrown : Zone → Page → Result Value Refusal → Type 0
IsGrown zone page (Ok v) = (is_refused page ≡ false) × (view v ≡ page_tree zone page)
IsGrown zone page (Err refusal) = page ≡ Refused refusal
