-- What members are shown where two histories look alike to them.
use Rattle.std.proofs.Common.{◌≡◌, ℕ, ap}
use Rattle.settle.specs.declared.zone.Zone.{Zone}
use Rattle.house_laws.specs.Alike.{AreAlike}
use Rattle.house_laws.proofs.Shown.{page_same}
use Rattle.house_rows.specs.declared.page.Page.{Page}
use Rattle.house_rows.specs.declared.query.Query.{Query}
use Rattle.house_rows.specs.declared.settings.Settings.{Settings}
use Rattle.house_rows.specs.History.{History}
use Rattle.pages_json.specs.Words.{text_of}
use Rattle.pages_text.specs.Trees.{page_tree}
use Rattle.pages.specs.Showing.{shown_text}

pub text_same : (settings : Settings) (zone : Zone) (c : ℕ) (h k : History) (query : Query) → AreAlike settings c h k → shown_text settings zone h c query ≡ shown_text settings zone k c query
text_same settings zone c h k query alike = ap (λ (page : Page). text_of (page_tree zone page)) (page_same settings c h k query alike)
