-- Items as everybody sees them, one by one.
use Rattle.std.proofs.Common.{◌≡◌, map, ◌∙◌, ap, refl}
use Rattle.house_rows.specs.declared.item.ItemShown.{ItemShown}
use Rattle.house_rows.specs.declared.settings.Settings.{Settings}
use Rattle.house_rows.specs.History.{History}
use Rattle.house_rows.specs.Items.{items_shown, shown_now}
use Rattle.house_rows.specs.Listings.{Listing, listings}
use Rattle.house_rows.proofs.Lists.{map_same}

-- a listed item as everybody sees it
abbrev pub seen : Settings → History → Listing → ItemShown
seen settings h l = shown_now settings h l

pub items_seen : (settings : Settings) (h : History) → items_shown settings h ≡ map (seen settings h) (listings h)
unfolding items_shown
items_seen settings h = refl

-- where each item looks the same, all do
pub items_same_each : (settings : Settings) (h k : History) → listings h ≡ listings k → ((l : Listing) → seen settings h l ≡ seen settings k l) → items_shown settings h ≡ items_shown settings k
unfolding items_shown
items_same_each settings h k lots each =
    map_same (seen settings h) (seen settings k) (listings h) each ∙ ap (map (seen settings k)) lots
