-- Tables of two histories have the same public rows exactly where the histories have the same view.
use Rattle.std.proofs.Common.{◌≡◌, ◌∙◌, List, Bool, true, map, ap, refl, sym}
use Rattle.std.specs.Prelude.{◌↔◌}
use Rattle.house_rows.specs.declared.edition.Edition.{Edition}
use Rattle.house_rows.specs.declared.item.Item.{Item}
use Rattle.house_rows.specs.declared.item.ItemShown.{ItemShown}
use Rattle.house_rows.specs.declared.settings.Settings.{Settings}
use Rattle.house_rows.specs.Editions.{bands_among, edition_among, editions}
use Rattle.house_rows.specs.Found.{all_items}
use Rattle.house_rows.specs.History.{History}
use Rattle.house_rows.specs.Items.{items, items_shown, shown, shown_now}
use Rattle.house_rows.specs.Listings.{listings, tables_set}
use Rattle.house_rows.specs.Questions.{published}
use Rattle.house_rows.specs.Tables.{Tables, tables_of}
use Rattle.house_rows.specs.Views.{Public, public_view}
use Rattle.house_rows.proofs.GoesBy.{sets_are}
use Rattle.house_rows.proofs.ItemRows.{items_are, shown_are}
use Rattle.house_rows.proofs.Lists.{map_twice}
use Rattle.house_rows.proofs.Rebuilt.{editions_same}
use Rattle.house_views.specs.Views.{HaveSameRows}

-- an item can be read off what is shown of it
shown_items : (settings : Settings) (h : History)
    → map (λ (it : ItemShown). it.item) (items_shown settings h) ≡ items settings h
unfolding items_shown items
shown_items settings h = map_twice (shown_now settings h) (λ (it : ItemShown). it.item) (listings h)

items_if : (settings : Settings) (h k : History) → items_shown settings h ≡ items_shown settings k
    → all_items (tables_of settings h) ≡ all_items (tables_of settings k)
items_if settings h k same =
    items_are settings h ∙ sym (shown_items settings h)
    ∙ ap (map (λ (it : ItemShown). it.item)) same ∙ shown_items settings k ∙ sym (items_are settings k)

-- what is shown of items by editions
abbrev shown_by : (settings : Settings) → List Edition → List Item → List ItemShown
shown_by settings es its =
    map (λ (it : Item). shown (edition_among 1 es it.terms.item) (bands_among settings.bands es it.terms.item) it) its

items_then : (settings : Settings) (h k : History) → editions h ≡ editions k
    → all_items (tables_of settings h) ≡ all_items (tables_of settings k)
    → items_shown settings h ≡ items_shown settings k
unfolding tables_of
items_then settings h k by same =
    sym (shown_are settings h) ∙ ap (shown_by settings (editions h)) same
    ∙ ap (λ (es : List Edition). shown_by settings es (all_items (tables_of settings k))) by
    ∙ shown_are settings k

tables_then : (h k : History) → editions h ≡ editions k → tables_set h ≡ tables_set k
tables_then h k by = sym (sets_are h) ∙ ap (map (λ (e : Edition). e.bands)) by ∙ sets_are k

view_then : (settings : Settings) (h k : History)
    → HaveSameRows (tables_of settings h) (tables_of settings k)
    → public_view settings h ≡ public_view settings k
unfolding tables_of published
view_then settings h k same =
    rw (
      same.people.clock,
      same.people.members,
      same.people.categories,
      items_then settings h k same.editions same.items,
      tables_then h k same.editions,
      same.talk.questions,
      same.talk.feedback,
    ) refl

rows_then : (settings : Settings) (h k : History)
    → public_view settings h ≡ public_view settings k
    → HaveSameRows (tables_of settings h) (tables_of settings k)
unfolding tables_of published
rows_then settings h k same = record {
  people = record {
    clock = ap (λ (p : Public). p.clock) same;
    members = ap (λ (p : Public). p.members) same;
    categories = ap (λ (p : Public). p.categories) same;
  };
  editions = editions_same settings h k same;
  items = items_if settings h k (ap (λ (p : Public). p.items) same);
  talk = record {
    questions = ap (λ (p : Public). p.questions) same;
    feedback = ap (λ (p : Public). p.feedback) same;
  };
}

pub public_reported : (settings : Settings) (h k : History) (t u : Tables) (same : Bool)
    → t ≡ tables_of settings h → u ≡ tables_of settings k → (same ≡ true) ↔ HaveSameRows t u
    → (same ≡ true) ↔ (public_view settings h ≡ public_view settings k)
public_reported settings h k t u same e d report =
    let report' : (same ≡ true) ↔ HaveSameRows (tables_of settings h) (tables_of settings k) =
    rw (e, d) at report in (
      λ yes. view_then settings h k (report'.0 yes),
      λ view. report'.1 (rows_then settings h k view),
    )
