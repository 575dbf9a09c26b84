-- The record by the tables of a history is that of its public view.
use Rattle.std.proofs.Common.{◌≡◌, ◌+◌, [], ◌∷◌, length, ◌∙◌, ap, sym}
use Rattle.std.specs.Prelude.{codes}
use Rattle.std.specs.List.{range_with_len}
use Rattle.serde_json.specs.Data.{Data, array, string}
use Rattle.house_rows.specs.declared.item.Item.{Item}
use Rattle.house_rows.specs.declared.settings.Settings.{Settings}
use Rattle.house_rows.specs.Editions.{editions, table_of}
use Rattle.house_rows.specs.Found.{all_items}
use Rattle.house_rows.specs.History.{History, clock}
use Rattle.house_rows.specs.Items.{items_shown}
use Rattle.house_rows.specs.Listings.{newest_of, tables_set}
use Rattle.house_rows.specs.People.{categories, members}
use Rattle.house_rows.specs.Questions.{published}
use Rattle.house_rows.specs.Ratings.{feedback}
use Rattle.house_rows.specs.Tables.{tables_of}
use Rattle.house_rows.specs.Views.{public_view}
use Rattle.pages_json.specs.Words.{array_of, object_of, whole}
use Rattle.pages_text.specs.Trees.{band_tree, category_tree, feedback_tree, item_tree, member_tree, question_tree}
use Rattle.pages_record.proofs.Mapped.{trees_mapped}
use Rattle.pages_record.specs.Record.{back_by, edition_tree, front_by, middle_by, record_by, record_tree}
use Rattle.house_rows.proofs.GoesBy.{set_count, sets_are}
use Rattle.pages_laws.proofs.Same.{all_shown}
use Rattle.pages_laws.specs.ByTables.{shown_in}

items_same : (settings : Settings) (h : History)
    → array_of (λ (it : Item). item_tree (shown_in (tables_of settings h) it)) (all_items (tables_of settings h))
    ≡ array_of item_tree (items_shown settings h)
items_same settings h =
    ap array (sym (trees_mapped item_tree (shown_in (tables_of settings h)) (all_items (tables_of settings h))))
    ∙ ap (array_of item_tree) (all_shown settings h)

set_len : (h : History) → length (editions h) ≡ length (tables_set h)
set_len h = sym (set_count h)

pub record_same : (settings : Settings) (h : History)
    → record_by (tables_of settings h) ≡ record_tree (public_view settings h)
unfolding record_by front_by middle_by back_by record_tree tables_of published
record_same settings h = rw (sets_are h, set_len h) (ap (λ (its : Data). object_of (
    (codes "bands", array_of band_tree (newest_of settings.bands (tables_set h)))
    ∷ (codes "categories", array_of category_tree (categories h))
    ∷ (codes "clock", whole (clock h))
    ∷ (codes "editions", array_of (λ n. edition_tree n (table_of settings.bands (tables_set h) n)) (range_with_len 1 (length (tables_set h) + 1)))
    ∷ (codes "feedback", array_of feedback_tree (feedback h))
    ∷ (codes "items", its)
    ∷ (codes "members", array_of member_tree (members h))
    ∷ (codes "questions", array_of question_tree (published h))
    ∷ (codes "rate", whole settings.rate)
    ∷ (codes "zone", string settings.zone) ∷ []
    )) (items_same settings h))
