-- The public record: what everybody may see, in one object.
use Rattle.std.specs.Prelude.{◌≡◌, ℕ, ◌+◌, List, [], ◌∷◌, ◌++◌, length, codes, Option, unwrap_or}
use Rattle.steps.specs.Table.{Band}
use Rattle.std.specs.List.{range_with_len}
use Rattle.serde_json.specs.Data.{Data, string}
use Rattle.house_rows.specs.declared.settings.Settings.{Settings}
use Rattle.house_rows.specs.Editions.{bands_of, newest_bands_in, newest_in, table_of}
use Rattle.house_rows.specs.Found.{all_items, all_published}
use Rattle.house_rows.specs.History.{History, clock}
use Rattle.house_rows.specs.Items.{items_shown}
use Rattle.house_rows.specs.Listings.{newest_of, tables_set}
use Rattle.house_rows.specs.People.{categories, members}
use Rattle.house_rows.specs.Questions.{published}
use Rattle.house_rows.specs.Ratings.{feedback}
use Rattle.house_rows.specs.Tables.{Tables, band_tables}
use Rattle.house_rows.specs.Views.{Public, public_view}
use Rattle.pages_laws.specs.ByTables.{shown_in}
use Rattle.pages_json.specs.Words.{array_of, object_of, text_of, whole}
use Rattle.pages_text.specs.Trees.{band_tree, category_tree, feedback_tree, item_tree, member_tree, question_tree}

-- an edition of the band table, by its number
abbrev pub edition_tree : ℕ → Option (List Band) → Data
edition_tree n bands = object_of (
    (codes "bands", array_of band_tree (unwrap_or bands []))
    ∷ (codes "edition", whole n) ∷ []
    )

-- the record of what is public
unfoldable pub record_tree : Public → Data
record_tree p = object_of (
    (codes "bands", array_of band_tree (newest_of p.settings.bands p.tables))
    ∷ (codes "categories", array_of category_tree p.categories)
    ∷ (codes "clock", whole p.clock)
    ∷ (codes "editions", array_of (λ n. edition_tree n (table_of p.settings.bands p.tables n)) (range_with_len 1 (length p.tables + 1)))
    ∷ (codes "feedback", array_of feedback_tree p.feedback)
    ∷ (codes "items", array_of item_tree p.items)
    ∷ (codes "members", array_of member_tree p.members)
    ∷ (codes "questions", array_of question_tree p.questions)
    ∷ (codes "rate", whole p.settings.rate)
    ∷ (codes "zone", string p.settings.zone) ∷ []
    )

abbrev pub record_text : Settings → History → List ℕ
record_text settings h = text_of (record_tree (public_view settings h))

-- two histories have the same lists, of which the record is made, and the same clock
pub record HaveSameLists (settings : Settings) (h k : History) : Type 0 where
  pub clock : clock h ≡ clock k
  pub members : members h ≡ members k
  pub categories : categories h ≡ categories k
  pub items : items_shown settings h ≡ items_shown settings k
  pub questions : published h ≡ published k
  pub feedback : feedback h ≡ feedback k
  pub tables : tables_set h ≡ tables_set k

-- the same by the tables, in the three parts in which it is written
abbrev pub bands_by : Tables → List (List ℕ × Data)
bands_by t = (codes "bands", array_of band_tree (newest_bands_in (band_tables t))) ∷ []

abbrev pub categories_by : Tables → List (List ℕ × Data)
categories_by t = (codes "categories", array_of category_tree t.categories) ∷ []

abbrev pub clock_by : Tables → List (List ℕ × Data)
clock_by t = (codes "clock", whole t.clock) ∷ []

unfoldable pub front_by : Tables → List (List ℕ × Data)
front_by t = bands_by t ++ (categories_by t ++ clock_by t)

abbrev pub editions_by : Tables → List (List ℕ × Data)
editions_by t = (codes "editions", array_of (λ n. edition_tree n (bands_of (band_tables t) n)) (range_with_len 1 (newest_in (band_tables t)))) ∷ []

abbrev pub feedback_by : Tables → List (List ℕ × Data)
feedback_by t = (codes "feedback", array_of feedback_tree t.feedback) ∷ []

abbrev pub items_by : Tables → List (List ℕ × Data)
items_by t = (codes "items", array_of (λ it. item_tree (shown_in t it)) (all_items t)) ∷ []

abbrev pub members_by : Tables → List (List ℕ × Data)
members_by t = (codes "members", array_of member_tree t.members) ∷ []

unfoldable pub middle_by : Tables → List (List ℕ × Data)
middle_by t = editions_by t ++ (feedback_by t ++ items_by t)

abbrev pub questions_by : Tables → List (List ℕ × Data)
questions_by t = (codes "questions", array_of question_tree (all_published t)) ∷ []

abbrev pub settings_by : Tables → List (List ℕ × Data)
settings_by t = (codes "rate", whole t.settings.rate) ∷ (codes "zone", string t.settings.zone) ∷ []

unfoldable pub back_by : Tables → List (List ℕ × Data)
back_by t = members_by t ++ (questions_by t ++ settings_by t)

unfoldable pub record_by : Tables → Data
record_by t = object_of (front_by t ++ (middle_by t ++ back_by t))
