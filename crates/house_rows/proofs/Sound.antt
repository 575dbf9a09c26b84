-- The tables of a history fit, and so does each row that a change takes of sound tables.
use Rattle.std.proofs.Common.{◌≡◌, ◌==◌, Bool, true, List, refl}
use Rattle.std.specs.List.{AllByRecursion}
use Rattle.std.proofs.lemmas.List.{length-map}
use Rattle.house_rows.specs.declared.settings.Settings.{Settings}
use Rattle.house_rows.specs.declared.change.Change.{Change}
use Rattle.house_rows.specs.declared.change.Change.TheVariants as change
use Rattle.house_rows.specs.Changed.{is_item}
use Rattle.house_rows.specs.Fits.{FeedbackFits}
use Rattle.house_rows.specs.History.{History}
use Rattle.house_rows.specs.Items.{is_due}
use Rattle.house_rows.specs.Keeping.{AreSound, RowFits}
use Rattle.house_rows.specs.Making.{ChangeRowsFit}
use Rattle.house_rows.specs.Listings.{Listing, listings}
use Rattle.house_rows.specs.Tables.{ItemRow, Tables, row_now, tables_of}
use Rattle.house_rows.specs.Taken.{FitWhere}
use Rattle.house_rows.specs.Verdict.{IsHistory}
use Rattle.house_rows.proofs.Every.{every_as}
use Rattle.house_rows.proofs.GoesBy.{editions_fit}
use Rattle.house_rows.proofs.InTurn.{categories_in_turn, editions_in_turn, listings_in_turn, members_in_turn, turn_map}
use Rattle.house_rows.proofs.Ranged.{categories_fit, listings_fit, members_fit}
use Rattle.house_rows.proofs.RangedRows.{rows_fit}
use Rattle.house_rows.proofs.RangedTables.{bid_rows_fit, clock_fits, few_rows, watches_fit}
use Rattle.house_rows.proofs.RangedTalk.{feedback_fits, questions_fit}

pub rows_are_sound : (settings : Settings) (h : History) → IsHistory settings h → AreSound (tables_of settings h)
unfolding tables_of
rows_are_sound settings h is = record {
  clock = clock_fits settings h is;
  members = (members_fit settings h is).all;
  members_in_turn = members_in_turn h;
  few_members = (members_fit settings h is).room;
  categories = (categories_fit settings h is).all;
  categories_in_turn = categories_in_turn h;
  few_categories = (categories_fit settings h is).room;
  items = rows_fit settings h is;
  items_in_turn = turn_map (λ (l : Listing). l.item) (λ (row : ItemRow). row.item.terms.item) (row_now settings h) 1 (listings h) (λ l. refl) (listings_in_turn h);
  few_items = simp length-map (listings_fit settings h is).room;
  bids = bid_rows_fit settings h is;
  watches = watches_fit settings h is;
  few_watches = λ m. few_rows settings h m is;
  questions = questions_fit settings h is;
  feedback = feedback_fits settings h is;
  editions = (editions_fit settings h is).all;
  editions_in_turn = editions_in_turn h;
  few_editions = (editions_fit settings h is).room;
}

-- where each row fits, those do that pass a test
pub fit_where : {A : Type 0} (test : A → Bool) (Fits : A → Type 0) (rows : List A) → AllByRecursion Fits rows
    → FitWhere test Fits rows
fit_where test Fits rows all = every_as Fits (λ x. test x ≡ true → Fits x) rows (λ x fits passed. fits) all

-- over sound tables each row fits that a change takes
pub change_rows_fit : (t : Tables) (change : Change) → AreSound t → ChangeRowsFit t change
change_rows_fit t (change.Register moment name) sound = tt
change_rows_fit t (change.AddCategory moment name) sound = tt
change_rows_fit t (change.List moment item) sound = tt
change_rows_fit t (change.Bid moment item placed standing) sound =
    fit_where (is_item item) (RowFits t) t.items sound.items
change_rows_fit t (change.Buy moment item buyer price) sound =
    fit_where (is_item item) (RowFits t) t.items sound.items
change_rows_fit t (change.Close moment) sound =
    fit_where (λ row. is_due moment row.item.terms) (RowFits t) t.items sound.items
change_rows_fit t (change.Settle moment item) sound =
    fit_where (is_item item) (RowFits t) t.items sound.items
change_rows_fit t (change.Watch member item) sound = sound.few_watches member
change_rows_fit t (change.Unwatch member item) sound = tt
change_rows_fit t (change.Ask item asker number text) sound = tt
change_rows_fit t (change.Answer moment item asker number text) sound = tt
change_rows_fit t (change.Feedback moment item from to rating text) sound =
    fit_where (λ f. f.from == from) FeedbackFits t.feedback sound.feedback
change_rows_fit t (change.SetBands moment bands) sound = sound.few_items
