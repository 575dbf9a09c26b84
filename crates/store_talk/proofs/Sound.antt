-- In sound tables those rows fit that look-ups take.
use Rattle.std.proofs.Common.{◌≡◌, ℕ, Bool, true, List, find}
use Rattle.std.specs.Prelude.{◌==◌, ◌&&◌, IfSome, is_some, nat_le}
use Rattle.std.specs.List.{AllByRecursion}
use Rattle.sqlite_trees.specs.Tree.{Trees}
use Rattle.house_rows.specs.Editions.{BandTables}
use Rattle.house_rows.specs.Fits.{FeedbackFits, QuestionFits}
use Rattle.house_rows.specs.Keeping.{AreSound, AreSoundBy, FitsBy}
use Rattle.house_rows.specs.Tables.{ItemRow}
use Rattle.house_rows.specs.Taken.{FirstFit, FitWhere, is_near}
use Rattle.house_rows.specs.declared.talk.Feedback.{Feedback}
use Rattle.house_rows.specs.declared.talk.Question.{Question}
use Rattle.house_rows.proofs.Every.{every_as}
use Rattle.store_rows.specs.ItemRows.{items_in}
use Rattle.store_rows.specs.Rows.{feedback_in, question_of, questions_in}
use Rattle.store_rows.specs.Tables.{tables_in}
use Rattle.store_rows.proofs.ShownRows.{found_fits}
use Rattle.store_rows.proofs.Sound.{feedback_fits, questions_fit, rows_fit}
use Rattle.house_rows.specs.Taken.{AskedFit, GivenFit, PublishedFit}
use Rattle.store_talk.specs.Waiting.{AllWaitingFit, FirstWaitingFit, waits_for}

-- where all rows fit, those do that pass a test, and those that a list of at most fifty takes
every_where : {A : Type 0} (test : A → Bool) (Fits : A → Type 0) (rows : List A) → AllByRecursion Fits rows → FitWhere test Fits rows
every_where test Fits rows = every_as Fits (λ x. test x ≡ true → Fits x) rows (λ x fit is. fit)

every_first : {A : Type 0} (test : A → Bool) (number : A → ℕ) (Fits : A → Type 0) (rows : List A) → AllByRecursion Fits rows → FirstFit test number Fits rows
every_first test number Fits rows = every_as Fits (λ x. test x ≡ true → is_near test number rows x ≡ true → Fits x) rows (λ x fit is near. fit)

module _ (db : Trees) (sound : AreSound (tables_in db)) where
  pub questions_sound : (test : Question → Bool) → FitWhere test QuestionFits (questions_in db)
  questions_sound test = every_where test QuestionFits (questions_in db) (questions_fit db sound)

  pub question_sound : (test : Question → Bool) → IfSome (find test (questions_in db)) QuestionFits
  question_sound test = found_fits question_of QuestionFits test (questions_in db) (questions_fit db sound)

  pub published_sound : (item from : ℕ) → PublishedFit item from (tables_in db).questions
  published_sound item from =
      every_first (λ (q : Question). ((q.item == item) && is_some q.answer) && nat_le from q.asker) (λ (q : Question). q.asker) QuestionFits (tables_in db).questions sound.questions

  pub asked_sound : (asker from : ℕ) → AskedFit asker from (tables_in db).questions
  asked_sound asker from = every_first (λ (q : Question). (q.asker == asker) && nat_le from q.item) (λ (q : Question). q.item) QuestionFits (tables_in db).questions sound.questions

  pub feedback_sound : (test : Feedback → Bool) → FitWhere test FeedbackFits (feedback_in db)
  feedback_sound test = every_where test FeedbackFits (feedback_in db) (feedback_fits db sound)

  pub given_sound : (member from : ℕ) → GivenFit member from (tables_in db).feedback
  given_sound member from = record {
    near = every_first (λ (f : Feedback). (f.to == member) && nat_le from f.item) (λ (f : Feedback). f.item) FeedbackFits (tables_in db).feedback sound.feedback;
    far = every_where (λ (f : Feedback). (f.to == member) && nat_le 4294967296 f.item) FeedbackFits (tables_in db).feedback sound.feedback;
  }

module _ (db : Trees) (editions : BandTables) (sound : AreSoundBy editions (tables_in db)) where
  sold_sound : (member : ℕ) → FitWhere (λ (row : ItemRow). row.item.terms.seller == member) (FitsBy editions) (items_in db)
  sold_sound member = every_where (λ (row : ItemRow). row.item.terms.seller == member) (FitsBy editions) (items_in db) (rows_fit db editions sound)

  pub waiting_sound : (member : ℕ) → AllWaitingFit editions member db
  waiting_sound member = record { items = sold_sound member; questions = questions_sound db sound.sound (waits_for db member) }

  pub first_waiting_sound : (member : ℕ) → FirstWaitingFit editions member db
  first_waiting_sound member = record {
    items = sold_sound member;
    questions = every_first (waits_for db member) (λ (q : Question). q.item) QuestionFits (questions_in db) (questions_fit db sound.sound);
  }
