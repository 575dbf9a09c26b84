-- Of sound tables every stored row fits.
use Rattle.std.proofs.Common.{◌≡◌, Bool, true}
use Rattle.std.specs.List.{AllByRecursion}
use Rattle.sqlite_trees.specs.Tree.{Trees}
use Rattle.house_rows.specs.Bids.{BidRow, bid_key}
use Rattle.house_rows.specs.Changed.{question_key}
use Rattle.house_rows.specs.Fits.{BidRowFits, FeedbackFits, ItemFits, QuestionFits, WatchRowFits}
use Rattle.house_rows.specs.Keeping.{AreSound, AreSoundBy, FitsBy}
use Rattle.house_rows.specs.Taken.{FitWhere}
use Rattle.house_rows.specs.Editions.{BandTables}
use Rattle.house_rows.specs.Ratings.{feedback_key}
use Rattle.house_rows.specs.Tables.{ItemRow, band_tables}
use Rattle.house_rows.specs.Watches.{WatchRow, watch_key}
use Rattle.house_rows.specs.declared.talk.Feedback.{Feedback}
use Rattle.house_rows.specs.declared.talk.Question.{Question}
use Rattle.house_rows.proofs.Every.{every_as}
use Rattle.store_rows.specs.ItemRows.{items_in}
use Rattle.store_rows.specs.Rows.{bids_in, feedback_in, questions_in, watches_in}
use Rattle.store_rows.specs.Tables.{tables_in}
use Rattle.store_rows.proofs.Shown.{every_sorted, every_stored}

module _ (db : Trees) (sound : AreSound (tables_in db)) where
  pub bids_fit : AllByRecursion BidRowFits (bids_in db)
  unfolding tables_in
  bids_fit = every_stored bid_key BidRowFits (bids_in db) sound.bids

  pub watches_fit : AllByRecursion WatchRowFits (watches_in db)
  unfolding tables_in
  watches_fit = every_stored watch_key WatchRowFits (watches_in db) sound.watches

  pub questions_fit : AllByRecursion QuestionFits (questions_in db)
  unfolding tables_in
  questions_fit = every_stored question_key QuestionFits (questions_in db) sound.questions

  pub feedback_fits : AllByRecursion FeedbackFits (feedback_in db)
  unfolding tables_in
  feedback_fits = every_stored feedback_key FeedbackFits (feedback_in db) sound.feedback

pub items_fit : (db : Trees) → AreSound (tables_in db) → AllByRecursion (λ (row : ItemRow). ItemFits row.item) (items_in db)
unfolding tables_in
items_fit db sound = every_as (FitsBy (band_tables (tables_in db))) (λ (row : ItemRow). ItemFits row.item) (items_in db) (λ row fits. fits.item) sound.items

pub rows_fit : (db : Trees) (editions : BandTables) → AreSoundBy editions (tables_in db) → AllByRecursion (FitsBy editions) (items_in db)
unfolding tables_in
rows_fit db editions sound = rw sound.same sound.sound.items

-- rows that fit where they pass a test, in the order of their keys, fit so as they are stored
pub bids_where : (db : Trees) (p : BidRow → Bool) → FitWhere p BidRowFits (tables_in db).bids → FitWhere p BidRowFits (bids_in db)
unfolding tables_in
bids_where db p fits = every_stored bid_key (λ (b : BidRow). p b ≡ true → BidRowFits b) (bids_in db) fits

pub watches_where : (db : Trees) (p : WatchRow → Bool) → FitWhere p WatchRowFits (tables_in db).watches → FitWhere p WatchRowFits (watches_in db)
unfolding tables_in
watches_where db p fits = every_stored watch_key (λ (w : WatchRow). p w ≡ true → WatchRowFits w) (watches_in db) fits

pub questions_where : (db : Trees) (p : Question → Bool) → FitWhere p QuestionFits (tables_in db).questions → FitWhere p QuestionFits (questions_in db)
unfolding tables_in
questions_where db p fits = every_stored question_key (λ (q : Question). p q ≡ true → QuestionFits q) (questions_in db) fits

pub feedback_where : (db : Trees) (p : Feedback → Bool) → FitWhere p FeedbackFits (tables_in db).feedback → FitWhere p FeedbackFits (feedback_in db)
unfolding tables_in
feedback_where db p fits = every_stored feedback_key (λ (f : Feedback). p f ≡ true → FeedbackFits f) (feedback_in db) fits

-- and what fits as it is stored fits in the order of the keys
pub feedback_sorted : (db : Trees) (p : Feedback → Bool) → FitWhere p FeedbackFits (feedback_in db) → FitWhere p FeedbackFits (tables_in db).feedback
unfolding tables_in
feedback_sorted db p fits = every_sorted feedback_key (λ (f : Feedback). p f ≡ true → FeedbackFits f) (feedback_in db) fits
