-- The typed rows of the tables in the order of their keys.
use Rattle.std.specs.Prelude.{List, [], fold}
use Rattle.sqlite_trees.specs.Tree.{Trees}
use Rattle.house_rows.specs.Bids.{BidRow, bid_key}
use Rattle.house_rows.specs.Changed.{question_key}
use Rattle.house_rows.specs.History.{Key, put_by}
use Rattle.house_rows.specs.Ratings.{feedback_key}
use Rattle.house_rows.specs.Watches.{WatchRow, watch_key}
use Rattle.house_rows.specs.declared.talk.Feedback.{Feedback}
use Rattle.house_rows.specs.declared.talk.Question.{Question}
use Rattle.store_rows.specs.Rows.{bids_in, feedback_in, questions_in, watches_in}

-- rows in the order of their keys: each is put in its place among those before it
unfoldable pub sorted_by : {A : Type 0} → (A → Key) → List A → List A
sorted_by key rows = fold (λ sorted row. put_by key row sorted) [] rows

abbrev pub sorted_bids : Trees → List BidRow
sorted_bids db = sorted_by bid_key (bids_in db)

abbrev pub sorted_watches : Trees → List WatchRow
sorted_watches db = sorted_by watch_key (watches_in db)

abbrev pub sorted_questions : Trees → List Question
sorted_questions db = sorted_by question_key (questions_in db)

abbrev pub sorted_feedback : Trees → List Feedback
sorted_feedback db = sorted_by feedback_key (feedback_in db)
