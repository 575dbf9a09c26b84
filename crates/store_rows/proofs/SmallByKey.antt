-- For a keep: no row in the order of its key has a number from 2^32 on.
use Rattle.std.proofs.Common.{◌≡◌, ◌==◌, ◌≤◌, ◌<◌, ◌^◌, ℕ, Bool, List, [], filter, ap, ◌∙◌}
use Rattle.sqlite_trees.specs.Tree.{Trees}
use Rattle.house_rows.specs.Bids.{BidRow, bid_key}
use Rattle.house_rows.specs.Changed.{question_key}
use Rattle.house_rows.specs.History.{Key}
use Rattle.house_rows.specs.Ratings.{feedback_key}
use Rattle.house_rows.specs.Watches.{WatchRow, watch_key}
use Rattle.house_rows.specs.declared.talk.Feedback.{Feedback}
use Rattle.house_rows.specs.declared.talk.Question.{Question}
use Rattle.store_rows.specs.Rows.{bids_in, feedback_in, questions_in, watches_in}
use Rattle.store_rows.proofs.Small as rows
use Rattle.store_rows.specs.Sorted.{sorted_bids, sorted_by, sorted_feedback, sorted_questions, sorted_watches}
use Rattle.store_rows.proofs.Sorting.{filter-sorted}

still_none : {A : Type 0} (key : A → Key) (p : A → Bool) (xs : List A) → filter p xs ≡ [] → filter p (sorted_by key xs) ≡ []
unfolding sorted_by
still_none key p xs none = filter-sorted key p xs ∙ ap (sorted_by key) none

module _ (db : Trees) (n : ℕ) (high : 2 ^ 32 ≤ n) (low : n < 2 ^ 64) where
  pub no_bids_by : filter (λ b. b.bid.member == n) (sorted_bids db) ≡ []
  no_bids_by = still_none bid_key (λ (b : BidRow). b.bid.member == n) (bids_in db) (rows.no_bids_by db n high low)

  pub no_bids_on : filter (λ b. b.item == n) (sorted_bids db) ≡ []
  no_bids_on = still_none bid_key (λ (b : BidRow). b.item == n) (bids_in db) (rows.no_bids_on db n high low)

  pub no_watches_by : filter (λ w. w.member == n) (sorted_watches db) ≡ []
  no_watches_by = still_none watch_key (λ (w : WatchRow). w.member == n) (watches_in db) (rows.no_watches_by db n high low)

  pub no_watches_of : filter (λ w. w.item == n) (sorted_watches db) ≡ []
  no_watches_of = still_none watch_key (λ (w : WatchRow). w.item == n) (watches_in db) (rows.no_watches_of db n high low)

  pub no_questions_on : filter (λ q. q.item == n) (sorted_questions db) ≡ []
  no_questions_on = still_none question_key (λ (q : Question). q.item == n) (questions_in db) (rows.no_questions_on db n high low)

  pub no_questions_by : filter (λ q. q.asker == n) (sorted_questions db) ≡ []
  no_questions_by = still_none question_key (λ (q : Question). q.asker == n) (questions_in db) (rows.no_questions_by db n high low)

  pub no_questions_numbered : filter (λ q. q.number == n) (sorted_questions db) ≡ []
  no_questions_numbered = still_none question_key (λ (q : Question). q.number == n) (questions_in db) (rows.no_questions_numbered db n high low)

  pub no_feedback_to : filter (λ f. f.to == n) (sorted_feedback db) ≡ []
  no_feedback_to = still_none feedback_key (λ (f : Feedback). f.to == n) (feedback_in db) (rows.no_feedback_to db n high low)

  pub no_feedback_from : filter (λ f. f.from == n) (sorted_feedback db) ≡ []
  no_feedback_from = still_none feedback_key (λ (f : Feedback). f.from == n) (feedback_in db) (rows.no_feedback_from db n high low)

  pub no_feedback_on : filter (λ f. f.item == n) (sorted_feedback db) ≡ []
  no_feedback_on = still_none feedback_key (λ (f : Feedback). f.item == n) (feedback_in db) (rows.no_feedback_on db n high low)
