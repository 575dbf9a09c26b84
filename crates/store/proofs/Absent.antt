-- What is looked for by a number of more than 32 bits is not there.
use Rattle.std.proofs.Common.{◌≡◌, ◌<◌, ◌≤◌, ◌^◌, ◌&&◌, ℕ, List, Bool, false, None, [], find, length, refl, ap, subst, sym, Option}
use Rattle.std.specs.Prelude.{◌==◌, IfSome}
use Rattle.std.specs.List.{AllByRecursion, list_any}
use Rattle.sqlite_trees.specs.Tree.{Trees}
use Rattle.house_rows.specs.Bids.{BidRow}
use Rattle.house_rows.specs.Fits.{FeedbackFits}
use Rattle.house_rows.specs.Found.{best_of, bids_of_on, row_at, watch_count}
use Rattle.house_rows.specs.History.{counted}
use Rattle.house_rows.specs.Keeping.{IsKeptRow}
use Rattle.house_rows.specs.Pages.{ratings_of}
use Rattle.house_rows.specs.Questions.{is_question}
use Rattle.house_rows.specs.Ratings.{is_minus, is_plus, is_zero}
use Rattle.house_rows.specs.Tables.{ItemRow}
use Rattle.house_rows.specs.Taken.{FitWhere}
use Rattle.house_rows.specs.Text.{same_text}
use Rattle.house_rows.specs.Watches.{WatchRow, is_watch}
use Rattle.house_rows.specs.declared.talk.Feedback.{Feedback}
use Rattle.house_rows.specs.declared.talk.Question.{Question}
use Rattle.store_rows.specs.ItemRows.{items_in}
use Rattle.store_rows.proofs.ShownRows.{where_kept}
use Rattle.store_rows.proofs.Small.{none_narrower}
use Rattle.store_items.proofs.Small.{no_item, no_items_of}
use Rattle.store_rows.specs.Sorted.{sorted_bids, sorted_feedback, sorted_questions, sorted_watches}
use Rattle.store_rows.specs.Tables.{tables_in}
use Rattle.store_rows.proofs.SmallByKey.{no_bids_by, no_bids_on, no_feedback_from, no_feedback_on, no_feedback_to, no_questions_by, no_questions_numbered, no_questions_on, no_watches_by, no_watches_of}
use Rattle.store.proofs.Nothing.{first_fails, second_fails}

module _ (db : Trees) (n : ℕ) (high : 2 ^ 32 ≤ n) (low : n < 2 ^ 64) where
  pub no_lot : (lot : List ℕ) → find (λ row. (row.item.terms.seller == n) && same_text row.item.lot lot) (items_in db) ≡ None
  no_lot lot =
      (none_narrower (λ (row : ItemRow). row.item.terms.seller == n) (λ (row : ItemRow). (row.item.terms.seller == n) && same_text row.item.lot lot)
      (λ row other. first_fails (row.item.terms.seller == n) (same_text row.item.lot lot) other) (items_in db) (no_items_of db n high low)).0

  pub no_watcher : (item : ℕ) → list_any (is_watch n item) (sorted_watches db) ≡ false
  no_watcher item =
      (none_narrower (λ (w : WatchRow). w.member == n) (is_watch n item) (λ w other. first_fails (w.member == n) (w.item == item) other) (sorted_watches db) (no_watches_by db n high low)).2

  pub no_watched : (member : ℕ) → list_any (is_watch member n) (sorted_watches db) ≡ false
  no_watched member =
      (none_narrower (λ (w : WatchRow). w.item == n) (is_watch member n) (λ w other. second_fails (w.member == member) (w.item == n) other) (sorted_watches db) (no_watches_of db n high low)).2

  pub no_giver : (item : ℕ) → list_any (λ f. (f.item == item) && (f.from == n)) (sorted_feedback db) ≡ false
  no_giver item =
      (none_narrower (λ (f : Feedback). f.from == n) (λ (f : Feedback). (f.item == item) && (f.from == n)) (λ f other. second_fails (f.item == item) (f.from == n) other) (sorted_feedback db) (no_feedback_from db n high low)).2

  pub no_given : (giver : ℕ) → list_any (λ f. (f.item == n) && (f.from == giver)) (sorted_feedback db) ≡ false
  no_given giver =
      (none_narrower (λ (f : Feedback). f.item == n) (λ (f : Feedback). (f.item == n) && (f.from == giver)) (λ f other. first_fails (f.item == n) (f.from == giver) other) (sorted_feedback db) (no_feedback_on db n high low)).2

  pub no_watches : watch_count (tables_in db) n ≡ 0
  unfolding tables_in
  no_watches = ap length (no_watches_by db n high low)

  pub no_bids_of : (item : ℕ) → bids_of_on (tables_in db) n item ≡ []
  unfolding tables_in
  no_bids_of item =
      (none_narrower (λ (b : BidRow). b.bid.member == n) (λ (b : BidRow). (b.bid.member == n) && (b.item == item)) (λ b other. first_fails (b.bid.member == n) (b.item == item) other) (sorted_bids db) (no_bids_by db n high low)).1

  pub no_bids_at : (member : ℕ) → bids_of_on (tables_in db) member n ≡ []
  unfolding tables_in
  no_bids_at member =
      (none_narrower (λ (b : BidRow). b.item == n) (λ (b : BidRow). (b.bid.member == member) && (b.item == n)) (λ b other. second_fails (b.bid.member == member) (b.item == n) other) (sorted_bids db) (no_bids_on db n high low)).1

  pub no_best_of : (item : ℕ) → best_of (tables_in db) n item ≡ record { maximum = 0; mine = 0 }
  no_best_of item = rw (no_bids_of item) refl

  pub no_best_at : (member : ℕ) → best_of (tables_in db) member n ≡ record { maximum = 0; mine = 0 }
  no_best_at member = rw (no_bids_at member) refl

  pub no_asked_on : (asker : ℕ) → counted (λ q. (q.asker == asker) && (q.item == n)) (sorted_questions db) ≡ 0
  no_asked_on asker =
      ap length ((none_narrower (λ (q : Question). q.item == n) (λ (q : Question). (q.asker == asker) && (q.item == n)) (λ q other. second_fails (q.asker == asker) (q.item == n) other) (sorted_questions db) (no_questions_on db n high low)).1)

  pub no_asked_by : (item : ℕ) → counted (λ q. (q.asker == n) && (q.item == item)) (sorted_questions db) ≡ 0
  no_asked_by item =
      ap length ((none_narrower (λ (q : Question). q.asker == n) (λ (q : Question). (q.asker == n) && (q.item == item)) (λ q other. first_fails (q.asker == n) (q.item == item) other) (sorted_questions db) (no_questions_by db n high low)).1)

  pub no_question_on : (asker number : ℕ) → find (is_question n asker number) (sorted_questions db) ≡ None
  no_question_on asker number =
      (none_narrower (λ (q : Question). q.item == n) (is_question n asker number) (λ q other. first_fails (q.item == n) ((q.asker == asker) && (q.number == number)) other) (sorted_questions db) (no_questions_on db n high low)).0

  pub no_question_by : (item number : ℕ) → find (is_question item n number) (sorted_questions db) ≡ None
  no_question_by item number =
      (none_narrower (λ (q : Question). q.asker == n) (is_question item n number)
      (λ q other. second_fails (q.item == item) ((q.asker == n) && (q.number == number)) (first_fails (q.asker == n) (q.number == number) other)) (sorted_questions db) (no_questions_by db n high low)).0

  pub no_question_numbered : (item asker : ℕ) → find (is_question item asker n) (sorted_questions db) ≡ None
  no_question_numbered item asker =
      (none_narrower (λ (q : Question). q.number == n) (is_question item asker n)
      (λ q other. second_fails (q.item == item) ((q.asker == asker) && (q.number == n)) (second_fails (q.asker == asker) (q.number == n) other)) (sorted_questions db) (no_questions_numbered db n high low)).0

  none_rated : (is : Feedback → Bool) → counted (λ (f : Feedback). (f.to == n) && is f) (sorted_feedback db) ≡ 0
  none_rated is =
      ap length ((none_narrower (λ (f : Feedback). f.to == n) (λ (f : Feedback). (f.to == n) && is f) (λ f other. first_fails (f.to == n) (is f) other) (sorted_feedback db) (no_feedback_to db n high low)).1)

  pub no_ratings : ratings_of (tables_in db).feedback n ≡ record { plus = 0; zero = 0; minus = 0 }
  unfolding tables_in
  no_ratings = rw (none_rated (λ f. is_plus f.rating), none_rated (λ f. is_zero f.rating), none_rated (λ f. is_minus f.rating)) refl

  pub no_feedback_unfit : FitWhere (λ f. f.to == n) FeedbackFits (tables_in db).feedback
  unfolding tables_in
  no_feedback_unfit =
      where_kept (λ (f : Feedback). f.to == n) FeedbackFits (sorted_feedback db) (subst (AllByRecursion FeedbackFits) (sym (no_feedback_to db n high low)) tt)

  pub no_row_kept : IfSome (row_at (tables_in db) n) (IsKeptRow (tables_in db))
  unfolding tables_in
  no_row_kept = subst (λ (o : Option ItemRow). IfSome o (IsKeptRow (tables_in db))) (sym (no_item db n high low)) tt
