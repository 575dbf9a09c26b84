-- What the writes of questions and feedback make of them in the order of their keys, and what is found there.
use Rattle.std.proofs.Common.{◌≡◌, ◌≤◌, ◌<◌, ◌^◌, ℕ, pos, List, [], ◌∷◌, not, ◌&&◌, map, filter, flat_map, find, length, refl, ap, sym, subst, ◌∙◌, inl, inr}
use Rattle.std.specs.Prelude.{◌==◌, is_some}
use Rattle.std.specs.List.{list_any}
use Rattle.std.proofs.lemmas.List.{length-map}
use Rattle.sqlite_value.specs.declared.value.Value.TheVariants.{Int}
use Rattle.sqlite_trees.specs.Tree.{Trees, IsAscending}
use Rattle.sqlite_keyed.proofs.ListLemmas.{filter-map}
use Rattle.sqlite.specs.Effect.{Database}
use Rattle.house_rows.specs.Changed.{question_key, with_answer}
use Rattle.house_rows.specs.History.{put_by}
use Rattle.house_rows.specs.Questions.{is_question}
use Rattle.house_rows.specs.Ratings.{feedback_key}
use Rattle.house_rows.specs.declared.talk.Feedback.{Feedback}
use Rattle.house_rows.specs.declared.talk.Question.{Question}
use Rattle.house_rows.proofs.Put.{by_test}
use Rattle.store_talk.specs.Answers.{SetsAnswer}
use Rattle.store_rows.specs.House.{IsHouse, AddsFeedback, AddsQuestion}
use Rattle.store_rows.specs.Plain.{passes}
use Rattle.store_rows.specs.Rows.{question_in, questions_in}
use Rattle.store_talk.proofs.AnswerLemmas.{one_question, same_test}
use Rattle.store_rows.proofs.RowLemmas.{filter_same_on}
use Rattle.store_talk.proofs.TalkMeaning.{by_question}
use Rattle.store_talk.proofs.TalkReads.{IsTalk, are_questions}
use Rattle.store_rows.specs.Sorted.{sorted_by, sorted_feedback, sorted_questions}
use Rattle.store_rows.proofs.Grouped.{firsts_rise, grouped}
use Rattle.store_rows.proofs.Sorting.{find-sorted, map-sorted, sorted_in_order, sorted_more}

-- ---- writes

pub adds_question_sorted : (question : Question) (old new : Database) → AddsQuestion question old new → sorted_questions new.trees ≡ put_by question_key question (sorted_questions old.trees)
adds_question_sorted question old new w = ap (sorted_by question_key) w.questions ∙ sorted_more question_key _ question

-- an answer leaves the key
same_question : (item asker number : ℕ) (text : List ℕ) (q : Question) → question_key (with_answer item asker number text q) ≡ question_key q
same_question item asker number text q = elim (by_test (is_question item asker number q)) [ inl is ↦ rw is refl | inr other ↦ rw other refl ]

pub sets_answer_sorted : (item asker number : ℕ) (text : List ℕ) (old new : Database) → SetsAnswer item asker number text old new → sorted_questions new.trees ≡ map (with_answer item asker number text) (sorted_questions old.trees)
sets_answer_sorted item asker number text old new w =
    ap (sorted_by question_key) w.questions ∙ sym (map-sorted question_key question_key (with_answer item asker number text) (same_question item asker number text) _)

pub adds_feedback_sorted : (feedback : Feedback) (old new : Database) → AddsFeedback feedback old new → sorted_feedback new.trees ≡ put_by feedback_key feedback (sorted_feedback old.trees)
adds_feedback_sorted feedback old new w = ap (sorted_by feedback_key) w.feedback_is ∙ sorted_more feedback_key _ feedback

-- ---- look-ups

module _ (db : Database) (house : IsHouse db) (item asker number : ℕ) (low : item < 2 ^ 32) (small : asker < 2 ^ 32) (less : number < 2 ^ 32) where
  -- one stored question at most has a key
  pub one_stored : length (filter (is_question item asker number) (questions_in db.trees)) ≤ 1
  one_stored =
      let kept : filter (passes by_question (Int (pos item) ∷ Int (pos asker) ∷ Int (pos number) ∷ [])) (db.trees 12) ≡ filter (λ r. is_question item asker number (question_in r)) (db.trees 12) =
      filter_same_on IsTalk (passes by_question (Int (pos item) ∷ Int (pos asker) ∷ Int (pos number) ∷ [])) (λ r. is_question item asker number (question_in r)) (same_test item asker number [] low small less) (db.trees 12) (are_questions db house) in
      let few = subst (λ l. length l ≤ 1) kept (one_question item asker number [] low small less db house) in
      rw (filter-map (is_question item asker number) question_in (db.trees 12), length-map (filter (λ r. is_question item asker number (question_in r)) (db.trees 12)) question_in) few

  -- so it is found in either order
  pub found_sorted : find (is_question item asker number) (sorted_questions db.trees) ≡ find (is_question item asker number) (questions_in db.trees)
  found_sorted = find-sorted question_key (is_question item asker number) (questions_in db.trees) one_stored

-- the questions that wait, item by item
pub waiting_grouped : (db : Trees) (items : List ℕ) → IsAscending (λ m n. m < n) items
    → flat_map (λ n. filter (λ q. (q.item == n) && not (is_some q.answer)) (sorted_questions db)) items ≡ filter (λ q. list_any (λ n. q.item == n) items && not (is_some q.answer)) (sorted_questions db)
waiting_grouped db items rise =
    grouped (λ (q : Question). q.item) (λ q. not (is_some q.answer)) items (sorted_questions db) rise (firsts_rise question_key (sorted_questions db) (sorted_in_order question_key (questions_in db)))
