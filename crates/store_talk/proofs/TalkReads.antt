-- What the look-ups in questions and feedback find.
use Rattle.std.proofs.Common.{◌≡◌, ◌==◌, ℕ, ◌^◌, ◌<◌, pos, Bool, true, ◌&&◌, List, [], ◌∷◌, map, filter, find, slice_get, option_map, drop, None, eqb, refl, ap, subst}
use Rattle.std.specs.List.{AllByRecursion}
use Rattle.sqlite_value.specs.declared.value.Value.TheVariants.{Null, Int}
use Rattle.sqlite_value.specs.Order.{Row, column}
use Rattle.sqlite_schema.specs.Rules.{are_typed, has_computed}
use Rattle.sqlite_schema.specs.declared.schema.Constraint.TheVariants.{Datatype, NotNull}
use Rattle.sqlite_catalog.specs.Listing.{IsSound}
use Rattle.sqlite_sql.specs.Program.{overlay}
use Rattle.sqlite_trees.specs.View.{is_int}
use Rattle.sqlite_keyed.proofs.ListLemmas.{all_both}
use Rattle.sqlite_keyed.proofs.RuleLemmas.{first_of_both}
use Rattle.sqlite.specs.Effect.{Database}
use Rattle.sqlite.specs.State.{State, Shown}
use Rattle.sqlite.proofs.Callers.{reads_as}
use Rattle.house_rows.specs.Questions.{is_question}
use Rattle.store_rows.specs.Schema.{feedback_table, question_table}
use Rattle.store_rows.specs.Rows.{number_in, question_of, question_in, questions_in, feedback_of, one_feedback_in, feedback_in}
use Rattle.store_rows.specs.House.{IsHouse}
use Rattle.store_rows.proofs.RowLemmas.{int_if, equals_number, first_is, alone, two}
use Rattle.store_rows.proofs.ColumnLemmas.{holds_all}
use Rattle.store_rows.proofs.Select.{listed, in_order, typed_where, by_rowid, equals}
use Rattle.store_talk.proofs.TalkMeaning.{feedback_to_text, question_at_text, talk_shown, question_shown, by_question, feedback_to_is, question_at_is}

-- the first three columns are numbers
pub record IsTalk (r : Row) : Type 0 where
  pub first : is_int (column r 1) ≡ true
  pub second : is_int (column r 2) ≡ true
  pub third : is_int (column r 3) ≡ true

pub are_questions : (db : Database) → IsHouse db → AllByRecursion IsTalk (db.trees 12)
are_questions db house =
    let sound = subst (λ h. IsSound h db.trees) house.schema house.sound in
    all_both _ _ IsTalk one (db.trees 12) (sound.obeys.rules Datatype).1.1.1.1.1.1.1.0 (sound.obeys.rules NotNull).1.1.1.1.1.1.1.0
  where
    one : (r : Row) → (are_typed None 0 question_table.columns (drop 1 r) && has_computed question_table r) ≡ true → Rattle.sqlite_schema.specs.Rules.are_present None 0 question_table.columns r ≡ true → IsTalk r
    one r t p =
        let h = holds_all None question_table.columns r ((refl, tt), ((refl, tt), ((refl, tt), ((refl, tt), ((refl, tt), tt))))) (first_of_both (are_typed None 0 question_table.columns (drop 1 r)) (has_computed question_table r) t) p in
        let a = h.0 refl refl in
        let b = h.1.0 refl refl in
        let d = h.1.1.0 refl refl in
        record { first = int_if (column r 1) a.0 a.1; second = int_if (column r 2) b.0 b.1; third = int_if (column r 3) d.0 d.1 }

pub are_feedback : (db : Database) → IsHouse db → AllByRecursion IsTalk (db.trees 14)
are_feedback db house =
    let sound = subst (λ h. IsSound h db.trees) house.schema house.sound in
    all_both _ _ IsTalk one (db.trees 14) (sound.obeys.rules Datatype).1.1.1.1.1.1.1.1.0 (sound.obeys.rules NotNull).1.1.1.1.1.1.1.1.0
  where
    one : (r : Row) → (are_typed None 0 feedback_table.columns (drop 1 r) && has_computed feedback_table r) ≡ true → Rattle.sqlite_schema.specs.Rules.are_present None 0 feedback_table.columns r ≡ true → IsTalk r
    one r t p =
        let h = holds_all None feedback_table.columns r ((refl, tt), ((refl, tt), ((refl, tt), ((refl, tt), ((refl, tt), tt))))) (first_of_both (are_typed None 0 feedback_table.columns (drop 1 r)) (has_computed feedback_table r) t) p in
        let a = h.0 refl refl in
        let b = h.1.0 refl refl in
        let d = h.1.1.0 refl refl in
        record { first = int_if (column r 1) a.0 a.1; second = int_if (column r 2) b.0 b.1; third = int_if (column r 3) d.0 d.1 }

pub three : (a b d : Bool) → (a && (b && (d && true))) ≡ (a && (b && d))
three a b d = ap (λ c. a && c) (two b d)

module _ (old new : State) (answer : List Row) (house : IsHouse old.now) where
  abbrev given : List Row
  given = old.now.trees 14

  abbrev asked : List Row
  asked = old.now.trees 12

  pub feedback_to_answer : (member : ℕ) → member < 2 ^ 32 → Shown feedback_to_text (Int (pos member) ∷ []) old new answer → map feedback_of answer ≡ filter (λ f. f.to == member) (feedback_in old.now.trees)
  feedback_to_answer member low h =
      let params = Int (pos member) ∷ [] in
      let read = reads_as feedback_to_text params old new _ house.schema _ (feedback_to_is _).0 (feedback_to_is _).2 (feedback_to_is _).1 answer h in
      let order = in_order (equals 3 ∷ []) talk_shown params given answer house.shaped.1.1.1.1.1.1.1.1.0.0 (listed 14 (equals 3 ∷ []) talk_shown by_rowid (overlay old.now.trees []) params answer (read.answer Null)) in
      typed_where feedback_of one_feedback_in (λ f. f.to == member) IsTalk (equals 3 ∷ []) talk_shown params given answer (λ r. refl)
      (λ r is. rw (equals_number (column r 3) member is.third low) (alone _)) (are_feedback old.now house) order

  pub first_question : (item asker number : ℕ) → item < 2 ^ 32 → asker < 2 ^ 32 → number < 2 ^ 32 → Shown question_at_text (Int (pos item) ∷ Int (pos asker) ∷ Int (pos number) ∷ []) old new answer
      → option_map question_of (slice_get answer 0) ≡ find (is_question item asker number) (questions_in old.now.trees)
  first_question item asker number low small less h =
      let params = Int (pos item) ∷ Int (pos asker) ∷ Int (pos number) ∷ [] in
      let read = reads_as question_at_text params old new _ house.schema _ (question_at_is _).0 (question_at_is _).2 (question_at_is _).1 answer h in
      let order = in_order by_question question_shown params asked answer house.shaped.1.1.1.1.1.1.1.0.0 (listed 12 by_question question_shown by_rowid (overlay old.now.trees []) params answer (read.answer Null)) in
      first_is question_of (is_question item asker number) answer (questions_in old.now.trees)
      (typed_where question_of question_in (is_question item asker number) IsTalk by_question question_shown params asked answer (λ r. refl)
      (λ r is. rw (equals_number (column r 1) item is.first low, equals_number (column r 2) asker is.second small, equals_number (column r 3) number is.third less) (three (eqb (number_in (column r 1)) item) (eqb (number_in (column r 2)) asker) (eqb (number_in (column r 3)) number))) (are_questions old.now house) order)
