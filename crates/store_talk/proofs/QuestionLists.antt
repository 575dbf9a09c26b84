-- What the lists of questions find.
use Rattle.std.proofs.Common.{◌≡◌, ◌==◌, ℕ, ◌^◌, ◌<◌, pos, Bool, true, not, ◌&&◌, List, [], ◌∷◌, map, filter, eqb, refl, ap, subst, ◌∙◌, arith}
use Rattle.std.specs.Prelude.{is_some}
use Rattle.std.specs.List.{AllByRecursion}
use Rattle.sqlite_value.specs.declared.value.Value.TheVariants.{Null, Int}
use Rattle.sqlite_value.specs.Keys as keys
use Rattle.sqlite_value.specs.Order.{Row, column}
use Rattle.sqlite_schema.specs.Rules.{agree, clashes}
use Rattle.sqlite_schema.specs.declared.schema.Constraint.TheVariants.{Unique}
use Rattle.sqlite_catalog.specs.Listing.{IsSound}
use Rattle.sqlite_sql.specs.Term.{Term}
use Rattle.sqlite_sql.specs.Program.{overlay}
use Rattle.sqlite_keyed.proofs.ListLemmas.{all_weaker}
use Rattle.sqlite_keyed.proofs.RuleLemmas.{first_of_both}
use Rattle.sqlite.specs.Effect.{Database}
use Rattle.sqlite.specs.State.{State, Shown}
use Rattle.sqlite.proofs.Callers.{reads_as}
use Rattle.house_rows.specs.Taken.{FitWhere}
use Rattle.house_rows.specs.Changed.{question_key}
use Rattle.house_rows.specs.Fits.{QuestionFits}
use Rattle.house_rows.specs.declared.talk.Question.{Question}
use Rattle.list_rows.specs.Blocks.{same_key}
use Rattle.list_rows.proofs.Order.{first_of_same, second_of_same, third_of_same}
use Rattle.store_rows.specs.House.{IsHouse}
use Rattle.store_rows.specs.Plain.{passes}
use Rattle.store_rows.specs.Rows.{number_in, maybe_text_in, question_of, question_in, questions_in}
use Rattle.store_talk.proofs.AnswerLemmas.{agree_at}
use Rattle.store_rows.proofs.RowLemmas.{equals_number, alone, passing_fit}
use Rattle.store_rows.proofs.Select.{IsListOf, listed, equals}
use Rattle.store_talk.proofs.TalkMeaning.{question_shown}
use Rattle.store_talk.proofs.TalkReads.{IsTalk, are_questions}
use Rattle.store_rows.specs.Sorted.{sorted_questions}
use Rattle.store_rows.proofs.Apart.{keys_apart}
use Rattle.store_rows.proofs.ByKey.{number_is, three_values_rise}
use Rattle.store_talk.proofs.QuestionMeaning.{AsksQuestions, question_order, waits, was_answered}
use Rattle.store_rows.proofs.Shown.{kept_fits, shown_fits, RisesBy, rows_by_key}
use Rattle.store_rows.proofs.Tested.{is_missing, is_there}

abbrev Fits : Row → Type 0
Fits r = QuestionFits (question_in r)

-- the numbers of a key that fits are below the bound of 32 bits
pub item_low : (r : Row) → Fits r → number_in (column r 1) < 2 ^ 32
item_low r fits = omega (arith, fits.item.1)

pub asker_low : (r : Row) → Fits r → number_in (column r 2) < 2 ^ 32
asker_low r fits = omega (arith, fits.asker.1)

pub place_low : (r : Row) → Fits r → number_in (column r 3) < 2 ^ 32
place_low r fits = omega (arith, fits.number.1)

agrees : (r s : Row) → Fits r → Fits s → same_key (question_key (question_in r)) (question_key (question_in s)) ≡ true → agree keys.plain (1 ∷ 2 ∷ 3 ∷ []) r (1 ∷ 2 ∷ 3 ∷ []) s ≡ true
agrees r s r_fits s_fits same =
    let a = question_key (question_in r) in
    let b = question_key (question_in s) in
    let first : number_in (column r 1) ≡ number_in (column s 1) = first_of_same a b same in
    let second : number_in (column r 2) ≡ number_in (column s 2) = second_of_same a b same in
    let third : number_in (column r 3) ≡ number_in (column s 3) = third_of_same a b same in
    agree_at r s (number_in (column s 1)) (number_in (column s 2)) (number_in (column s 3)) (item_low s s_fits) (asker_low s s_fits) (place_low s s_fits)
    (number_is (column r 1) (item_low r r_fits) ∙ ap (λ n. Int (pos n)) first)
    (number_is (column r 2) (asker_low r r_fits) ∙ ap (λ n. Int (pos n)) second)
    (number_is (column r 3) (place_low r r_fits) ∙ ap (λ n. Int (pos n)) third)
    (number_is (column s 1) (item_low s s_fits)) (number_is (column s 2) (asker_low s s_fits)) (number_is (column s 3) (place_low s s_fits))

pub unique : (db : Database) → IsHouse db → AllByRecursion (λ s. not (clashes keys.plain (1 ∷ 2 ∷ 3 ∷ []) (db.trees 12) s) ≡ true) (db.trees 12)
unique db house =
    let rows = db.trees 12 in
    let sound = subst (λ h. IsSound h db.trees) house.schema house.sound in
    all_weaker _ (λ s. not (clashes keys.plain (1 ∷ 2 ∷ 3 ∷ []) rows s) ≡ true) (λ s h. first_of_both (not (clashes keys.plain (1 ∷ 2 ∷ 3 ∷ []) rows s)) _ h) rows (sound.obeys.rules Unique).1.1.1.1.1.1.1.0

module _ (test : List Term) (params : Row) where
  rises : RisesBy question_key question_in test question_shown question_order params Fits
  rises r s r_fits s_fits less =
      three_values_rise (column r 1) (column r 2) (column r 3) (column s 1) (column s 2) (column s 3) (item_low r r_fits) (asker_low r r_fits) (place_low r r_fits) (item_low s s_fits) (asker_low s s_fits) (place_low s s_fits) less

  -- a query that keeps some of the questions
  module _ (sql : List ℕ) (is : AsksQuestions sql test) (old new : State) (answer : List Row) (house : IsHouse old.now) (h : Shown sql params old new answer) where
    abbrev table : List Row
    table = old.now.trees 12

    listing : IsListOf table test question_shown question_order params answer
    listing = listed 12 test question_shown question_order (overlay old.now.trees []) params answer ((reads_as sql params old new _ house.schema _ (is _).0 (is _).2 (is _).1 answer h).answer Null)

    -- where those fit that the query keeps
    pub questions_kept : (keep : Question → Bool) → ((r : Row) → IsTalk r → passes test params r ≡ keep (question_in r)) → FitWhere keep QuestionFits (questions_in old.now.trees) → AllByRecursion QuestionFits (map question_of answer)
    questions_kept keep tests fits =
        shown_fits test question_shown question_order params table answer listing question_of question_in (λ r. refl) QuestionFits
        (passing_fit question_in QuestionFits keep IsTalk (passes test params) tests table (are_questions old.now house) fits)

    pub questions_shown : (keep : Question → Bool) → ((r : Row) → IsTalk r → passes test params r ≡ keep (question_in r)) → AllByRecursion QuestionFits (map question_of answer)
        → map question_of answer ≡ filter keep (sorted_questions old.now.trees)
    questions_shown keep tests fits =
        let kept = kept_fits test question_shown question_order params table answer listing question_of question_in (λ r. refl) QuestionFits fits in
        rows_by_key test question_shown question_order params table answer listing question_key question_in question_of keep IsTalk Fits (λ r. refl) tests (are_questions old.now house)
        rises kept (keys_apart question_key question_in (1 ∷ 2 ∷ 3 ∷ []) Fits agrees table house.shaped.1.1.1.1.1.1.1.0 (unique old.now house) (passes test params) kept)

-- ---- the tests

pub answered_test : (r : Row) → IsTalk r → passes (was_answered ∷ []) [] r ≡ is_some (question_in r).answer
answered_test r is = rw (is_there (column r 5)) (alone _)

pub waiting_test : (item : ℕ) → item < 2 ^ 32 → (r : Row) → IsTalk r → passes (equals 1 ∷ waits ∷ []) (Int (pos item) ∷ []) r ≡ ((question_in r).item == item) && not (is_some (question_in r).answer)
waiting_test item low r is = rw (equals_number (column r 1) item is.first low, is_missing (column r 5)) (ap (λ b. eqb (number_in (column r 1)) item && b) (alone (not (is_some (maybe_text_in (column r 5))))))
