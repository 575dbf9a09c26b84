-- What the look-up of a feedback finds.
use Rattle.std.proofs.Common.{◌≡◌, ◌==◌, ◌≤◌, ◌<◌, ◌^◌, ◌&&◌, ◌||◌, ℕ, pos, Bool, true, false, not, cond, List, [], ◌∷◌, map, filter, option_map, slice_get, is_some, IfSome, eqb, refl, sym, ap, ap₂, ◌∙◌, arith, inl, inr}
use Rattle.std.specs.List.{AllByRecursion, list_any}
use Rattle.std.proofs.lemmas.Bool.Decides.{nat_tests}
use Rattle.sqlite_value.specs.declared.value.Value.TheVariants.{Null, Int}
use Rattle.sqlite_value.specs.Order.{Row, column}
use Rattle.sqlite_sql.specs.Program.{overlay}
use Rattle.sqlite.specs.State.{State, Shown}
use Rattle.sqlite.proofs.Callers.{reads_as}
use Rattle.sqlite_keyed.proofs.RuleLemmas.{second_of_both}
use Rattle.house_rows.specs.Fits.{FeedbackFits}
use Rattle.house_rows.specs.Taken.{FitWhere}
use Rattle.house_rows.specs.Ratings.{feedback_key}
use Rattle.house_rows.specs.declared.talk.Feedback.{Feedback}
use Rattle.house_rows.proofs.Put.{by_test}
use Rattle.store_rows.specs.House.{IsHouse}
use Rattle.store_rows.specs.Plain.{passes, shown_by}
use Rattle.store_rows.specs.Rows.{number_in, is_rating, feedback_in, feedback_of, one_feedback_in}
use Rattle.store_rows.specs.Sorted.{sorted_feedback}
use Rattle.store_rows.proofs.Found.{some_counted}
use Rattle.store_rows.proofs.RowLemmas.{equals_number, filter_same_on, two}
use Rattle.store_rows.proofs.Select.{in_order, listed, by_rowid}
use Rattle.store_rows.proofs.Sorting.{count-sorted}
use Rattle.store_talk.specs.Taken.{has_feedback_key}
use Rattle.store_talk.proofs.TalkMeaning.{given_by, is_given_is, is_given_text, talk_shown}
use Rattle.store_talk.proofs.TalkReads.{IsTalk, are_feedback}

-- what fits has the item that is stored
rated : (is : Bool) (n : ℕ) → cond is n (2 ^ 64) ≤ 1000000 → cond is n (2 ^ 64) ≡ n
rated true n low = refl
rated false n low = absurd (omega (arith, low))

-- what gives an item of ours has it stored
unrated : (is : Bool) (n item : ℕ) (by : Bool) → item < 2 ^ 32 → (eqb n item && by) ≡ false → (eqb (cond is n (2 ^ 64)) item && by) ≡ false
unrated true n item by low none = none
unrated false n item by low none =
    let other : eqb (2 ^ 64) item ≡ false = grind (arith, nat_tests) in
    rw other refl

module _ (item giver : ℕ) (low : item < 2 ^ 32) (small : giver < 2 ^ 32) where
  abbrev params : Row
  params = Int (pos item) ∷ Int (pos giver) ∷ []

  abbrev has_key : Row → Bool
  has_key = has_feedback_key item giver

  abbrev is_by : Feedback → Bool
  is_by f = (f.item == item) && (f.from == giver)

  abbrev show : Row → Row
  show = shown_by talk_shown params

  by_key : (r : Row) → IsTalk r → passes given_by params r ≡ has_key r
  by_key r is = rw (equals_number (column r 1) item is.first low, equals_number (column r 2) giver is.second small) (two (eqb (number_in (column r 1)) item) (eqb (number_in (column r 2)) giver))

  fitting : (r : Row) → FeedbackFits (feedback_of (show r)) → is_by (one_feedback_in r) ≡ has_key r
  fitting r fits = ap (λ n. eqb n item && eqb (number_in (column r 2)) giver) (rated (is_rating (column r 4)) (number_in (column r 1)) fits.item.1)

  other : (r : Row) → has_key r ≡ false → is_by (one_feedback_in r) ≡ false
  other r none = unrated (is_rating (column r 4)) (number_in (column r 1)) item (eqb (number_in (column r 2)) giver) low none

  -- the first of the rows with the key, as it is reported
  abbrev FirstFits : List Row → Type 0
  FirstFits rows = IfSome (option_map feedback_of (slice_get rows 0)) FeedbackFits

  abbrev kept : List Row → List Row
  kept table = map show (filter has_key table)

  is_there : (table : List Row) → is_some (option_map feedback_of (slice_get (kept table) 0)) ≡ list_any has_key table
  is_there [] = refl
  is_there (r ∷ table) =
      elim (by_test (has_key r)) [
        | inl is ↦ rw is refl
        | inr others ↦ rw others (is_there table)
      ]

  as_typed : (table : List Row) → FirstFits (kept table) → list_any has_key table ≡ list_any is_by (map one_feedback_in table)
  as_typed [] fits = refl
  as_typed (r ∷ table) fits =
      elim (by_test (has_key r)) [
        | inl is ↦ (let fit : FeedbackFits (feedback_of (show r)) = rw is at fits in
            ap (λ b. b || list_any has_key table) is ∙ sym (ap (λ b. b || list_any is_by (map one_feedback_in table)) (fitting r fit ∙ is)))
        | inr others ↦ ap₂ ◌||◌ (others ∙ sym (other r others)) (as_typed table (rw others at fits))
      ]

  -- a row with the key is the giver's
  by_giver : (r : Row) → has_key r ≡ true → ((one_feedback_in r).from == giver) ≡ true
  by_giver r is = second_of_both (eqb (number_in (column r 1)) item) _ is

  first_here : (table : List Row) → AllByRecursion (λ f. (f.from == giver) ≡ true → FeedbackFits f) (map one_feedback_in table) → FirstFits (kept table)
  first_here [] fits = tt
  first_here (r ∷ table) fits =
      elim (by_test (has_key r)) [
        | inl is ↦ rw is (fits.0 (by_giver r is))
        | inr others ↦ rw others (first_here table fits.1)
      ]

  module _ (old new : State) (answer : List Row) (house : IsHouse old.now) (h : Shown is_given_text params old new answer) where
    abbrev table : List Row
    table = old.now.trees 14

    answer_is : answer ≡ kept table
    answer_is =
        let read = reads_as is_given_text params old new _ house.schema _ (is_given_is _).0 (is_given_is _).2 (is_given_is _).1 answer h in
        let order = in_order given_by talk_shown params table answer house.shaped.1.1.1.1.1.1.1.1.0.0 (listed 14 given_by talk_shown by_rowid (overlay old.now.trees []) params answer (read.answer Null)) in
        order ∙ ap (map show) (filter_same_on IsTalk (passes given_by params) has_key by_key table (are_feedback old.now house))

    pub key_found : is_some (option_map feedback_of (slice_get answer 0)) ≡ list_any has_key table
    key_found = ap (λ rows. is_some (option_map feedback_of (slice_get rows 0))) answer_is ∙ is_there table

    pub feedback_found : FirstFits answer → is_some (option_map feedback_of (slice_get answer 0)) ≡ list_any is_by (sorted_feedback old.now.trees)
    feedback_found fits =
        let typed = as_typed table (rw answer_is at fits) in
        let counts = ap (λ n. not (n == 0)) (count-sorted feedback_key is_by (feedback_in old.now.trees)) in
        key_found ∙ typed ∙ sym (some_counted is_by (feedback_in old.now.trees)) ∙ sym counts ∙ some_counted is_by (sorted_feedback old.now.trees)

    -- where all of the giver's fit
    pub given_here : FitWhere (λ f. f.from == giver) FeedbackFits (feedback_in old.now.trees) → FirstFits answer
    given_here fits = rw answer_is (first_here table fits)
