-- What the lists of feedback mean and find.
use Rattle.std.proofs.Common.{◌≡◌, ◌≤◌, ◌^◌, ℕ, Bool, true, false, not, cond, List, [], ◌∷◌, map, filter, codes, refl, subst, arith}
use Rattle.std.specs.List.{AllByRecursion}
use Rattle.sqlite_value.specs.declared.value.Value.TheVariants.{Null}
use Rattle.sqlite_value.specs.Keys as keys
use Rattle.sqlite_value.specs.Order.{Row, column}
use Rattle.sqlite_schema.specs.Rules.{clashes}
use Rattle.sqlite_schema.specs.declared.schema.Constraint.TheVariants.{Unique}
use Rattle.sqlite_catalog.specs.Listing.{IsSound}
use Rattle.sqlite_sql.specs.Term.{Term}
use Rattle.sqlite_sql.specs.Program.{overlay}
use Rattle.sqlite_keyed.proofs.ListLemmas.{all-filter, all_of, all_unmap, all_weaker, filter_all}
use Rattle.sqlite_keyed.proofs.RuleLemmas.{first_of_both}
use Rattle.sqlite.specs.Command.TheVariants.{Select}
use Rattle.sqlite.specs.Effect.{Database}
use Rattle.sqlite.specs.Listing.{understood, reads_listing}
use Rattle.sqlite.specs.State.{State, Shown}
use Rattle.sqlite.proofs.Callers.{IsPlain, command_of, reads_as}
use Rattle.sqlite_tied.specs.Compute.{everything}
use Rattle.house_rows.specs.Fits.{FeedbackFits}
use Rattle.house_rows.specs.Ratings.{feedback_key}
use Rattle.house_rows.specs.declared.talk.Feedback.{Feedback}
use Rattle.store_rows.specs.Schema.{house_by}
use Rattle.store_rows.specs.House.{IsHouse}
use Rattle.store_rows.specs.Plain.{plain_query, passes}
use Rattle.store_rows.specs.Rows.{number_in, is_rating, feedback_of, one_feedback_in, feedback_in}
use Rattle.store_rows.proofs.Select.{IsListOf, listed}
use Rattle.store_talk.proofs.TalkMeaning.{talk_shown}
use Rattle.store_talk.proofs.TalkReads.{IsTalk, are_feedback}
use Rattle.store_rows.specs.Sorted.{sorted_feedback}
use Rattle.store_rows.proofs.Apart.{keys_apart}
use Rattle.store_rows.proofs.PairKeys.{HasPair, pair_agrees, pair_rises, two_columns}
use Rattle.store_rows.proofs.Shown.{kept_fits, shown_fits, rows_by_key}

-- ---- the queries

abbrev feedback_names : List (List ℕ)
feedback_names = codes "item" ∷ codes "giver" ∷ codes "receiver" ∷ codes "rating" ∷ codes "body" ∷ []

-- a query over the feedback
abbrev pub AsksFeedback : List ℕ → List Term → Type 0
AsksFeedback sql test = (b : Bool) → (command_of (understood (house_by b) sql) ≡ Select (record { lets = []; body = plain_query 14 test talk_shown two_columns }) feedback_names)
    × (reads_listing (house_by b) sql ≡ false) × IsPlain (understood (house_by b) sql)

abbrev pub all_feedback_text : List ℕ
all_feedback_text = codes "SELECT item, giver, receiver, rating, body FROM feedback ORDER BY item, giver"

pub all_feedback_is : AsksFeedback all_feedback_text []
unfolding understood everything
all_feedback_is b = (refl, refl, (refl, refl))

-- ---- the keys

abbrev Fits : Row → Type 0
Fits r = FeedbackFits (one_feedback_in r)

abbrev Pair : Row → Type 0
Pair r = HasPair (feedback_key (one_feedback_in r)) r

-- an item that fits has a rating
rated : (is : Bool) (n : ℕ) → cond is n (2 ^ 64) ≤ 1000000 → cond is n (2 ^ 64) ≡ n
rated true n low = refl
rated false n low = absurd (omega (arith, low))

has_pair : (r : Row) → Fits r → Pair r
has_pair r fits =
    let item : (one_feedback_in r).item ≡ number_in (column r 1) = rated (is_rating (column r 4)) (number_in (column r 1)) fits.item.1 in
    record { is = cc; first = omega (arith, item, fits.item.1); second = omega (arith, fits.from.1) }

pub unique : (db : Database) → IsHouse db → AllByRecursion (λ s. not (clashes keys.plain (1 ∷ 2 ∷ []) (db.trees 14) s) ≡ true) (db.trees 14)
unique db house =
    let rows = db.trees 14 in
    let sound = subst (λ h. IsSound h db.trees) house.schema house.sound in
    all_weaker _ (λ s. not (clashes keys.plain (1 ∷ 2 ∷ []) rows s) ≡ true) (λ s h. first_of_both (not (clashes keys.plain (1 ∷ 2 ∷ []) rows s)) _ h) rows (sound.obeys.rules Unique).1.1.1.1.1.1.1.1.0

-- ---- what is found

module _ (test : List Term) (params : Row) (sql : List ℕ) (is : AsksFeedback sql test) (old new : State) (answer : List Row) (house : IsHouse old.now) (h : Shown sql params old new answer) where
  abbrev table : List Row
  table = old.now.trees 14

  listing : IsListOf table test talk_shown two_columns params answer
  listing = listed 14 test talk_shown two_columns (overlay old.now.trees []) params answer ((reads_as sql params old new _ house.schema _ (is _).0 (is _).2 (is _).1 answer h).answer Null)

  pub feedback_fit : AllByRecursion FeedbackFits (feedback_in old.now.trees) → AllByRecursion FeedbackFits (map feedback_of answer)
  feedback_fit fits =
      shown_fits test talk_shown two_columns params table answer listing feedback_of one_feedback_in (λ r. refl) FeedbackFits
      (all-filter Fits (passes test params) table (all_unmap FeedbackFits one_feedback_in table fits))

  pub feedback_shown : (keep : Feedback → Bool) → ((r : Row) → IsTalk r → passes test params r ≡ keep (one_feedback_in r)) → AllByRecursion FeedbackFits (map feedback_of answer)
      → map feedback_of answer ≡ filter keep (sorted_feedback old.now.trees)
  feedback_shown keep tests fits =
      let fit = kept_fits test talk_shown two_columns params table answer listing feedback_of one_feedback_in (λ r. refl) FeedbackFits fits in
      let pairs = all_weaker Fits Pair has_pair (filter (passes test params) table) fit in
      rows_by_key test talk_shown two_columns params table answer listing feedback_key one_feedback_in feedback_of keep IsTalk Pair (λ r. refl) tests (are_feedback old.now house)
      (pair_rises feedback_key one_feedback_in test talk_shown params) pairs
      (keys_apart feedback_key one_feedback_in (1 ∷ 2 ∷ []) Pair (pair_agrees feedback_key one_feedback_in) table house.shaped.1.1.1.1.1.1.1.1.0 (unique old.now house) (passes test params) pairs)

-- all of it
pub everything_passes : (xs : List Feedback) → filter (λ f. true) xs ≡ xs
everything_passes xs = filter_all (λ f. true) xs (all_of (λ f. true ≡ true) (λ f. refl) xs)
