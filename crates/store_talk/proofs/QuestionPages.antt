-- What the pages of questions mean and find.
use Rattle.std.proofs.Common.{◌≡◌, ◌==◌, ◌≤◌, ◌<◌, ◌^◌, ◌&&◌, ℕ, pos, Bool, true, false, not, List, [], ◌∷◌, length, map, filter, take, codes, eqb, refl, sym, ap, subst, ◌∙◌, arith, inl, inr, is_eq, Less, Equal, true≢false}
use Rattle.std.specs.Prelude.{is_some, nat_le, nat_lt}
use Rattle.std.specs.List.{AllByRecursion}
use Rattle.std.specs.Ordering.{ordering_then}
use Rattle.std.proofs.lemmas.Bool.Decides.{nat_tests}
use Rattle.std.proofs.lemmas.List.{length-map, take-map}
use Rattle.std.proofs.lemmas.List.Sorted.{IsPermutation-sym}
use Rattle.sqlite_value.specs.declared.value.Value.TheVariants.{Int}
use Rattle.sqlite_value.specs.declared.keys.Key.{Key as Sorting}
use Rattle.sqlite_value.specs.Keys as keys
use Rattle.sqlite_value.specs.Keys.{first_key}
use Rattle.sqlite_value.specs.Order.{Row, column, value_cmp}
use Rattle.sqlite_schema.specs.Rules.{agree}
use Rattle.sqlite_sql.specs.Query.{output_cmp}
use Rattle.sqlite_trees.specs.Tree.{Trees}
use Rattle.sqlite_keyed.proofs.ListLemmas.{all-filter, all_both, all_map, all_unmap, all_weaker}
use Rattle.sqlite_keyed.proofs.RuleLemmas.{first_of_both}
use Rattle.sqlite_tied.specs.Compute.{everything}
use Rattle.sqlite.specs.Listing.{understood}
use Rattle.sqlite.specs.State.{State, Shown}
use Rattle.sqlite.specs.Term.{Term, col}
use Rattle.house_rows.specs.Changed.{question_key}
use Rattle.house_rows.specs.Fits.{QuestionFits}
use Rattle.house_rows.specs.Found as found
use Rattle.house_rows.specs.History.{is_less}
use Rattle.house_rows.specs.Taken.{FirstFit, is_near}
use Rattle.house_rows.specs.declared.talk.Question.{Question}
use Rattle.house_rows.proofs.Put.{by_test}
use Rattle.store_rows.specs.House.{IsHouse}
use Rattle.store_rows.specs.Plain.{plain_query, passes}
use Rattle.store_rows.specs.Rows.{maybe_text_in, number_in, question_in, question_of, questions_in}
use Rattle.store_rows.specs.Schema.{house_by}
use Rattle.store_rows.proofs.RowLemmas.{equals_number, passing_fit}
use Rattle.store_rows.proofs.Select.{equals}
use Rattle.store_talk.specs.Texts.{published_text, stray_askers_text, questions_text, stray_asked_text}
use Rattle.store_talk.proofs.TalkMeaning.{question_shown}
use Rattle.store_talk.proofs.TalkReads.{IsTalk, are_questions}
use Rattle.store_rows.proofs.Update.{numbered_passes}
use Rattle.store_rows.specs.Sorted.{sorted_by, sorted_questions}
use Rattle.store_rows.specs.Tables.{tables_in}
use Rattle.store_rows.proofs.ByKey.{by_columns}
use Rattle.store_talk.proofs.QuestionLists.{waiting_test, asker_low, item_low, place_low, unique}
use Rattle.store_talk.proofs.QuestionMeaning.{question_order, waiting_on_is, waiting_on_text, waits, was_answered}
use Rattle.store_rows.proofs.Grouped.{firsts_rise}
use Rattle.store_rows.proofs.Shown.{moved, output_row, shown_fits}
use Rattle.store_rows.proofs.Sorting.{filter-sorted, sorted_in_order, sorted_moves}
use Rattle.store_rows.proofs.TextLemmas.{same_number}
use Rattle.store_rows.proofs.Tested.{all-take, filter_both, filter_regrouped, is_there}
use Rattle.store_rows.specs.First.{IsFinite, ShowsFirst}
use Rattle.store_rows.proofs.Asked.{Asks, first_passes, from_second, lists, page_passes, under_zero}
use Rattle.store_rows.proofs.Bounds.{bound_of, from_bound}
use Rattle.store_rows.proofs.Compared.{at_least, below_zero, fits_not_negative, is_negative}
use Rattle.store_rows.proofs.Near.{all_near, few_kept, first_near, first_stored, kept_near, none_far, number_most, second_rises}
use Rattle.store_rows.proofs.Firsts.{first_by_key, first_kept, none_passes, some_passes}
use Rattle.store_items.proofs.After.{kept_number}
use Rattle.store_items.proofs.ItemPages.{negative_over}
use Rattle.store_talk.specs.Spoiled.{HasStray}
use Rattle.store_talk.specs.Waiting.{WaitingFit}
use Rattle.store_talk.proofs.Full.{Rises, fewer, is_low, kept_all, negative_high, none_both, page_low, same_first, same_low, seconds_rise, so_many_rows}
use Rattle.store_rows.proofs.Ties.{none_tie, second_fixed_rise, three_rise, tied_equal, ties_of_three}

-- ---- the queries

-- ORDER BY asker, item, n
abbrev pub by_asker : List (Term × Sorting)
by_asker = by_columns (2 ∷ 1 ∷ 3 ∷ [])

abbrev question_names : List (List ℕ)
question_names = codes "item" ∷ codes "asker" ∷ codes "n" ∷ codes "answer" ∷ codes "body" ∷ []

abbrev published_test : List Term
published_test = equals 1 ∷ was_answered ∷ from_second 2 ∷ []

abbrev questions_test : List Term
questions_test = equals 2 ∷ from_second 1 ∷ []

abbrev stray_askers : List Term
stray_askers = equals 1 ∷ was_answered ∷ under_zero 2 ∷ []

abbrev stray_asked : List Term
stray_asked = equals 2 ∷ under_zero 1 ∷ []

pub published_is : Asks published_text 12 published_test question_shown question_order question_names
unfolding understood everything
published_is b = (refl, refl, (refl, refl))

pub published_finite : (b : Bool) → IsFinite (understood (house_by b) published_text)
unfolding understood everything
published_finite b = refl

pub stray_askers_is : Asks stray_askers_text 12 stray_askers (col 1 2 ∷ []) question_order (codes "asker" ∷ [])
unfolding understood everything
stray_askers_is b = (refl, refl, (refl, refl))

pub stray_askers_finite : (b : Bool) → IsFinite (understood (house_by b) stray_askers_text)
unfolding understood everything
stray_askers_finite b = refl

pub questions_is : Asks questions_text 12 questions_test question_shown by_asker question_names
unfolding understood everything
questions_is b = (refl, refl, (refl, refl))

pub questions_finite : (b : Bool) → IsFinite (understood (house_by b) questions_text)
unfolding understood everything
questions_finite b = refl

pub stray_asked_is : Asks stray_asked_text 12 stray_asked (col 1 1 ∷ []) by_asker (codes "item" ∷ [])
unfolding understood everything
stray_asked_is b = (refl, refl, (refl, refl))

pub stray_asked_finite : (b : Bool) → IsFinite (understood (house_by b) stray_asked_text)
unfolding understood everything
stray_asked_finite b = refl

-- ---- the keys

abbrev Fits : Row → Type 0
Fits r = QuestionFits (question_in r)

agree_three : (r s : Row) → IsTalk r → IsTalk s → is_eq (value_cmp (column r 1) (column s 1)) ≡ true → is_eq (value_cmp (column r 2) (column s 2)) ≡ true → is_eq (value_cmp (column r 3) (column s 3)) ≡ true
    → agree keys.plain (1 ∷ 2 ∷ 3 ∷ []) r (1 ∷ 2 ∷ 3 ∷ []) s ≡ true
unfolding first_key
agree_three r s r_is s_is x y z =
    rw (tied_equal (column r 1) (column s 1) r_is.first s_is.first x, tied_equal (column r 2) (column s 2) r_is.second s_is.second y, tied_equal (column r 3) (column s 3) r_is.third s_is.third z) refl

-- ---- what is found

-- rows tie in the order of a query
abbrev tied : List Term → List (Term × Sorting) → Row → Row → Row → Bool
tied test order params r s = is_eq (output_cmp (plain_query 0 test question_shown order) (output_row question_shown order params r) (output_row question_shown order params s))

abbrev rise : List Term → List (Term × Sorting) → Row → Row → Row → Type 0
rise test order params r s = output_cmp (plain_query 0 test question_shown order) (output_row question_shown order params r) (output_row question_shown order params s) ≡ Less

module _ (test : List Term) (order : List (Term × Sorting)) (params : Row) (sql : List ℕ) (is : Asks sql 12 test question_shown order question_names)
    (old new : State) (house : IsHouse old.now) (rows : List Row) (first : ShowsFirst 50 sql params old new rows) where
  abbrev table : List Row
  table = old.now.trees 12

  first_shown : (agrees : (r s : Row) → IsTalk r → IsTalk s → tied test order params r s ≡ true → agree keys.plain (1 ∷ 2 ∷ 3 ∷ []) r (1 ∷ 2 ∷ 3 ∷ []) s ≡ true)
      → (Is : Row → Type 0) → AllByRecursion Is (filter (passes test params) table)
      → ((r s : Row) → Is r → Is s → Fits r → rise test order params r s → is_less (question_key (question_in r)) (question_key (question_in s)) ≡ true)
      → (keep : Question → Bool) (P : Row → Type 0) → ((r : Row) → P r → passes test params r ≡ keep (question_in r)) → AllByRecursion P table
      → AllByRecursion QuestionFits (map question_of rows) → map question_of rows ≡ take 50 (filter keep (sorted_questions old.now.trees))
  first_shown agrees Is are rises keep P tests all_p fits =
      let talk = all-filter IsTalk (passes test params) table (are_questions old.now house) in
      let apart = none_tie (tied test order params) (1 ∷ 2 ∷ 3 ∷ []) IsTalk agrees table house.shaped.1.1.1.1.1.1.1.0 (unique old.now house) (passes test params) talk in
      ap (map question_of) first.are
      ∙ first_by_key test question_shown order params table first.all (lists sql 12 test question_shown order question_names is (λ db. refl) old new params first.all house first.shown)
      question_key question_of question_in (λ r. refl) QuestionFits Is apart are rises keep P tests all_p 50 (subst (λ l. AllByRecursion QuestionFits (map question_of l)) first.are fits)

  -- the same of a full list, where what has no number of ours lies after
  first_full : (agrees : (r s : Row) → IsTalk r → IsTalk s → tied test order params r s ≡ true → agree keys.plain (1 ∷ 2 ∷ 3 ∷ []) r (1 ∷ 2 ∷ 3 ∷ []) s ≡ true)
      → (Is : Row → Type 0) → AllByRecursion Is (filter (passes test params) table)
      → ((r s : Row) → Is r → Is s → Fits r → rise test order params r s → is_less (question_key (question_in r)) (question_key (question_in s)) ≡ true)
      → (number : Question → ℕ) → ((q : Question) → QuestionFits q → is_low number q ≡ true)
      → (keep : Question → Bool) → ((r : Row) → IsTalk r → (passes test params r && is_low number (question_in r)) ≡ (keep (question_in r) && is_low number (question_in r)))
      → Rises number (sorted_by question_key (map question_in (filter (passes test params) table))) → Rises number (filter keep (sorted_questions old.now.trees))
      → AllByRecursion QuestionFits (map question_of rows) → length rows ≡ 50 → map question_of rows ≡ take 50 (filter keep (sorted_questions old.now.trees))
  first_full agrees Is are rises number lows keep tests up also_up fits full =
      let talk = are_questions old.now house in
      let kept = sorted_by question_key (map question_in (filter (passes test params) table)) in
      let apart = none_tie (tied test order params) (1 ∷ 2 ∷ 3 ∷ []) IsTalk agrees table house.shaped.1.1.1.1.1.1.1.0 (unique old.now house) (passes test params) (all-filter IsTalk (passes test params) table talk) in
      let report : map question_of rows ≡ take 50 kept =
      ap (map question_of) first.are
      ∙ first_kept test question_shown order params table first.all (lists sql 12 test question_shown order question_names is (λ db. refl) old new params first.all house first.shown)
      question_key question_of question_in (λ r. refl) QuestionFits Is apart are rises 50 (subst (λ l. AllByRecursion QuestionFits (map question_of l)) first.are fits) in
      report ∙ same_first number 50 kept (filter keep (sorted_questions old.now.trees)) up also_up (same_low number question_key question_in (passes test params) keep IsTalk tests table talk)
      (all_weaker QuestionFits (λ q. is_low number q ≡ true) lows (take 50 kept) (subst (AllByRecursion QuestionFits) report fits))
      (ap length (sym report) ∙ length-map rows question_of ∙ full)

  -- the rows that are shown fit, where those do that the list takes by a number
  questions_near : (agrees : (r s : Row) → IsTalk r → IsTalk s → tied test order params r s ≡ true → agree keys.plain (1 ∷ 2 ∷ 3 ∷ []) r (1 ∷ 2 ∷ 3 ∷ []) s ≡ true)
      → (Is : Row → Type 0) → AllByRecursion Is (filter (passes test params) table)
      → (number : Question → ℕ) → ((r : Row) → number (question_in r) ≤ 2 ^ 64) → ((r s : Row) → Is r → Is s → rise test order params r s → number (question_in r) ≤ number (question_in s))
      → (keep : Question → Bool) → ((r : Row) → IsTalk r → (passes test params r && is_low number (question_in r)) ≡ (keep (question_in r) && is_low number (question_in r)))
      → ((r : Row) → IsTalk r → passes test params r ≡ true → keep (question_in r) ≡ true)
      → FirstFit keep number QuestionFits (questions_in old.now.trees) → AllByRecursion QuestionFits (map question_of rows)
  questions_near agrees Is are number most rises keep tests passing fits =
      let talk = are_questions old.now house in
      let apart = none_tie (tied test order params) (1 ∷ 2 ∷ 3 ∷ []) IsTalk agrees table house.shaped.1.1.1.1.1.1.1.0 (unique old.now house) (passes test params) (all-filter IsTalk (passes test params) table talk) in
      subst (λ l. AllByRecursion QuestionFits (map question_of l)) (sym first.are)
      (first_near test question_shown order params table first.all (lists sql 12 test question_shown order question_names is (λ db. refl) old new params first.all house first.shown)
      question_of question_in (λ r. refl) number (λ q. ⊥) QuestionFits Is apart are (λ r s r_is s_is less. inr (rises r s r_is s_is less)) 50
      (kept_near question_in number keep (passes test params) IsTalk tests (λ q. ⊥) QuestionFits most passing table talk fits (none_far keep QuestionFits (questions_in old.now.trees))))

  -- the rows that are shown fit, where those do that WHERE keeps
  questions_passing : AllByRecursion Fits (filter (passes test params) table) → AllByRecursion QuestionFits (map question_of rows)
  questions_passing fits =
      let listed = lists sql 12 test question_shown order question_names is (λ db. refl) old new params first.all house first.shown in
      subst (λ l. AllByRecursion QuestionFits (map question_of l)) (sym first.are)
      (subst (AllByRecursion QuestionFits) (take-map question_of 50 first.all) (all-take QuestionFits 50 (map question_of first.all)
      (shown_fits test question_shown order params table first.all listed question_of question_in (λ r. refl) QuestionFits fits)))

-- in the order of item, asker and number, rows don't tie, and they rise with their keys
module _ (test : List Term) (params : Row) where
  agrees : (r s : Row) → IsTalk r → IsTalk s → tied test question_order params r s ≡ true → agree keys.plain (1 ∷ 2 ∷ 3 ∷ []) r (1 ∷ 2 ∷ 3 ∷ []) s ≡ true
  agrees r s r_is s_is tie =
      let each = ties_of_three (value_cmp (column r 1) (column s 1)) (value_cmp (column r 2) (column s 2)) (value_cmp (column r 3) (column s 3)) tie in
      agree_three r s r_is s_is each.0 each.1 each.2

  rises : (r s : Row) → IsTalk r → IsTalk s → Fits r → rise test question_order params r s → is_less (question_key (question_in r)) (question_key (question_in s)) ≡ true
  rises r s r_is s_is fits less =
      three_rise (column r 1) (column r 2) (column r 3) (column s 1) (column s 2) (column s 3) (item_low r fits) (asker_low r fits) (place_low r fits) s_is.first s_is.second s_is.third less

-- ---- the questions on an item that wait for an answer

abbrev waiting_terms : List Term
waiting_terms = equals 1 ∷ waits ∷ []

pub waiting_finite : (b : Bool) → IsFinite (understood (house_by b) waiting_on_text)
unfolding understood everything
waiting_finite b = refl

module _ (item : ℕ) (low : item < 2 ^ 32) (old new : State) (house : IsHouse old.now) (rows : List Row) (first : ShowsFirst 50 waiting_on_text (Int (pos item) ∷ []) old new rows) where
  abbrev on_item : Row
  on_item = Int (pos item) ∷ []

  -- a row with a negative asker comes first, so it is among them, and doesn't fit
  pub waiting_shown : AllByRecursion QuestionFits (map question_of rows) → map question_of rows ≡ take 50 (filter (λ q. (q.item == item) && not (is_some q.answer)) (sorted_questions old.now.trees))
  waiting_shown fits =
      let talk = are_questions old.now house in
      first_shown waiting_terms question_order on_item waiting_on_text waiting_on_is old new house rows first (agrees waiting_terms on_item)
      IsTalk (all-filter IsTalk (passes waiting_terms on_item) (old.now.trees 12) talk) (rises waiting_terms on_item)
      (λ q. (q.item == item) && not (is_some q.answer)) IsTalk (waiting_test item low) talk fits

  pub waiting_kept : WaitingFit old.now.trees item → AllByRecursion QuestionFits (map question_of rows)
  waiting_kept fits =
      questions_passing waiting_terms question_order on_item waiting_on_text waiting_on_is old new house rows first
      (passing_fit question_in QuestionFits (λ q. (q.item == item) && not (is_some q.answer)) IsTalk (passes waiting_terms on_item) (waiting_test item low) (old.now.trees 12) (are_questions old.now house) fits)

abbrev pub asker_of : Question → ℕ
asker_of q = q.asker

abbrev pub item_of : Question → ℕ
item_of q = q.item

asker_is_low : (q : Question) → QuestionFits q → is_low asker_of q ≡ true
asker_is_low q fit = let low = fit.asker.1 in grind (arith, nat_tests, low)

item_is_low : (q : Question) → QuestionFits q → is_low item_of q ≡ true
item_is_low q fit = let low = fit.item.1 in grind (arith, nat_tests, low)

-- ---- the published questions on an item

published_bits : (a b negative over : Bool) → (a && (b && (negative && true))) ≡ false → (a && (b && ((not negative && over) && true))) ≡ ((a && b) && over)
published_bits true true true over none = absurd (true≢false none)
published_bits true true false true none = refl
published_bits true true false false none = refl
published_bits true false negative over none = refl
published_bits false b negative over none = refl

published_low : (a b negative over low : Bool) → (negative ≡ true → low ≡ false) → ((a && (b && ((not negative && over) && true))) && low) ≡ (((a && b) && over) && low)
published_low a b true over low high = rw (high refl) (none_both (a && (b && ((false && over) && true))) ((a && b) && over))
published_low true true false true low high = refl
published_low true true false false low high = refl
published_low true false false over low high = refl
published_low false b false over low high = refl

published_kept : (a b negative over : Bool) → (a && (b && ((not negative && over) && true))) ≡ true → ((a && b) && over) ≡ true
published_kept true true false true is = refl
published_kept true true false false is = is
published_kept true true true over is = absurd (true≢false (sym is))
published_kept true false negative over is = is
published_kept false b negative over is = is

published_up : (a b negative over : Bool) → (a && (b && ((not negative && over) && true))) ≡ true → negative ≡ false
published_up a b false over is = refl
published_up true true true over is = absurd (true≢false (sym is))
published_up true false true over is = absurd (true≢false (sym is))
published_up false b true over is = absurd (true≢false (sym is))

published_stray : (a b negative over : Bool) → (negative ≡ true → over ≡ true) → (a && (b && (negative && true))) ≡ true → (negative ≡ true) × (((a && b) && over) ≡ true)
published_stray true true true over so is = (refl, so refl)
published_stray true true false over so is = absurd (true≢false (sym is))
published_stray true false negative over so is = absurd (true≢false (sym is))
published_stray false b negative over so is = absurd (true≢false (sym is))

asked_kept : (a negative over : Bool) → (a && ((not negative && over) && true)) ≡ true → (a && over) ≡ true
asked_kept true false true is = refl
asked_kept true false false is = is
asked_kept true true over is = absurd (true≢false (sym is))
asked_kept false negative over is = is

asked_up : (a negative over : Bool) → (a && ((not negative && over) && true)) ≡ true → negative ≡ false
asked_up a false over is = refl
asked_up true true over is = absurd (true≢false (sym is))
asked_up false true over is = absurd (true≢false (sym is))

asked_stray : (a negative over : Bool) → (negative ≡ true → over ≡ true) → (a && (negative && true)) ≡ true → (negative ≡ true) × ((a && over) ≡ true)
asked_stray true true over so is = (refl, so refl)
asked_stray true false over so is = absurd (true≢false (sym is))
asked_stray false negative over so is = absurd (true≢false (sym is))

abbrev pub keeps_published : ℕ → ℕ → Question → Bool
keeps_published item from q = ((q.item == item) && is_some q.answer) && nat_le from q.asker

kept_on : (item from : ℕ) (q : Question) → keeps_published item from q ≡ true → q.item ≡ item
kept_on item from q p = same_number q.item item (first_of_both (q.item == item) (is_some q.answer) (first_of_both ((q.item == item) && is_some q.answer) (nat_le from q.asker) p))

module _ (item from : ℕ) (low : item < 2 ^ 32) (small : from < 2 ^ 32) (old new : State) (house : IsHouse old.now) where
  abbrev here : Row
  here = Int (pos item) ∷ []

  abbrev params : Row
  params = Int (pos item) ∷ Int (pos from) ∷ []

  abbrev asked : List Row
  asked = old.now.trees 12

  abbrev IsNoStray : Row → Type 0
  IsNoStray r = IsTalk r × (passes stray_askers here r ≡ false)

  stray_is : (r : Row) → IsTalk r → passes stray_askers here r ≡ (eqb (number_in (column r 1)) item && (is_some (maybe_text_in (column r 5)) && (is_negative (column r 2) && true)))
  stray_is r is = rw (equals_number (column r 1) item is.first low, is_there (column r 5), below_zero (column r 2) is.second) refl

  passing : (r : Row) → IsNoStray r → passes published_test params r ≡ keeps_published item from (question_in r)
  passing r is =
      rw (equals_number (column r 1) item is.0.first low, is_there (column r 5), at_least (column r 2) from is.0.second small)
      (published_bits (eqb (number_in (column r 1)) item) (is_some (maybe_text_in (column r 5))) (is_negative (column r 2)) (nat_le from (number_in (column r 2))) (sym (stray_is r is.0) ∙ is.1))

  low_passing : (r : Row) → IsTalk r → (passes published_test params r && is_low asker_of (question_in r)) ≡ (keeps_published item from (question_in r) && is_low asker_of (question_in r))
  low_passing r is =
      rw (equals_number (column r 1) item is.first low, is_there (column r 5), at_least (column r 2) from is.second small)
      (published_low (eqb (number_in (column r 1)) item) (is_some (maybe_text_in (column r 5))) (is_negative (column r 2)) (nat_le from (number_in (column r 2))) (nat_lt (number_in (column r 2)) (2 ^ 64)) (negative_high (column r 2)))

  -- the questions that WHERE keeps are on the item
  are_here : AllByRecursion (λ (q : Question). q.item ≡ item) (map question_in (filter (passes published_test params) asked))
  are_here =
      all_map (λ (q : Question). q.item ≡ item) question_in (filter (passes published_test params) asked)
      (all_both IsTalk (λ r. passes published_test params r ≡ true) (λ r. number_in (column r 1) ≡ item) (λ r is p. kept_number 1 item low (was_answered ∷ from_second 2 ∷ []) (Int (pos from) ∷ []) r is.first p) (filter (passes published_test params) asked)
      (all-filter IsTalk (passes published_test params) asked (are_questions old.now house)) (numbered_passes (passes published_test params) asked))

  published_full : (rows : List Row) → ShowsFirst 50 published_text params old new rows → length rows ≡ 50 → AllByRecursion QuestionFits (map question_of rows)
      → map question_of rows ≡ take 50 (filter (λ q. (q.item == item) && nat_le from q.asker) (filter (λ q. is_some q.answer) (sorted_questions old.now.trees)))
  published_full rows first full fits =
      let talk = are_questions old.now house in
      let kept = map question_in (filter (passes published_test params) asked) in
      let keep = keeps_published item from in
      let typed = questions_in old.now.trees in
      let on_item : AllByRecursion (λ (q : Question). q.item ≡ item) (filter keep typed) = kept_all keep (λ (q : Question). q.item ≡ item) (kept_on item from) typed in
      let up = seconds_rise question_key item (sorted_by question_key kept) (moved (λ (q : Question). q.item ≡ item) kept (sorted_by question_key kept) (IsPermutation-sym (sorted_by question_key kept) kept (sorted_moves question_key kept)) are_here) (sorted_in_order question_key kept) in
      let also_up = seconds_rise question_key item (sorted_by question_key (filter keep typed)) (moved (λ (q : Question). q.item ≡ item) (filter keep typed) (sorted_by question_key (filter keep typed)) (IsPermutation-sym (sorted_by question_key (filter keep typed)) (filter keep typed) (sorted_moves question_key (filter keep typed))) on_item) (sorted_in_order question_key (filter keep typed)) in
      let shown = first_full published_test question_order params published_text published_is old new house rows first (agrees published_test params) IsTalk (all-filter IsTalk (passes published_test params) asked talk) (rises published_test params)
      asker_of asker_is_low keep low_passing up (subst (Rises asker_of) (sym (filter-sorted question_key keep typed)) also_up) fits full in
      shown ∙ ap (take 50) (sym (filter_both (λ q. (q.item == item) && is_some q.answer) (λ q. nat_le from q.asker) (sorted_questions old.now.trees))
      ∙ filter_regrouped (λ q. q.item == item) (λ q. is_some q.answer) (λ q. nat_le from q.asker) (sorted_questions old.now.trees))

  published_shown : (rows : List Row) → Shown stray_askers_text here old new [] → ShowsFirst 50 published_text params old new rows → AllByRecursion QuestionFits (map question_of rows)
      → map question_of rows ≡ take 50 (filter (λ q. (q.item == item) && nat_le from q.asker) (filter (λ q. is_some q.answer) (sorted_questions old.now.trees)))
  published_shown rows none first fits =
      let no_stray = none_passes stray_askers (col 1 2 ∷ []) question_order here asked [] (lists stray_askers_text 12 stray_askers (col 1 2 ∷ []) question_order _ stray_askers_is (λ db. refl) old new here [] house none) refl in
      let talk = are_questions old.now house in
      let shown = first_shown published_test question_order params published_text published_is old new house rows first (agrees published_test params) IsTalk (all-filter IsTalk (passes published_test params) asked talk) (rises published_test params)
      (keeps_published item from) IsNoStray passing (all_both IsTalk (λ r. passes stray_askers here r ≡ false) IsNoStray (λ r is no. (is, no)) asked talk no_stray) fits in
      shown ∙ ap (take 50) (sym (filter_both (λ q. (q.item == item) && is_some q.answer) (λ q. nat_le from q.asker) (sorted_questions old.now.trees))
      ∙ filter_regrouped (λ q. q.item == item) (λ q. is_some q.answer) (λ q. nat_le from q.asker) (sorted_questions old.now.trees))

  pub published_either : (rows : List Row) → (length rows < 50 → Shown stray_askers_text here old new []) → ShowsFirst 50 published_text params old new rows → AllByRecursion QuestionFits (map question_of rows)
      → map question_of rows ≡ take 50 (filter (λ q. (q.item == item) && nat_le from q.asker) (filter (λ q. is_some q.answer) (sorted_questions old.now.trees)))
  published_either rows none first fits =
      elim (by_test (nat_lt (length rows) 50)) [
        | inl few ↦ published_shown rows (none (fewer (length rows) 50 few)) first fits
        | inr many ↦ published_full rows first (so_many_rows 50 rows first.all first.are many) fits
      ]

  -- what the list takes fits
  passes_is : (r : Row) → IsTalk r
      → passes published_test params r ≡ (eqb (number_in (column r 1)) item && (is_some (maybe_text_in (column r 5)) && ((not (is_negative (column r 2)) && nat_le from (number_in (column r 2))) && true)))
  passes_is r is = rw (equals_number (column r 1) item is.first low, is_there (column r 5), at_least (column r 2) from is.second small) refl

  kept_passing : (r : Row) → IsTalk r → passes published_test params r ≡ true → keeps_published item from (question_in r) ≡ true
  kept_passing r is p =
      published_kept (eqb (number_in (column r 1)) item) (is_some (maybe_text_in (column r 5))) (is_negative (column r 2)) (nat_le from (number_in (column r 2))) (sym (passes_is r is) ∙ p)

  -- a row that WHERE keeps is on the item, and its asker is not negative
  abbrev IsOn : Row → Type 0
  IsOn r = IsTalk r × (number_in (column r 1) ≡ item) × (is_negative (column r 2) ≡ false)

  is_on : (r : Row) → IsTalk r → passes published_test params r ≡ true → IsOn r
  is_on r is p = (
    is,
    kept_number 1 item low (was_answered ∷ from_second 2 ∷ []) (Int (pos from) ∷ []) r is.first p,
    published_up (eqb (number_in (column r 1)) item) (is_some (maybe_text_in (column r 5))) (is_negative (column r 2)) (nat_le from (number_in (column r 2))) (sym (passes_is r is) ∙ p),
  )

  are_on : AllByRecursion IsOn (filter (passes published_test params) asked)
  are_on =
      all_both IsTalk (λ r. passes published_test params r ≡ true) IsOn is_on (filter (passes published_test params) asked)
      (all-filter IsTalk (passes published_test params) asked (are_questions old.now house)) (numbered_passes (passes published_test params) asked)

  askers_rise : (r s : Row) → IsOn r → IsOn s → rise published_test question_order params r s → asker_of (question_in r) ≤ asker_of (question_in s)
  askers_rise r s r_is s_is less =
      let fixed : number_in (column r 1) < 2 ^ 32 = rw r_is.1 low in
      second_rises (column r 1) (column r 2) (column s 1) (column s 2) (ordering_then (value_cmp (column r 3) (column s 3)) Equal) fixed s_is.0.first r_is.0.second s_is.0.second r_is.2 (r_is.1 ∙ sym s_is.1) less

  pub published_near : (rows : List Row) → ShowsFirst 50 published_text params old new rows → FirstFit (keeps_published item from) asker_of QuestionFits (questions_in old.now.trees)
      → AllByRecursion QuestionFits (map question_of rows)
  published_near rows first fits =
      questions_near published_test question_order params published_text published_is old new house rows first (agrees published_test params) IsOn are_on asker_of (λ r. number_most (column r 2)) askers_rise
      (keeps_published item from) low_passing kept_passing fits

  abbrev IsTaken : Question → Type 0
  IsTaken q = keeps_published item from q ≡ true → is_near (keeps_published item from) asker_of (questions_in old.now.trees) q ≡ true → QuestionFits q

  taken_no_stray : length (filter (passes published_test params) asked) < 50 → (r : Row) → IsTalk r → IsTaken (question_in r) → passes stray_askers here r ≡ false
  taken_no_stray few r is fit =
      elim (by_test (passes stray_askers here r)) [
        | inr none ↦ none
        | inl stray ↦ (let both = published_stray (eqb (number_in (column r 1)) item) (is_some (maybe_text_in (column r 5))) (is_negative (column r 2)) (nat_le from (number_in (column r 2))) (negative_over (column r 2) from small) (sym (stray_is r is) ∙ stray) in
            let near = all_near question_in asker_of (keeps_published item from) (passes published_test params) IsTalk low_passing asked (are_questions old.now house) (question_in r) (number_most (column r 2)) few in
            absurd (true≢false (sym both.0 ∙ fits_not_negative (column r 2) (asker_low r (fit both.1 near)))))
      ]

  pub no_stray_taken : (end : State) → HasStray published_text params stray_askers_text here old end → FirstFit (keeps_published item from) asker_of QuestionFits (questions_in old.now.trees) → ⊥
  no_stray_taken end stray fits =
      let listed = lists published_text 12 published_test question_shown question_order question_names published_is (λ db. refl) old end params stray.first.all house stray.first.shown in
      let few = few_kept published_test question_shown question_order params asked stray.first.all listed stray.rows stray.first.are stray.few in
      some_passes stray_askers (col 1 2 ∷ []) question_order here asked (stray.some.first ∷ stray.some.others)
      (lists stray_askers_text 12 stray_askers (col 1 2 ∷ []) question_order _ stray_askers_is (λ db. refl) old end here _ house stray.some.shown) stray.some.first stray.some.others refl
      (all_both IsTalk (λ r. IsTaken (question_in r)) (λ r. passes stray_askers here r ≡ false) (taken_no_stray few) asked (are_questions old.now house) (all_unmap IsTaken question_in asked fits))

asker_small : (q : Question) → QuestionFits q → q.asker < 4294967295
asker_small q fit = omega (arith, fit.asker.1)

pub published_found : (item from : ℕ) (db : Trees) → AllByRecursion QuestionFits (take 50 (filter (λ q. (q.item == item) && nat_le (bound_of from) q.asker) (filter (λ q. is_some q.answer) (sorted_questions db))))
    → take 50 (filter (λ q. (q.item == item) && nat_le (bound_of from) q.asker) (filter (λ q. is_some q.answer) (sorted_questions db))) ≡ found.published_on (tables_in db) item from
unfolding tables_in
published_found item from db fits = from_bound (λ (q : Question). q.item == item) (λ (q : Question). q.asker) QuestionFits asker_small from (filter (λ q. is_some q.answer) (sorted_questions db)) fits

-- ---- the questions of a member

module _ (asker from : ℕ) (low : asker < 2 ^ 32) (small : from < 2 ^ 32) (old new : State) (house : IsHouse old.now) where
  abbrev of_asker : Row
  of_asker = Int (pos asker) ∷ []

  abbrev with_from : Row
  with_from = Int (pos asker) ∷ Int (pos from) ∷ []

  abbrev all_asked : List Row
  all_asked = old.now.trees 12

  abbrev HasNoStray : Row → Type 0
  HasNoStray r = IsTalk r × (passes stray_asked of_asker r ≡ false)

  -- a question of the asker
  abbrev IsOf : Row → Type 0
  IsOf r = IsTalk r × (number_in (column r 2) ≡ asker)

  are_of : AllByRecursion IsOf (filter (passes questions_test with_from) all_asked)
  are_of =
      all_both IsTalk (λ r. passes questions_test with_from r ≡ true) IsOf (λ r is p. (is, first_passes 2 1 asker low r is.second is.first from p)) (filter (passes questions_test with_from) all_asked)
      (all-filter IsTalk (passes questions_test with_from) all_asked (are_questions old.now house)) (numbered_passes (passes questions_test with_from) all_asked)

  asker_agrees : (r s : Row) → IsTalk r → IsTalk s → tied questions_test by_asker with_from r s ≡ true → agree keys.plain (1 ∷ 2 ∷ 3 ∷ []) r (1 ∷ 2 ∷ 3 ∷ []) s ≡ true
  asker_agrees r s r_is s_is tie =
      let each = ties_of_three (value_cmp (column r 2) (column s 2)) (value_cmp (column r 1) (column s 1)) (value_cmp (column r 3) (column s 3)) tie in
      agree_three r s r_is s_is each.1 each.0 each.2

  asker_rises : (r s : Row) → IsOf r → IsOf s → Fits r → rise questions_test by_asker with_from r s → is_less (question_key (question_in r)) (question_key (question_in s)) ≡ true
  asker_rises r s r_is s_is fits less =
      second_fixed_rise (column r 1) (column r 2) (column r 3) (column s 1) (column s 2) (column s 3) (item_low r fits) (asker_low r fits) (place_low r fits) s_is.0.first s_is.0.second s_is.0.third (r_is.1 ∙ sym s_is.1) less

  asked_low : (r : Row) → IsTalk r → (passes questions_test with_from r && is_low item_of (question_in r)) ≡ (((question_in r).asker == asker) && nat_le from (question_in r).item) && is_low item_of (question_in r)
  asked_low r is =
      rw (equals_number (column r 2) asker is.second low, at_least (column r 1) from is.first small)
      (page_low (eqb (number_in (column r 2)) asker) (is_negative (column r 1)) (nat_le from (number_in (column r 1))) (nat_lt (number_in (column r 1)) (2 ^ 64)) (negative_high (column r 1)))

  questions_full : (rows : List Row) → ShowsFirst 50 questions_text with_from old new rows → length rows ≡ 50 → AllByRecursion QuestionFits (map question_of rows)
      → map question_of rows ≡ take 50 (filter (λ q. (q.asker == asker) && nat_le from q.item) (sorted_questions old.now.trees))
  questions_full rows first full fits =
      let kept = map question_in (filter (passes questions_test with_from) all_asked) in
      let keep : Question → Bool = λ q. (q.asker == asker) && nat_le from q.item in
      let typed = questions_in old.now.trees in
      first_full questions_test by_asker with_from questions_text questions_is old new house rows first asker_agrees IsOf are_of asker_rises
      item_of item_is_low keep asked_low (firsts_rise question_key (sorted_by question_key kept) (sorted_in_order question_key kept))
      (subst (Rises item_of) (sym (filter-sorted question_key keep typed)) (firsts_rise question_key (sorted_by question_key (filter keep typed)) (sorted_in_order question_key (filter keep typed)))) fits full

  questions_shown : (rows : List Row) → Shown stray_asked_text of_asker old new [] → ShowsFirst 50 questions_text with_from old new rows → AllByRecursion QuestionFits (map question_of rows)
      → map question_of rows ≡ take 50 (filter (λ q. (q.asker == asker) && nat_le from q.item) (sorted_questions old.now.trees))
  questions_shown rows none first fits =
      let no_stray = none_passes stray_asked (col 1 1 ∷ []) by_asker of_asker all_asked [] (lists stray_asked_text 12 stray_asked (col 1 1 ∷ []) by_asker _ stray_asked_is (λ db. refl) old new of_asker [] house none) refl in
      first_shown questions_test by_asker with_from questions_text questions_is old new house rows first asker_agrees IsOf are_of asker_rises
      (λ q. (q.asker == asker) && nat_le from q.item) HasNoStray (λ r is. page_passes 2 1 asker low r is.0.second is.0.first from small is.1)
      (all_both IsTalk (λ r. passes stray_asked of_asker r ≡ false) HasNoStray (λ r is no. (is, no)) all_asked (are_questions old.now house) no_stray) fits

  pub questions_either : (rows : List Row) → (length rows < 50 → Shown stray_asked_text of_asker old new []) → ShowsFirst 50 questions_text with_from old new rows → AllByRecursion QuestionFits (map question_of rows)
      → map question_of rows ≡ take 50 (filter (λ q. (q.asker == asker) && nat_le from q.item) (sorted_questions old.now.trees))
  questions_either rows none first fits =
      elim (by_test (nat_lt (length rows) 50)) [
        | inl few ↦ questions_shown rows (none (fewer (length rows) 50 few)) first fits
        | inr many ↦ questions_full rows first (so_many_rows 50 rows first.all first.are many) fits
      ]

  -- what the list takes fits
  abbrev keeps_asked : Question → Bool
  keeps_asked q = (q.asker == asker) && nat_le from q.item

  asked_is : (r : Row) → IsTalk r → passes questions_test with_from r ≡ (eqb (number_in (column r 2)) asker && ((not (is_negative (column r 1)) && nat_le from (number_in (column r 1))) && true))
  asked_is r is = rw (equals_number (column r 2) asker is.second low, at_least (column r 1) from is.first small) refl

  stray_asked_is_so : (r : Row) → IsTalk r → passes stray_asked of_asker r ≡ (eqb (number_in (column r 2)) asker && (is_negative (column r 1) && true))
  stray_asked_is_so r is = rw (equals_number (column r 2) asker is.second low, below_zero (column r 1) is.first) refl

  kept_asked : (r : Row) → IsTalk r → passes questions_test with_from r ≡ true → keeps_asked (question_in r) ≡ true
  kept_asked r is p =
      asked_kept (eqb (number_in (column r 2)) asker) (is_negative (column r 1)) (nat_le from (number_in (column r 1))) (sym (asked_is r is) ∙ p)

  -- a row that WHERE keeps is the asker's, and its item is not negative
  abbrev IsOwn : Row → Type 0
  IsOwn r = IsTalk r × (number_in (column r 2) ≡ asker) × (is_negative (column r 1) ≡ false)

  is_own : (r : Row) → IsTalk r → passes questions_test with_from r ≡ true → IsOwn r
  is_own r is p = (
    is,
    first_passes 2 1 asker low r is.second is.first from p,
    asked_up (eqb (number_in (column r 2)) asker) (is_negative (column r 1)) (nat_le from (number_in (column r 1))) (sym (asked_is r is) ∙ p),
  )

  are_own : AllByRecursion IsOwn (filter (passes questions_test with_from) all_asked)
  are_own =
      all_both IsTalk (λ r. passes questions_test with_from r ≡ true) IsOwn is_own (filter (passes questions_test with_from) all_asked)
      (all-filter IsTalk (passes questions_test with_from) all_asked (are_questions old.now house)) (numbered_passes (passes questions_test with_from) all_asked)

  items_rise : (r s : Row) → IsOwn r → IsOwn s → rise questions_test by_asker with_from r s → item_of (question_in r) ≤ item_of (question_in s)
  items_rise r s r_is s_is less =
      let fixed : number_in (column r 2) < 2 ^ 32 = rw r_is.1 low in
      second_rises (column r 2) (column r 1) (column s 2) (column s 1) (ordering_then (value_cmp (column r 3) (column s 3)) Equal) fixed s_is.0.second r_is.0.first s_is.0.first r_is.2 (r_is.1 ∙ sym s_is.1) less

  pub asked_near : (rows : List Row) → ShowsFirst 50 questions_text with_from old new rows → FirstFit keeps_asked item_of QuestionFits (questions_in old.now.trees) → AllByRecursion QuestionFits (map question_of rows)
  asked_near rows first fits =
      questions_near questions_test by_asker with_from questions_text questions_is old new house rows first asker_agrees IsOwn are_own item_of (λ r. number_most (column r 1)) items_rise keeps_asked asked_low kept_asked fits

  abbrev IsReached : Question → Type 0
  IsReached q = keeps_asked q ≡ true → is_near keeps_asked item_of (questions_in old.now.trees) q ≡ true → QuestionFits q

  reached_no_stray : length (filter (passes questions_test with_from) all_asked) < 50 → (r : Row) → IsTalk r → IsReached (question_in r) → passes stray_asked of_asker r ≡ false
  reached_no_stray few r is fit =
      elim (by_test (passes stray_asked of_asker r)) [
        | inr none ↦ none
        | inl stray ↦ (let both = asked_stray (eqb (number_in (column r 2)) asker) (is_negative (column r 1)) (nat_le from (number_in (column r 1))) (negative_over (column r 1) from small) (sym (stray_asked_is_so r is) ∙ stray) in
            let near = all_near question_in item_of keeps_asked (passes questions_test with_from) IsTalk asked_low all_asked (are_questions old.now house) (question_in r) (number_most (column r 1)) few in
            absurd (true≢false (sym both.0 ∙ fits_not_negative (column r 1) (item_low r (fit both.1 near)))))
      ]

  pub no_stray_reached : (end : State) → HasStray questions_text with_from stray_asked_text of_asker old end → FirstFit keeps_asked item_of QuestionFits (questions_in old.now.trees) → ⊥
  no_stray_reached end stray fits =
      let listed = lists questions_text 12 questions_test question_shown by_asker question_names questions_is (λ db. refl) old end with_from stray.first.all house stray.first.shown in
      let few = few_kept questions_test question_shown by_asker with_from all_asked stray.first.all listed stray.rows stray.first.are stray.few in
      some_passes stray_asked (col 1 1 ∷ []) by_asker of_asker all_asked (stray.some.first ∷ stray.some.others)
      (lists stray_asked_text 12 stray_asked (col 1 1 ∷ []) by_asker _ stray_asked_is (λ db. refl) old end of_asker _ house stray.some.shown) stray.some.first stray.some.others refl
      (all_both IsTalk (λ r. IsReached (question_in r)) (λ r. passes stray_asked of_asker r ≡ false) (reached_no_stray few) all_asked (are_questions old.now house) (all_unmap IsReached question_in all_asked fits))

item_small : (q : Question) → QuestionFits q → q.item < 4294967295
item_small q fit = omega (arith, fit.item.1)

pub questions_found : (asker from : ℕ) (db : Trees) → AllByRecursion QuestionFits (take 50 (filter (λ q. (q.asker == asker) && nat_le (bound_of from) q.item) (sorted_questions db)))
    → take 50 (filter (λ q. (q.asker == asker) && nat_le (bound_of from) q.item) (sorted_questions db)) ≡ found.questions_of (tables_in db) asker from
unfolding tables_in
questions_found asker from db fits = from_bound (λ (q : Question). q.asker == asker) (λ (q : Question). q.item) QuestionFits item_small from (sorted_questions db) fits

-- ---- as they are stored

pub published_stored : (item from : ℕ) (db : Trees) → FirstFit (keeps_published item from) asker_of QuestionFits (tables_in db).questions → FirstFit (keeps_published item from) asker_of QuestionFits (questions_in db)
unfolding tables_in
published_stored item from db fits = first_stored question_key (keeps_published item from) asker_of QuestionFits (questions_in db) fits

pub asked_stored : (asker from : ℕ) (db : Trees) → FirstFit (λ (q : Question). (q.asker == asker) && nat_le from q.item) item_of QuestionFits (tables_in db).questions
    → FirstFit (λ (q : Question). (q.asker == asker) && nat_le from q.item) item_of QuestionFits (questions_in db)
unfolding tables_in
asked_stored asker from db fits = first_stored question_key (λ (q : Question). (q.asker == asker) && nat_le from q.item) item_of QuestionFits (questions_in db) fits
