-- What the pages of feedback mean and find.
use Rattle.std.proofs.Common.{◌≡◌, ◌==◌, ◌≤◌, ◌<◌, ◌^◌, ◌&&◌, ◌||◌, ℕ, pos, negsuc, Bool, true, false, not, cond, None, Some, List, [], ◌∷◌, length, map, filter, take, drop, codes, eqb, refl, sym, ap, ap₂, subst, ◌∙◌, arith, inl, inr, is_eq, Less, Equal, Greater, Ordering, true≢false}
use Rattle.std.specs.Prelude.{nat_le, nat_lt}
use Rattle.std.specs.List.{AllByRecursion}
use Rattle.std.specs.Ordering.{int_cmp, is_gt, is_lt, ordering_then}
use Rattle.std.proofs.lemmas.Bool.Decides.{nat_tests}
use Rattle.std.proofs.lemmas.Int.{ints}
use Rattle.std.proofs.lemmas.List.{length-map}
use Rattle.std.proofs.lemmas.Grind.{common_steps}
use Rattle.sqlite_value.specs.declared.value.Value.{Value}
use Rattle.sqlite_value.specs.declared.value.Value.TheVariants.{Null, Int, Real, Text, Blob}
use Rattle.sqlite_value.specs.declared.keys.Collation.TheVariants.{Binary}
use Rattle.sqlite_value.specs.Keys as keys
use Rattle.sqlite_value.specs.Keys.{first_key}
use Rattle.sqlite_value.specs.Order.{Row, column, value_cmp}
use Rattle.sqlite_value.proofs.OrderLemmas.{value_cmp-Int}
use Rattle.sqlite_schema.specs.Rules.{agree, are_present, are_typed, has_computed}
use Rattle.sqlite_schema.specs.declared.schema.Constraint.TheVariants.{Datatype, NotNull}
use Rattle.sqlite_catalog.specs.Listing.{IsSound}
use Rattle.sqlite_sql.specs.declared.ops.BinaryOp.TheVariants.{Compare, Or}
use Rattle.sqlite_sql.specs.declared.ops.CompareOp.TheVariants.{Gt, Lt}
use Rattle.sqlite_sql.specs.Ops.{binary, from_truth, is_true}
use Rattle.sqlite_sql.specs.Query.{output_cmp}
use Rattle.sqlite_trees.specs.Tree.{IsAscending, Trees}
use Rattle.sqlite_trees.specs.View.{is_int}
use Rattle.sqlite_keyed.proofs.ListLemmas.{all-filter, all_both, all_unmap, all_weaker}
use Rattle.sqlite_keyed.proofs.RuleLemmas.{first_of_both}
use Rattle.sqlite_tied.specs.Compute.{everything}
use Rattle.sqlite.specs.Effect.{Database}
use Rattle.sqlite.specs.Listing.{understood}
use Rattle.sqlite.specs.State.{State, Shown}
use Rattle.sqlite.specs.Term.{Term, col, lit, op2}
use Rattle.house_rows.specs.Fits.{FeedbackFits}
use Rattle.house_rows.specs.Found as found
use Rattle.house_rows.specs.History.{is_less}
use Rattle.house_rows.specs.Taken.{FirstFit, FitWhere}
use Rattle.house_rows.specs.Ratings.{feedback_key}
use Rattle.house_rows.specs.declared.talk.Feedback.{Feedback}
use Rattle.house_rows.proofs.Put.{by_test}
use Rattle.store_rows.specs.House.{IsHouse}
use Rattle.store_rows.specs.Plain.{plain_query, passes}
use Rattle.store_rows.specs.Rows.{feedback_in, feedback_of, is_rating, number_in, one_feedback_in}
use Rattle.store_rows.specs.Schema.{feedback_table, house_by}
use Rattle.store_rows.proofs.ColumnLemmas.{holds_all}
use Rattle.store_rows.proofs.RowLemmas.{equals_number, int_if, truth_back}
use Rattle.store_rows.proofs.Select.{IsListOf, equals}
use Rattle.store_talk.specs.Texts.{given_text, stray_feedback_text}
use Rattle.store_talk.proofs.TalkMeaning.{talk_shown}
use Rattle.store_rows.specs.Sorted.{sorted_by, sorted_feedback}
use Rattle.store_rows.specs.Tables.{tables_in}
use Rattle.store_rows.proofs.PairKeys.{two_columns}
use Rattle.store_rows.proofs.Shown.{output_row}
use Rattle.store_rows.proofs.Update.{numbered_passes}
use Rattle.store_rows.specs.First.{IsFinite, ShowsFirst, ShowsSome}
use Rattle.store_rows.proofs.Asked.{Asks, from_second, lists, under_zero}
use Rattle.store_rows.proofs.Bounds.{bound_of, from_bound}
use Rattle.store_rows.proofs.Compared.{at_least, is_negative, report_at_least}
use Rattle.store_rows.proofs.Near.{IsUp, first_near, first_rises, first_stored, kept_near, number_most}
use Rattle.store_rows.proofs.Firsts.{first_by_key, first_kept, none_passes, some_passes}
use Rattle.store_rows.proofs.Grouped.{firsts_rise}
use Rattle.store_rows.proofs.Sorting.{filter-sorted, sorted_in_order}
use Rattle.store_rows.proofs.Ties.{none_tie, three_rise, tied_equal}
use Rattle.store_talk.proofs.FeedbackLists.{unique}
use Rattle.store_talk.proofs.Full.{Rises, fewer, is_low, negative_high, none_both, page_low, same_first, same_low, so_many_rows}

-- ---- the queries

abbrev feedback_names : List (List ℕ)
feedback_names = codes "item" ∷ codes "giver" ∷ codes "receiver" ∷ codes "rating" ∷ codes "body" ∷ []

abbrev given_test : List Term
given_test = equals 3 ∷ from_second 1 ∷ []

-- the item is negative, or the rating is none
abbrev is_astray : Term
is_astray = op2 Or (op2 Or (under_zero 1) (op2 (Compare Lt Binary) (col 1 4) (lit (Int (negsuc 0))))) (op2 (Compare Gt Binary) (col 1 4) (lit (Int (pos 1))))

abbrev stray_test : List Term
stray_test = equals 3 ∷ op2 (Compare Lt Binary) (col 1 1) (col 0 1) ∷ is_astray ∷ []

pub given_is : Asks given_text 14 given_test talk_shown two_columns feedback_names
unfolding understood everything
given_is b = (refl, refl, (refl, refl))

pub given_finite : (b : Bool) → IsFinite (understood (house_by b) given_text)
unfolding understood everything
given_finite b = refl

pub strays_is : Asks stray_feedback_text 14 stray_test (col 1 1 ∷ []) two_columns (codes "item" ∷ [])
unfolding understood everything
strays_is b = (refl, refl, (refl, refl))

pub strays_finite : (b : Bool) → IsFinite (understood (house_by b) stray_feedback_text)
unfolding understood everything
strays_finite b = refl

-- ---- the columns

pub record IsGiven (r : Row) : Type 0 where
  pub item : is_int (column r 1) ≡ true
  pub giver : is_int (column r 2) ≡ true
  pub receiver : is_int (column r 3) ≡ true
  pub rating : is_int (column r 4) ≡ true

are_given : (db : Database) → IsHouse db → AllByRecursion IsGiven (db.trees 14)
are_given db house =
    let sound = subst (λ h. IsSound h db.trees) house.schema house.sound in
    all_both _ _ IsGiven one (db.trees 14) (sound.obeys.rules Datatype).1.1.1.1.1.1.1.1.0 (sound.obeys.rules NotNull).1.1.1.1.1.1.1.1.0
  where
    one : (r : Row) → (are_typed None 0 feedback_table.columns (drop 1 r) && has_computed feedback_table r) ≡ true → are_present None 0 feedback_table.columns r ≡ true → IsGiven r
    one r t p =
        let h = holds_all None feedback_table.columns r ((refl, tt), ((refl, tt), ((refl, tt), ((refl, tt), ((refl, tt), tt))))) (first_of_both (are_typed None 0 feedback_table.columns (drop 1 r)) (has_computed feedback_table r) t) p in
        let a = h.0 refl refl in
        let b = h.1.0 refl refl in
        let d = h.1.1.0 refl refl in
        let e = h.1.1.1.0 refl refl in
        record { item = int_if (column r 1) a.0 a.1; giver = int_if (column r 2) b.0 b.1; receiver = int_if (column r 3) d.0 d.1; rating = int_if (column r 4) e.0 e.1 }

-- ---- the tests

compares : (m n : ℕ) → is_lt (int_cmp (pos m) (pos n)) ≡ not (nat_le n m)
compares m n = grind (arith, ints, common_steps, nat_tests)

-- < a number
under : (v : Value) (n : ℕ) → is_int v ≡ true → n < 2 ^ 32 → is_true (binary (Compare Lt Binary) v (Int (pos n))) ≡ not (not (is_negative v) && nat_le n (number_in v))
unfolding binary
under Null n is low = absurd (true≢false (sym is))
under (Int (pos m)) n is low = truth_back _ ∙ ap is_lt (value_cmp-Int (pos m) (pos n)) ∙ compares m n ∙ ap not (sym (report_at_least m n low))
under (Int (negsuc m)) n is low = truth_back _ ∙ ap is_lt (value_cmp-Int (negsuc m) (pos n)) ∙ grind (arith, ints, common_steps)
under (Real x) n is low = absurd (true≢false (sym is))
under (Text t) n is low = absurd (true≢false (sym is))
under (Blob b) n is low = absurd (true≢false (sym is))

abbrev below : Value → Value → Bool
below v w = is_lt (value_cmp v w)

abbrev above : Value → Value → Bool
above v w = is_gt (value_cmp v w)

is_below : (v : Value) (m : Rattle.std.proofs.Common.ℤ) → is_int v ≡ true → binary (Compare Lt Binary) v (Int m) ≡ from_truth (Some (below v (Int m)))
unfolding binary
is_below Null m is = absurd (true≢false (sym is))
is_below (Int n) m is = refl
is_below (Real x) m is = absurd (true≢false (sym is))
is_below (Text t) m is = absurd (true≢false (sym is))
is_below (Blob b) m is = absurd (true≢false (sym is))

is_above : (v : Value) (m : Rattle.std.proofs.Common.ℤ) → is_int v ≡ true → binary (Compare Gt Binary) v (Int m) ≡ from_truth (Some (above v (Int m)))
unfolding binary
is_above Null m is = absurd (true≢false (sym is))
is_above (Int n) m is = refl
is_above (Real x) m is = absurd (true≢false (sym is))
is_above (Text t) m is = absurd (true≢false (sym is))
is_above (Blob b) m is = absurd (true≢false (sym is))

or_both : (a b d : Bool) → is_true (binary Or (binary Or (from_truth (Some a)) (from_truth (Some b))) (from_truth (Some d))) ≡ (a || (b || d))
unfolding binary
or_both true true true = refl
or_both true true false = refl
or_both true false true = refl
or_both true false false = refl
or_both false true true = refl
or_both false true false = refl
or_both false false true = refl
or_both false false false = refl

negative_below : (v : Value) → is_int v ≡ true → below v (Int (pos 0)) ≡ is_negative v
negative_below Null is = absurd (true≢false (sym is))
negative_below (Int (pos m)) is = ap is_lt (value_cmp-Int (pos m) (pos 0)) ∙ grind (arith, ints, common_steps)
negative_below (Int (negsuc m)) is = ap is_lt (value_cmp-Int (negsuc m) (pos 0)) ∙ grind (arith, ints, common_steps)
negative_below (Real x) is = absurd (true≢false (sym is))
negative_below (Text t) is = absurd (true≢false (sym is))
negative_below (Blob b) is = absurd (true≢false (sym is))

outside_int : (n : Rattle.std.proofs.Common.ℤ) → (is_lt (int_cmp n (negsuc 0)) || is_gt (int_cmp n (pos 1))) ≡ not (is_rating (Int n))
outside_int n = grind (arith, ints, common_steps)

outside : (v : Value) → is_int v ≡ true → (below v (Int (negsuc 0)) || above v (Int (pos 1))) ≡ not (is_rating v)
outside Null is = absurd (true≢false (sym is))
outside (Int n) is = ap₂ (λ x y. is_lt x || is_gt y) (value_cmp-Int n (negsuc 0)) (value_cmp-Int n (pos 1)) ∙ outside_int n
outside (Real x) is = absurd (true≢false (sym is))
outside (Text t) is = absurd (true≢false (sym is))
outside (Blob b) is = absurd (true≢false (sym is))

astray : (v w : Value) → is_int v ≡ true → is_int w ≡ true
    → is_true (binary Or (binary Or (binary (Compare Lt Binary) v (Int (pos 0))) (binary (Compare Lt Binary) w (Int (negsuc 0)))) (binary (Compare Gt Binary) w (Int (pos 1)))) ≡ (is_negative v || not (is_rating w))
astray v w v_is w_is =
    rw (is_below v (pos 0) v_is, is_below w (negsuc 0) w_is, is_above w (pos 1) w_is) (or_both (below v (Int (pos 0))) (below w (Int (negsuc 0))) (above w (Int (pos 1))))
    ∙ ap₂ ◌||◌ (negative_below v v_is) (outside w w_is)

far : (n : ℕ) → n < 2 ^ 32 → nat_le n (2 ^ 64) ≡ true
far n low = grind (arith, nat_tests)

-- no stray: WHERE decides as the typed row does
given_bits : (a negative rated : Bool) (from n : ℕ) → from < 2 ^ 32 → (a && (not (not negative && nat_le from n) && ((negative || not rated) && true))) ≡ false
    → (a && ((not negative && nat_le from n) && true)) ≡ (a && nat_le from (cond rated n (2 ^ 64)))
given_bits false negative rated from n low none = refl
given_bits true true rated from n low none = absurd (true≢false none)
given_bits true false true from n low none = Rattle.store_rows.proofs.RowLemmas.alone (nat_le from n)
given_bits true false false from n low none = go (nat_le from n) none ∙ sym (far from low)
  where
    go : (over : Bool) → (not over && (true && true)) ≡ false → (over && true) ≡ true
    go true e = refl
    go false e = absurd (true≢false e)

-- of the rows with an item of ours WHERE decides as the typed row does
given_low : (a negative rated : Bool) (from n : ℕ) → (negative ≡ true → nat_lt n (2 ^ 64) ≡ false)
    → ((a && ((not negative && nat_le from n) && true)) && nat_lt (cond rated n (2 ^ 64)) (2 ^ 64)) ≡ ((a && nat_le from (cond rated n (2 ^ 64))) && nat_lt (cond rated n (2 ^ 64)) (2 ^ 64))
given_low a negative true from n high = page_low a negative (nat_le from n) (nat_lt n (2 ^ 64)) high
given_low a negative false from n high = none_both (a && ((not negative && nat_le from n) && true)) (a && nat_le from (2 ^ 64))

given_kept : (a negative rated : Bool) (from n : ℕ) → from < 2 ^ 32 → (a && ((not negative && nat_le from n) && true)) ≡ true → (a && nat_le from (cond rated n (2 ^ 64))) ≡ true
given_kept true false true from n low is = first_of_both (nat_le from n) true is
given_kept true false false from n low is = far from low
given_kept true true rated from n low is = absurd (true≢false (sym is))
given_kept false negative rated from n low is = is

over_far : (from n : ℕ) → from < 2 ^ 32 → nat_lt n (2 ^ 64) ≡ false → nat_le from n ≡ true
over_far from n low high = grind (arith, nat_tests, high)

-- a stray is kept as a typed row, and has no item of ours
given_stray : (a negative rated : Bool) (from n : ℕ) → from < 2 ^ 32 → (negative ≡ true → nat_lt n (2 ^ 64) ≡ false) → (a && (not (not negative && nat_le from n) && ((negative || not rated) && true))) ≡ true
    → ((a && nat_le from (cond rated n (2 ^ 64))) ≡ true) × (nat_lt (cond rated n (2 ^ 64)) (2 ^ 64) ≡ false)
given_stray true true true from n low high is = (over_far from n low (high refl), high refl)
given_stray true true false from n low high is = (far from low, refl)
given_stray true false true from n low high is = absurd (go (not (nat_le from n)) is)
  where
    go : (b : Bool) → (b && false) ≡ true → ⊥
    go true e = true≢false (sym e)
    go false e = true≢false (sym e)
given_stray true false false from n low high is = (far from low, refl)
given_stray false negative rated from n low high is = absurd (true≢false (sym is))

given_up : (a negative over : Bool) → (a && ((not negative && over) && true)) ≡ true → negative ≡ false
given_up a false over is = refl
given_up true true over is = absurd (true≢false (sym is))
given_up false true over is = absurd (true≢false (sym is))

low_rated : (is : Bool) (n : ℕ) → cond is n (2 ^ 64) < 2 ^ 32 → cond is n (2 ^ 64) ≡ n
low_rated true n low = refl
low_rated false n low = absurd (omega (arith, low))

later_item : (is : Bool) (m n : ℕ) → m < 2 ^ 32 → m ≤ n → m ≤ cond is n (2 ^ 64)
later_item true m n low up = up
later_item false m n low up = omega (arith, low)

-- ---- the keys

abbrev Fits : Row → Type 0
Fits r = FeedbackFits (one_feedback_in r)

rated : (is : Bool) (n : ℕ) → cond is n (2 ^ 64) ≤ 1000000 → cond is n (2 ^ 64) ≡ n
rated true n low = refl
rated false n low = absurd (omega (arith, low))

rating_is : (r : Row) → Fits r → (one_feedback_in r).item ≡ number_in (column r 1)
rating_is r fits = rated (is_rating (column r 4)) (number_in (column r 1)) fits.item.1

item_low : (r : Row) → Fits r → number_in (column r 1) < 2 ^ 32
item_low r fits = omega (arith, rating_is r fits, fits.item.1)

giver_low : (r : Row) → Fits r → number_in (column r 2) < 2 ^ 32
giver_low r fits = omega (arith, fits.from.1)

ties_of_two : (x y : Ordering) → is_eq (ordering_then x (ordering_then y Equal)) ≡ true → (is_eq x ≡ true) × (is_eq y ≡ true)
ties_of_two Equal Equal tie = (refl, refl)
ties_of_two Less y tie = absurd (true≢false (sym tie))
ties_of_two Greater y tie = absurd (true≢false (sym tie))
ties_of_two Equal Less tie = absurd (true≢false (sym tie))
ties_of_two Equal Greater tie = absurd (true≢false (sym tie))

-- a row whose rating is none comes after what fits
stays_less : (b : Bool) (a c a' c' : ℕ) → a < 2 ^ 32 → is_less (record { first = a; second = c; third = 0 }) (record { first = a'; second = c'; third = 0 }) ≡ true
    → is_less (record { first = a; second = c; third = 0 }) (record { first = cond b a' (2 ^ 64); second = c'; third = 0 }) ≡ true
stays_less true a c a' c' low less = less
stays_less false a c a' c' low less = grind (arith, nat_tests)

abbrev item_of : Feedback → ℕ
item_of f = f.item

-- no number of ours
abbrev IsFar : Feedback → Type 0
IsFar f = 2 ^ 32 ≤ f.item

rated_most : (is : Bool) (n : ℕ) → n ≤ 2 ^ 64 → cond is n (2 ^ 64) ≤ 2 ^ 64
rated_most true n most = most
rated_most false n most = omega arith

given_most : (r : Row) → item_of (one_feedback_in r) ≤ 2 ^ 64
given_most r = rated_most (is_rating (column r 4)) (number_in (column r 1)) (number_most (column r 1))

item_is_low : (f : Feedback) → FeedbackFits f → is_low item_of f ≡ true
item_is_low f fit = let low = fit.item.1 in grind (arith, nat_tests, low)

-- ---- what is found

abbrev tied : Row → Row → Row → Bool
tied params r s = is_eq (output_cmp (plain_query 0 given_test talk_shown two_columns) (output_row talk_shown two_columns params r) (output_row talk_shown two_columns params s))

abbrev keeps : ℕ → ℕ → Feedback → Bool
keeps member from f = (f.to == member) && nat_le from f.item

module _ (member from : ℕ) (low : member < 2 ^ 32) (small : from < 2 ^ 32) (old new : State) (house : IsHouse old.now) where
  abbrev params : Row
  params = Int (pos member) ∷ Int (pos from) ∷ []

  abbrev table : List Row
  table = old.now.trees 14

  stray_is : (r : Row) → IsGiven r
      → passes stray_test params r ≡ (eqb (number_in (column r 3)) member && (not (not (is_negative (column r 1)) && nat_le from (number_in (column r 1))) && ((is_negative (column r 1) || not (is_rating (column r 4))) && true)))
  stray_is r is = rw (equals_number (column r 3) member is.receiver low, under (column r 1) from is.item small, astray (column r 1) (column r 4) is.item is.rating) refl

  abbrev IsNoStray : Row → Type 0
  IsNoStray r = IsGiven r × (passes stray_test params r ≡ false)

  passing : (r : Row) → IsNoStray r → passes given_test params r ≡ keeps member from (one_feedback_in r)
  passing r is =
      rw (equals_number (column r 3) member is.0.receiver low, at_least (column r 1) from is.0.item small)
      (given_bits (eqb (number_in (column r 3)) member) (is_negative (column r 1)) (is_rating (column r 4)) from (number_in (column r 1)) small (sym (stray_is r is.0) ∙ is.1))

  agrees : (r s : Row) → IsGiven r → IsGiven s → tied params r s ≡ true → agree keys.plain (1 ∷ 2 ∷ []) r (1 ∷ 2 ∷ []) s ≡ true
  unfolding first_key
  agrees r s r_is s_is tie =
      let each = ties_of_two (value_cmp (column r 1) (column s 1)) (value_cmp (column r 2) (column s 2)) tie in
      rw (tied_equal (column r 1) (column s 1) r_is.item s_is.item each.0, tied_equal (column r 2) (column s 2) r_is.giver s_is.giver each.1) refl

  rises : (r s : Row) → IsGiven r → IsGiven s → Fits r → output_cmp (plain_query 0 given_test talk_shown two_columns) (output_row talk_shown two_columns params r) (output_row talk_shown two_columns params s) ≡ Less
      → is_less (feedback_key (one_feedback_in r)) (feedback_key (one_feedback_in s)) ≡ true
  rises r s r_is s_is fits less =
      let third : value_cmp (Int (pos 0)) (Int (pos 0)) ≡ Equal = value_cmp-Int (pos 0) (pos 0) in
      let as_three : ordering_then (value_cmp (column r 1) (column s 1)) (ordering_then (value_cmp (column r 2) (column s 2)) (ordering_then (value_cmp (Int (pos 0)) (Int (pos 0))) Equal)) ≡ Less = rw third less in
      let by_numbers = three_rise (column r 1) (column r 2) (Int (pos 0)) (column s 1) (column s 2) (Int (pos 0)) (item_low r fits) (giver_low r fits) (omega arith) s_is.item s_is.giver refl as_three in
      let later = stays_less (is_rating (column s 4)) (number_in (column r 1)) (number_in (column r 2)) (number_in (column s 1)) (number_in (column s 2)) (item_low r fits) by_numbers in
      rw (rating_is r fits) later

  low_passing : (r : Row) → IsGiven r → (passes given_test params r && is_low item_of (one_feedback_in r)) ≡ (keeps member from (one_feedback_in r) && is_low item_of (one_feedback_in r))
  low_passing r is =
      rw (equals_number (column r 3) member is.receiver low, at_least (column r 1) from is.item small)
      (given_low (eqb (number_in (column r 3)) member) (is_negative (column r 1)) (is_rating (column r 4)) from (number_in (column r 1)) (negative_high (column r 1)))

  listing : (rows : List Row) (first : ShowsFirst 50 given_text params old new rows) → IsListOf table given_test talk_shown two_columns params first.all
  listing rows first = lists given_text 14 given_test talk_shown two_columns feedback_names given_is (λ db. refl) old new params first.all house first.shown

  apart : IsAscending (λ r s. tied params r s ≡ false) (filter (passes given_test params) table)
  apart = none_tie (tied params) (1 ∷ 2 ∷ []) IsGiven agrees table house.shaped.1.1.1.1.1.1.1.1.0 (unique old.now house) (passes given_test params) (all-filter IsGiven (passes given_test params) table (are_given old.now house))

  -- a full list, where what has no item of ours lies after
  given_full : (rows : List Row) → ShowsFirst 50 given_text params old new rows → length rows ≡ 50 → AllByRecursion FeedbackFits (map feedback_of rows)
      → map feedback_of rows ≡ take 50 (filter (keeps member from) (sorted_feedback old.now.trees))
  given_full rows first full fits =
      let given = are_given old.now house in
      let typed = feedback_in old.now.trees in
      let some = map one_feedback_in (filter (passes given_test params) table) in
      let kept = sorted_by feedback_key some in
      let report : map feedback_of rows ≡ take 50 kept =
      ap (map feedback_of) first.are
      ∙ first_kept given_test talk_shown two_columns params table first.all (listing rows first) feedback_key feedback_of one_feedback_in (λ r. refl) FeedbackFits IsGiven apart (all-filter IsGiven (passes given_test params) table given) rises
      50 (subst (λ l. AllByRecursion FeedbackFits (map feedback_of l)) first.are fits) in
      report ∙ same_first item_of 50 kept (filter (keeps member from) (sorted_feedback old.now.trees))
      (firsts_rise feedback_key kept (sorted_in_order feedback_key some))
      (subst (Rises item_of) (sym (filter-sorted feedback_key (keeps member from) typed)) (firsts_rise feedback_key (sorted_by feedback_key (filter (keeps member from) typed)) (sorted_in_order feedback_key (filter (keeps member from) typed))))
      (same_low item_of feedback_key one_feedback_in (passes given_test params) (keeps member from) IsGiven low_passing table given)
      (all_weaker FeedbackFits (λ f. is_low item_of f ≡ true) item_is_low (take 50 kept) (subst (AllByRecursion FeedbackFits) report fits))
      (ap length (sym report) ∙ length-map rows feedback_of ∙ full)

  given_shown : (rows : List Row) → Shown stray_feedback_text params old new [] → ShowsFirst 50 given_text params old new rows → AllByRecursion FeedbackFits (map feedback_of rows)
      → map feedback_of rows ≡ take 50 (filter (keeps member from) (sorted_feedback old.now.trees))
  given_shown rows none first fits =
      let given = are_given old.now house in
      let no_stray = none_passes stray_test (col 1 1 ∷ []) two_columns params table [] (lists stray_feedback_text 14 stray_test (col 1 1 ∷ []) two_columns _ strays_is (λ db. refl) old new params [] house none) refl in
      let kept = all-filter IsGiven (passes given_test params) table given in
      ap (map feedback_of) first.are
      ∙ first_by_key given_test talk_shown two_columns params table first.all (listing rows first)
      feedback_key feedback_of one_feedback_in (λ r. refl) FeedbackFits IsGiven apart kept rises (keeps member from) IsNoStray passing
      (all_both IsGiven (λ r. passes stray_test params r ≡ false) IsNoStray (λ r is no. (is, no)) table given no_stray) 50 (subst (λ l. AllByRecursion FeedbackFits (map feedback_of l)) first.are fits)

  pub given_either : (rows : List Row) → (length rows < 50 → Shown stray_feedback_text params old new []) → ShowsFirst 50 given_text params old new rows → AllByRecursion FeedbackFits (map feedback_of rows)
      → map feedback_of rows ≡ take 50 (filter (keeps member from) (sorted_feedback old.now.trees))
  given_either rows none first fits =
      elim (by_test (nat_lt (length rows) 50)) [
        | inl few ↦ given_shown rows (none (fewer (length rows) 50 few)) first fits
        | inr many ↦ given_full rows first (so_many_rows 50 rows first.all first.are many) fits
      ]

  -- what the list takes fits
  passes_is : (r : Row) → IsGiven r → passes given_test params r ≡ (eqb (number_in (column r 3)) member && ((not (is_negative (column r 1)) && nat_le from (number_in (column r 1))) && true))
  passes_is r is = rw (equals_number (column r 3) member is.receiver low, at_least (column r 1) from is.item small) refl

  kept_passing : (r : Row) → IsGiven r → passes given_test params r ≡ true → keeps member from (one_feedback_in r) ≡ true
  kept_passing r is p = given_kept (eqb (number_in (column r 3)) member) (is_negative (column r 1)) (is_rating (column r 4)) from (number_in (column r 1)) small (sym (passes_is r is) ∙ p)

  -- a row that WHERE keeps has no negative item
  abbrev IsUpward : Row → Type 0
  IsUpward r = IsGiven r × (is_negative (column r 1) ≡ false)

  are_upward : AllByRecursion IsUpward (filter (passes given_test params) table)
  are_upward =
      all_both IsGiven (λ r. passes given_test params r ≡ true) IsUpward
      (λ r is p. (is, given_up (eqb (number_in (column r 3)) member) (is_negative (column r 1)) (nat_le from (number_in (column r 1))) (sym (passes_is r is) ∙ p))) (filter (passes given_test params) table)
      (all-filter IsGiven (passes given_test params) table (are_given old.now house)) (numbered_passes (passes given_test params) table)

  items_rise : (r s : Row) → IsUpward r → IsUpward s → output_cmp (plain_query 0 given_test talk_shown two_columns) (output_row talk_shown two_columns params r) (output_row talk_shown two_columns params s) ≡ Less
      → IsUp item_of IsFar (one_feedback_in r) (one_feedback_in s)
  items_rise r s r_is s_is less =
      elim (by_test (nat_lt (item_of (one_feedback_in r)) (2 ^ 32))) [
        | inl is ↦ (let near : item_of (one_feedback_in r) < 2 ^ 32 = grind (arith, nat_tests, is) in
            let same = low_rated (is_rating (column r 4)) (number_in (column r 1)) near in
            let first : number_in (column r 1) < 2 ^ 32 = subst (λ (n : ℕ). n < 2 ^ 32) same near in
            let up = first_rises (column r 1) (column s 1) (ordering_then (value_cmp (column r 2) (column s 2)) Equal) r_is.0.item s_is.0.item r_is.1 less in
            inr (subst (λ (n : ℕ). n ≤ item_of (one_feedback_in s)) (sym same) (later_item (is_rating (column s 4)) (number_in (column r 1)) (number_in (column s 1)) first up)))
        | inr high ↦ inl (grind (arith, nat_tests, high))
      ]

  -- what has no item of ours, from any on, fits
  far_fit : (f : Feedback) → (((f.to == member) && nat_le 4294967296 f.item) ≡ true → FeedbackFits f) → keeps member from f ≡ true → IsFar f → FeedbackFits f
  far_fit f fit kept far =
      let to : (f.to == member) ≡ true = first_of_both (f.to == member) (nat_le from f.item) kept in
      let high : nat_le 4294967296 f.item ≡ true = grind (arith, nat_tests, far) in
      fit (rw (to, high) refl)

  all_far : FitWhere (λ f. (f.to == member) && nat_le 4294967296 f.item) FeedbackFits (feedback_in old.now.trees) → AllByRecursion (λ f. keeps member from f ≡ true → IsFar f → FeedbackFits f) (feedback_in old.now.trees)
  all_far = all_weaker (λ (f : Feedback). ((f.to == member) && nat_le 4294967296 f.item) ≡ true → FeedbackFits f) (λ (f : Feedback). keeps member from f ≡ true → IsFar f → FeedbackFits f) far_fit (feedback_in old.now.trees)

  pub given_near : (rows : List Row) → ShowsFirst 50 given_text params old new rows → FirstFit (keeps member from) item_of FeedbackFits (feedback_in old.now.trees)
      → FitWhere (λ f. (f.to == member) && nat_le 4294967296 f.item) FeedbackFits (feedback_in old.now.trees) → AllByRecursion FeedbackFits (map feedback_of rows)
  given_near rows first fits far =
      let given = are_given old.now house in
      subst (λ l. AllByRecursion FeedbackFits (map feedback_of l)) (sym first.are)
      (first_near given_test talk_shown two_columns params table first.all (listing rows first)
      feedback_of one_feedback_in (λ r. refl) item_of IsFar FeedbackFits IsUpward apart are_upward items_rise 50
      (kept_near one_feedback_in item_of (keeps member from) (passes given_test params) IsGiven low_passing IsFar FeedbackFits given_most kept_passing table given fits (all_far far)))

  taken_no_stray : (r : Row) → IsGiven r → ((((one_feedback_in r).to == member) && nat_le 4294967296 (item_of (one_feedback_in r))) ≡ true → FeedbackFits (one_feedback_in r)) → passes stray_test params r ≡ false
  taken_no_stray r is fit =
      elim (by_test (passes stray_test params r)) [
        | inr none ↦ none
        | inl stray ↦ (let both = given_stray (eqb (number_in (column r 3)) member) (is_negative (column r 1)) (is_rating (column r 4)) from (number_in (column r 1)) small (negative_high (column r 1)) (sym (stray_is r is) ∙ stray) in
            let far : IsFar (one_feedback_in r) = (let high = both.1 in grind (arith, nat_tests)) in
            absurd (true≢false (sym (item_is_low (one_feedback_in r) (far_fit (one_feedback_in r) fit both.0 far)) ∙ both.1)))
      ]

  pub no_stray_taken : (end : State) → ShowsSome stray_feedback_text params old end → FitWhere (λ f. (f.to == member) && nat_le 4294967296 f.item) FeedbackFits (feedback_in old.now.trees) → ⊥
  no_stray_taken end some fits =
      let P = λ (f : Feedback). ((f.to == member) && nat_le 4294967296 f.item) ≡ true → FeedbackFits f in
      some_passes stray_test (col 1 1 ∷ []) two_columns params table (some.first ∷ some.others)
      (lists stray_feedback_text 14 stray_test (col 1 1 ∷ []) two_columns _ strays_is (λ db. refl) old end params _ house some.shown) some.first some.others refl
      (all_both IsGiven (λ r. P (one_feedback_in r)) (λ r. passes stray_test params r ≡ false) taken_no_stray table (are_given old.now house) (all_unmap P one_feedback_in table fits))

item_small : (f : Feedback) → FeedbackFits f → f.item < 4294967295
item_small f fit = omega (arith, fit.item.1)

pub given_found : (member from : ℕ) (db : Trees) → AllByRecursion FeedbackFits (take 50 (filter (keeps member (bound_of from)) (sorted_feedback db)))
    → take 50 (filter (keeps member (bound_of from)) (sorted_feedback db)) ≡ found.feedback_to (tables_in db) member from
unfolding tables_in
given_found member from db fits = from_bound (λ (f : Feedback). f.to == member) (λ (f : Feedback). f.item) FeedbackFits item_small from (sorted_feedback db) fits

pub given_stored : (member from : ℕ) (db : Trees) → FirstFit (keeps member from) item_of FeedbackFits (tables_in db).feedback → FirstFit (keeps member from) item_of FeedbackFits (feedback_in db)
unfolding tables_in
given_stored member from db fits = first_stored feedback_key (keeps member from) item_of FeedbackFits (feedback_in db) fits
