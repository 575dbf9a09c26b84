-- The items on which questions wait, in turn, until fifty are found.
use Rattle.std.proofs.Common.{◌≡◌, ◌≤◌, ◌<◌, ◌+◌, ◌&&◌, ℕ, Bool, true, false, not, List, [], ◌∷◌, ◌++◌, append_assoc, flat_map, length, map, nat_lt, take, refl, ap, sym, subst, ◌∙◌, arith, inl, inr}
use Rattle.std.specs.Prelude.{◌==◌, is_some}
use Rattle.std.specs.List.{AllByRecursion, list_any}
use Rattle.std.proofs.lemmas.Bool.Decides.{nat_tests}
use Rattle.std.proofs.lemmas.List.{append-nil, length-append, length-take}
use Rattle.std.proofs.lemmas.List.Concat.{flat_map-append}
use Rattle.sqlite_trees.specs.Tree.{IsAscending, Trees}
use Rattle.sqlite_keyed.proofs.ListLemmas.{all_weaker, flat_map-map}
use Rattle.sqlite_keyed.proofs.RuleLemmas.{first_of_both, second_of_both}
use Rattle.house_rows.specs.Changed.{question_key}
use Rattle.house_rows.specs.Fits.{QuestionFits}
use Rattle.house_rows.specs.History.{counted}
use Rattle.house_rows.specs.Limits.{most_shown}
use Rattle.house_rows.specs.Taken.{FirstFit, is_near}
use Rattle.house_rows.specs.declared.item.Terms.{Terms}
use Rattle.house_rows.specs.declared.talk.Question.{Question}
use Rattle.house_rows.proofs.Put.{by_test}
use Rattle.store_rows.specs.Rows.{questions_in}
use Rattle.store_rows.proofs.Sorting.{count-sorted}
use Rattle.store_talk.specs.Waiting.{WaitingFit, WaitingInTurn, waiting_in}
use Rattle.store_talk.proofs.SortedTalk.{waiting_grouped}

-- ---- numbers that rise

abbrev pub item_of : Terms → ℕ
item_of t = t.item

abbrev IsUp : List Terms → Type 0
IsUp ts = IsAscending (λ m n. m < n) (map item_of ts)

before_all : (P : ℕ → Type 0) (before ts : List Terms) → AllByRecursion P (map item_of (before ++ ts)) → AllByRecursion P (map item_of before)
before_all P [] ts all = tt
before_all P (b ∷ before) ts all = (all.0, before_all P before ts all.1)

before_up : (before ts : List Terms) → IsUp (before ++ ts) → IsUp before
before_up [] ts up = tt
before_up (b ∷ before) ts up = (before_all (λ n. b.item < n) before ts up.0, before_up before ts up.1)

none_below : (m k : ℕ) (ns : List ℕ) → AllByRecursion (λ n. m < n) ns → list_any (λ n. k == n) ns ≡ true → m < k
none_below m k [] above some = absurd (let e : false ≡ true = some in cc)
none_below m k (n ∷ ns) above some =
    elim (by_test (k == n)) [
      | inl is ↦ grind (arith, nat_tests, is, above.0)
      | inr other ↦ none_below m k ns above.1 (rw other at some)
    ]

-- of numbers that rise, one below another is among those before it
among_before : (k : ℕ) (before : List Terms) (t : Terms) (ts : List Terms) → IsUp (before ++ t ∷ ts) → list_any (λ n. k == n) (map item_of (before ++ t ∷ ts)) ≡ true → k < t.item
    → list_any (λ n. k == n) (map item_of before) ≡ true
among_before k [] t ts up some low =
    elim (by_test (k == t.item)) [
      | inl is ↦ absurd (let same : k ≡ t.item = grind (arith, nat_tests, is) in omega (arith, same, low))
      | inr other ↦ absurd (let over = none_below t.item k (map item_of ts) up.0 (rw other at some) in omega (arith, over, low))
    ]
among_before k (b ∷ before) t ts up some low =
    elim (by_test (k == b.item)) [
      | inl is ↦ rw is refl
      | inr other ↦ rw other (among_before k before t ts up.1 (rw other at some) low)
    ]

counted_weaker : {A : Type 0} (p q : A → Bool) → ((x : A) → p x ≡ true → q x ≡ true) → (xs : List A) → counted p xs ≤ counted q xs
counted_weaker p q more [] = omega arith
counted_weaker p q more (x ∷ xs) =
    let rest = counted_weaker p q more xs in
    elim (by_test (p x)) [
      | inl is ↦ rw (is, more x is) (omega (arith, rest))
      | inr not' ↦ elim (by_test (q x)) [ inl also ↦ rw (not', also) (omega (arith, rest)) | inr nor ↦ rw (not', nor) rest ]
    ]

-- ---- what was found so far

module _ (db : Trees) where
  abbrev pub found_on : Terms → List Question
  found_on t = waiting_in db t.item

  -- after fifty nothing has to fit
  full_in_turn : (many : ℕ) (ts : List Terms) → most_shown ≤ many → WaitingInTurn db many ts
  full_in_turn many [] full = tt
  full_in_turn many (t ∷ ts) full = (λ few. absurd (omega (arith, full, few)), full_in_turn (many + length (found_on t)) ts (omega (arith, full)))

  pub next_in_turn : (old new : List Question) (t : Terms) (ts : List Terms) → new ≡ take most_shown (old ++ found_on t) → WaitingInTurn db (length old) (t ∷ ts) → WaitingInTurn db (length new) ts
  next_in_turn old new t ts are fit =
      let joined = length-append old (found_on t) in
      let front = length-take most_shown (old ++ found_on t) in
      let long = ap length are in
      elim (by_test (nat_lt (length new) most_shown)) [
        | inl few ↦ (let less : length new < most_shown = grind (arith, nat_tests, few) in
            let e : length old + length (found_on t) ≡ length new = omega (arith, joined, front, long, less) in
            subst (λ k. WaitingInTurn db k ts) e fit.1)
        | inr full ↦ full_in_turn (length new) ts (grind (arith, nat_tests, full))
      ]

  abbrev asked_on : List Terms → Question → Bool
  asked_on ts q = list_any (λ n. q.item == n) (map item_of ts) && not (is_some q.answer)

  so_many_found : (before : List Terms) → IsUp before → length (flat_map found_on before) ≡ counted (asked_on before) (questions_in db)
  so_many_found before up =
      ap length (sym (flat_map-map (waiting_in db) item_of before) ∙ waiting_grouped db (map item_of before) up)
      ∙ count-sorted question_key (asked_on before) (questions_in db)

  module _ (own : List Terms) (up : IsUp own) (keep : Question → Bool) (are : (q : Question) → asked_on own q ≡ keep q)
      (fits : FirstFit keep (λ q. q.item) QuestionFits (questions_in db)) where
    abbrev lesser : Terms → Question → Bool
    lesser t y = keep y && nat_lt y.item t.item

    -- the questions on lesser items were found before
    few_lesser : (before : List Terms) (t : Terms) (ts : List Terms) → own ≡ before ++ t ∷ ts → counted (lesser t) (questions_in db) ≤ length (flat_map found_on before)
    few_lesser before t ts split =
        let rising : IsUp (before ++ t ∷ ts) = subst IsUp split up in
        let weaker = counted_weaker (lesser t) (asked_on before) (λ y is.
        let kept : asked_on own y ≡ true = are y ∙ first_of_both (keep y) (nat_lt y.item t.item) is in
        let low : y.item < t.item = grind (arith, nat_tests, second_of_both (keep y) (nat_lt y.item t.item) is) in
        let there : list_any (λ n. y.item == n) (map item_of own) ≡ true = first_of_both (list_any (λ n. y.item == n) (map item_of own)) (not (is_some y.answer)) kept in
        let here = among_before y.item before t ts rising (subst (λ l. list_any (λ n. y.item == n) (map item_of l) ≡ true) split there) low in
        rw here (second_of_both (list_any (λ n. y.item == n) (map item_of own)) (not (is_some y.answer)) kept)) (questions_in db) in
        omega (arith, weaker, so_many_found before (before_up before (t ∷ ts) rising))

    fit_here : (before : List Terms) (t : Terms) (ts : List Terms) → own ≡ before ++ t ∷ ts → length (flat_map found_on before) < most_shown → WaitingFit db t.item
    fit_here before t ts split few =
        all_weaker (λ (q : Question). keep q ≡ true → is_near keep (λ x. x.item) (questions_in db) q ≡ true → QuestionFits q) (λ (q : Question). ((q.item == t.item) && not (is_some q.answer)) ≡ true → QuestionFits q)
        (λ q fit waits.
        let same : q.item ≡ t.item = grind (arith, nat_tests, first_of_both (q.item == t.item) (not (is_some q.answer)) waits) in
        let there : list_any (λ n. q.item == n) (map item_of own) ≡ true = rw (same, split) (is_among before t ts) in
        let asked : asked_on own q ≡ true = rw there (second_of_both (q.item == t.item) (not (is_some q.answer)) waits) in
        let many : counted (λ y. keep y && nat_lt y.item q.item) (questions_in db) ≤ length (flat_map found_on before) =
        subst (λ (i : ℕ). counted (λ y. keep y && nat_lt y.item i) (questions_in db) ≤ length (flat_map found_on before)) (sym same) (few_lesser before t ts split) in
        fit (sym (are q) ∙ asked) (grind (arith, nat_tests, many, few))) (questions_in db) fits
      where
        is_among : (before : List Terms) (t : Terms) (ts : List Terms) → list_any (λ n. t.item == n) (map item_of (before ++ t ∷ ts)) ≡ true
        is_among [] t ts = let e : (t.item == t.item) ≡ true = grind (arith, nat_tests) in rw e refl
        is_among (b ∷ before) t ts = elim (by_test (t.item == b.item)) [ inl is ↦ rw is refl | inr other ↦ rw other (is_among before t ts) ]

    go : (before ts : List Terms) → own ≡ before ++ ts → WaitingInTurn db (length (flat_map found_on before)) ts
    go before [] split = tt
    go before (t ∷ ts) split =
        let joined = flat_map-append found_on before (t ∷ []) in
        let last : length (flat_map found_on (before ++ t ∷ [])) ≡ length (flat_map found_on before) + length (found_on t) =
        ap length joined ∙ length-append (flat_map found_on before) (found_on t ++ []) ∙ ap (λ l. length (flat_map found_on before) + length l) (append-nil (found_on t)) in (
          fit_here before t ts split,
          subst (λ k. WaitingInTurn db k ts) last (go (before ++ t ∷ []) ts (split ∙ sym (append_assoc before (t ∷ []) ts))),
        )

    pub all_in_turn : WaitingInTurn db 0 own
    all_in_turn = go [] own refl
