-- The questions on a member's own items are those that wait for its answer.
use Rattle.std.proofs.Common.{◌≡◌, ◌<◌, ◌^◌, ℕ, Bool, true, false, not, ◌&&◌, List, [], ◌∷◌, map, filter, flat_map, find, refl, ap, sym, subst, ◌∙◌, arith, Option, Some, None}
use Rattle.std.specs.Prelude.{◌==◌, is_some}
use Rattle.std.specs.List.{AllByRecursion, list_any}
use Rattle.sqlite_keyed.proofs.ListLemmas.{all_weaker, all_unmap, ascending-filter, filter_same, flat_map-map, map-map}
use Rattle.std.proofs.lemmas.Bool.Decides.{nat_tests}
use Rattle.sqlite_keyed.proofs.RuleLemmas.{first_of_both, second_of_both}
use Rattle.sqlite_trees.specs.Tree.{IsAscending, Trees}
use Rattle.sqlite.specs.Effect.{Database}
use Rattle.house_rows.specs.Changed.{is_item, question_key}
use Rattle.house_rows.specs.Fits.{QuestionFits, TermsFit}
use Rattle.house_rows.specs.Found.{row_at, sells, waiting_for}
use Rattle.house_rows.specs.Taken.{FirstFit, FitWhere}
use Rattle.house_rows.specs.Tables.{ItemRow}
use Rattle.house_rows.specs.declared.item.Terms.{Terms}
use Rattle.house_rows.specs.declared.talk.Question.{Question}
use Rattle.store_rows.specs.House.{IsHouse}
use Rattle.store_rows.specs.ItemRows.{items_in}
use Rattle.store_rows.specs.Rows.{questions_in}
use Rattle.store_rows.specs.Sorted.{sorted_questions}
use Rattle.store_rows.specs.Tables.{tables_in}
use Rattle.store_talk.proofs.SortedTalk.{waiting_grouped}
use Rattle.store_rows.specs.Joined.{found_of}
use Rattle.store_talk.specs.Waiting.{WaitingFit, WaitingInTurn, waiting_in}
use Rattle.store_items.proofs.ItemRising.{items_rise, number_of}
use Rattle.store_rows.proofs.Near.{first_stored}
use Rattle.store_talk.proofs.WaitingTurn.{all_in_turn, item_of}
use Rattle.store_rows.proofs.Joined.{IsBelow, each_among, first_passes, numbers_rise}

-- whether a row that was found is sold by a member
found_sells : (member : ℕ) (found : Option ItemRow) → list_any (λ row. row.item.terms.seller == member) (found_of found) ≡ sells found member
found_sells member None = refl
found_sells member (Some row) = either (row.item.terms.seller == member)
  where
    either : (b : Bool) → list_any (λ x. x) (b ∷ []) ≡ b
    either true = refl
    either false = refl

both_turned : (a b d : Bool) → a ≡ d → (a && b) ≡ (b && d)
both_turned true true d e = e
both_turned true false d e = refl
both_turned false true d e = e
both_turned false false d e = refl

-- of rows that a member sells, a question on one of their items is one on an item that it sells
asked_of : (db : Database) (member : ℕ) (own : List Terms) → IsHouse db → own ≡ map (λ (row : ItemRow). row.item.terms) (filter (λ row. row.item.terms.seller == member) (items_in db.trees)) → AllByRecursion TermsFit own
    → (q : Question) → (list_any (λ n. q.item == n) (map (λ (t : Terms). t.item) own) && not (is_some q.answer)) ≡ (not (is_some q.answer) && sells (find (is_item q.item) (items_in db.trees)) member)
asked_of db member own house are fits q =
    let rows = items_in db.trees in
    let mine : ItemRow → Bool = λ row. row.item.terms.seller == member in
    let part = λ (row : ItemRow). row.item.terms in
    let numbers : List ℕ = map number_of (filter mine rows) in
    let rise = items_rise db house in
    let low = all_weaker (λ row. TermsFit (part row)) (λ row. number_of row < 2 ^ 64) (λ row fit. omega (arith, fit.item.1)) (filter mine rows) (all_unmap TermsFit part (filter mine rows) (rw are at fits)) in
    let report : map (λ (t : Terms). t.item) own ≡ numbers = ap (map (λ (t : Terms). t.item)) are ∙ map-map (λ (t : Terms). t.item) part (filter mine rows) in
    both_turned (list_any (λ n. q.item == n) (map (λ (t : Terms). t.item) own)) (not (is_some q.answer)) (sells (find (is_item q.item) rows) member)
    (ap (list_any (λ n. q.item == n)) report ∙ first_passes number_of mine q.item rows rise low ∙ found_sells member (find (is_item q.item) rows))

-- the items of a member rise in their numbers
own_rise : (db : Database) (member : ℕ) (own : List Terms) → IsHouse db → own ≡ map (λ (row : ItemRow). row.item.terms) (filter (λ row. row.item.terms.seller == member) (items_in db.trees)) → AllByRecursion TermsFit own
    → IsAscending (λ m n. m < n) (map item_of own)
own_rise db member own house are fits =
    let rows = items_in db.trees in
    let mine : ItemRow → Bool = λ row. row.item.terms.seller == member in
    let part = λ (row : ItemRow). row.item.terms in
    let numbers : List ℕ = map number_of (filter mine rows) in
    let low = all_weaker (λ row. TermsFit (part row)) (λ row. number_of row < 2 ^ 64) (λ row fit. omega (arith, fit.item.1)) (filter mine rows) (all_unmap TermsFit part (filter mine rows) (rw are at fits)) in
    let report : map item_of own ≡ numbers = ap (map item_of) are ∙ map-map item_of part (filter mine rows) in
    subst (IsAscending (λ m n. m < n)) (sym report) (numbers_rise number_of (filter mine rows) (ascending-filter (IsBelow number_of) mine rows (items_rise db house)) low)

-- where the questions fit that wait for a member, those fit that wait on its items
pub waiting_fit_at : (db : Database) (member : ℕ) (own : List Terms) → IsHouse db → own ≡ map (λ (row : ItemRow). row.item.terms) (filter (λ row. row.item.terms.seller == member) (items_in db.trees)) → AllByRecursion TermsFit own
    → FitWhere (λ q. not (is_some q.answer) && sells (row_at (tables_in db.trees) q.item) member) QuestionFits (questions_in db.trees) → AllByRecursion (λ (t : Terms). WaitingFit db.trees t.item) own
unfolding tables_in
waiting_fit_at db member own house are fits asked =
    all_unmap (WaitingFit db.trees) (λ (t : Terms). t.item) own
    (each_among (WaitingFit db.trees) (map (λ (t : Terms). t.item) own) (λ n is.
    all_weaker (λ (q : Question). (not (is_some q.answer) && sells (find (is_item q.item) (items_in db.trees)) member) ≡ true → QuestionFits q) (λ (q : Question). ((q.item == n) && not (is_some q.answer)) ≡ true → QuestionFits q)
    (λ q fit waits. fit (sym (asked_of db member own house are fits q) ∙ on_one q.item n (map (λ (t : Terms). t.item) own) (not (is_some q.answer)) is waits)) (questions_in db.trees) asked))
  where
    on_one : (item n : ℕ) (numbers : List ℕ) (open' : Bool) → list_any (λ m. n == m) numbers ≡ true → ((item == n) && open') ≡ true → (list_any (λ m. item == m) numbers && open') ≡ true
    on_one item n numbers open' is waits =
        let same : item ≡ n = grind (arith, nat_tests, first_of_both (item == n) open' waits) in
        let there : list_any (λ m. item == m) numbers ≡ true = subst (λ (k : ℕ). list_any (λ m. k == m) numbers ≡ true) (sym same) is in
        rw there (second_of_both (item == n) open' waits)

-- and where those fit that the first fifty take, those fit that wait on its items, in turn
pub waiting_in_turn : (db : Database) (member : ℕ) (own : List Terms) → IsHouse db → own ≡ map (λ (row : ItemRow). row.item.terms) (filter (λ row. row.item.terms.seller == member) (items_in db.trees)) → AllByRecursion TermsFit own
    → FirstFit (λ q. not (is_some q.answer) && sells (row_at (tables_in db.trees) q.item) member) (λ q. q.item) QuestionFits (questions_in db.trees) → WaitingInTurn db.trees 0 own
unfolding tables_in
waiting_in_turn db member own house are fits asked =
    all_in_turn db.trees own (own_rise db member own house are fits) (λ q. not (is_some q.answer) && sells (find (is_item q.item) (items_in db.trees)) member) (asked_of db member own house are fits) asked

pub first_stored_waiting : (db : Trees) (member : ℕ) → FirstFit (λ q. not (is_some q.answer) && sells (row_at (tables_in db) q.item) member) (λ q. q.item) QuestionFits (tables_in db).questions
    → FirstFit (λ q. not (is_some q.answer) && sells (row_at (tables_in db) q.item) member) (λ q. q.item) QuestionFits (questions_in db)
unfolding tables_in
first_stored_waiting db member fits = first_stored question_key (λ (q : Question). not (is_some q.answer) && sells (find (is_item q.item) (items_in db)) member) (λ (q : Question). q.item) QuestionFits (questions_in db) fits

pub waiting_found : (db : Database) (member : ℕ) (own : List Terms) → IsHouse db → own ≡ map (λ (row : ItemRow). row.item.terms) (filter (λ row. row.item.terms.seller == member) (items_in db.trees)) → AllByRecursion TermsFit own
    → flat_map (λ (t : Terms). waiting_in db.trees t.item) own ≡ waiting_for (tables_in db.trees) member
unfolding tables_in
waiting_found db member own house are fits =
    let rows = items_in db.trees in
    let mine : ItemRow → Bool = λ row. row.item.terms.seller == member in
    let part = λ (row : ItemRow). row.item.terms in
    let number = λ (t : Terms). t.item in
    let numbers : List ℕ = map number_of (filter mine rows) in
    let rise = items_rise db house in
    let low = all_weaker (λ row. TermsFit (part row)) (λ row. number_of row < 2 ^ 64) (λ row fit. omega (arith, fit.item.1)) (filter mine rows) (all_unmap TermsFit part (filter mine rows) (rw are at fits)) in
    let report : map number own ≡ numbers = ap (map number) are ∙ map-map number part (filter mine rows) in
    let same = λ (q : Question). both_turned (list_any (λ n. q.item == n) numbers) (not (is_some q.answer)) (sells (find (is_item q.item) rows) member)
    (first_passes number_of mine q.item rows rise low ∙ found_sells member (find (is_item q.item) rows)) in
    sym (flat_map-map (waiting_in db.trees) number own)
    ∙ ap (flat_map (waiting_in db.trees)) report
    ∙ waiting_grouped db.trees numbers (numbers_rise number_of (filter mine rows) (ascending-filter (IsBelow number_of) mine rows rise) low)
    ∙ filter_same (λ q. list_any (λ n. q.item == n) numbers && not (is_some q.answer)) (λ q. not (is_some q.answer) && sells (find (is_item q.item) rows) member) same (sorted_questions db.trees)
