-- Questions: the verdict by the tables, and the tables after them.
use Rattle.std.proofs.Common.{Bor, ◌≡◌, ℕ, ◌+◌, ◌≤◌, ◌<◌, List, [], ◌∷◌, ◌++◌, map, filter, length, Bool, true, false, not, refl, ◌∙◌, ap, sym, arith, inl, inr, Some, None}
use Rattle.std.specs.Prelude.{◌==◌, ◌&&◌, ◌||◌, find, nat_le}
use Rattle.std.specs.List.{AllByRecursion, list_any}
use Rattle.std.proofs.lemmas.Bool.Decides.{nat_tests}
use Rattle.std.proofs.lemmas.List.{append-nil}
use Rattle.proxy.specs.Rules.{first_failing}
use Rattle.house_rows.specs.declared.change.Change.TheVariants as change
use Rattle.house_rows.specs.declared.command.Command.{Command}
use Rattle.house_rows.specs.declared.command.Command.TheVariants.{Register, AddCategory, List as Listed, Bid, Buy, Close, Settle, Watch, Unwatch, Ask, Answer, Feedback, SetBands}
use Rattle.house_rows.specs.declared.item.Terms.{Terms}
use Rattle.house_rows.specs.declared.refusal.Refusal.{Refusal}
use Rattle.house_rows.specs.declared.refusal.Refusal.TheVariants.{AlreadyAnswered, Ended, Limit, NotOpen, OwnItem, Range, SellerOnly, Unknown}
use Rattle.house_rows.specs.declared.settings.Settings.{Settings}
use Rattle.house_rows.specs.declared.talk.Question.{Question}
use Rattle.house_rows.specs.Asks.{QuestionAsked}
use Rattle.house_rows.specs.Changed.{changed, question_key}
use Rattle.house_rows.specs.Found.{ask_count, question_at, terms_at}
use Rattle.house_rows.specs.History.{History, Key, counted, is_less, put_by}
use Rattle.house_rows.specs.Items.{is_open}
use Rattle.house_rows.specs.Limits.{most_questions}
use Rattle.house_rows.specs.Listings.{Listing, listings}
use Rattle.house_rows.specs.Questions.{Asked, answer_to, answered, answers, ask_count as asked_count, asked, asked_key, is_question, names, published, questions, waiting}
use Rattle.house_rows.specs.Runs.{entry}
use Rattle.house_rows.specs.Tables.{Tables, row_now, tables_of}
use Rattle.house_rows.specs.Text.{is_text}
use Rattle.house_rows.specs.Verdict.{IsHistory, Rule, answer_rules, by_terms, common_rules, question_rules, rules, verdict}
use Rattle.house_rows.specs.Views.{own_questions}
use Rattle.house_rows.proofs.Every.{every_as, every_map, every_more, every_put, some_has}
use Rattle.house_rows.proofs.Own.{count_own}
use Rattle.house_rows.proofs.Passed.{item_pass, own_pass}
use Rattle.house.proofs.ByTables.{caller_fits}
use Rattle.house.proofs.Found.{by_test}
use Rattle.house.proofs.OnItems.{item_judged, item_refused, row_there}
use Rattle.house.specs.Decided.{IsAccepted, of_terms}

-- a row that is put counts
counted_put : {A : Type 0} (key : A → Key) (p : A → Bool) (x : A) (xs : List A) → counted p (put_by key x xs) ≡ counted p (x ∷ xs)
counted_put key p x [] = refl
counted_put key p x (y ∷ ys) =
    elim (by_test (is_less (key x) (key y))) [
      | inl less ↦ rw less refl
      | inr not ↦ rw not (grind (arith, nat_tests, counted_put key p x ys))
    ]

-- a number that was given to a question of that asker on that item
abbrev IsGiven : List Asked → Asked → Type 0
IsGiven qs q = q.number ≤ asked_count qs q.asker q.item

given_more : (x : Asked) (qs : List Asked) (q : Asked) → IsGiven qs q → IsGiven (put_by asked_key x qs) q
given_more x qs q given =
    let e = counted_put asked_key (λ (p : Asked). (p.asker == q.asker) && (p.item == q.item)) x qs in
    rw e (grind (arith, nat_tests, given))

given_new : (x : Asked) (qs : List Asked) → x.number ≡ asked_count qs x.asker x.item + 1 → IsGiven (put_by asked_key x qs) x
given_new x qs next =
    let e = counted_put asked_key (λ (p : Asked). (p.asker == x.asker) && (p.item == x.item)) x qs in
    rw e (grind (arith, nat_tests, next))

-- every question, and every answer, has a number that was given
record AreGiven (h : History) : Type 0 where
  pub questions : AllByRecursion (IsGiven (asked h)) (asked h)
  pub answers : AllByRecursion (IsGiven (asked h)) (answers h)

any_filter : {A : Type 0} (p f : A → Bool) (xs : List A) → list_any p (filter f xs) ≡ true → list_any p xs ≡ true
any_filter p f [] any = cc
any_filter p f (x ∷ xs) any =
    elim (by_test (p x)) [
      | inl is ↦ rw is refl
      | inr not ↦ rw not (elim (by_test (f x)) [ inl kept ↦ any_filter p f xs (rw not at (rw kept at any)) | inr gone ↦ any_filter p f xs (rw gone at any) ])
    ]

answer_pass : (a waits public d : Bool) → first_failing ((a, SellerOnly) ∷ (not (waits || public), Unknown) ∷ (public, AlreadyAnswered) ∷ (d, Range) ∷ []) ≡ None → waits ≡ true
answer_pass true waits public d none = cc
answer_pass false true public d none = refl
answer_pass false false true d none = cc
answer_pass false false false d none = cc

answer_given : (settings : Settings) (h : History) (t c i asker number : ℕ) (text : List ℕ) → verdict settings h t c (Answer i asker number text) ≡ None → AreGiven h
    → IsGiven (asked h) (record { item = i; asker = asker; number = number; text = text })
unfolding waiting questions
answer_given settings h t c i asker number text none are =
    let own : first_failing (rules settings h t c (Answer i asker number text)) ≡ None = own_pass settings h t c (Answer i asker number text) none in
    let waits : Bool = list_any (is_question i asker number) (waiting h c) in
    let public : Bool = list_any (is_question i asker number) (published h) in
    let pass = item_pass settings h i (by_terms (answer_rules c text waits public)) own in
    let any = answer_pass (not (pass.listing.seller == c)) waits public (not (is_text 1 500 text)) pass.pass in
    let IsNumbered : Question → Type 0 = λ q. q.number ≤ asked_count (asked h) q.asker q.item in
    let one = some_has IsNumbered (is_question i asker number) (map (answered (answers h)) (asked h)) (every_map (answered (answers h)) IsNumbered (asked h) are.questions)
    (any_filter (is_question i asker number) _ (map (answered (answers h)) (asked h)) any) in
    let le = one.1 in let is = one.2 in
    let same_item : one.0.item ≡ i = grind (arith, nat_tests, is) in
    let same_asker : one.0.asker ≡ asker = grind (arith, nat_tests, is) in
    let same_number : one.0.number ≡ number = grind (arith, nat_tests, is) in
    rw (same_item, same_asker, same_number) at le

given_step : (settings : Settings) (h : History) (t c : ℕ) (command : Command) → verdict settings h t c command ≡ None → AreGiven h → AreGiven (entry t c command ∷ h)
given_step settings h t c (Ask i text) none are =
    let q : Asked = record { item = i; asker = c; number = asked_count (asked h) c i + 1; text = text } in
    let more = λ (xs : List Asked) (all : AllByRecursion (IsGiven (asked h)) xs). every_as (IsGiven (asked h)) (IsGiven (put_by asked_key q (asked h))) xs (given_more q (asked h)) all in
    record {
      questions = every_put asked_key (IsGiven (put_by asked_key q (asked h))) q (asked h) (more (asked h) are.questions) (given_new q (asked h) refl);
      answers = simp append-nil (more (answers h) are.answers);
    }
given_step settings h t c (Answer i asker number text) none are = record {
  questions = are.questions;
  answers = every_more (IsGiven (asked h)) (answers h) (record { item = i; asker = asker; number = number; text = text }) are.answers (answer_given settings h t c i asker number text none are);
}
given_step settings h t c (Register name) none are = record { questions = are.questions; answers = simp append-nil are.answers }
given_step settings h t c (AddCategory name) none are = record { questions = are.questions; answers = simp append-nil are.answers }
given_step settings h t c (Listed category lot title text start buy_now end reserve) none are = record { questions = are.questions; answers = simp append-nil are.answers }
given_step settings h t c (Bid i maximum) none are = record { questions = are.questions; answers = simp append-nil are.answers }
given_step settings h t c (Buy i) none are = record { questions = are.questions; answers = simp append-nil are.answers }
given_step settings h t c Close none are = record { questions = are.questions; answers = simp append-nil are.answers }
given_step settings h t c (Settle i) none are = record { questions = are.questions; answers = simp append-nil are.answers }
given_step settings h t c (Watch i) none are = record { questions = are.questions; answers = simp append-nil are.answers }
given_step settings h t c (Unwatch i) none are = record { questions = are.questions; answers = simp append-nil are.answers }
given_step settings h t c (Feedback i rating text) none are = record { questions = are.questions; answers = simp append-nil are.answers }
given_step settings h t c (SetBands bands) none are = record { questions = are.questions; answers = simp append-nil are.answers }

all_given : (settings : Settings) (h : History) → IsHistory settings h → AreGiven h
all_given settings [] is = record { questions = tt; answers = tt }
all_given settings (e ∷ h) is = given_step settings h e.moment e.caller e.command is.0 (all_given settings h is.1)

-- a question with a number that wasn't given has no answer
unanswered : (qs given : List Asked) (q : Asked) → AllByRecursion (IsGiven qs) given → asked_count qs q.asker q.item < q.number → answer_to given q ≡ None
unanswered qs [] q all new = refl
unanswered qs (a ∷ given) q all new =
    elim (by_test (names a q)) [
      | inl is ↦ absurd (named qs a q is all.0 new)
      | inr not ↦ rw not (unanswered qs given q all.1 new)
    ] where
      named : (qs : List Asked) (a q : Asked) → names a q ≡ true → IsGiven qs a → asked_count qs q.asker q.item < q.number → ⊥
      named qs a q is le lt =
          let same_item : a.item ≡ q.item = grind (arith, nat_tests, is) in
          let same_asker : a.asker ≡ q.asker = grind (arith, nat_tests, is) in
          let same_number : a.number ≡ q.number = grind (arith, nat_tests, is) in
          let here : q.number ≤ asked_count qs q.asker q.item = rw (same_item, same_asker, same_number) at le in
          omega arith

-- questions are put by the same key with their answers and without
put_answered : (given : List Asked) (x : Asked) (qs : List Asked) → put_by question_key (answered given x) (map (answered given) qs) ≡ map (answered given) (put_by asked_key x qs)
put_answered given x [] = refl
put_answered given x (q ∷ qs) =
    elim (by_test (is_less (asked_key x) (asked_key q))) [ inl less ↦ rw less refl | inr not ↦ rw not (ap (λ rest. answered given q ∷ rest) (put_answered given x qs)) ]

-- a new question waits
new_waits : (settings : Settings) (h : History) (c i : ℕ) (text : List ℕ) → IsHistory settings h
    → put_by question_key (record { item = i; asker = c; number = asked_count (asked h) c i + 1; text = text; answer = None }) (map (answered (answers h)) (asked h))
    ≡ map (answered (answers h)) (put_by asked_key (record { item = i; asker = c; number = asked_count (asked h) c i + 1; text = text }) (asked h))
new_waits settings h c i text is =
    let q : Asked = record { item = i; asker = c; number = asked_count (asked h) c i + 1; text = text } in
    let none : answer_to (answers h) q ≡ None = unanswered (asked h) (answers h) q (all_given settings h is).answers (omega arith) in
    rw none at (put_answered (answers h) q (asked h))

-- counts are the same with answers and without
count_answered : (given : List Asked) (c i : ℕ) (qs : List Asked) → counted (λ (q : Question). (q.asker == c) && (q.item == i)) (map (answered given) qs) ≡ asked_count qs c i
count_answered given c i [] = refl
count_answered given c i (q ∷ qs) = grind (arith, nat_tests, count_answered given c i qs)

count_kept : (settings : Settings) (h : History) (c i : ℕ) → ask_count (tables_of settings h) c i ≡ asked_count (asked h) c i
unfolding tables_of questions
count_kept settings h c i = count_answered (answers h) c i (asked h)

-- items are as they were
rows_still : (settings : Settings) (h : History) (moment caller i : ℕ) (text : List ℕ) (ls : List Listing)
    → map (row_now settings (entry moment caller (Ask i text) ∷ h)) ls ≡ map (row_now settings h) ls
rows_still settings h moment caller i text [] = refl
rows_still settings h moment caller i text (l ∷ ls) = rw (rows_still settings h moment caller i text ls) (simp append-nil)

ask_leads : (settings : Settings) (h : History) (moment caller i : ℕ) (text : Bor (List ℕ)) → IsHistory settings h
    → changed (tables_of settings h) (change.Ask i caller (asked_count (asked h) caller i + 1) text) ≡ tables_of settings (entry moment caller (Ask i text.now) ∷ h)
unfolding changed tables_of questions
ask_leads settings h moment caller i text is =
    rw (new_waits settings h caller i text.now is, rows_still settings h moment caller i text.now (listings h ++ [])) (simp append-nil)

-- what is refused before the questions are asked
pub ask_refused : (t : Tables) (settings : Settings) (h : History) (moment caller item : ℕ) (text : List ℕ) (refusal : Refusal) → t ≡ tables_of settings h
    → ((more : Terms → List Rule) → Some refusal ≡ first_failing (common_rules t.clock (length t.members) moment caller false ++ of_terms (terms_at t item) more))
    → verdict settings h moment caller (Ask item text) ≡ Some refusal
unfolding verdict
ask_refused t settings h moment caller item text refusal e report =
    item_refused t settings h moment caller item refusal (λ floor. question_rules moment caller text (asked_count (own_questions h caller) caller item)) e report

-- the verdict by the terms and the count that are kept
pub ask_judged : (t : Tables) (settings : Settings) (h : History) (moment caller item : ℕ) (text : List ℕ) (terms : Terms) → t ≡ tables_of settings h
    → terms_at t item ≡ Some terms → None ≡ first_failing (common_rules t.clock (length t.members) moment caller false)
    → verdict settings h moment caller (Ask item text) ≡ first_failing (question_rules moment caller text (ask_count t caller item) terms)
unfolding verdict own_questions
ask_judged t settings h moment caller item text terms e found passed =
    item_judged t settings h moment caller item terms (λ floor. question_rules moment caller text (asked_count (own_questions h caller) caller item)) e found passed
    ∙ rw (e, count_kept settings h caller item, count_own caller item (asked h)) refl

ask_pass : (a b d fits : Bool) (count : ℕ)
    → first_failing ((a, OwnItem) ∷ (b, NotOpen) ∷ (d, Ended) ∷ (not fits, Range) ∷ (nat_le most_questions count, Limit) ∷ []) ≡ None → (fits ≡ true) × (count < most_questions)
ask_pass true b d fits count none = cc
ask_pass false true d fits count none = cc
ask_pass false false true fits count none = cc
ask_pass false false false false count none = cc
ask_pass false false false true count none = (refl, grind (arith, nat_tests, none))

pub ask_fits : (t : Tables) (moment caller item : ℕ) (text : List ℕ) (terms : Terms) (member number : ℕ) (report : Bor (List ℕ))
    → report.now ≡ text → member ≡ caller → number ≡ ask_count t caller item + 1
    → terms_at t item ≡ Some terms → None ≡ first_failing (common_rules t.clock (length t.members) moment caller false)
    → None ≡ first_failing (question_rules moment caller text (ask_count t caller item) terms) → QuestionAsked t terms.item member number report.now
ask_fits t moment caller item text terms member number report same_text same_member next found passed none =
    let row = row_there t item terms found in
    let pass = ask_pass (terms.seller == caller) (not (is_open terms.state)) (nat_le terms.end moment) (is_text 1 500 text) (ask_count t caller item) (sym none) in
    rw (same_member, row.numbered, next) (record {
      item_there = (row.row, row.there);
      asker_there = (caller_fits t moment caller false (sym passed)).there refl;
      numbered = refl;
      room = pass.1;
      text_fits = rw same_text pass.0;
    })

-- no question has a number that wasn't given
none_asked : (qs given : List Asked) (i asker number : ℕ) (asked : List Asked) → AllByRecursion (IsGiven qs) asked → asked_count qs asker i < number
    → find (is_question i asker number) (map (answered given) asked) ≡ None
none_asked qs given i asker number [] all new = refl
none_asked qs given i asker number (q ∷ asked) all new =
    elim (by_test (is_question i asker number (answered given q))) [
      | inl is ↦ absurd (named q all.0 is)
      | inr not ↦ rw not (none_asked qs given i asker number asked all.1 new)
    ] where
      named : (q : Asked) → IsGiven qs q → is_question i asker number (answered given q) ≡ true → ⊥
      named q le is =
          let same_item : q.item ≡ i = grind (arith, nat_tests, is) in
          let same_asker : q.asker ≡ asker = grind (arith, nat_tests, is) in
          let same_number : q.number ≡ number = grind (arith, nat_tests, is) in
          let here : number ≤ asked_count qs asker i = rw (same_item, same_asker, same_number) at le in
          omega arith

ask_free : (settings : Settings) (h : History) (i asker : ℕ) → IsHistory settings h → question_at (tables_of settings h) i asker (asked_count (asked h) asker i + 1) ≡ None
unfolding tables_of questions
ask_free settings h i asker is =
    none_asked (asked h) (answers h) i asker (asked_count (asked h) asker i + 1) (asked h) (all_given settings h is).questions (omega arith)

pub ask_accepts : (t : Tables) (settings : Settings) (h : History) (moment caller item : ℕ) (text : List ℕ) (terms : Terms) (member number : ℕ) (report : Bor (List ℕ)) → IsHistory settings h
    → t ≡ tables_of settings h → report.now ≡ text → member ≡ caller → number ≡ ask_count t caller item + 1
    → terms_at t item ≡ Some terms → None ≡ first_failing (common_rules t.clock (length t.members) moment caller false)
    → None ≡ first_failing (question_rules moment caller text (ask_count t caller item) terms)
    → IsAccepted settings h moment caller (Ask item text) (change.Ask terms.item member number report)
ask_accepts t settings h moment caller item text terms member number report is e same_text same_member next found passed none =
    let named : terms.item ≡ item = (row_there t item terms found).numbered in
    rw (same_member, named, next) (record {
      accepted = ask_judged t settings h moment caller item text terms e found passed ∙ sym none;
      fits = rw (← e) (rw (same_member, named, next) at (ask_fits t moment caller item text terms member number report same_text same_member next found passed none));
      free = rw (e, count_kept settings h caller item) (ask_free settings h item caller is);
      leads = rw (e, count_kept settings h caller item) (rw (← same_text) (ask_leads settings h moment caller item report is));
    })
