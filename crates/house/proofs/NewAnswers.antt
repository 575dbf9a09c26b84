-- Answers: the verdict by the tables, and the tables after them.
use Rattle.std.proofs.Common.{Bor, ◌≡◌, ℕ, List, [], ◌∷◌, ◌++◌, map, filter, length, Bool, true, false, not, refl, ◌∙◌, ap, sym, arith, inl, inr, Option, Some, None}
use Rattle.std.specs.Prelude.{◌==◌, ◌&&◌, find, is_some}
use Rattle.std.specs.List.{AllByRecursion, list_any}
use Rattle.std.proofs.lemmas.Bool.Decides.{nat_tests}
use Rattle.std.proofs.lemmas.List.{append-nil}
use Rattle.proxy.specs.Rules.{first_failing}
use Rattle.house_rows.specs.declared.change.Change.TheVariants as change
use Rattle.house_rows.specs.declared.command.Command.TheVariants.{Answer}
use Rattle.house_rows.specs.declared.item.Terms.{Terms}
use Rattle.house_rows.specs.declared.refusal.Refusal.{Refusal}
use Rattle.house_rows.specs.declared.refusal.Refusal.TheVariants.{AlreadyAnswered, Range, SellerOnly, Unknown}
use Rattle.house_rows.specs.declared.settings.Settings.{Settings}
use Rattle.house_rows.specs.declared.talk.Question.{Question}
use Rattle.house_rows.specs.Asks.{AnswerFits}
use Rattle.house_rows.specs.Changed.{changed, with_answer}
use Rattle.house_rows.specs.Found.{question_at, terms_at}
use Rattle.house_rows.specs.History.{History}
use Rattle.house_rows.specs.Listings.{Listing, is_seller, listing_at, listings}
use Rattle.house_rows.specs.Questions.{Asked, answer_to, answered, answers, asked, is_question, names, published, questions, waiting}
use Rattle.house_rows.specs.Runs.{entry}
use Rattle.house_rows.specs.Tables.{Tables, row_now, tables_of}
use Rattle.house_rows.specs.Text.{is_text}
use Rattle.house_rows.specs.Verdict.{Rule, answer_rules, common_rules, verdict}
use Rattle.house_rows.proofs.Every.{every_map, found_has, found_is}
use Rattle.house.proofs.ByTables.{caller_fits}
use Rattle.house.proofs.Found.{by_test, some_found}
use Rattle.house.proofs.ListedTerms.{seller_is}
use Rattle.house.proofs.OnItems.{item_judged, item_refused}
use Rattle.house.specs.Decided.{IsAccepted, of_terms}
use Rattle.house.specs.Waiting.{waiting_rules}

-- a question by its item, asker and number
abbrev key : ℕ → ℕ → ℕ → List ℕ → Asked
key i asker number text = record { item = i; asker = asker; number = number; text = text }

-- answers go by item, asker and number
answer_of : (given : List Asked) (i asker number : ℕ) (text : List ℕ) (q : Asked) → is_question i asker number (answered given q) ≡ true → answer_to given q ≡ answer_to given (key i asker number text)
answer_of given i asker number text q is = by_key given where
  by_key : (as' : List Asked) → answer_to as' q ≡ answer_to as' (key i asker number text)
  by_key [] = refl
  by_key (a ∷ as') =
      let e : names a q ≡ names a (key i asker number text) = grind (arith, nat_tests, is) in
      rw (e, by_key as') refl

-- where the answer of those that are looked for is the same, some is kept if all are
any_kept : {A B : Type 0} (p f : B → Bool) (g : A → B) (b : Bool) (xs : List A) → ((x : A) → p (g x) ≡ true → f (g x) ≡ b)
    → list_any p (filter f (map g xs)) ≡ (list_any p (map g xs) && b)
any_kept p f g b [] same = refl
any_kept p f g b (x ∷ xs) same =
    let rest = any_kept p f g b xs same in
    elim (by_test (p (g x))) [
      | inl is ↦ (let here = same x is in elim (by_test b) [
        | inl kept ↦ (let e : f (g x) ≡ true = here ∙ kept in rw (e, is, kept) refl)
        | inr gone ↦ (let e : f (g x) ≡ false = here ∙ gone in rw (e, is, rest, gone) (never (list_any p (map g xs))))
      ])
      | inr not ↦ elim (by_test (f (g x))) [ inl kept ↦ rw (kept, not) rest | inr gone ↦ rw (gone, not) rest ]
    ] where
      never : (b : Bool) → (b && false) ≡ false
      never true = refl
      never false = refl

-- whether the question is published, and whether it waits for the caller
is_published : (h : History) (i asker number : ℕ) (text : List ℕ)
    → list_any (is_question i asker number) (published h) ≡ (list_any (is_question i asker number) (questions h) && is_some (answer_to (answers h) (key i asker number text)))
unfolding published questions
is_published h i asker number text =
    any_kept (is_question i asker number) (λ q. is_some q.answer) (answered (answers h)) (is_some (answer_to (answers h) (key i asker number text))) (asked h)
    (λ q is. ap is_some (answer_of (answers h) i asker number text q is))

is_waiting : (h : History) (i asker number c : ℕ) (text : List ℕ)
    → list_any (is_question i asker number) (waiting h c)
    ≡ (list_any (is_question i asker number) (questions h) && (not (is_some (answer_to (answers h) (key i asker number text))) && is_seller (listing_at (listings h) i) c))
unfolding waiting questions
is_waiting h i asker number c text =
    any_kept (is_question i asker number) (λ q. not (is_some q.answer) && is_seller (listing_at (listings h) q.item) c) (answered (answers h))
    (not (is_some (answer_to (answers h) (key i asker number text))) && is_seller (listing_at (listings h) i) c) (asked h)
    (λ q is. let at' : q.item ≡ i = grind (arith, nat_tests, is) in rw (answer_of (answers h) i asker number text q is, at') refl)

-- the rules by whether there is the question, and whether it has an answer
abbrev kept_rules : ℕ → List ℕ → Bool → Bool → Terms → List Rule
kept_rules caller text there done terms = answer_rules caller text (there && (not done && (terms.seller == caller))) (there && done) terms

-- what is refused before the question is looked for
pub answer_refused : (t : Tables) (settings : Settings) (h : History) (moment caller item asker number : ℕ) (text : List ℕ) (refusal : Refusal) → t ≡ tables_of settings h
    → ((more : Terms → List Rule) → Some refusal ≡ first_failing (common_rules t.clock (length t.members) moment caller false ++ of_terms (terms_at t item) more))
    → verdict settings h moment caller (Answer item asker number text) ≡ Some refusal
unfolding verdict
answer_refused t settings h moment caller item asker number text refusal e report =
    item_refused t settings h moment caller item refusal
    (λ floor. answer_rules caller text (list_any (is_question item asker number) (waiting h caller)) (list_any (is_question item asker number) (published h))) e report

answer_judged : (t : Tables) (settings : Settings) (h : History) (moment caller item asker number : ℕ) (text : List ℕ) (terms : Terms) → t ≡ tables_of settings h
    → terms_at t item ≡ Some terms → None ≡ first_failing (common_rules t.clock (length t.members) moment caller false)
    → verdict settings h moment caller (Answer item asker number text)
    ≡ first_failing (kept_rules caller text (list_any (is_question item asker number) (questions h)) (is_some (answer_to (answers h) (key item asker number text))) terms)
unfolding verdict
answer_judged t settings h moment caller item asker number text terms e found passed =
    item_judged t settings h moment caller item terms
    (λ floor. answer_rules caller text (list_any (is_question item asker number) (waiting h caller)) (list_any (is_question item asker number) (published h))) e found passed
    ∙ rw (is_waiting h item asker number caller text, is_published h item asker number text, seller_is settings h item caller terms (rw e at found)) refl

-- a caller that doesn't sell the item
pub answer_of_other : (t : Tables) (settings : Settings) (h : History) (moment caller item asker number : ℕ) (text : List ℕ) (terms : Terms) → t ≡ tables_of settings h
    → terms_at t item ≡ Some terms → None ≡ first_failing (common_rules t.clock (length t.members) moment caller false)
    → (terms.seller == caller) ≡ false → verdict settings h moment caller (Answer item asker number text) ≡ Some SellerOnly
answer_of_other t settings h moment caller item asker number text terms e found passed other =
    answer_judged t settings h moment caller item asker number text terms e found passed ∙ rw other refl

-- a question that isn't there
judged_none : (t : Tables) (settings : Settings) (h : History) (moment caller item asker number : ℕ) (text : List ℕ) (terms : Terms) → t ≡ tables_of settings h
    → terms_at t item ≡ Some terms → None ≡ first_failing (common_rules t.clock (length t.members) moment caller false)
    → (terms.seller == caller) ≡ true → question_at t item asker number ≡ None → verdict settings h moment caller (Answer item asker number text) ≡ Some Unknown
unfolding tables_of
judged_none t settings h moment caller item asker number text terms e found passed sells none =
    let nowhere : find (is_question item asker number) (questions h) ≡ None = rw e at none in
    let gone : list_any (is_question item asker number) (questions h) ≡ false = sym (some_found (is_question item asker number) (questions h)) ∙ ap is_some nowhere in
    answer_judged t settings h moment caller item asker number text terms e found passed ∙ rw (gone, sells) refl

-- of a question that is there
record QuestionThere (h : History) (item asker number : ℕ) (text : List ℕ) (q : Question) : Type 0 where
  pub there : list_any (is_question item asker number) (questions h) ≡ true
  pub answer : answer_to (answers h) (key item asker number text) ≡ q.answer

question_there : (t : Tables) (settings : Settings) (h : History) (item asker number : ℕ) (text : List ℕ) (q : Question) → t ≡ tables_of settings h
    → question_at t item asker number ≡ Some q → QuestionThere h item asker number text q
unfolding tables_of questions
question_there t settings h item asker number text q e found =
    let here : find (is_question item asker number) (map (answered (answers h)) (asked h)) ≡ Some q = rw e at found in
    let is : is_question item asker number q ≡ true = found_is (is_question item asker number) (map (answered (answers h)) (asked h)) q here in
    let HasAnswer : Question → Type 0 = λ p. is_question item asker number p ≡ true → answer_to (answers h) (key item asker number text) ≡ p.answer in
    record {
      there = sym (some_found (is_question item asker number) (map (answered (answers h)) (asked h))) ∙ ap is_some here;
      answer = found_has HasAnswer (is_question item asker number) (map (answered (answers h)) (asked h)) q (every_map (answered (answers h)) HasAnswer (asked h) (all_answered (asked h))) here is;
    } where
      all_answered : (qs : List Asked)
          → AllByRecursion (λ r. is_question item asker number (answered (answers h) r) ≡ true → answer_to (answers h) (key item asker number text) ≡ answer_to (answers h) r) qs
      all_answered [] = tt
      all_answered (r ∷ qs) = (λ is. sym (answer_of (answers h) item asker number text r is), all_answered qs)

judged_found : (t : Tables) (settings : Settings) (h : History) (moment caller item asker number : ℕ) (text : List ℕ) (terms : Terms) (q : Question) → t ≡ tables_of settings h
    → terms_at t item ≡ Some terms → None ≡ first_failing (common_rules t.clock (length t.members) moment caller false)
    → (terms.seller == caller) ≡ true → question_at t item asker number ≡ Some q → verdict settings h moment caller (Answer item asker number text) ≡ first_failing (waiting_rules (Some q) text)
judged_found t settings h moment caller item asker number text terms q e found passed sells asked' =
    let q_there = question_there t settings h item asker number text q e asked' in
    answer_judged t settings h moment caller item asker number text terms e found passed
    ∙ rw (q_there.there, q_there.answer, sells) (elim (by_test (is_some q.answer)) [ inl done ↦ rw done refl | inr waits ↦ rw waits refl ])

-- the seller's answer goes by the question that is found
pub answer_of_seller : (t : Tables) (settings : Settings) (h : History) (moment caller item asker number : ℕ) (text : List ℕ) (terms : Terms) → t ≡ tables_of settings h
    → terms_at t item ≡ Some terms → None ≡ first_failing (common_rules t.clock (length t.members) moment caller false)
    → (terms.seller == caller) ≡ true → verdict settings h moment caller (Answer item asker number text) ≡ first_failing (waiting_rules (question_at t item asker number) text)
answer_of_seller t settings h moment caller item asker number text terms e found passed sells = by_question (question_at t item asker number) refl where
  by_question : (o : Option Question) → question_at t item asker number ≡ o → verdict settings h moment caller (Answer item asker number text) ≡ first_failing (waiting_rules o text)
  by_question None none = judged_none t settings h moment caller item asker number text terms e found passed sells none
  by_question (Some q) some = judged_found t settings h moment caller item asker number text terms q e found passed sells some

-- the first answer to a question counts
answer_now : (given : List Asked) (a q : Asked) → names a q ≡ true → answer_to given q ≡ None → answer_to (given ++ a ∷ []) q ≡ Some a.text
answer_now [] a q is none = rw is refl
answer_now (b ∷ given) a q is none =
    elim (by_test (names b q)) [ inl had ↦ absurd (let had' : Some b.text ≡ None = rw had at none in cc) | inr not ↦ rw not (answer_now given a q is (rw not at none)) ]

-- an answer to another question doesn't
answer_more : (given : List Asked) (a q : Asked) → names a q ≡ false → answer_to (given ++ a ∷ []) q ≡ answer_to given q
answer_more [] a q other = rw other refl
answer_more (b ∷ given) a q other =
    elim (by_test (names b q)) [ inl is ↦ rw is refl | inr not ↦ rw not (answer_more given a q other) ]

named_is : (given : List Asked) (i asker number : ℕ) (text : List ℕ) (q : Asked) → names (key i asker number text) q ≡ is_question i asker number (answered given q)
named_is given i asker number text q = grind (arith, nat_tests)

with_one_more : (given : List Asked) (i asker number : ℕ) (text : List ℕ) (qs : List Asked) → answer_to given (key i asker number text) ≡ None
    → map (with_answer i asker number text) (map (answered given) qs) ≡ map (answered (given ++ key i asker number text ∷ [])) qs
with_one_more given i asker number text [] none = refl
with_one_more given i asker number text (q ∷ qs) none =
    elim (by_test (is_question i asker number (answered given q))) [
      | inl is ↦ (let named : names (key i asker number text) q ≡ true = named_is given i asker number text q ∙ is in
          let before : answer_to given q ≡ None = answer_of given i asker number text q is ∙ none in
          rw (is, answer_now given (key i asker number text) q named before, with_one_more given i asker number text qs none) refl)
      | inr not ↦ (let other : names (key i asker number text) q ≡ false = named_is given i asker number text q ∙ not in
          rw (not, answer_more given (key i asker number text) q other, with_one_more given i asker number text qs none) refl)
    ]

-- items are as they were
rows_still : (settings : Settings) (h : History) (moment caller i asker number : ℕ) (text : List ℕ) (ls : List Listing)
    → map (row_now settings (entry moment caller (Answer i asker number text) ∷ h)) ls ≡ map (row_now settings h) ls
rows_still settings h moment caller i asker number text [] = refl
rows_still settings h moment caller i asker number text (l ∷ ls) = rw (rows_still settings h moment caller i asker number text ls) (simp append-nil)

answer_leads : (settings : Settings) (h : History) (moment caller i asker number : ℕ) (text : Bor (List ℕ)) → answer_to (answers h) (key i asker number text.now) ≡ None
    → changed (tables_of settings h) (change.Answer moment i asker number text) ≡ tables_of settings (entry moment caller (Answer i asker number text.now) ∷ h)
unfolding changed tables_of questions
answer_leads settings h moment caller i asker number text none =
    rw (with_one_more (answers h) i asker number text.now (asked h) none, rows_still settings h moment caller i asker number text.now (listings h ++ [])) (simp append-nil)

waiting_pass : (q : Question) (text : List ℕ) → first_failing (waiting_rules (Some q) text) ≡ None → (q.answer ≡ None) × (is_text 1 500 text ≡ true)
waiting_pass q text none = by_parts q.answer (is_text 1 500 text) none where
  by_parts : (answer : Option (List ℕ)) (fits : Bool) → first_failing ((false, Unknown) ∷ (is_some answer, AlreadyAnswered) ∷ (not fits, Range) ∷ []) ≡ None → (answer ≡ None) × (fits ≡ true)
  by_parts (Some text) fits none = cc
  by_parts None false none = cc
  by_parts None true none = (refl, refl)

-- the question that was found is the one that was named
pub record IsNamed (item asker number : ℕ) (q : Question) : Type 0 where
  pub same_item : q.item ≡ item
  pub same_asker : q.asker ≡ asker
  pub same_number : q.number ≡ number

pub question_named : (t : Tables) (item asker number : ℕ) (q : Question) → question_at t item asker number ≡ Some q → IsNamed item asker number q
question_named t item asker number q found =
    let is : is_question item asker number q ≡ true = found_is (is_question item asker number) t.questions q found in
    record { same_item = grind (arith, nat_tests, is); same_asker = grind (arith, nat_tests, is); same_number = grind (arith, nat_tests, is) }

pub answer_fits : (t : Tables) (moment caller item asker number : ℕ) (text : List ℕ) (q : Question) (report : Bor (List ℕ)) → report.now ≡ text
    → None ≡ first_failing (common_rules t.clock (length t.members) moment caller false)
    → question_at t item asker number ≡ Some q → None ≡ first_failing (waiting_rules (question_at t item asker number) text)
    → AnswerFits t moment q.item q.asker q.number report.now
answer_fits t moment caller item asker number text q report same_text passed found none =
    let named = question_named t item asker number q found in
    let pass = waiting_pass q text (sym (rw found at none)) in
    rw (named.same_item, named.same_asker, named.same_number) (record {
      moment_fits = (caller_fits t moment caller false (sym passed)).moment_fits;
      question = q;
      question_there = found;
      waits = pass.0;
      text_fits = rw same_text pass.1;
    })

pub answer_accepts : (t : Tables) (settings : Settings) (h : History) (moment caller item asker number : ℕ) (text : List ℕ) (terms : Terms) (q : Question) (report : Bor (List ℕ)) → t ≡ tables_of settings h → report.now ≡ text
    → terms_at t item ≡ Some terms → None ≡ first_failing (common_rules t.clock (length t.members) moment caller false)
    → (terms.seller == caller) ≡ true → question_at t item asker number ≡ Some q → None ≡ first_failing (waiting_rules (question_at t item asker number) text)
    → IsAccepted settings h moment caller (Answer item asker number text) (change.Answer moment q.item q.asker q.number report)
answer_accepts t settings h moment caller item asker number text terms q report e same_text found passed sells asked' none =
    let named = question_named t item asker number q asked' in
    let q_there = question_there t settings h item asker number text q e asked' in
    let pass = waiting_pass q text (sym (rw asked' at none)) in
    rw (named.same_item, named.same_asker, named.same_number) (record {
      accepted = answer_of_seller t settings h moment caller item asker number text terms e found passed sells ∙ sym none;
      fits = rw (e, named.same_item, named.same_asker, named.same_number) at (answer_fits t moment caller item asker number text q report same_text passed asked' none);
      free = tt;
      leads = rw (← same_text) (answer_leads settings h moment caller item asker number report (rw same_text (q_there.answer ∙ pass.0)));
    })
