-- A question that has no answer is hidden from all but its asker and the seller.
use Rattle.std.proofs.Common.{◌≡◌, ℕ, ◌+◌, ◌≤◌, List, [], ◌∷◌, ◌++◌, map, filter, subst, Bool, true, false, not, refl, ◌∙◌, ap, sym, arith, inl, inr, ◌⊎◌, Option, Some, None}
use Rattle.std.specs.Prelude.{◌==◌, ◌&&◌, ◌||◌, is_some}
use Rattle.std.specs.List.{AllByRecursion, AllZip, list_any}
use Rattle.std.proofs.lemmas.Bool.Decides.{nat_tests}
use Rattle.std.proofs.lemmas.List.{append-nil}
use Rattle.proxy.specs.Rules.{first_failing}
use Rattle.house_rows.specs.declared.command.Command.{Command}
use Rattle.house_rows.specs.declared.command.Command.TheVariants.{Answer, Ask, Feedback}
use Rattle.house_rows.specs.declared.refusal.Refusal.TheVariants.{AlreadyAnswered, Range, SellerOnly, Unknown}
use Rattle.house_rows.specs.declared.settings.Settings.{Settings}
use Rattle.house_rows.specs.declared.talk.Feedback as row
use Rattle.house_rows.specs.declared.talk.Question.{Question}
use Rattle.house_rows.specs.Bids.{bids_on}
use Rattle.house_rows.specs.History.{Entry, History, clock, is_less, put_by}
use Rattle.house_rows.specs.Items.{closings, items_shown, leader_of, purchases, settlements}
use Rattle.house_rows.specs.Listings.{Listing, is_seller, listing_at, listings, tables_set}
use Rattle.house_rows.specs.People.{categories, members}
use Rattle.house_rows.specs.Questions.{Asked, answer_to, answered, answers, ask_count, asked, asked_key, is_question, names, published, questions, waiting, with_question}
use Rattle.house_rows.specs.Ratings.{feedback, party_against, with_feedback}
use Rattle.house_rows.specs.Runs.{entry}
use Rattle.house_rows.specs.Text.{is_text}
use Rattle.house_rows.specs.Verdict.{IsHistory, answer_rules, by_terms, rules, verdict}
use Rattle.house_rows.specs.Views.{own_maxima, own_questions, own_reserves, own_view, own_watches, public_view}
use Rattle.house_rows.specs.Watches.{watches}
use Rattle.house_rows.proofs.Every.{every_as, every_map, every_more, every_put, some_has}
use Rattle.house_rows.proofs.Lists.{filter_made}
use Rattle.house_rows.proofs.Own.{own_local}
use Rattle.house_rows.proofs.Passed.{item_pass, own_pass}
use Rattle.house_rows.proofs.Put.{by_test, filter_put_other}
use Rattle.house_rows.proofs.RangedTables.{every_filter}
use Rattle.house_laws.specs.Alike.{AreAlike}
use Rattle.house_laws.specs.Asking.{IsOutsider, is_answered, new_question}
use Rattle.house_laws.proofs.Seen.{items_same_each}
use Rattle.house_laws.proofs.Waiting.{waiting_local}

-- an asker's question on an item
abbrev is_asked_by : ℕ → ℕ → Asked → Bool
is_asked_by d i q = (q.asker == d) && (q.item == i)

count_put : (q : Asked) (qs : List Asked) (d i : ℕ) → ask_count (put_by asked_key q qs) d i ≡ ask_count (q ∷ qs) d i
count_put q [] d i = refl
count_put q (r ∷ qs) d i =
    let rest = count_put q qs d i in
    elim (by_test (is_less (asked_key q) (asked_key r))) [
      | inl less ↦ rw less refl
      | inr not ↦ rw not (elim (by_test (is_asked_by d i r)) [
        | inl is ↦ elim (by_test (is_asked_by d i q)) [
          | inl also ↦ (let e = rw also at rest in rw (is, also) (omega (arith, e)))
          | inr other ↦ (let e = rw other at rest in rw (is, other) (omega (arith, e)))
        ]
        | inr apart ↦ elim (by_test (is_asked_by d i q)) [
          | inl also ↦ (let e = rw also at rest in rw (apart, also) (omega (arith, e)))
          | inr other ↦ (let e = rw other at rest in rw (apart, other) (omega (arith, e)))
        ]
      ])
    ]

count_more : (q : Asked) (qs : List Asked) (d i : ℕ) → ask_count qs d i ≤ ask_count (q ∷ qs) d i
count_more q qs d i = elim (by_test (is_asked_by d i q)) [ inl is ↦ rw is (omega arith) | inr other ↦ rw other (omega arith) ]

-- its number is at most how many its asker has asked there
abbrev IsCounted : List Asked → Asked → Type 0
IsCounted qs q = q.number ≤ ask_count qs q.asker q.item

still_counted : (q r : Asked) (qs : List Asked) → IsCounted qs r → IsCounted (put_by asked_key q qs) r
still_counted q r qs is =
    let same = count_put q qs r.asker r.item in
    let more = count_more q qs r.asker r.item in
    omega (arith, is, same, more)

new_counted : (qs : List Asked) (c i : ℕ) (text : List ℕ)
    → IsCounted (put_by asked_key (record { item = i; asker = c; number = ask_count qs c i + 1; text = text }) qs) (record { item = i; asker = c; number = ask_count qs c i + 1; text = text })
new_counted qs c i text =
    let q : Asked = record { item = i; asker = c; number = ask_count qs c i + 1; text = text } in
    let here : is_asked_by c i q ≡ true = grind (arith, nat_tests) in
    rw (count_put q qs c i) (rw here (omega arith))

asks_step : (qs : List Asked) (c : ℕ) (command : Command) → AllByRecursion (IsCounted qs) qs → AllByRecursion (IsCounted (with_question qs c command)) (with_question qs c command)
asks_step qs c (Ask i text) all =
    let q : Asked = record { item = i; asker = c; number = ask_count qs c i + 1; text = text } in
    every_put asked_key (IsCounted (put_by asked_key q qs)) q qs
    (every_as (IsCounted qs) (IsCounted (put_by asked_key q qs)) qs (λ r is. still_counted q r qs is) all)
    (new_counted qs c i text)
asks_step qs c command all = all

asks_counted : (h : History) → AllByRecursion (IsCounted (asked h)) (asked h)
asks_counted [] = tt
asks_counted (e ∷ h) = asks_step (asked h) e.caller e.command (asks_counted h)

-- the question that an answer names is there
abbrev IsKnown : List Asked → Question → Type 0
IsKnown qs q = q.number ≤ ask_count qs q.asker q.item

all_known : (h : History) → AllByRecursion (IsKnown (asked h)) (questions h)
unfolding questions
all_known h = every_map (answered (answers h)) (IsKnown (asked h)) (asked h) (asks_counted h)

count_at : (qs : List Asked) (d e i j : ℕ) → d ≡ e → i ≡ j → ask_count qs d i ≡ ask_count qs e j
count_at qs d e i j by item = ap (λ (x : ℕ). ask_count qs x i) by ∙ ap (λ (x : ℕ). ask_count qs e x) item

known_by : (qs : List Asked) (some : List Question) (i asker number : ℕ) → AllByRecursion (IsKnown qs) some → list_any (is_question i asker number) some ≡ true → number ≤ ask_count qs asker i
known_by qs some i asker number all any =
    let found = some_has (IsKnown qs) (is_question i asker number) some all any in
    let q : Question = found.0 in
    let test : is_question i asker number q ≡ true = found.2 in
    let item : q.item ≡ i = grind (arith, nat_tests, test) in
    let by : q.asker ≡ asker = grind (arith, nat_tests, test) in
    let at : q.number ≡ number = grind (arith, nat_tests, test) in
    let known : q.number ≤ ask_count qs q.asker q.item = found.1 in
    let same : ask_count qs q.asker q.item ≡ ask_count qs asker i = count_at qs q.asker asker q.item i by item in
    omega (arith, known, same, at)

known_pass : (a waits public fits : Bool) → first_failing ((a, SellerOnly) ∷ (not (waits || public), Unknown) ∷ (public, AlreadyAnswered) ∷ (not fits, Range) ∷ []) ≡ None → waits ≡ true
known_pass true waits public fits none = cc
known_pass false true public fits none = refl
known_pass false false true fits none = cc
known_pass false false false fits none = cc

answer_known : (settings : Settings) (h : History) (t c i asker number : ℕ) (text : List ℕ) → verdict settings h t c (Answer i asker number text) ≡ None → number ≤ ask_count (asked h) asker i
unfolding waiting
answer_known settings h t c i asker number text none =
    let own : first_failing (rules settings h t c (Answer i asker number text)) ≡ None = own_pass settings h t c (Answer i asker number text) none in
    let waits : Bool = list_any (is_question i asker number) (waiting h c) in
    let public : Bool = list_any (is_question i asker number) (published h) in
    let pass = item_pass settings h i (by_terms (answer_rules c text waits public)) own in
    let l : Listing = pass.listing in
    let is : waits ≡ true = known_pass (not (l.seller == c)) waits public (is_text 1 500 text) pass.pass in
    known_by (asked h) (waiting h c) i asker number (every_filter (IsKnown (asked h)) _ (questions h) (all_known h)) is

answers_step : (settings : Settings) (h : History) (t c : ℕ) (command : Command) → verdict settings h t c command ≡ None → AllByRecursion (IsCounted (asked h)) (answers h)
    → AllByRecursion (IsCounted (asked (entry t c command ∷ h))) (answers (entry t c command ∷ h))
answers_step settings h t c (Answer i asker number text) none all =
    every_more (IsCounted (asked h)) (answers h) (record { item = i; asker = asker; number = number; text = text }) all (answer_known settings h t c i asker number text none)
answers_step settings h t c (Ask i text) none all =
    let q : Asked = record { item = i; asker = c; number = ask_count (asked h) c i + 1; text = text } in
    let more : AllByRecursion (IsCounted (put_by asked_key q (asked h))) (answers h) =
    every_as (IsCounted (asked h)) (IsCounted (put_by asked_key q (asked h))) (answers h) (λ r is. still_counted q r (asked h) is) all in
    simp append-nil more
answers_step settings h t c command none all = simp append-nil all

answers_counted : (settings : Settings) (h : History) → IsHistory settings h → AllByRecursion (IsCounted (asked h)) (answers h)
answers_counted settings [] is = tt
answers_counted settings (e ∷ h) is = answers_step settings h e.moment e.caller e.command is.0 (answers_counted settings h is.1)

none_yet : (qs given : List Asked) (q : Asked) → AllByRecursion (IsCounted qs) given → q.number ≡ ask_count qs q.asker q.item + 1 → answer_to given q ≡ None
none_yet qs [] q all next = refl
none_yet qs (a ∷ given) q all next =
    elim (by_test (names a q)) [
      | inl is ↦ absurd (let item : a.item ≡ q.item = grind (arith, nat_tests, is) in
          let by : a.asker ≡ q.asker = grind (arith, nat_tests, is) in
          let at : a.number ≡ q.number = grind (arith, nat_tests, is) in
          let few : a.number ≤ ask_count qs a.asker a.item = all.0 in
          let same : ask_count qs a.asker a.item ≡ ask_count qs q.asker q.item = count_at qs a.asker q.asker a.item q.item by item in
          omega (arith, few, same, at, next))
      | inr not ↦ rw not (none_yet qs given q all.1 next)
    ]

-- a question that is new has no answer
unanswered : (settings : Settings) (h : History) (d i : ℕ) (text : List ℕ) → IsHistory settings h → answer_to (answers h) (new_question h d i text) ≡ None
unanswered settings h d i text is = none_yet (asked h) (answers h) (new_question h d i text) (answers_counted settings h is) refl

ask_published : (h : History) (t d i : ℕ) (text : List ℕ) → answer_to (answers h) (new_question h d i text) ≡ None → published (entry t d (Ask i text) ∷ h) ≡ published h
unfolding published questions
ask_published h t d i text none =
    let q : Asked = new_question h d i text in
    let given = answers h in
    let answers_it : Asked → Bool = λ r. is_some (answer_to given r) in
    let e : filter (λ q. is_some q.answer) (map (answered given) (put_by asked_key q (asked h))) ≡ filter (λ q. is_some q.answer) (map (answered given) (asked h)) =
    filter_made (λ (q : Question). is_some q.answer) (answered given) (put_by asked_key q (asked h))
    ∙ ap (map (answered given)) (filter_put_other asked_key answers_it q (asked h) (rw none refl))
    ∙ sym (filter_made (λ (q : Question). is_some q.answer) (answered given) (asked h)) in
    simp append-nil e

ask_items : (settings : Settings) (h : History) (t d i : ℕ) (text : List ℕ) → items_shown settings (entry t d (Ask i text) ∷ h) ≡ items_shown settings h
ask_items settings h t d i text =
    items_same_each settings (entry t d (Ask i text) ∷ h) h (append-nil (listings h)) (λ l. simp append-nil)

ask_public : (settings : Settings) (h : History) (t d i : ℕ) (text : List ℕ) → answer_to (answers h) (new_question h d i text) ≡ None
    → public_view settings (entry t d (Ask i text) ∷ h) ≡ public_view settings h
ask_public settings h t d i text none =
    rw (ask_items settings h t d i text, ask_published h t d i text none) (simp append-nil)

abbrev item_asked : Command → ℕ
item_asked (Ask i text) = i
item_asked _ = 0

-- nobody else sees that it was asked
pub ask_unseen : (settings : Settings) (c t d i : ℕ) (text : List ℕ) (h : History) → IsHistory settings h → verdict settings h t d (Ask i text) ≡ None → IsOutsider h d i c
    → AreAlike settings c (entry t d (Ask i text) ∷ h) h
ask_unseen settings c t d i text h is none out = record {
  public = ask_public settings h t d i text (unanswered settings h d i text is);
  own = own_local c h (entry t d (Ask i text)) out.not_asker;
  waiting = waiting_local settings c h t d (Ask i text) out.not_asker none
      (λ j other e. let at : i ≡ j = ap item_asked e in subst (λ (n : ℕ). is_seller (listing_at (listings h) n) c ≡ false) at out.not_seller);
}

-- a question of that item, asker and number
record HasKey (i d n : ℕ) (q : Asked) : Type 0 where
  item : q.item ≡ i
  asker : q.asker ≡ d
  number : q.number ≡ n

-- the same question, or that one with another text
abbrev SameButText : ℕ → ℕ → ℕ → Asked → Asked → Type 0
SameButText i d n q r = (q ≡ r) ⊎ (HasKey i d n q × HasKey i d n r)

zip_same : (i d n : ℕ) (qs : List Asked) → AllZip (SameButText i d n) qs qs
zip_same i d n [] = tt
zip_same i d n (q ∷ qs) = (inl refl, zip_same i d n qs)

keys_same : (i d n : ℕ) (q r : Asked) → SameButText i d n q r → (q.item ≡ r.item) × (q.asker ≡ r.asker) × (q.number ≡ r.number)
keys_same i d n q r (inl e) = (ap (λ (q : Asked). q.item) e, ap (λ (q : Asked). q.asker) e, ap (λ (q : Asked). q.number) e)
keys_same i d n q r (inr keys) = (keys.0.item ∙ sym keys.1.item, keys.0.asker ∙ sym keys.1.asker, keys.0.number ∙ sym keys.1.number)

zip_put : (i d n : ℕ) (q r : Asked) (qs rs : List Asked) → SameButText i d n q r → AllZip (SameButText i d n) qs rs → AllZip (SameButText i d n) (put_by asked_key q qs) (put_by asked_key r rs)
zip_put i d n q r [] [] same zip = (same, tt)
zip_put i d n q r [] (b ∷ rs) same zip = absurd zip
zip_put i d n q r (a ∷ qs) [] same zip = absurd zip
zip_put i d n q r (a ∷ qs) (b ∷ rs) same zip =
    let x = keys_same i d n q r same in
    let y = keys_same i d n a b zip.0 in
    let e : is_less (asked_key q) (asked_key a) ≡ is_less (asked_key r) (asked_key b) = rw (x.0, x.1, x.2, y.0, y.1, y.2) refl in
    elim (by_test (is_less (asked_key r) (asked_key b))) [
      | inl less ↦ (let also : is_less (asked_key q) (asked_key a) ≡ true = e ∙ less in rw (less, also) (same, zip))
      | inr not ↦ (let also : is_less (asked_key q) (asked_key a) ≡ false = e ∙ not in rw (not, also) (zip.0, zip_put i d n q r qs rs same zip.1))
    ]

zip_count : (i d n : ℕ) (qs rs : List Asked) (a j : ℕ) → AllZip (SameButText i d n) qs rs → ask_count qs a j ≡ ask_count rs a j
zip_count i d n [] [] a j zip = refl
zip_count i d n [] (r ∷ rs) a j zip = absurd zip
zip_count i d n (q ∷ qs) [] a j zip = absurd zip
zip_count i d n (q ∷ qs) (r ∷ rs) a j zip =
    let x = keys_same i d n q r zip.0 in
    let rest = zip_count i d n qs rs a j zip.1 in
    let e : is_asked_by a j q ≡ is_asked_by a j r = rw (x.0, x.1) refl in
    elim (by_test (is_asked_by a j r)) [
      | inl is ↦ (let also : is_asked_by a j q ≡ true = e ∙ is in rw (is, also) (omega (arith, rest)))
      | inr not ↦ (let also : is_asked_by a j q ≡ false = e ∙ not in rw (not, also) rest)
    ]

zip_asked : (i d n : ℕ) (qs rs : List Asked) (c : ℕ) (command : Command) → AllZip (SameButText i d n) qs rs → AllZip (SameButText i d n) (with_question qs c command) (with_question rs c command)
zip_asked i d n qs rs c (Ask j text) zip =
    let q : Asked = record { item = j; asker = c; number = ask_count rs c j + 1; text = text } in
    rw (zip_count i d n qs rs c j zip) (zip_put i d n q q qs rs (inl refl) zip)
zip_asked i d n qs rs c command zip = zip

-- all is the same but the text of that question
record Reshown (i d n : ℕ) (h k : History) : Type 0 where
  clocks : clock h ≡ clock k
  people : members h ≡ members k
  kinds : categories h ≡ categories k
  set : tables_set h ≡ tables_set k
  lots : listings h ≡ listings k
  bought : purchases h ≡ purchases k
  closed : closings h ≡ closings k
  settled : settlements h ≡ settlements k
  given : answers h ≡ answers k
  watched : watches h ≡ watches k
  rated : feedback h ≡ feedback k
  bids : (j : ℕ) → bids_on h j ≡ bids_on k j
  maxima : (c : ℕ) → own_maxima h c ≡ own_maxima k c
  asks : AllZip (SameButText i d n) (asked h) (asked k)

leads_same : (i d n : ℕ) (h k : History) (l : Listing) → Reshown i d n h k → leader_of h l ≡ leader_of k l
leads_same i d n h k l r = rw (r.bought, r.bids l.item) refl

against_same : (i d n : ℕ) (h k : History) (o : Option Listing) (c : ℕ) → Reshown i d n h k → party_against h o c ≡ party_against k o c
against_same i d n h k None c r = refl
against_same i d n h k (Some l) c r = rw (leads_same i d n h k l r) refl

rated_same : (i d n : ℕ) (h k : History) (rows : List row.Feedback) (c : ℕ) (command : Command) → Reshown i d n h k → with_feedback h rows c command ≡ with_feedback k rows c command
rated_same i d n h k rows c (Feedback j None text) r = refl
rated_same i d n h k rows c (Feedback j (Some rating) text) r = rw (r.lots, against_same i d n h k (listing_at (listings k) j) c r) refl
rated_same i d n h k rows c command r = refl

retold_step : (i d n : ℕ) (h k : History) (e : Entry) → Reshown i d n h k → Reshown i d n (e ∷ h) (e ∷ k)
unfolding own_maxima
retold_step i d n h k e r = record {
  clocks = rw r.clocks refl;
  people = rw r.people refl;
  kinds = rw r.kinds refl;
  set = rw r.set refl;
  lots = rw (r.lots, r.set) refl;
  bought = rw r.bought refl;
  closed = rw (r.closed, r.lots) refl;
  settled = rw r.settled refl;
  given = rw r.given refl;
  watched = rw r.watched refl;
  rated = rated_same i d n h k (feedback h) e.caller e.command r ∙ ap (λ rows. with_feedback k rows e.caller e.command) r.rated;
  bids = λ j. rw (r.bids j) refl;
  maxima = λ c. rw (r.maxima c) refl;
  asks = zip_asked i d n (asked h) (asked k) e.caller e.command r.asks;
}

reshown_later : (i d n : ℕ) (h k : History) (later : List Entry) → Reshown i d n h k → Reshown i d n (later ++ h) (later ++ k)
reshown_later i d n h k [] r = r
reshown_later i d n h k (e ∷ later) r = retold_step i d n (later ++ h) (later ++ k) e (reshown_later i d n h k later r)

retold_first : (t d i : ℕ) (text other : List ℕ) (h : History) → Reshown i d (ask_count (asked h) d i + 1) (entry t d (Ask i text) ∷ h) (entry t d (Ask i other) ∷ h)
unfolding own_maxima
retold_first t d i text other h = record {
  clocks = refl;
  people = refl;
  kinds = refl;
  set = refl;
  lots = refl;
  bought = refl;
  closed = refl;
  settled = refl;
  given = refl;
  watched = refl;
  rated = refl;
  bids = λ j. refl;
  maxima = λ c. refl;
  asks = zip_put i d (ask_count (asked h) d i + 1) (new_question h d i text) (new_question h d i other) (asked h) (asked h)
      (inr (record { item = refl; asker = refl; number = refl }, record { item = refl; asker = refl; number = refl }))
      (zip_same i d (ask_count (asked h) d i + 1) (asked h));
}

answer_by_key : (given : List Asked) (q r : Asked) → q.item ≡ r.item → q.asker ≡ r.asker → q.number ≡ r.number → answer_to given q ≡ answer_to given r
answer_by_key [] q r item asker number = refl
answer_by_key (a ∷ given) q r item asker number = rw (answer_by_key given q r item asker number, item, asker, number) refl

published_zip : (i d n : ℕ) (given qs rs : List Asked) → ((q : Asked) → HasKey i d n q → answer_to given q ≡ None) → AllZip (SameButText i d n) qs rs
    → filter (λ q. is_some q.answer) (map (answered given) qs) ≡ filter (λ q. is_some q.answer) (map (answered given) rs)
published_zip i d n given [] [] none zip = refl
published_zip i d n given [] (r ∷ rs) none zip = absurd zip
published_zip i d n given (q ∷ qs) [] none zip = absurd zip
published_zip i d n given (q ∷ qs) (r ∷ rs) none zip =
    let rest = published_zip i d n given qs rs none zip.1 in
    elim zip.0 [
      | inl e ↦ rw (e, rest) refl
      | inr keys ↦ rw (none q keys.0, none r keys.1) rest
    ]

never : (b : Bool) → (not b && false) ≡ false
never true = refl
never false = refl

no_wait : (ls : List Listing) (i c : ℕ) (q : Asked) (b : Bool) → is_seller (listing_at ls i) c ≡ false → q.item ≡ i → (not b && is_seller (listing_at ls q.item) c) ≡ false
no_wait ls i c q b other at = ap (λ (j : ℕ). not b && is_seller (listing_at ls j) c) at ∙ ap (λ (sells : Bool). not b && sells) other ∙ never b

waiting_zip : (i d n : ℕ) (ls : List Listing) (given qs rs : List Asked) (c : ℕ) → is_seller (listing_at ls i) c ≡ false → AllZip (SameButText i d n) qs rs
    → filter (λ q. not (is_some q.answer) && is_seller (listing_at ls q.item) c) (map (answered given) qs)
    ≡ filter (λ q. not (is_some q.answer) && is_seller (listing_at ls q.item) c) (map (answered given) rs)
waiting_zip i d n ls given [] [] c other zip = refl
waiting_zip i d n ls given [] (r ∷ rs) c other zip = absurd zip
waiting_zip i d n ls given (q ∷ qs) [] c other zip = absurd zip
waiting_zip i d n ls given (q ∷ qs) (r ∷ rs) c other zip =
    let rest = waiting_zip i d n ls given qs rs c other zip.1 in
    elim zip.0 [
      | inl e ↦ rw (e, rest) refl
      | inr keys ↦ rw (no_wait ls i c q (is_some (answer_to given q)) other keys.0.item, no_wait ls i c r (is_some (answer_to given r)) other keys.1.item) rest
    ]

own_zip : (i d n : ℕ) (qs rs : List Asked) (c : ℕ) → (d == c) ≡ false → AllZip (SameButText i d n) qs rs → filter (λ q. q.asker == c) qs ≡ filter (λ q. q.asker == c) rs
own_zip i d n [] [] c other zip = refl
own_zip i d n [] (r ∷ rs) c other zip = absurd zip
own_zip i d n (q ∷ qs) [] c other zip = absurd zip
own_zip i d n (q ∷ qs) (r ∷ rs) c other zip =
    let rest = own_zip i d n qs rs c other zip.1 in
    elim zip.0 [
      | inl e ↦ rw (e, rest) refl
      | inr keys ↦ rw (keys.0.asker, keys.1.asker, other) rest
    ]

retold_items : (settings : Settings) (i d n : ℕ) (h k : History) → Reshown i d n h k → items_shown settings h ≡ items_shown settings k
retold_items settings i d n h k r =
    items_same_each settings h k r.lots (λ l. rw (r.bought, r.closed, r.settled, r.bids l.item) refl)

retold_published : (i d n : ℕ) (h k : History) → ((q : Asked) → HasKey i d n q → answer_to (answers k) q ≡ None) → Reshown i d n h k → published h ≡ published k
unfolding published questions
retold_published i d n h k none r = rw r.given (published_zip i d n (answers k) (asked h) (asked k) none r.asks)

retold_waiting : (i d n : ℕ) (h k : History) (c : ℕ) → is_seller (listing_at (listings k) i) c ≡ false → Reshown i d n h k → waiting h c ≡ waiting k c
unfolding waiting questions
retold_waiting i d n h k c other r = rw (r.given, r.lots) (waiting_zip i d n (listings k) (answers k) (asked h) (asked k) c other r.asks)

retold_own : (i d n : ℕ) (h k : History) (c : ℕ) → (d == c) ≡ false → Reshown i d n h k → own_view h c ≡ own_view k c
unfolding own_reserves own_watches own_questions
retold_own i d n h k c other r = rw (r.maxima c, r.lots, r.watched, own_zip i d n (asked h) (asked k) c other r.asks) refl

-- so whoever is neither its asker nor the seller can't know what it says
retold_alike : (settings : Settings) (i d n c : ℕ) (h k : History) → ((q : Asked) → HasKey i d n q → answer_to (answers h) q ≡ None) → IsOutsider h d i c → Reshown i d n h k → AreAlike settings c h k
retold_alike settings i d n c h k none out r =
    let none' : (q : Asked) → HasKey i d n q → answer_to (answers k) q ≡ None = λ q key. ap (λ given. answer_to given q) (sym r.given) ∙ none q key in
    let seller : is_seller (listing_at (listings k) i) c ≡ false = ap (λ ls. is_seller (listing_at ls i) c) (sym r.lots) ∙ out.not_seller in
    record {
      public = rw (r.clocks, r.people, r.kinds, retold_items settings i d n h k r, retold_published i d n h k none' r, r.rated, r.set) refl;
      own = retold_own i d n h k c out.not_asker r;
      waiting = retold_waiting i d n h k c seller r;
    }

pub none_there : (o : Option (List ℕ)) → is_some o ≡ false → o ≡ None
none_there None not = refl
none_there (Some text) not = cc

pub ask_unread : (settings : Settings) (c t d i : ℕ) (text other : List ℕ) (h : History) (later : List Entry) → IsOutsider (later ++ entry t d (Ask i text) ∷ h) d i c
    → is_answered (later ++ entry t d (Ask i text) ∷ h) (new_question h d i text) ≡ false
    → AreAlike settings c (later ++ entry t d (Ask i text) ∷ h) (later ++ entry t d (Ask i other) ∷ h)
ask_unread settings c t d i text other h later out not =
    let n : ℕ = ask_count (asked h) d i + 1 in
    let a : History = entry t d (Ask i text) ∷ h in
    let b : History = entry t d (Ask i other) ∷ h in
    let none : answer_to (answers (later ++ a)) (new_question h d i text) ≡ None = none_there (answer_to (answers (later ++ a)) (new_question h d i text)) not in
    retold_alike settings i d n c (later ++ a) (later ++ b)
    (λ q key. answer_by_key (answers (later ++ a)) q (new_question h d i text) key.item key.asker key.number ∙ none)
    out (reshown_later i d n a b later (retold_first t d i text other h))
