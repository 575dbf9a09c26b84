-- Questions and feedback of a history are in their ranges.
use Rattle.std.proofs.Common.{◌≡◌, ◌≢◌, ℕ, ◌+◌, ◌<◌, List, [], ◌∷◌, ◌++◌, length, subst, Bool, true, false, not, refl, sym, arith, inl, inr, Option, Some, None}
use Rattle.std.specs.Prelude.{◌==◌, ◌&&◌, ◌||◌, find, is_some, nat_le, IfSome}
use Rattle.std.specs.List.{AllByRecursion, list_any}
use Rattle.std.proofs.lemmas.Bool.Decides.{nat_tests}
use Rattle.std.proofs.lemmas.List.{append-nil}
use Rattle.std.proofs.lemmas.List.Folds.{list_any-append}
use Rattle.proxy.specs.Bids.{is_leader, leader}
use Rattle.proxy.specs.Rules.{first_failing}
use Rattle.proxy.specs.declared.bid.Bid as bid
use Rattle.proxy.proofs.Leads.{somebody_leads}
use Rattle.house_rows.specs.declared.command.Command.{Command}
use Rattle.house_rows.specs.declared.command.Command.TheVariants.{Register, AddCategory, List as Listed, Bid, Buy, Close, Settle, Watch, Unwatch, Ask, Answer, Feedback, SetBands}
use Rattle.house_rows.specs.declared.refusal.Refusal.TheVariants.{AlreadyAnswered, AlreadyGiven, Ended, Limit, NotOpen, NotParty, NotSold, OwnItem, Range, SellerOnly, Unknown}
use Rattle.house_rows.specs.declared.settings.Settings.{Settings}
use Rattle.house_rows.specs.declared.state.State.{State}
use Rattle.house_rows.specs.declared.state.State.TheVariants.{Open, Sold, Unsold, Settled}
use Rattle.house_rows.specs.Fits.{FeedbackFits, IsItem, IsMember, IsWithin, QuestionFits}
use Rattle.house_rows.specs.History.{Entry, History}
use Rattle.house_rows.specs.Bids.{bid_in, bids_on}
use Rattle.house_rows.specs.Items.{Purchase, closed_at, closed_from, closing_in, closings, is_bought, is_open, is_settled, is_taken, leader_from, leader_of, purchase_in, purchase_of, purchases, settlements, state_from, state_of, close_sells, met_of}
use Rattle.house_rows.specs.Limits.{most_questions}
use Rattle.house_rows.specs.Listings.{Listing, listing_at, listings}
use Rattle.house_rows.specs.Questions.{Asked, answer_to, answered, answers, ask_count, asked, asked_key, is_question, names, published, questions, waiting}
use Rattle.house_rows.specs.Ratings.{feedback, feedback_key, other_party, party_against}
use Rattle.house_rows.specs.Runs.{entry}
use Rattle.house_rows.specs.Text.{is_text}
use Rattle.house_rows.specs.Verdict.{IsHistory, answer_rules, by_terms, feedback_rules, is_sold, question_rules, rules, settlement_rules, verdict, was_sold}
use Rattle.house_rows.specs.Views.{own_questions}
use Rattle.house_rows.proofs.Every.{every_as, every_map, every_more, every_put, found_has, found_is, found_more, some_has}
use Rattle.house_rows.proofs.Own.{count_own}
use Rattle.house_rows.proofs.Passed.{common_pass, item_pass, own_pass}
use Rattle.house_rows.proofs.Put.{by_test}
use Rattle.house_rows.proofs.Ranged.{ListingRanges, caller_is, listings_fit}
use Rattle.house_rows.proofs.RangedBids.{listed_more}
use Rattle.house_rows.proofs.RangedItems.{leader_may, one_listing}

-- of the listing that is found
pub listing_is : (h : History) (i : ℕ) (l : Listing) → listing_at (listings h) i ≡ Some l → l.item ≡ i
listing_is h i l found = let e = found_is (λ (a : Listing). a.item == i) (listings h) l found in grind (arith, nat_tests, e)

pub ranges_of : (settings : Settings) (h : History) (i : ℕ) (l : Listing) → IsHistory settings h → listing_at (listings h) i ≡ Some l → ListingRanges l
ranges_of settings h i l is found = found_has ListingRanges (λ (a : Listing). a.item == i) (listings h) l (listings_fit settings h is).all found

pub item_there : (settings : Settings) (h : History) (i : ℕ) (l : Listing) → IsHistory settings h → listing_at (listings h) i ≡ Some l → IsItem i
item_there settings h i l is found = let r = (ranges_of settings h i l is found).item in let e = listing_is h i l found in rw e at r

-- questions
pub record AskedFits (q : Asked) : Type 0 where
  pub item : IsItem q.item
  pub asker : IsMember q.asker
  pub number : IsWithin 1 most_questions q.number
  pub text : is_text 1 500 q.text ≡ true

ask_pass : (a b d fits : Bool) (count : ℕ)
    → first_failing ((a, OwnItem) ∷ (b, NotOpen) ∷ (d, Ended) ∷ (not fits, Range) ∷ (nat_le most_questions count, Limit) ∷ []) ≡ None → (fits ≡ true) × (count < most_questions)
ask_pass true b d fits count none = cc
ask_pass false true d fits count none = cc
ask_pass false false true fits count none = cc
ask_pass false false false false count none = cc
ask_pass false false false true count none = (refl, grind (arith, nat_tests, none))

asked_step : (settings : Settings) (h : History) (t c : ℕ) (command : Command) → IsHistory settings h → verdict settings h t c command ≡ None → AllByRecursion AskedFits (asked h) → AllByRecursion AskedFits (asked (entry t c command ∷ h))
unfolding own_questions
asked_step settings h t c (Ask i text) is none all =
    let own : first_failing (rules settings h t c (Ask i text)) ≡ None = own_pass settings h t c (Ask i text) none in
    let count : ℕ = ask_count (own_questions h c) c i in
    let pass = item_pass settings h i (by_terms (question_rules t c text count)) own in
    let l : Listing = pass.listing in
    let rest = ask_pass (l.seller == c) (not (is_open (state_of h l))) (nat_le l.end t) (is_text 1 500 text) count pass.pass in
    let same : ask_count (asked h) c i ≡ count = count_own c i (asked h) in
    let lt : ask_count (asked h) c i < most_questions = rw same rest.1 in
    every_put asked_key AskedFits (record { item = i; asker = c; number = ask_count (asked h) c i + 1; text = text }) (asked h) all (record {
      item = item_there settings h i l is pass.listed;
      asker = caller_is settings h t c false is (common_pass settings h t c (Ask i text) none) refl;
      number = (omega arith, omega arith);
      text = rest.0;
    })
asked_step settings h t c (Register name) is none all = all
asked_step settings h t c (AddCategory name) is none all = all
asked_step settings h t c (Listed category lot title text start buy_now end reserve) is none all = all
asked_step settings h t c (Bid i m) is none all = all
asked_step settings h t c (Buy i) is none all = all
asked_step settings h t c Close is none all = all
asked_step settings h t c (Settle i) is none all = all
asked_step settings h t c (Watch i) is none all = all
asked_step settings h t c (Unwatch i) is none all = all
asked_step settings h t c (Answer i asker number text) is none all = all
asked_step settings h t c (Feedback i rating text) is none all = all
asked_step settings h t c (SetBands bands) is none all = all

asked_fit : (settings : Settings) (h : History) → IsHistory settings h → AllByRecursion AskedFits (asked h)
asked_fit settings [] is = tt
asked_fit settings (e ∷ h) is = asked_step settings h e.moment e.caller e.command is.1 is.0 (asked_fit settings h is.1)

answer_pass : (a b d fits : Bool) → first_failing ((a, SellerOnly) ∷ (b, Unknown) ∷ (d, AlreadyAnswered) ∷ (not fits, Range) ∷ []) ≡ None → fits ≡ true
answer_pass true b d fits none = cc
answer_pass false true d fits none = cc
answer_pass false false true fits none = cc
answer_pass false false false false none = cc
answer_pass false false false true none = refl

abbrev TextFits : Asked → Type 0
TextFits a = is_text 1 500 a.text ≡ true

answers_step : (settings : Settings) (h : History) (t c : ℕ) (command : Command) → verdict settings h t c command ≡ None → AllByRecursion TextFits (answers h) → AllByRecursion TextFits (answers (entry t c command ∷ h))
answers_step settings h t c (Answer i asker number text) none all =
    let own : first_failing (rules settings h t c (Answer i asker number text)) ≡ None = own_pass settings h t c (Answer i asker number text) none in
    let waits : Bool = list_any (is_question i asker number) (waiting h c) in
    let public : Bool = list_any (is_question i asker number) (published h) in
    let pass = item_pass settings h i (by_terms (answer_rules c text waits public)) own in
    let l : Listing = pass.listing in
    every_more TextFits (answers h) (record { item = i; asker = asker; number = number; text = text }) all
    (answer_pass (not (l.seller == c)) (not (waits || public)) public (is_text 1 500 text) pass.pass)
answers_step settings h t c (Register name) none all = simp append-nil all
answers_step settings h t c (AddCategory name) none all = simp append-nil all
answers_step settings h t c (Listed category lot title text start buy_now end reserve) none all = simp append-nil all
answers_step settings h t c (Bid i m) none all = simp append-nil all
answers_step settings h t c (Buy i) none all = simp append-nil all
answers_step settings h t c Close none all = simp append-nil all
answers_step settings h t c (Settle i) none all = simp append-nil all
answers_step settings h t c (Watch i) none all = simp append-nil all
answers_step settings h t c (Unwatch i) none all = simp append-nil all
answers_step settings h t c (Ask i text) none all = simp append-nil all
answers_step settings h t c (Feedback i rating text) none all = simp append-nil all
answers_step settings h t c (SetBands bands) none all = simp append-nil all

answers_fit : (settings : Settings) (h : History) → IsHistory settings h → AllByRecursion TextFits (answers h)
answers_fit settings [] is = tt
answers_fit settings (e ∷ h) is = answers_step settings h e.moment e.caller e.command is.0 (answers_fit settings h is.1)

answer_fits : (given : List Asked) (q : Asked) → AllByRecursion TextFits given → IfSome (answer_to given q) (λ text. is_text 1 500 text ≡ true)
answer_fits [] q all = tt
answer_fits (a ∷ given) q all = elim (by_test (names a q)) [ inl is ↦ rw is all.0 | inr not ↦ rw not (answer_fits given q all.1) ]

pub questions_fit : (settings : Settings) (h : History) → IsHistory settings h → AllByRecursion QuestionFits (questions h)
unfolding questions
questions_fit settings h is =
    every_map (answered (answers h)) QuestionFits (asked h)
    (every_as AskedFits (λ q. QuestionFits (answered (answers h) q)) (asked h)
    (λ q fits. record { item = fits.item; asker = fits.asker; number = fits.number; text = fits.text; answer = answer_fits (answers h) q (answers_fit settings h is) })
    (asked_fit settings h is))

-- somebody leads what was sold
no_leader : leader [] ≡ None
unfolding leader
no_leader = refl

some_leads : (bids more : List bid.Bid) → is_some (leader bids) ≡ true → is_some (leader (bids ++ more)) ≡ true
some_leads [] more led = absurd (nobody led) where
  nobody : is_some (leader []) ≡ true → ⊥
  nobody e = let none : leader [] ≡ None = no_leader in let f : false ≡ true = rw none at e in cc
some_leads (b ∷ bids) more led = let some = somebody_leads b (bids ++ more) in rw some.1 refl

leads_still : (o : Option Purchase) (ps more : List Purchase) (i : ℕ) (bids others : List bid.Bid) → o ≡ find (λ p. p.item == i) ps → is_some (leader_from o (leader bids)) ≡ true
    → is_some (leader_from (find (λ p. p.item == i) (ps ++ more)) (leader (bids ++ others))) ≡ true
leads_still (Some p) ps more i bids others at' led = rw (found_more (λ p. p.item == i) ps more p (sym at')) refl
leads_still None ps more i bids others at' led = either (find (λ p. p.item == i) (ps ++ more)) (some_leads bids others led) where
  either : (o : Option Purchase) → is_some (leader (bids ++ others)) ≡ true → is_some (leader_from o (leader (bids ++ others))) ≡ true
  either None led = led
  either (Some p) led = refl

leader_stays : (h : History) (e : Entry) (l : Listing) → is_some (leader_of h l) ≡ true → is_some (leader_of (e ∷ h) l) ≡ true
leader_stays h e l led =
    leads_still (purchase_of h l.item) (purchases h) (purchase_in e.moment e.caller e.command) l.item (bids_on h l.item) (bid_in l.item (length (bids_on h l.item) + 1) e.caller e.command) refl led

-- and it has a closing moment
closed_still : (o : Option Purchase) (ps more : List Purchase) (i : ℕ) (any later : Bool) (end : ℕ) → o ≡ find (λ p. p.item == i) ps → is_some (closed_from o (not (is_some o) && any) end) ≡ true
    → is_some (closed_from (find (λ p. p.item == i) (ps ++ more)) (not (is_some (find (λ p. p.item == i) (ps ++ more))) && (any || later)) end) ≡ true
closed_still (Some p) ps more i any later end at' closed = rw (found_more (λ p. p.item == i) ps more p (sym at')) refl
closed_still None ps more i true later end at' closed = either (find (λ p. p.item == i) (ps ++ more)) where
  either : (o : Option Purchase) → is_some (closed_from o (not (is_some o) && true) end) ≡ true
  either None = refl
  either (Some p) = refl
closed_still None ps more i false later end at' closed = cc

closed_stays : (h : History) (e : Entry) (l : Listing) → is_some (closed_at h l) ≡ true → is_some (closed_at (e ∷ h) l) ≡ true
closed_stays h e l closed =
    rw (list_any-append (λ c. nat_le l.item c.listed && nat_le l.end c.moment) (closings h) (closing_in e.moment (length (listings h)) e.command))
    (closed_still (purchase_of h l.item) (purchases h) (purchase_in e.moment e.caller e.command) l.item (list_any (λ c. nat_le l.item c.listed && nat_le l.end c.moment) (closings h)) _ l.end refl closed)

was_closed : (o : Option Purchase) (taken led settled : Bool) (end : ℕ) → (settled ≡ true → is_some (closed_from o taken end) ≡ true)
    → was_sold (state_from (is_some o) taken led settled) ≡ true → is_some (closed_from o taken end) ≡ true
was_closed o taken led true end by_settled sold = by_settled refl
was_closed (Some p) taken led false end by_settled sold = refl
was_closed None true led false end by_settled sold = refl
was_closed None false led false end by_settled sold = cc

was_led : (bought taken led sells settled : Bool) → (settled ≡ true → led ≡ true) → (bought ≡ true → led ≡ true) → (sells ≡ true → led ≡ true) → was_sold (state_from bought taken sells settled) ≡ true → led ≡ true
was_led bought taken led sells true by_settled by_bought by_sale sold = by_settled refl
was_led true taken led sells false by_settled by_bought by_sale sold = by_bought refl
was_led false true led true false by_settled by_bought by_sale sold = by_sale refl
was_led false true led false false by_settled by_bought by_sale sold = cc
was_led false false led sells false by_settled by_bought by_sale sold = cc

-- a close sells only what somebody leads
pub sells_led : (leader : Option ℕ) (met : Option Bool) → close_sells leader met ≡ true → is_some leader ≡ true
sells_led None met sells = sells
sells_led (Some l) met sells = refl

bought_leads : (o : Option Purchase) (by_bids : Option ℕ) → is_some o ≡ true → is_some (leader_from o by_bids) ≡ true
bought_leads None by_bids is = cc
bought_leads (Some p) by_bids is = refl

-- a settled item is one that somebody leads
pub record SettledIn (h : History) (i : ℕ) : Type 0 where
  pub listing : Listing
  pub listed : listing_at (listings h) i ≡ Some listing
  pub led : is_some (leader_of h listing) ≡ true
  pub closed : is_some (closed_at h listing) ≡ true

settled_more : (h : History) (e : Entry) (i : ℕ) → SettledIn h i → SettledIn (e ∷ h) i
settled_more h e i is = record { listing = is.listing; listed = listed_more h e i is.listing is.listed; led = leader_stays h e is.listing is.led; closed = closed_stays h e is.listing is.closed }

all_settled : (h : History) (e : Entry) (ss : List ℕ) → AllByRecursion (SettledIn h) ss → AllByRecursion (SettledIn (e ∷ h)) ss
all_settled h e ss all = every_as (SettledIn h) (SettledIn (e ∷ h)) ss (settled_more h e) all

led_as : (h : History) (a l : Listing) → a ≡ l → is_some (leader_of h a) ≡ true → is_some (leader_of h l) ≡ true
led_as h a l e led = subst (λ (x : Listing). is_some (leader_of h x) ≡ true) e led

closed_as : (h : History) (a l : Listing) → a ≡ l → is_some (closed_at h a) ≡ true → is_some (closed_at h l) ≡ true
closed_as h a l e closed = subst (λ (x : Listing). is_some (closed_at h x) ≡ true) e closed

settled_known : (h : History) (l : Listing) → AllByRecursion (SettledIn h) (settlements h) → listing_at (listings h) l.item ≡ Some l → is_settled h l.item ≡ true
    → (known : SettledIn h l.item) × (known.listing ≡ l)
settled_known h l all listed is =
    let one = some_has (SettledIn h) (λ s. s == l.item) (settlements h) all is in
    let test = one.2 in
    let at' : one.0 ≡ l.item = grind (arith, nat_tests, test) in
    let known : SettledIn h l.item = rw at' at one.1 in
    (known, one_listing (listing_at (listings h) l.item) known.listing l known.listed listed)

was_sold_led : (h : History) (l : Listing) → AllByRecursion (SettledIn h) (settlements h) → listing_at (listings h) l.item ≡ Some l → was_sold (state_of h l) ≡ true → is_some (leader_of h l) ≡ true
was_sold_led h l all listed sold =
    was_led (is_bought h l.item) (is_taken h l) (is_some (leader_of h l)) (close_sells (leader_of h l) (met_of h l)) (is_settled h l.item) (λ is. led_as h _ l (settled_known h l all listed is).1 (settled_known h l all listed is).0.led)
    (bought_leads (purchase_of h l.item) (leader (bids_on h l.item))) (sells_led (leader_of h l) (met_of h l)) sold

was_sold_closed : (h : History) (l : Listing) → AllByRecursion (SettledIn h) (settlements h) → listing_at (listings h) l.item ≡ Some l → was_sold (state_of h l) ≡ true → is_some (closed_at h l) ≡ true
was_sold_closed h l all listed sold =
    was_closed (purchase_of h l.item) (is_taken h l) (close_sells (leader_of h l) (met_of h l)) (is_settled h l.item) l.end
    (λ is. closed_as h _ l (settled_known h l all listed is).1 (settled_known h l all listed is).0.closed) sold

sold_was : (s : State) → is_sold s ≡ true → was_sold s ≡ true
sold_was Open is = cc
sold_was Sold is = refl
sold_was Unsold is = cc
sold_was Settled is = cc

settle_pass : (sold : Bool) → first_failing ((not sold, NotSold) ∷ []) ≡ None → sold ≡ true
settle_pass true none = refl
settle_pass false none = cc

settlements_step : (settings : Settings) (h : History) (t c : ℕ) (command : Command) → verdict settings h t c command ≡ None → AllByRecursion (SettledIn h) (settlements h) → AllByRecursion (SettledIn (entry t c command ∷ h)) (settlements (entry t c command ∷ h))
settlements_step settings h t c (Settle i) none all =
    let own : first_failing (rules settings h t c (Settle i)) ≡ None = own_pass settings h t c (Settle i) none in
    let pass = item_pass settings h i (by_terms settlement_rules) own in
    let l : Listing = pass.listing in
    let sold = settle_pass (is_sold (state_of h l)) pass.pass in
    let at' : l.item ≡ i = listing_is h i l pass.listed in
    let own_listed : listing_at (listings h) l.item ≡ Some l = rw at' pass.listed in
    let led : is_some (leader_of h l) ≡ true = was_sold_led h l all own_listed (sold_was (state_of h l) sold) in
    let closed : is_some (closed_at h l) ≡ true = was_sold_closed h l all own_listed (sold_was (state_of h l) sold) in
    every_more (SettledIn (entry t c (Settle i) ∷ h)) (settlements h) i (all_settled h (entry t c (Settle i)) (settlements h) all)
    (settled_more h (entry t c (Settle i)) i (record { listing = l; listed = pass.listed; led = led; closed = closed }))
settlements_step settings h t c (Register name) none all = simp append-nil (all_settled h (entry t c (Register name)) (settlements h) all)
settlements_step settings h t c (AddCategory name) none all = simp append-nil (all_settled h (entry t c (AddCategory name)) (settlements h) all)
settlements_step settings h t c (Listed category lot title text start buy_now end reserve) none all = simp append-nil (all_settled h (entry t c (Listed category lot title text start buy_now end reserve)) (settlements h) all)
settlements_step settings h t c (Bid i m) none all = simp append-nil (all_settled h (entry t c (Bid i m)) (settlements h) all)
settlements_step settings h t c (Buy i) none all = simp append-nil (all_settled h (entry t c (Buy i)) (settlements h) all)
settlements_step settings h t c Close none all = simp append-nil (all_settled h (entry t c Close) (settlements h) all)
settlements_step settings h t c (Watch i) none all = simp append-nil (all_settled h (entry t c (Watch i)) (settlements h) all)
settlements_step settings h t c (Unwatch i) none all = simp append-nil (all_settled h (entry t c (Unwatch i)) (settlements h) all)
settlements_step settings h t c (Ask i text) none all = simp append-nil (all_settled h (entry t c (Ask i text)) (settlements h) all)
settlements_step settings h t c (Answer i asker number text) none all = simp append-nil (all_settled h (entry t c (Answer i asker number text)) (settlements h) all)
settlements_step settings h t c (Feedback i rating text) none all = simp append-nil (all_settled h (entry t c (Feedback i rating text)) (settlements h) all)
settlements_step settings h t c (SetBands bands) none all = simp append-nil (all_settled h (entry t c (SetBands bands)) (settlements h) all)

settlements_fit : (settings : Settings) (h : History) → IsHistory settings h → AllByRecursion (SettledIn h) (settlements h)
settlements_fit settings [] is = tt
settlements_fit settings (e ∷ h) is = settlements_step settings h e.moment e.caller e.command is.0 (settlements_fit settings h is.1)

pub sold_is_led : (settings : Settings) (h : History) (l : Listing) → IsHistory settings h → listing_at (listings h) l.item ≡ Some l → was_sold (state_of h l) ≡ true → is_some (leader_of h l) ≡ true
sold_is_led settings h l is listed sold = was_sold_led h l (settlements_fit settings h is) listed sold

pub sold_is_closed : (settings : Settings) (h : History) (l : Listing) → IsHistory settings h → listing_at (listings h) l.item ≡ Some l → was_sold (state_of h l) ≡ true → is_some (closed_at h l) ≡ true
sold_is_closed settings h l is listed sold = was_sold_closed h l (settlements_fit settings h is) listed sold

-- feedback
rating_pass : (sold party given : Bool) (none' : Bool) (fits : Bool)
    → first_failing ((not sold, NotSold) ∷ (not party, NotParty) ∷ (given, AlreadyGiven) ∷ (none' || not fits, Range) ∷ []) ≡ None → (sold ≡ true) × (fits ≡ true)
rating_pass false party given none' fits none = cc
rating_pass true false given none' fits none = cc
rating_pass true true true none' fits none = cc
rating_pass true true false true fits none = cc
rating_pass true true false false false none = cc
rating_pass true true false false true none = (refl, refl)

pub other_fits : (seller c : ℕ) (o : Option ℕ) → IsMember seller → IfSome o IsMember → is_some o ≡ true → IsMember (other_party seller o c)
other_fits seller c None s may led = cc
other_fits seller c (Some m) s may led = elim (by_test (seller == c)) [ inl is ↦ rw is may | inr not ↦ rw not s ]

feedback_step : (settings : Settings) (h : History) (t c : ℕ) (command : Command) → IsHistory settings h → verdict settings h t c command ≡ None → AllByRecursion FeedbackFits (feedback h) → AllByRecursion FeedbackFits (feedback (entry t c command ∷ h))
feedback_step settings h t c (Feedback i (Some rating) text) is none all =
    let own : first_failing (rules settings h t c (Feedback i (Some rating) text)) ≡ None = own_pass settings h t c (Feedback i (Some rating) text) none in
    let given : Bool = list_any (λ f. (f.item == i) && (f.from == c)) (feedback h) in
    let pass = item_pass settings h i (by_terms (feedback_rules c (Some rating) text given)) own in
    let l : Listing = pass.listing in
    let rest = rating_pass (was_sold (state_of h l)) ((l.seller == c) || is_leader (leader_of h l) c) given false (is_text 0 200 text) pass.pass in
    let at' : l.item ≡ i = listing_is h i l pass.listed in
    let own_listed : listing_at (listings h) l.item ≡ Some l = rw at' pass.listed in
    let led = sold_is_led settings h l is own_listed rest.0 in
    let ranges = ranges_of settings h i l is pass.listed in
    let to : IsMember (other_party l.seller (leader_of h l) c) = other_fits l.seller c (leader_of h l) ranges.seller (member_of (leader_of h l) l (leader_may settings h l is own_listed)) led in
    let to' : IsMember (party_against h (listing_at (listings h) i) c) = rw pass.listed to in
    every_put feedback_key FeedbackFits (record { item = i; from = c; to = party_against h (listing_at (listings h) i) c; rating = rating; text = text }) (feedback h) all (record {
      item = item_there settings h i l is pass.listed;
      from = caller_is settings h t c false is (common_pass settings h t c (Feedback i (Some rating) text) none) refl;
      to = to';
      text = rest.1;
    }) where
      member_of : (o : Option ℕ) (l : Listing) → IfSome o (λ m. IsMember m × (m ≢ l.seller)) → IfSome o IsMember
      member_of None l may = tt
      member_of (Some m) l may = may.0
feedback_step settings h t c (Feedback i None text) is none all = all
feedback_step settings h t c (Register name) is none all = all
feedback_step settings h t c (AddCategory name) is none all = all
feedback_step settings h t c (Listed category lot title text start buy_now end reserve) is none all = all
feedback_step settings h t c (Bid i m) is none all = all
feedback_step settings h t c (Buy i) is none all = all
feedback_step settings h t c Close is none all = all
feedback_step settings h t c (Settle i) is none all = all
feedback_step settings h t c (Watch i) is none all = all
feedback_step settings h t c (Unwatch i) is none all = all
feedback_step settings h t c (Ask i text) is none all = all
feedback_step settings h t c (Answer i asker number text) is none all = all
feedback_step settings h t c (SetBands bands) is none all = all

pub feedback_fits : (settings : Settings) (h : History) → IsHistory settings h → AllByRecursion FeedbackFits (feedback h)
feedback_fits settings [] is = tt
feedback_fits settings (e ∷ h) is = feedback_step settings h e.moment e.caller e.command is.1 is.0 (feedback_fits settings h is.1)
