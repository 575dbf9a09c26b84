-- The clock, the bids and the watches of a history are in their ranges.
use Rattle.std.proofs.Common.{◌≡◌, ℕ, ◌+◌, ◌≤◌, ◌<◌, List, [], ◌∷◌, ◌++◌, filter, length, Bool, true, false, not, refl, arith, inl, inr, None}
use Rattle.std.specs.Prelude.{◌==◌, if◌then◌else◌, nat_le}
use Rattle.std.specs.List.{AllByRecursion}
use Rattle.std.proofs.lemmas.Bool.Decides.{nat_tests}
use Rattle.std.proofs.lemmas.List.{length-append}
use Rattle.proxy.specs.declared.bid.Bid as bid
use Rattle.house_rows.specs.declared.command.Command.{Command}
use Rattle.house_rows.specs.declared.command.Command.TheVariants.{Register, AddCategory, List as Listed, Bid, Buy, Close, Settle, Watch, Unwatch, Ask, Answer, Feedback, SetBands}
use Rattle.proxy.specs.Rules.{first_failing}
use Rattle.house_rows.specs.declared.refusal.Refusal.TheVariants.{Limit}
use Rattle.house_rows.specs.declared.settings.Settings.{Settings}
use Rattle.house_rows.specs.Fits.{BidRowFits, IsMoment, WatchRowFits}
use Rattle.house_rows.specs.History.{History, Key, clock, counted, is_less, moves_clock, put_by}
use Rattle.house_rows.specs.Bids.{bid_key, bid_rows, bids_on}
use Rattle.house_rows.specs.Limits.{most_bids, most_watches}
use Rattle.house_rows.specs.Runs.{entry}
use Rattle.house_rows.specs.Verdict.{IsHistory, by_terms, rules, verdict, watch_rules}
use Rattle.house_rows.specs.Views.{own_watches}
use Rattle.house_rows.specs.Watches.{WatchRow, unwatched, watch_key, watches}
use Rattle.house_rows.proofs.Every.{every_put}
use Rattle.house_rows.proofs.Passed.{common_pass, item_pass, own_pass}
use Rattle.house_rows.proofs.Put.{by_test, filter_in_order, filter_put}
use Rattle.house_rows.proofs.Ranged.{caller_is}
use Rattle.house_rows.proofs.RangedBids.{BidIn, BidsFit, bids_fit}
use Rattle.house_rows.proofs.RangedTalk.{item_there, listing_is}
use Rattle.house_rows.proofs.Own.{watches_in_order, watches_other}

clock_by : (moves : Bool) (now before : ℕ) → IsMoment now → IsMoment before → IsMoment (if moves then now else before)
clock_by true now before n b = n
clock_by false now before n b = b

pub clock_fits : (settings : Settings) (h : History) → IsHistory settings h → IsMoment (clock h)
clock_fits settings [] is = omega arith
clock_fits settings (e ∷ h) is =
    clock_by (moves_clock e.command) e.moment (clock h) (common_pass settings h e.moment e.caller e.command is.0).moment_fits (clock_fits settings h is.1)

every_last : {A : Type 0} (P : A → Type 0) (xs : List A) (x : A) → AllByRecursion P (xs ++ x ∷ []) → P x
every_last P [] x all = all.0
every_last P (y ∷ xs) x all = every_last P xs x all.1

pub every_filter : {A : Type 0} (P : A → Type 0) (p : A → Bool) (xs : List A) → AllByRecursion P xs → AllByRecursion P (filter p xs)
every_filter P p [] all = tt
every_filter P p (x ∷ xs) all = elim (by_test (p x)) [ inl is ↦ rw is (all.0, every_filter P p xs all.1) | inr not ↦ rw not (every_filter P p xs all.1) ]

-- of a bid that was entered
bid_fits : (settings : Settings) (h : History) (t c i m : ℕ) → IsHistory settings (entry t c (Bid i m) ∷ h)
    → BidRowFits (record { item = i; bid = record { member = c; maximum = m; no = length (bids_on h i) + 1 } })
bid_fits settings h t c i m is =
    let new : bid.Bid = record { member = c; maximum = m; no = length (bids_on h i) + 1 } in
    let here : (i == i) ≡ true = grind (arith, nat_tests) in
    let fits : BidsFit (entry t c (Bid i m) ∷ h) i (bids_on h i ++ new ∷ []) = rw here at (bids_fit settings (entry t c (Bid i m) ∷ h) i is) in
    let last : BidIn (entry t c (Bid i m) ∷ h) i new = every_last (BidIn (entry t c (Bid i m) ∷ h) i) (bids_on h i) new fits.all in
    let room : length (bids_on h i) + 1 ≤ most_bids = simp length-append at fits.room in
    record { item = item_there settings (entry t c (Bid i m) ∷ h) i last.listing is last.listed; member = last.member; maximum = last.maximum; number = (omega arith, room) }

bids_step : (settings : Settings) (h : History) (t c : ℕ) (command : Command) → IsHistory settings (entry t c command ∷ h) → AllByRecursion BidRowFits (bid_rows h) → AllByRecursion BidRowFits (bid_rows (entry t c command ∷ h))
bids_step settings h t c (Bid i m) is all = every_put bid_key BidRowFits _ (bid_rows h) all (bid_fits settings h t c i m is)
bids_step settings h t c (Register name) is all = all
bids_step settings h t c (AddCategory name) is all = all
bids_step settings h t c (Listed category lot title text start buy_now end reserve) is all = all
bids_step settings h t c (Buy i) is all = all
bids_step settings h t c Close is all = all
bids_step settings h t c (Settle i) is all = all
bids_step settings h t c (Watch i) is all = all
bids_step settings h t c (Unwatch i) is all = all
bids_step settings h t c (Ask i text) is all = all
bids_step settings h t c (Answer i asker number text) is all = all
bids_step settings h t c (Feedback i rating text) is all = all
bids_step settings h t c (SetBands bands) is all = all

pub bid_rows_fit : (settings : Settings) (h : History) → IsHistory settings h → AllByRecursion BidRowFits (bid_rows h)
bid_rows_fit settings [] is = tt
bid_rows_fit settings (e ∷ h) is = bids_step settings h e.moment e.caller e.command is (bid_rows_fit settings h is.1)

watch_fits : (settings : Settings) (h : History) (t c i : ℕ) → IsHistory settings h → verdict settings h t c (Watch i) ≡ None → WatchRowFits (record { member = c; item = i })
watch_fits settings h t c i is none =
    let pass = item_pass settings h i (by_terms (watch_rules (own_watches h c))) (own_pass settings h t c (Watch i) none) in
    record { member = caller_is settings h t c false is (common_pass settings h t c (Watch i) none) refl; item = item_there settings h i pass.listing is pass.listed }

watches_step : (settings : Settings) (h : History) (t c : ℕ) (command : Command) → IsHistory settings h → verdict settings h t c command ≡ None → AllByRecursion WatchRowFits (watches h) → AllByRecursion WatchRowFits (watches (entry t c command ∷ h))
watches_step settings h t c (Watch i) is none all = every_put watch_key WatchRowFits _ (unwatched c i (watches h)) (every_filter WatchRowFits _ (watches h) all) (watch_fits settings h t c i is none)
watches_step settings h t c (Unwatch i) is none all = every_filter WatchRowFits _ (watches h) all
watches_step settings h t c (Register name) is none all = all
watches_step settings h t c (AddCategory name) is none all = all
watches_step settings h t c (Listed category lot title text start buy_now end reserve) is none all = all
watches_step settings h t c (Bid i m) is none all = all
watches_step settings h t c (Buy i) is none all = all
watches_step settings h t c Close is none all = all
watches_step settings h t c (Settle i) is none all = all
watches_step settings h t c (Ask i text) is none all = all
watches_step settings h t c (Answer i asker number text) is none all = all
watches_step settings h t c (Feedback i rating text) is none all = all
watches_step settings h t c (SetBands bands) is none all = all

pub watches_fit : (settings : Settings) (h : History) → IsHistory settings h → AllByRecursion WatchRowFits (watches h)
watches_fit settings [] is = tt
watches_fit settings (e ∷ h) is = watches_step settings h e.moment e.caller e.command is.1 is.0 (watches_fit settings h is.1)

-- no member watches more than it may
length_put : {A : Type 0} (key : A → Key) (x : A) (xs : List A) → length (put_by key x xs) ≡ length xs + 1
length_put key x [] = refl
length_put key x (y ∷ xs) =
    elim (by_test (is_less (key x) (key y))) [ inl less ↦ rw less (omega arith) | inr not ↦ rw not (let rest = length_put key x xs in omega arith) ]

others_left : (c i : ℕ) (ws : List WatchRow) → filter (λ w. w.member == c) (unwatched c i ws) ≡ filter (λ w. not (w.item == i)) (filter (λ w. w.member == c) ws)
others_left c i [] = refl
others_left c i (w ∷ ws) = grind (arith, nat_tests, others_left c i ws)

fewer : {A : Type 0} (p : A → Bool) (xs : List A) → length (filter p xs) ≤ length xs
fewer p [] = omega arith
fewer p (x ∷ xs) = elim (by_test (p x)) [ inl is ↦ rw is (let rest = fewer p xs in omega arith) | inr not ↦ rw not (let rest = fewer p xs in omega arith) ]

watch_pass : (full : Bool) → first_failing ((full, Limit) ∷ []) ≡ None → full ≡ false
watch_pass true none = cc
watch_pass false none = refl

pub few_of : (settings : Settings) (h : History) (t c m : ℕ) (command : Command) → verdict settings h t c command ≡ None → length (own_watches h m) ≤ most_watches
    → length (own_watches (entry t c command ∷ h) m) ≤ most_watches
unfolding own_watches
few_of settings h t c m (Watch i) none few =
    elim (by_test (c == m)) [
      | inl mine ↦ (let at' : c ≡ m = grind (arith, nat_tests) in
          let own : first_failing (rules settings h t m (Watch i)) ≡ None = rw at' at (own_pass settings h t c (Watch i) none) in
          let pass = item_pass settings h i (by_terms (watch_rules (own_watches h m))) own in
          let room = watch_pass _ pass.pass in
          let same : pass.listing.item ≡ i = listing_is h i pass.listing pass.listed in
          let room' : nat_le most_watches (counted (λ w. not (w.item == i)) (filter (λ w. w.member == m) (watches h))) ≡ false = rw same at room in
          let here : (m == m) ≡ true = grind (arith, nat_tests) in
          let order = filter_in_order watch_key _ (watches h) (watches_in_order h) in
          rw at' (rw (filter_put watch_key (λ w. w.member == m) (record { member = m; item = i }) (unwatched m i (watches h)) here order, length_put watch_key (record { member = m; item = i }) (filter (λ w. w.member == m) (unwatched m i (watches h))), others_left m i (watches h))
          (let lt : length (filter (λ w. not (w.item == i)) (filter (λ w. w.member == m) (watches h))) < most_watches = grind (arith, nat_tests, room') in omega arith)))
      | inr other ↦ rw (watches_other m c (watches h) (Watch i) other) few
    ]
few_of settings h t c m (Unwatch i) none few =
    elim (by_test (c == m)) [
      | inl mine ↦ (let at' : c ≡ m = grind (arith, nat_tests) in
          rw at' (rw (others_left m i (watches h)) (let le = fewer (λ w. not (w.item == i)) (filter (λ w. w.member == m) (watches h)) in omega arith)))
      | inr other ↦ rw (watches_other m c (watches h) (Unwatch i) other) few
    ]
few_of settings h t c m (Register name) none few = few
few_of settings h t c m (AddCategory name) none few = few
few_of settings h t c m (Listed category lot title text start buy_now end reserve) none few = few
few_of settings h t c m (Bid i x) none few = few
few_of settings h t c m (Buy i) none few = few
few_of settings h t c m Close none few = few
few_of settings h t c m (Settle i) none few = few
few_of settings h t c m (Ask i text) none few = few
few_of settings h t c m (Answer i asker number text) none few = few
few_of settings h t c m (Feedback i rating text) none few = few
few_of settings h t c m (SetBands bands) none few = few

no_watches : (m : ℕ) → length (own_watches [] m) ≤ most_watches
unfolding own_watches
no_watches m = omega arith

pub few_watches : (settings : Settings) (h : History) (m : ℕ) → IsHistory settings h → length (own_watches h m) ≤ most_watches
few_watches settings [] m is = no_watches m
few_watches settings (e ∷ h) m is = few_of settings h e.moment e.caller m e.command is.0 (few_watches settings h m is.1)

pub few_rows : (settings : Settings) (h : History) (m : ℕ) → IsHistory settings h → counted (λ w. w.member == m) (watches h) ≤ most_watches
unfolding own_watches
few_rows settings h m is = few_watches settings h m is
