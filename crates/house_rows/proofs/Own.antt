-- What a member has of its own: no entry of another changes it, and an entry of its own changes it by itself.
use Rattle.std.proofs.lemmas.List.Elements.{filter-append}
use Rattle.house_rows.specs.Listings.{Listing, listing_in, listings, reserve_row, reserve_rows, tables_set}
use Rattle.std.proofs.Common.{◌≡◌, ℕ, ◌+◌, List, [], ◌∷◌, filter, true, false, not, refl, ◌∙◌, ap, sym, arith, inl, inr, ◌++◌, length, append_assoc}
use Rattle.std.specs.Prelude.{◌==◌}
use Rattle.std.proofs.lemmas.Bool.Decides.{nat_tests}
use Rattle.std.proofs.lemmas.List.{append-nil}
use Rattle.house_rows.specs.declared.command.Command.{Command}
use Rattle.house_rows.specs.declared.command.Command.TheVariants.{Register, AddCategory, List as Listed, Bid, Buy, Close, Settle, Watch, Unwatch, Ask, Answer, Feedback, SetBands}
use Rattle.house_rows.specs.History.{Entry, History, put_by}
use Rattle.house_rows.specs.Questions.{Asked, ask_count, asked, asked_key, with_question}
use Rattle.house_rows.specs.Views.{Own, own_maxima, own_maximum, own_questions, own_view, own_watches, own_listings, own_reserves}
use Rattle.house_rows.specs.Watches.{WatchRow, is_watch, unwatched, watch_key, watches, with_watch}
use Rattle.house_rows.proofs.Put.{IsInOrder, by_test, filter_in_order, filter_put, filter_put_other, filter_swap, put_in_order}

-- the tables that own views are taken from are in the order of their keys
questions_step : (qs : List Asked) (caller : ℕ) (command : Command) → IsInOrder asked_key qs → IsInOrder asked_key (with_question qs caller command)
questions_step qs caller (Ask i text) order = put_in_order asked_key _ qs order
questions_step qs caller (Register name) order = order
questions_step qs caller (AddCategory name) order = order
questions_step qs caller (Listed category lot title text start buy_now end reserve) order = order
questions_step qs caller (Bid i maximum) order = order
questions_step qs caller (Buy i) order = order
questions_step qs caller Close order = order
questions_step qs caller (Settle i) order = order
questions_step qs caller (Watch i) order = order
questions_step qs caller (Unwatch i) order = order
questions_step qs caller (Answer i asker number text) order = order
questions_step qs caller (Feedback i rating text) order = order
questions_step qs caller (SetBands bands) order = order

pub asked_in_order : (h : History) → IsInOrder asked_key (asked h)
asked_in_order [] = tt
asked_in_order (e ∷ h) = questions_step (asked h) e.caller e.command (asked_in_order h)

watches_step : (ws : List WatchRow) (caller : ℕ) (command : Command) → IsInOrder watch_key ws → IsInOrder watch_key (with_watch ws caller command)
watches_step ws caller (Watch i) order = put_in_order watch_key _ (unwatched caller i ws) (filter_in_order watch_key _ ws order)
watches_step ws caller (Unwatch i) order = filter_in_order watch_key _ ws order
watches_step ws caller (Register name) order = order
watches_step ws caller (AddCategory name) order = order
watches_step ws caller (Listed category lot title text start buy_now end reserve) order = order
watches_step ws caller (Bid i maximum) order = order
watches_step ws caller (Buy i) order = order
watches_step ws caller Close order = order
watches_step ws caller (Settle i) order = order
watches_step ws caller (Ask i text) order = order
watches_step ws caller (Answer i asker number text) order = order
watches_step ws caller (Feedback i rating text) order = order
watches_step ws caller (SetBands bands) order = order

pub watches_in_order : (h : History) → IsInOrder watch_key (watches h)
watches_in_order [] = tt
watches_in_order (e ∷ h) = watches_step (watches h) e.caller e.command (watches_in_order h)

-- of another's command
maximum_other : (c caller : ℕ) (command : Command) → (caller == c) ≡ false → own_maximum c caller command ≡ []
maximum_other c caller (Bid i maximum) other = rw other refl
maximum_other c caller (Register name) other = refl
maximum_other c caller (AddCategory name) other = refl
maximum_other c caller (Listed category lot title text start buy_now end reserve) other = refl
maximum_other c caller (Buy i) other = refl
maximum_other c caller Close other = refl
maximum_other c caller (Settle i) other = refl
maximum_other c caller (Watch i) other = refl
maximum_other c caller (Unwatch i) other = refl
maximum_other c caller (Ask i text) other = refl
maximum_other c caller (Answer i asker number text) other = refl
maximum_other c caller (Feedback i rating text) other = refl
maximum_other c caller (SetBands bands) other = refl

-- taking another's watch away leaves a member's own
unwatched_other : (c caller i : ℕ) (ws : List WatchRow) → (caller == c) ≡ false → filter (λ w. w.member == c) (unwatched caller i ws) ≡ filter (λ w. w.member == c) ws
unwatched_other c caller i [] other = refl
unwatched_other c caller i (w ∷ ws) other = grind (arith, nat_tests, unwatched_other c caller i ws other)

pub watches_other : (c caller : ℕ) (ws : List WatchRow) (command : Command) → (caller == c) ≡ false → filter (λ w. w.member == c) (with_watch ws caller command) ≡ filter (λ w. w.member == c) ws
watches_other c caller ws (Watch i) other =
    filter_put_other watch_key (λ w. w.member == c) (record { member = caller; item = i }) (unwatched caller i ws) other ∙ unwatched_other c caller i ws other
watches_other c caller ws (Unwatch i) other = unwatched_other c caller i ws other
watches_other c caller ws (Register name) other = refl
watches_other c caller ws (AddCategory name) other = refl
watches_other c caller ws (Listed category lot title text start buy_now end reserve) other = refl
watches_other c caller ws (Bid i maximum) other = refl
watches_other c caller ws (Buy i) other = refl
watches_other c caller ws Close other = refl
watches_other c caller ws (Settle i) other = refl
watches_other c caller ws (Ask i text) other = refl
watches_other c caller ws (Answer i asker number text) other = refl
watches_other c caller ws (Feedback i rating text) other = refl
watches_other c caller ws (SetBands bands) other = refl

questions_other : (c caller : ℕ) (qs : List Asked) (command : Command) → (caller == c) ≡ false → filter (λ q. q.asker == c) (with_question qs caller command) ≡ filter (λ q. q.asker == c) qs
questions_other c caller qs (Ask i text) other = filter_put_other asked_key (λ q. q.asker == c) _ qs other
questions_other c caller qs (Register name) other = refl
questions_other c caller qs (AddCategory name) other = refl
questions_other c caller qs (Listed category lot title text start buy_now end reserve) other = refl
questions_other c caller qs (Bid i maximum) other = refl
questions_other c caller qs (Buy i) other = refl
questions_other c caller qs Close other = refl
questions_other c caller qs (Settle i) other = refl
questions_other c caller qs (Watch i) other = refl
questions_other c caller qs (Unwatch i) other = refl
questions_other c caller qs (Answer i asker number text) other = refl
questions_other c caller qs (Feedback i rating text) other = refl
questions_other c caller qs (SetBands bands) other = refl

-- what another lists leaves a member's own listings
listings_other : (c number : ℕ) (set : List (List (ℕ × ℕ))) (caller : ℕ) (command : Command) → (caller == c) ≡ false → filter (λ l. l.seller == c) (listing_in number set caller command) ≡ []
listings_other c number set caller (Listed category lot title text start buy_now end reserve) other = rw other refl
listings_other c number set caller (Register name) other = refl
listings_other c number set caller (AddCategory name) other = refl
listings_other c number set caller (Bid i maximum) other = refl
listings_other c number set caller (Buy i) other = refl
listings_other c number set caller Close other = refl
listings_other c number set caller (Settle i) other = refl
listings_other c number set caller (Watch i) other = refl
listings_other c number set caller (Unwatch i) other = refl
listings_other c number set caller (Ask i text) other = refl
listings_other c number set caller (Answer i asker n text) other = refl
listings_other c number set caller (Feedback i rating text) other = refl
listings_other c number set caller (SetBands bands) other = refl

reserves_append : (ls ks : List Listing) → reserve_rows (ls ++ ks) ≡ reserve_rows ls ++ reserve_rows ks
reserves_append [] ks = refl
reserves_append (l ∷ ls) ks = rw (reserves_append ls ks) (sym (append_assoc (reserve_row l.item l.reserve) (reserve_rows ls) (reserve_rows ks)))

reserves_other : (c : ℕ) (h : History) (e : Entry) → (e.caller == c) ≡ false → own_reserves (e ∷ h) c ≡ own_reserves h c
unfolding own_reserves
reserves_other c h e other =
    rw (filter-append (λ (l : Listing). l.seller == c) (listings h) (listing_in (length (listings h) + 1) (tables_set h) e.caller e.command), listings_other c (length (listings h) + 1) (tables_set h) e.caller e.command other)
    (simp append-nil)

-- Local, for what is a member's own
pub own_local : (c : ℕ) (h : History) (e : Entry) → (e.caller == c) ≡ false → own_view (e ∷ h) c ≡ own_view h c
unfolding own_maxima own_watches own_questions
own_local c h e other =
    rw (maximum_other c e.caller e.command other, reserves_other c h e other, watches_other c e.caller (watches h) e.command other, questions_other c e.caller (asked h) e.command other) (simp append-nil)

-- an asker's count on an item is that of its own questions
pub count_own : (c i : ℕ) (qs : List Asked) → ask_count qs c i ≡ ask_count (filter (λ q. q.asker == c) qs) c i
count_own c i [] = refl
count_own c i (q ∷ qs) = grind (arith, nat_tests, count_own c i qs)

watches_mine : (c : ℕ) (ws vs : List WatchRow) (command : Command) → IsInOrder watch_key ws → IsInOrder watch_key vs → filter (λ w. w.member == c) ws ≡ filter (λ w. w.member == c) vs
    → filter (λ w. w.member == c) (with_watch ws c command) ≡ filter (λ w. w.member == c) (with_watch vs c command)
watches_mine c ws vs (Watch i) order order' same =
    let here : (c == c) ≡ true = grind (arith, nat_tests) in
    let w : WatchRow = record { member = c; item = i } in
    filter_put watch_key (λ w. w.member == c) w (unwatched c i ws) here (filter_in_order watch_key _ ws order)
    ∙ ap (put_by watch_key w) (filter_swap (λ w. w.member == c) (λ w. not (is_watch c i w)) ws ∙ ap (filter (λ w. not (is_watch c i w))) same ∙ sym (filter_swap (λ w. w.member == c) (λ w. not (is_watch c i w)) vs))
    ∙ sym (filter_put watch_key (λ w. w.member == c) w (unwatched c i vs) here (filter_in_order watch_key _ vs order'))
watches_mine c ws vs (Unwatch i) order order' same =
    filter_swap (λ w. w.member == c) (λ w. not (is_watch c i w)) ws ∙ ap (filter (λ w. not (is_watch c i w))) same ∙ sym (filter_swap (λ w. w.member == c) (λ w. not (is_watch c i w)) vs)
watches_mine c ws vs (Register name) order order' same = same
watches_mine c ws vs (AddCategory name) order order' same = same
watches_mine c ws vs (Listed category lot title text start buy_now end reserve) order order' same = same
watches_mine c ws vs (Bid i maximum) order order' same = same
watches_mine c ws vs (Buy i) order order' same = same
watches_mine c ws vs Close order order' same = same
watches_mine c ws vs (Settle i) order order' same = same
watches_mine c ws vs (Ask i text) order order' same = same
watches_mine c ws vs (Answer i asker number text) order order' same = same
watches_mine c ws vs (Feedback i rating text) order order' same = same
watches_mine c ws vs (SetBands bands) order order' same = same

questions_mine : (c : ℕ) (qs rs : List Asked) (command : Command) → IsInOrder asked_key qs → IsInOrder asked_key rs → filter (λ q. q.asker == c) qs ≡ filter (λ q. q.asker == c) rs
    → filter (λ q. q.asker == c) (with_question qs c command) ≡ filter (λ q. q.asker == c) (with_question rs c command)
questions_mine c qs rs (Ask i text) order order' same =
    let here : (c == c) ≡ true = grind (arith, nat_tests) in
    let count : ask_count qs c i ≡ ask_count rs c i = count_own c i qs ∙ ap (λ os. ask_count os c i) same ∙ sym (count_own c i rs) in
    let q : Asked = record { item = i; asker = c; number = ask_count rs c i + 1; text = text } in
    rw count (filter_put asked_key (λ q. q.asker == c) q qs here order ∙ ap (put_by asked_key q) same ∙ sym (filter_put asked_key (λ q. q.asker == c) q rs here order'))
questions_mine c qs rs (Register name) order order' same = same
questions_mine c qs rs (AddCategory name) order order' same = same
questions_mine c qs rs (Listed category lot title text start buy_now end reserve) order order' same = same
questions_mine c qs rs (Bid i maximum) order order' same = same
questions_mine c qs rs (Buy i) order order' same = same
questions_mine c qs rs Close order order' same = same
questions_mine c qs rs (Settle i) order order' same = same
questions_mine c qs rs (Watch i) order order' same = same
questions_mine c qs rs (Unwatch i) order order' same = same
questions_mine c qs rs (Answer i asker number text) order order' same = same
questions_mine c qs rs (Feedback i rating text) order order' same = same
questions_mine c qs rs (SetBands bands) order order' same = same

-- its reserve doesn't go by the band tables that were set
reserves_alike : (c number caller : ℕ) (set other : List (List (ℕ × ℕ))) (command : Command)
    → reserve_rows (filter (λ l. l.seller == c) (listing_in number set caller command)) ≡ reserve_rows (filter (λ l. l.seller == c) (listing_in number other caller command))
reserves_alike c number caller set other (Listed category lot title text start buy_now end reserve) = elim (by_test (caller == c)) [ inl is ↦ rw is refl | inr not ↦ rw not refl ]
reserves_alike c number caller set other command = refl

-- a listing of its own adds the same reserve where there are as many items
reserves_mine : (c : ℕ) (h k : History) (moment : ℕ) (command : Command) → length (listings h) ≡ length (listings k) → own_reserves h c ≡ own_reserves k c
    → own_reserves (record { moment = moment; caller = c; command = command } ∷ h) c ≡ own_reserves (record { moment = moment; caller = c; command = command } ∷ k) c
unfolding own_reserves
reserves_mine c h k moment command many same =
    let more : List Listing = listing_in (length (listings k) + 1) (tables_set k) c command in
    let other : List Listing = listing_in (length (listings k) + 1) (tables_set h) c command in
    rw (
      many,
      filter-append (λ (l : Listing). l.seller == c) (listings h) other,
      filter-append (λ (l : Listing). l.seller == c) (listings k) more,
      reserves_append (own_listings h c) (filter (λ l. l.seller == c) other),
      reserves_append (own_listings k c) (filter (λ l. l.seller == c) more),
      same,
      reserves_alike c (length (listings k) + 1) c (tables_set h) (tables_set k) command,
    ) refl

-- Step: an entry of the member changes its own view equally, where there are as many items
pub own_step : (c : ℕ) (h k : History) (moment : ℕ) (command : Command) → length (listings h) ≡ length (listings k) → own_view h c ≡ own_view k c
    → own_view (record { moment = moment; caller = c; command = command } ∷ h) c ≡ own_view (record { moment = moment; caller = c; command = command } ∷ k) c
unfolding own_maxima own_watches own_questions
own_step c h k moment command many same =
    let bs : own_maxima h c ≡ own_maxima k c = ap (λ (o : Own). o.maxima) same in
    let rs : own_reserves h c ≡ own_reserves k c = ap (λ (o : Own). o.reserves) same in
    let ws : own_watches h c ≡ own_watches k c = ap (λ (o : Own). o.watches) same in
    let qs : own_questions h c ≡ own_questions k c = ap (λ (o : Own). o.questions) same in
    rw (
      bs,
      reserves_mine c h k moment command many rs,
      watches_mine c (watches h) (watches k) command (watches_in_order h) (watches_in_order k) ws,
      questions_mine c (asked h) (asked k) command (asked_in_order h) (asked_in_order k) qs,
    ) refl
