-- An item's state only moves forward, and its price doesn't fall while it is open.
use Rattle.std.proofs.Common.{◌≡◌, ℕ, List, [], ◌∷◌, ◌++◌, Bool, true, false, not, refl, arith, inl, inr, Some, None}
use Rattle.std.specs.Prelude.{◌==◌, ◌&&◌, ◌||◌, find, is_some, nat_le}
use Rattle.std.specs.List.{list_any}
use Rattle.std.proofs.lemmas.Bool.Decides.{nat_tests}
use Rattle.std.proofs.lemmas.List.{append-nil}
use Rattle.std.proofs.lemmas.List.Folds.{list_any-append}
use Rattle.proxy.specs.Rules.{first_failing}
use Rattle.house_rows.specs.declared.command.Command.{Command}
use Rattle.house_rows.specs.declared.command.Command.TheVariants.{Register, AddCategory, List as Listed, Bid, Buy, Close, Settle, Watch, Unwatch, Ask, Answer, Feedback, SetBands}
use Rattle.house_rows.specs.declared.refusal.Refusal.TheVariants.{NotSold}
use Rattle.house_rows.specs.declared.settings.Settings.{Settings}
use Rattle.house_rows.specs.declared.state.State.{State}
use Rattle.house_rows.specs.declared.state.State.TheVariants.{Open, Sold, Unsold, Settled}
use Rattle.house_rows.specs.History.{History}
use Rattle.house_rows.specs.Items.{Purchase, closings, is_bought, is_open, is_settled, is_taken, leader_of, purchases, settlements, state_from, state_of, close_sells, met_of}
use Rattle.house_rows.specs.Listings.{Listing, listing_at, listings}
use Rattle.house_rows.specs.Runs.{entry}
use Rattle.house_rows.specs.Verdict.{by_terms, is_sold, rules, settlement_rules, verdict}
use Rattle.house_laws.specs.Course.{may_move}
use Rattle.house_rows.proofs.OpenItems.{bid_led, bought_open, open_parts, rules_of}
use Rattle.house_rows.proofs.Passed.{item_pass, own_pass, passes}
use Rattle.house_rows.proofs.Put.{by_test}

stays : (s : State) → may_move s s ≡ true
stays Open = refl
stays Sold = refl
stays Unsold = refl
stays Settled = refl

settles : (s : State) → is_sold s ≡ true → may_move s Settled ≡ true
settles Open is = cc
settles Sold is = refl
settles Unsold is = cc
settles Settled is = cc

move_led : (bought taken led later settled : Bool) → is_open (state_from bought taken led settled) ≡ true → may_move (state_from bought taken led settled) (state_from bought taken later settled) ≡ true
move_led bought taken led later settled is =
    let o = open_parts bought taken led settled is in rw (o.bought_not, o.taken_not, o.settled_not) refl

move_bought : (bought taken led settled taken' led' : Bool) → is_open (state_from bought taken led settled) ≡ true → may_move (state_from bought taken led settled) (state_from true taken' led' settled) ≡ true
move_bought bought taken led settled taken' led' is =
    let o = open_parts bought taken led settled is in rw (o.bought_not, o.taken_not, o.settled_not) refl

move_closed : (bought taken due led settled : Bool) → may_move (state_from bought (not bought && taken) led settled) (state_from bought (not bought && (taken || due)) led settled) ≡ true
move_closed bought taken due led true = refl
move_closed true taken due led false = refl
move_closed false true due true false = refl
move_closed false true due false false = refl
move_closed false false true true false = refl
move_closed false false true false false = refl
move_closed false false false led false = refl

-- purchases of other items, and of this one
find_other : (i : ℕ) (ps : List Purchase) (p : Purchase) → (p.item == i) ≡ false → find (λ p. p.item == i) (ps ++ p ∷ []) ≡ find (λ p. p.item == i) ps
find_other i [] p other = rw other refl
find_other i (q ∷ ps) p other = elim (by_test (q.item == i)) [ inl is ↦ rw is refl | inr not ↦ rw not (find_other i ps p other) ]

find_here : (i : ℕ) (ps : List Purchase) (p : Purchase) → (p.item == i) ≡ true → is_some (find (λ p. p.item == i) (ps ++ p ∷ [])) ≡ true
find_here i [] p here = rw here refl
find_here i (q ∷ ps) p here = elim (by_test (q.item == i)) [ inl is ↦ rw is refl | inr not ↦ rw not (find_here i ps p here) ]

or_false : (b : Bool) → (b || (false || false)) ≡ b
or_false true = refl
or_false false = refl

settled_sold : (settings : Settings) (h : History) (t c j : ℕ) (l : Listing) → listing_at (listings h) l.item ≡ Some l → verdict settings h t c (Settle j) ≡ None → (j == l.item) ≡ true → is_sold (state_of h l) ≡ true
settled_sold settings h t c j l listed none here =
    let at : j ≡ l.item = grind (arith, nat_tests) in
    let own : first_failing (rules settings h t c (Settle l.item)) ≡ None = rw at at (own_pass settings h t c (Settle j) none) in
    let pass = rules_of settings h l _ listed (item_pass settings h l.item (by_terms settlement_rules) own) in
    let e = (passes (not (is_sold (state_of h l))) NotSold [] pass).0 in
    grind (arith, nat_tests, e)

any_here : (i j : ℕ) (ss : List ℕ) → (j == i) ≡ true → list_any (λ s. s == i) (ss ++ j ∷ []) ≡ true
any_here i j [] here = rw here refl
any_here i j (s ∷ ss) here = elim (by_test (s == i)) [ inl is ↦ rw is refl | inr not ↦ rw not (any_here i j ss here) ]

any_other : (i j : ℕ) (ss : List ℕ) → (j == i) ≡ false → list_any (λ s. s == i) (ss ++ j ∷ []) ≡ list_any (λ s. s == i) ss
any_other i j [] other = rw other refl
any_other i j (s ∷ ss) other = elim (by_test (s == i)) [ inl is ↦ rw is refl | inr not ↦ rw not (any_other i j ss other) ]

-- an item's state stays, or moves forward
pub state_moves : (settings : Settings) (h : History) (t c : ℕ) (command : Command) (l : Listing) → listing_at (listings h) l.item ≡ Some l → verdict settings h t c command ≡ None
    → may_move (state_of h l) (state_of (entry t c command ∷ h) l) ≡ true
state_moves settings h t c (Bid j m) l listed none =
    elim (by_test (j == l.item)) [
      | inl here ↦ (let was = bid_led settings h t c j m l listed none here in
          rw here (simp append-nil (move_led (is_bought h l.item) (is_taken h l) (close_sells (leader_of h l) (met_of h l)) _ (is_settled h l.item) was)))
      | inr other ↦ rw other (simp append-nil (stays (state_of h l)))
    ]
state_moves settings h t c (Buy j) l listed none =
    elim (by_test (j == l.item)) [
      | inl here ↦ (let was = bought_open settings h t c j l listed none here in
          let p : Purchase = record { item = j; buyer = c; moment = t } in
          rw (find_here l.item (purchases h) p here) (simp append-nil (move_bought (is_bought h l.item) (is_taken h l) (close_sells (leader_of h l) (met_of h l)) (is_settled h l.item) false false was)))
      | inr other ↦ (let p : Purchase = record { item = j; buyer = c; moment = t } in
          rw (find_other l.item (purchases h) p other) (simp append-nil (stays (state_of h l))))
    ]
state_moves settings h t c Close l listed none =
    simp append-nil (rw (list_any-append (λ c. nat_le l.item c.listed && nat_le l.end c.moment) (closings h) _)
    (move_closed (is_bought h l.item) (list_any (λ c. nat_le l.item c.listed && nat_le l.end c.moment) (closings h)) _ (close_sells (leader_of h l) (met_of h l)) (is_settled h l.item)))
state_moves settings h t c (Settle j) l listed none =
    elim (by_test (j == l.item)) [
      | inl here ↦ (let sold = settled_sold settings h t c j l listed none here in
          rw (any_here l.item j (settlements h) here) (settles (state_of h l) sold))
      | inr other ↦ rw (any_other l.item j (settlements h) other) (simp append-nil (stays (state_of h l)))
    ]
state_moves settings h t c (Register name) l listed none = simp append-nil (stays (state_of h l))
state_moves settings h t c (AddCategory name) l listed none = simp append-nil (stays (state_of h l))
state_moves settings h t c (Listed category lot title text start buy_now end reserve) l listed none = simp append-nil (stays (state_of h l))
state_moves settings h t c (Watch j) l listed none = simp append-nil (stays (state_of h l))
state_moves settings h t c (Unwatch j) l listed none = simp append-nil (stays (state_of h l))
state_moves settings h t c (Ask j text) l listed none = simp append-nil (stays (state_of h l))
state_moves settings h t c (Answer j asker number text) l listed none = simp append-nil (stays (state_of h l))
state_moves settings h t c (Feedback j rating text) l listed none = simp append-nil (stays (state_of h l))
state_moves settings h t c (SetBands bands) l listed none = simp append-nil (stays (state_of h l))
