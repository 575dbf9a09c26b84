-- Whoever leads an item has bid on it, and so it stays with every change.
use Rattle.std.proofs.Common.{◌≡◌, ℕ, ◌+◌, ◌<◌, ◌≤◌, List, [], ◌∷◌, ◌++◌, map, filter, length, max, Bool, true, false, refl, ◌∙◌, ap, sym, subst, arith, inl, inr, Option, Some, None}
use Rattle.std.specs.Prelude.{◌⊎◌, ◌==◌, IfSome, find, is_some}
use Rattle.std.specs.List.{AllByRecursion, list_any}
use Rattle.std.proofs.lemmas.Bool.{cases_lt}
use Rattle.std.proofs.lemmas.Bool.Decides.{nat_tests}
use Rattle.proxy.specs.declared.bid.Bid as bid
use Rattle.proxy.specs.Bids.{leader, one_more, top}
use Rattle.proxy.specs.Kept.{Kept}
use Rattle.proxy.proofs.Leads.{leader_above, leader_kept, somebody_leads}
use Rattle.house_rows.specs.declared.change.Change.{Change}
use Rattle.house_rows.specs.declared.change.Change.TheVariants.{Register, AddCategory, List as Listed, Bid, Buy, Close, Settle, Watch, Unwatch, Ask, Answer, Feedback, SetBands}
use Rattle.house_rows.specs.Asks.{BidFits, ChangeFits}
use Rattle.house_rows.specs.Bids.{BidRow, bid_key}
use Rattle.house_rows.specs.Changed.{changed, is_item, new_item, with_close, with_purchase, with_settlement, with_standing}
use Rattle.house_rows.specs.Found.{best_of, row_at}
use Rattle.house_rows.specs.History.{Key, is_less, put_by}
use Rattle.house_rows.specs.Items.{is_due}
use Rattle.house_rows.specs.Keeping.{AreInTurn, AreSound, RowFits}
use Rattle.house_rows.specs.Tables.{ItemRow, Tables}
use Rattle.house_rows.specs.Verdict.{was_sold}
use Rattle.house_rows.proofs.ChangedRows.{close_number, purchase_number, settlement_number, standing_other}
use Rattle.house_rows.proofs.Every.{every_as, every_both, every_map, every_more}
use Rattle.house_rows.proofs.Put.{by_test}
use Rattle.list_bids.specs.Tallies.{is_own}
use Rattle.list_items.specs.Indexed.{number_of}
use Rattle.list_items.specs.Rising.{is_among}
use Rattle.store_list.specs.Kept.{IsLed}

any_put : {A : Type 0} (key : A → Key) (p : A → Bool) (x : A) (ys : List A) → list_any p ys ≡ true → list_any p (put_by key x ys) ≡ true
any_put key p x [] any = absurd (let e : false ≡ true = any in cc)
any_put key p x (y ∷ ys) any =
    elim (by_test (is_less (key x) (key y))) [
      | inl less ↦ rw less (elim (by_test (p x)) [ inl is ↦ rw is refl | inr not ↦ rw not any ])
      | inr later ↦ rw later (elim (by_test (p y)) [ inl is ↦ rw is refl | inr not ↦ rw not (any_put key p x ys (rw not at any)) ])
    ]

any_new : {A : Type 0} (key : A → Key) (p : A → Bool) (x : A) (ys : List A) → p x ≡ true → list_any p (put_by key x ys) ≡ true
any_new key p x [] is = rw is refl
any_new key p x (y ∷ ys) is =
    elim (by_test (is_less (key x) (key y))) [
      | inl less ↦ rw less (rw is refl)
      | inr later ↦ rw later (elim (by_test (p y)) [ inl here ↦ rw here refl | inr not ↦ rw not (any_new key p x ys is) ])
    ]

-- whoever leads has bid
abbrev HasBid : List BidRow → ℕ → Option ℕ → Type 0
HasBid bids item leads = IfSome leads (λ member. list_any (is_own member item) bids ≡ true)

-- one bid more leaves the others
bid_stays : (bids : List BidRow) (x : BidRow) (item : ℕ) (leads : Option ℕ) → HasBid bids item leads → HasBid (put_by bid_key x bids) item leads
bid_stays bids x item None has = tt
bid_stays bids x item (Some member) has = any_put bid_key (is_own member item) x bids has

first_leads : (b : bid.Bid) → leader (b ∷ []) ≡ Some b.member
unfolding leader top
first_leads b = let least : max b.maximum 0 ≡ b.maximum = omega arith in grind (arith, nat_tests, least)

-- the leader with one bid more: the bidder, or the leader that was
leader_after : (bids : List bid.Bid) (b : bid.Bid) → (leader (bids ++ b ∷ []) ≡ Some b.member) ⊎ (leader (bids ++ b ∷ []) ≡ leader bids)
leader_after [] b = inl (first_leads b)
leader_after (a ∷ bids) b =
    elim (cases_lt (top (a ∷ bids)) b.maximum) [
      | inl above ↦ inl (leader_above (a ∷ bids) b above)
      | inr below ↦ (let some = somebody_leads a bids in inr (leader_kept (a ∷ bids) b some.0 some.1 below ∙ sym some.1))
    ]

new_leader : (rows : List BidRow) (item n : ℕ) (placed b : bid.Bid) (bids : List bid.Bid) (old : Option ℕ) → item ≡ n → placed.member ≡ b.member → old ≡ leader bids → HasBid rows n old
    → HasBid (put_by bid_key (record { item = item; bid = placed }) rows) n (leader (bids ++ b ∷ []))
new_leader rows item n placed b bids old here bidder led has =
    elim (leader_after bids b) [
      | inl new ↦ rw new (any_new bid_key (is_own b.member n) (record { item = item; bid = placed }) rows (grind (arith, nat_tests, here, bidder)))
      | inr kept ↦ rw (kept, ← led) (bid_stays rows (record { item = item; bid = placed }) n old has)
    ]

-- of rows with numbers in turn, each is the first with its number
turn_least : {A : Type 0} (number : A → ℕ) (next : ℕ) (xs : List A) → AreInTurn number next xs → AllByRecursion (λ x. next ≤ number x) xs
turn_least number next [] are = tt
turn_least number next (x ∷ xs) are =
    ((let e = are.0 in omega arith), every_as (λ x. next + 1 ≤ number x) (λ x. next ≤ number x) xs (λ x le. omega arith) (turn_least number (next + 1) xs are.1))

turn_found : {A : Type 0} (number : A → ℕ) (next : ℕ) (xs : List A) → AreInTurn number next xs → AllByRecursion (λ x. find (λ y. number y == number x) xs ≡ Some x) xs
turn_found number next [] are = tt
turn_found number next (y ∷ ys) are = (
  (let here : (number y == number y) ≡ true = grind (arith, nat_tests) in rw here refl),
  every_both (λ x. next + 1 ≤ number x) (λ x. find (λ z. number z == number x) ys ≡ Some x) (λ x. find (λ z. number z == number x) (y ∷ ys) ≡ Some x) ys
      (λ x le found. let first = are.0 in let other : (number y == number x) ≡ false = grind (arith, nat_tests) in rw other found)
      (turn_least number (next + 1) ys are.1) (turn_found number (next + 1) ys are.1),
)

same_row : (t : Tables) (i : ℕ) (r row : ItemRow) → row_at t r.item.terms.item ≡ Some r → is_item i r ≡ true → row_at t i ≡ Some row → r ≡ row
same_row t i r row own is there =
    let e : r.item.terms.item ≡ i = grind (arith, nat_tests, is) in
    let own' : row_at t i ≡ Some r = subst (λ (n : ℕ). row_at t n ≡ Some r) e own in
    let same : Some r ≡ Some row = sym own' ∙ there in cc

bid_led : (t : Tables) (moment item : ℕ) (placed : bid.Bid) (standing : Kept) → BidFits t moment item placed standing → (row : ItemRow) → IsLed t.bids row → row_at t (number_of row) ≡ Some row
    → IsLed (put_by bid_key (record { item = item; bid = placed }) t.bids) (with_standing item standing row)
bid_led t moment item placed standing fits row led own =
    elim (by_test (is_item item row)) [
      | inl is ↦ (let same : row ≡ fits.row = same_row t item row fits.row own is fits.row_there in
          let here : item ≡ number_of row = grind (arith, nat_tests, is) in
          let old : row.standing.leader ≡ leader fits.bids = ap (λ (r : ItemRow). r.standing.leader) same ∙ ap (λ (k : Kept). k.leader) fits.is_consistent in
          let new : standing.leader ≡ leader (one_more fits.bids placed.member placed.maximum) = ap (λ (k : Kept). k.leader) fits.is_consistent_after in
          rw is (rw new (new_leader t.bids item (number_of row) placed (record { member = placed.member; maximum = placed.maximum; no = length fits.bids + 1 }) fits.bids row.standing.leader here refl old led)))
      | inr other ↦ subst (IsLed (put_by bid_key (record { item = item; bid = placed }) t.bids)) (sym (standing_other item standing row other))
          (bid_stays t.bids (record { item = item; bid = placed }) (number_of row) row.standing.leader led)
    ]

-- what leaves standings and numbers leaves all led
still_led : (bids : List BidRow) (f : ItemRow → ItemRow) (rows : List ItemRow) → ((row : ItemRow) → (f row).standing ≡ row.standing) → ((row : ItemRow) → number_of (f row) ≡ number_of row)
    → AllByRecursion (IsLed bids) rows → AllByRecursion (IsLed bids) (map f rows)
still_led bids f rows standing number led = every_map f (IsLed bids) rows (every_as (IsLed bids) (λ row. IsLed bids (f row)) rows (λ row has. rw (standing row, number row) has) led)

purchase_standing : (i buyer price moment : ℕ) (row : ItemRow) → (with_purchase i buyer price moment row).standing ≡ row.standing
purchase_standing i buyer price moment row = elim (by_test (is_item i row)) [ inl is ↦ rw is refl | inr other ↦ rw other refl ]

close_standing : (moment : ℕ) (row : ItemRow) → (with_close moment row).standing ≡ row.standing
close_standing moment row = elim (by_test (is_due moment row.item.terms)) [ inl due ↦ rw due refl | inr other ↦ rw other refl ]

settlement_standing : (i : ℕ) (row : ItemRow) → (with_settlement i row).standing ≡ row.standing
settlement_standing i row = elim (by_test (is_item i row)) [ inl is ↦ rw is refl | inr other ↦ rw other refl ]

nobody : leader [] ≡ None
unfolding leader top
nobody = refl

pub led_after : (t : Tables) (change : Change) → AreSound t → AllByRecursion (IsLed t.bids) t.items → ChangeFits t change → AllByRecursion (IsLed (changed t change).bids) (changed t change).items
unfolding changed
led_after t (Register moment name) sound led fits = led
led_after t (AddCategory moment name) sound led fits = led
led_after t (Listed moment item) sound led fits = every_more (IsLed t.bids) t.items (new_item (length t.items + 1) item) led (rw nobody tt)
led_after t (Bid moment item placed standing) sound led fits =
    every_map (with_standing item standing) (IsLed (put_by bid_key (record { item = item; bid = placed }) t.bids)) t.items
    (every_both (IsLed t.bids) (λ row. row_at t (number_of row) ≡ Some row) (λ row. IsLed (put_by bid_key (record { item = item; bid = placed }) t.bids) (with_standing item standing row)) t.items
    (bid_led t moment item placed standing fits) led (turn_found number_of 1 t.items sound.items_in_turn))
led_after t (Buy moment item buyer price) sound led fits = still_led t.bids (with_purchase item buyer price moment) t.items (purchase_standing item buyer price moment) (purchase_number item buyer price moment) led
led_after t (Close moment) sound led fits = still_led t.bids (with_close moment) t.items (close_standing moment) (close_number moment) led
led_after t (Settle moment item) sound led fits = still_led t.bids (with_settlement item) t.items (settlement_standing item) (settlement_number item) led
led_after t (Watch member item) sound led fits = led
led_after t (Unwatch member item) sound led fits = led
led_after t (Ask item asker number text) sound led fits = led
led_after t (Answer moment item asker number text) sound led fits = led
led_after t (Feedback moment item from to rating text) sound led fits = led
led_after t (SetBands moment bands) sound led fits = led

-- the items that a member leads are among those on which it has bid

some_pass : {A : Type 0} (p : A → Bool) (xs : List A) → list_any p xs ≡ true → 0 < length (filter p xs)
some_pass p [] any = absurd (let e : false ≡ true = any in cc)
some_pass p (x ∷ xs) any = elim (by_test (p x)) [ inl is ↦ rw is (omega arith) | inr not ↦ rw not (some_pass p xs (rw not at any)) ]

pub leads_among : (t : Tables) (bids : List BidRow) (member : ℕ) (numbers : List ℕ) (rows : List ItemRow) → t.bids ≡ bids → ((item : ℕ) → 0 < (best_of t member item).mine → is_among numbers item ≡ true) → AllByRecursion (IsLed bids) rows
    → AllByRecursion (λ row. row.standing.leader ≡ Some member → is_among numbers (number_of row) ≡ true) rows
leads_among t bids member numbers [] same complete led = tt
leads_among t bids member numbers (row ∷ rows) same complete led = (
  λ leads. complete (number_of row) (rw same (some_pass (is_own member (number_of row)) bids (subst (HasBid bids (number_of row)) leads led.0))),
  leads_among t bids member numbers rows same complete led.1,
)

-- what was sold has a buyer
pub sold_led : (t u : Tables) → t ≡ u → AreSound t → AllByRecursion (λ row. was_sold row.item.terms.state ≡ true → is_some row.item.terms.leader ≡ true) t.items
sold_led t u same sound = every_as (RowFits t) (λ row. was_sold row.item.terms.state ≡ true → is_some row.item.terms.leader ≡ true) t.items (λ row fits. fits.item.terms.sold_led) sound.items
