-- A run in which a covered bid is raised is a twin for everybody but its bidder.
use Rattle.std.proofs.Common.{◌≡◌, ◌≢◌, ℕ, ◌+◌, ◌-◌, ◌<◌, ◌≤◌, List, [], ◌∷◌, ◌++◌, length, length-append, map, take, drop, true, false, not, refl, ◌∙◌, ap, sym, subst, arith, inl, inr, Option, Some, None}
use Rattle.std.specs.Prelude.{◌==◌}
use Rattle.std.specs.List.{AllByRecursion}
use Rattle.std.proofs.lemmas.Bool.Decides.{nat_tests}
use Rattle.std.proofs.lemmas.List.{append-nil, append_assoc}
use Rattle.std.proofs.lemmas.List.Elements.{filter-append}
use Rattle.std.proofs.Math.Seq.{drop-append-add, take-append_seam}
use Rattle.steps.specs.Table.{IsBandTable, over}
use Rattle.proxy.specs.declared.bid.Bid as bid
use Rattle.proxy.specs.Bids.{bids_by, bids_not_by, greatest, leader, top}
use Rattle.proxy.specs.Rules.{first_failing}
use Rattle.proxy.specs.Surplus.{AreCovered}
use Rattle.proxy.proofs.Judged.{accepted_above}
use Rattle.proxy.proofs.Leads.{leader_greatest, not_by-more_other}
use Rattle.proxy.proofs.Surpluses.{first_or_above, others_covered, surplus_own}
use Rattle.house_rows.specs.declared.command.Command.{Command}
use Rattle.house_rows.specs.declared.command.Command.TheVariants.{Register, AddCategory, List as Listed, Bid, Buy, Close, Settle, Watch, Unwatch, Ask, Answer, Feedback, SetBands}
use Rattle.house_rows.specs.declared.item.ItemShown.{ItemShown}
use Rattle.house_rows.specs.declared.message.Message.{Message}
use Rattle.house_rows.specs.declared.message.Message.TheVariants.{Broken, Write, Read}
use Rattle.house_rows.specs.declared.refusal.Refusal.{Refusal}
use Rattle.house_rows.specs.declared.settings.Settings.{Settings}
use Rattle.house_rows.specs.Bids.{bid_in, bids_on}
use Rattle.house_rows.specs.History.{Entry, History, clock}
use Rattle.house_rows.specs.Items.{items_shown, shown_at}
use Rattle.house_rows.specs.Limits.{most_cents}
use Rattle.house_rows.specs.Listings.{Listing, bands_by, listed_opening, listing_at, listings}
use Rattle.house_rows.specs.People.{members}
use Rattle.house_rows.specs.Runs.{AreTwins, AreTwinsFrom, entered, entry, history_from, history_of, is_of, next}
use Rattle.house_rows.specs.Verdict.{IsHistory, Rule, bid_rules, common_rules, of_item, verdict}
use Rattle.house_rows.proofs.AcceptedBids.{bid_accepted}
use Rattle.house_rows.proofs.GoesBy.{bands_valid}
use Rattle.house_rows.proofs.Next.{next_accepted, next_is_history}
use Rattle.house_rows.proofs.Passed.{item_pass, own_pass}
use Rattle.house_rows.proofs.Put.{by_test}
use Rattle.house_rows.proofs.RangedTalk.{listing_is}
use Rattle.house_laws.specs.Covered.{IsCovered, IsCoveredBid, Sealed, bid_message, raised, with_maximum}
use Rattle.house_laws.proofs.Near.{BidCovered, MessageCovered, Near, is_bid_by, near_agrees, near_items, near_next, near_raised}

-- bids are only added
entered_grows : (v : Option Refusal) (h : History) (e : Entry) (i : ℕ) → (more : List bid.Bid) × (bids_on (entered v e h) i ≡ bids_on h i ++ more)
entered_grows None h e i = (bid_in i (length (bids_on h i) + 1) e.caller e.command, refl)
entered_grows (Some r) h e i = ([], sym (append-nil (bids_on h i)))

next_grows : {F : Type 0} (settings : Settings) (h : History) (m : Message F) (i : ℕ) → (more : List bid.Bid) × (bids_on (next settings h m) i ≡ bids_on h i ++ more)
unfolding next
next_grows settings h (Write t d command) i = entered_grows (verdict settings h t d command) h (entry t d command) i
next_grows settings h (Read d query) i = ([], sym (append-nil (bids_on h i)))
next_grows settings h (Broken caller fault) i = ([], sym (append-nil (bids_on h i)))

pub grows : {F : Type 0} (settings : Settings) (h : History) (ms : List (Message F)) (i : ℕ) → (more : List bid.Bid) × (bids_on (history_from settings h ms) i ≡ bids_on h i ++ more)
grows settings h [] i = ([], sym (append-nil (bids_on h i)))
grows settings h (m ∷ ms) i =
    let one = next_grows settings h m i in
    let rest = grows settings (next settings h m) ms i in
    (one.0 ++ rest.0, rest.1 ∙ ap (λ bs. bs ++ rest.0) one.1 ∙ append_assoc (bids_on h i) one.0 rest.0)

-- what holds of all others' bids in the end holds of those before
all_front : {X : Type 0} (P : X → Type 0) (xs ys : List X) → AllByRecursion P (xs ++ ys) → AllByRecursion P xs
all_front P [] ys all = tt
all_front P (x ∷ xs) ys all = (all.0, all_front P xs ys all.1)

all_back : {X : Type 0} (P : X → Type 0) (xs ys : List X) → AllByRecursion P (xs ++ ys) → AllByRecursion P ys
all_back P [] ys all = all
all_back P (x ∷ xs) ys all = all_back P xs ys all.1

others_before : {F : Type 0} (settings : Settings) (bands : List (ℕ × ℕ)) (w i x : ℕ) (h : History) (ms : List (Message F))
    → AreCovered bands x (bids_not_by w (bids_on (history_from settings h ms) i)) → AreCovered bands x (bids_not_by w (bids_on h i))
others_before settings bands w i x h ms all =
    let more = grows settings h ms i in
    let split : bids_not_by w (bids_on (history_from settings h ms) i) ≡ bids_not_by w (bids_on h i) ++ bids_not_by w more.0 = rw more.1 (filter-append _ (bids_on h i) more.0) in
    all_front (λ b. over bands b.maximum ≤ x) (bids_not_by w (bids_on h i)) (bids_not_by w more.0) (rw split at all)

-- how many bids a bidder has on an item
abbrev pub mine : ℕ → ℕ → History → ℕ
mine w i h = length (bids_by w (bids_on h i))

mine_grows : {F : Type 0} (settings : Settings) (w i : ℕ) (h : History) (ms : List (Message F)) → mine w i h ≤ mine w i (history_from settings h ms)
mine_grows settings w i h ms =
    let more = grows settings h ms i in
    let split : mine w i (history_from settings h ms) ≡ length (bids_by w (bids_on h i)) + length (bids_by w more.0) =
    rw more.1 (ap length (filter-append _ (bids_on h i) more.0) ∙ length-append (bids_by w (bids_on h i)) (bids_by w more.0)) in
    omega arith

by_more : (w : ℕ) (bids : List bid.Bid) (b : bid.Bid) → (b.member == w) ≡ true → length (bids_by w (bids ++ b ∷ [])) ≡ length (bids_by w bids) + 1
by_more w [] b me = rw me refl
by_more w (a ∷ bids) b me =
    elim (by_test (a.member == w)) [
      | inl is ↦ (let rest = by_more w bids b me in rw is (let e : length (a ∷ bids_by w (bids ++ b ∷ [])) ≡ length (a ∷ bids_by w bids) + 1 = omega arith in e))
      | inr not ↦ rw not (by_more w bids b me)
    ]

-- an accepted bid of its is one more
false_true : false ≡ true → ⊥
false_true e = cc

bid_counts : (w i : ℕ) (h : History) (t d : ℕ) (command : Command) → is_bid_by w i d command ≡ true → mine w i (entry t d command ∷ h) ≡ mine w i h + 1
bid_counts w i h t d (Bid j z) is =
    let on : (j == i) ≡ true = grind (arith, nat_tests) in
    let who : (d == w) ≡ true = grind (arith, nat_tests) in
    rw on (by_more w (bids_on h i) (record { member = d; maximum = z; no = length (bids_on h i) + 1 }) who)
bid_counts w i h t d (Register name) is = absurd (false_true is)
bid_counts w i h t d (AddCategory name) is = absurd (false_true is)
bid_counts w i h t d (Listed category lot title text start buy_now end asks) is = absurd (false_true is)
bid_counts w i h t d (Buy j) is = absurd (false_true is)
bid_counts w i h t d Close is = absurd (false_true is)
bid_counts w i h t d (Settle j) is = absurd (false_true is)
bid_counts w i h t d (Watch j) is = absurd (false_true is)
bid_counts w i h t d (Unwatch j) is = absurd (false_true is)
bid_counts w i h t d (Ask j text) is = absurd (false_true is)
bid_counts w i h t d (Answer j asker n text) is = absurd (false_true is)
bid_counts w i h t d (Feedback j rating text) is = absurd (false_true is)
bid_counts w i h t d (SetBands table) is = absurd (false_true is)

-- so where in the end it has no more than now, none is accepted from now on
no_more_next : {F : Type 0} (settings : Settings) (w i : ℕ) (h : History) (m : Message F) (ms : List (Message F)) → mine w i (history_from settings h (m ∷ ms)) ≡ mine w i h
    → mine w i (history_from settings (next settings h m) ms) ≡ mine w i (next settings h m)
no_more_next settings w i h m ms none =
    let first = mine_grows settings w i h (m ∷ []) in
    let rest = mine_grows settings w i (next settings h m) ms in
    omega arith

none_accepted : (F : Type 0) (settings : Settings) (w i : ℕ) (h : History) (t d : ℕ) (command : Command) (ms : List (Message F))
    → mine w i (history_from settings h (Write t d command ∷ ms)) ≡ mine w i h → is_bid_by w i d command ≡ true → verdict settings h t d command ≢ None
none_accepted F settings w i h t d command ms none is accepted =
    let e : next {F = F} settings h (Write t d command) ≡ entry t d command ∷ h = next_accepted F settings h t d command accepted in
    let one = bid_counts w i h t d command is in
    let rest : mine w i (next {F = F} settings h (Write t d command)) ≤ mine w i (history_from settings (next {F = F} settings h (Write t d command)) ms) =
    mine_grows settings w i (next {F = F} settings h (Write t d command)) ms in
    let same : mine w i (next {F = F} settings h (Write t d command)) ≡ mine w i (entry t d command ∷ h) = ap (mine w i) e in
    let none' : mine w i (history_from settings (next {F = F} settings h (Write t d command)) ms) ≡ mine w i h = none in
    omega (arith, one, rest, same, none')

-- the bidder's rules are no harder at a lower maximum of its own, and a higher bid passes them
rules_easier : (t c z own own' : ℕ) (it : ItemShown) → own ≤ own' → first_failing (bid_rules t c z own' it) ≡ None → first_failing (bid_rules t c z own it) ≡ None
rules_easier t c z own own' it le none = grind (arith, nat_tests)

rules_raise : (t c x y own : ℕ) (it : ItemShown) → x ≤ y → y ≤ most_cents → first_failing (bid_rules t c x own it) ≡ None → first_failing (bid_rules t c y own it) ≡ None
rules_raise t c x y own it le fits none = grind (arith, nat_tests)

both_easier : (first before after : List Rule) → (first_failing before ≡ None → first_failing after ≡ None) → first_failing (first ++ before) ≡ None → first_failing (first ++ after) ≡ None
both_easier [] before after easier none = easier none
both_easier (rule ∷ first) before after easier none = grind (arith, nat_tests, both_easier first before after easier)

item_easier : (o : Option ItemShown) (f g : ItemShown → List Rule) → ((it : ItemShown) → first_failing (f it) ≡ None → first_failing (g it) ≡ None)
    → first_failing (of_item o f) ≡ None → first_failing (of_item o g) ≡ None
item_easier None f g easier none = none
item_easier (Some it) f g easier none = easier it none

-- where the bidder's own maximum is lower, its bid is no harder
verdict_easier : (settings : Settings) (bands : List (ℕ × ℕ)) (reserve : Option ℕ) (w i x y : ℕ) (h k : History) (t z : ℕ) → x ≤ y → Near settings bands reserve w i x y h k → greatest (bids_on h i) w ≤ greatest (bids_on k i) w
    → verdict settings k t w (Bid i z) ≡ None → verdict settings h t w (Bid i z) ≡ None
unfolding verdict
verdict_easier settings bands reserve w i x y h k t z le near lower none =
    rw (near.clocks, near.people, near_items settings bands reserve w i x y h k le near)
    (both_easier (common_rules (clock k) (length (members k)) t w false) (of_item (shown_at (items_shown settings k) i) (bid_rules t w z (greatest (bids_on k i) w)))
    (of_item (shown_at (items_shown settings k) i) (bid_rules t w z (greatest (bids_on h i) w)))
    (item_easier (shown_at (items_shown settings k) i) (bid_rules t w z (greatest (bids_on k i) w)) (bid_rules t w z (greatest (bids_on h i) w))
    (λ it. rules_easier t w z (greatest (bids_on h i) w) (greatest (bids_on k i) w) it lower)) none)

lower_own : (settings : Settings) (bands : List (ℕ × ℕ)) (reserve : Option ℕ) (w i x y : ℕ) (h k : History) → x ≤ y → Near settings bands reserve w i x y h k → greatest (bids_on h i) w ≤ greatest (bids_on k i) w
lower_own settings bands reserve w i x y h k le near =
    let own = surplus_own bands reserve w x y (bids_on h i) (bids_on k i) near.surplus in rw (own.0, own.1) le

raised_accepted : (settings : Settings) (w i t x y : ℕ) (h : History) → x ≤ y → y ≤ most_cents → verdict settings h t w (Bid i x) ≡ None → verdict settings h t w (Bid i y) ≡ None
unfolding verdict
raised_accepted settings w i t x y h le fits none =
    both_easier (common_rules (clock h) (length (members h)) t w false) (of_item (shown_at (items_shown settings h) i) (bid_rules t w x (greatest (bids_on h i) w)))
    (of_item (shown_at (items_shown settings h) i) (bid_rules t w y (greatest (bids_on h i) w)))
    (item_easier (shown_at (items_shown settings h) i) (bid_rules t w x (greatest (bids_on h i) w)) (bid_rules t w y (greatest (bids_on h i) w))
    (λ it. rules_raise t w x y (greatest (bids_on h i) w) it le fits)) none

its_bid_refused : (settings : Settings) (bands : List (ℕ × ℕ)) (reserve : Option ℕ) (w i x y : ℕ) (h k : History) (t d : ℕ) (command : Command) → x ≤ y → Near settings bands reserve w i x y h k → is_bid_by w i d command ≡ true
    → verdict settings h t d command ≢ None → verdict settings k t d command ≢ None
its_bid_refused settings bands reserve w i x y h k t d (Bid j z) le near is refused = λ none.
    let item_is : j ≡ i = grind (arith, nat_tests) in
    let who : d ≡ w = grind (arith, nat_tests) in
    refused (rw (item_is, who) (verdict_easier settings bands reserve w i x y h k t z le near (lower_own settings bands reserve w i x y h k le near) (rw (item_is, who) at none)))
its_bid_refused settings bands reserve w i x y h k t d (Register name) le near is refused = absurd (false_true is)
its_bid_refused settings bands reserve w i x y h k t d (AddCategory name) le near is refused = absurd (false_true is)
its_bid_refused settings bands reserve w i x y h k t d (Listed category lot title text start buy_now end asks) le near is refused = absurd (false_true is)
its_bid_refused settings bands reserve w i x y h k t d (Buy j) le near is refused = absurd (false_true is)
its_bid_refused settings bands reserve w i x y h k t d Close le near is refused = absurd (false_true is)
its_bid_refused settings bands reserve w i x y h k t d (Settle j) le near is refused = absurd (false_true is)
its_bid_refused settings bands reserve w i x y h k t d (Watch j) le near is refused = absurd (false_true is)
its_bid_refused settings bands reserve w i x y h k t d (Unwatch j) le near is refused = absurd (false_true is)
its_bid_refused settings bands reserve w i x y h k t d (Ask j text) le near is refused = absurd (false_true is)
its_bid_refused settings bands reserve w i x y h k t d (Answer j asker n text) le near is refused = absurd (false_true is)
its_bid_refused settings bands reserve w i x y h k t d (Feedback j rating text) le near is refused = absurd (false_true is)
its_bid_refused settings bands reserve w i x y h k t d (SetBands table) le near is refused = absurd (false_true is)

-- an accepted bid of another is among the others' bids in the end
bid_covered_by : (bands : List (ℕ × ℕ)) (w i x : ℕ) (h : History) (d number : ℕ) (command : Command) → is_bid_by w i d command ≡ false
    → AreCovered bands x (bids_not_by w (bids_on h i ++ bid_in i number d command)) → BidCovered bands i x command
bid_covered_by bands w i x h d number (Bid j maximum) differ all = λ me.
    let is : (j == i) ≡ true = grind (arith, nat_tests) in
    let ne : d ≢ w = grind (arith, nat_tests) in
    let b : bid.Bid = record { member = d; maximum = maximum; no = number } in
    let here : AreCovered bands x (bids_not_by w (bids_on h i ++ b ∷ [])) = rw is at all in
    let split : AreCovered bands x (bids_not_by w (bids_on h i) ++ b ∷ []) = rw (not_by-more_other w (bids_on h i) b ne) at here in
    (all_back (λ b. over bands b.maximum ≤ x) (bids_not_by w (bids_on h i)) (b ∷ []) split).0
bid_covered_by bands w i x h d number (Register name) differ all = tt
bid_covered_by bands w i x h d number (AddCategory name) differ all = tt
bid_covered_by bands w i x h d number (Listed category lot title text start buy_now end asks) differ all = tt
bid_covered_by bands w i x h d number (Buy j) differ all = tt
bid_covered_by bands w i x h d number Close differ all = tt
bid_covered_by bands w i x h d number (Settle j) differ all = tt
bid_covered_by bands w i x h d number (Watch j) differ all = tt
bid_covered_by bands w i x h d number (Unwatch j) differ all = tt
bid_covered_by bands w i x h d number (Ask j text) differ all = tt
bid_covered_by bands w i x h d number (Answer j asker n text) differ all = tt
bid_covered_by bands w i x h d number (Feedback j rating text) differ all = tt
bid_covered_by bands w i x h d number (SetBands table) differ all = tt

-- along the rest of the run
message_covered : {F : Type 0} (settings : Settings) (bands : List (ℕ × ℕ)) (reserve : Option ℕ) (w i x y : ℕ) (h k : History) (m : Message F) (ms : List (Message F)) → x ≤ y → Near settings bands reserve w i x y h k
    → mine w i (history_from settings h (m ∷ ms)) ≡ mine w i h → AreCovered bands x (bids_not_by w (bids_on (history_from settings h (m ∷ ms)) i)) → MessageCovered settings bands w i x h k m
message_covered settings bands reserve w i x y h k (Read d query) ms le near none all = tt
message_covered settings bands reserve w i x y h k (Broken caller fault) ms le near none all = tt
message_covered {F = F} settings bands reserve w i x y h k (Write t d command) ms le near none all = (
  λ is. (
    none_accepted F settings w i h t d command ms none is,
    its_bid_refused settings bands reserve w i x y h k t d command le near is (none_accepted F settings w i h t d command ms none is),
  ),
  λ accepted.
      elim (by_test (is_bid_by w i d command)) [
        | inl is ↦ absurd (none_accepted F settings w i h t d command ms none is accepted)
        | inr differ ↦ bid_covered_by bands w i x h d (length (bids_on h i) + 1) command differ
            (rw (next_accepted F settings h t d command accepted) at (others_before settings bands w i x (next {F = F} settings h (Write t d command)) ms all))
      ],
)

near_twins : {A F : Type 0} (meant : A → Message F) (settings : Settings) (bands : List (ℕ × ℕ)) (reserve : Option ℕ) (c w i x y : ℕ) (h k : History) (xs : List A) → x ≤ y → Near settings bands reserve w i x y h k
    → mine w i (history_from settings h (map meant xs)) ≡ mine w i h → AreCovered bands x (bids_not_by w (bids_on (history_from settings h (map meant xs)) i))
    → AreTwinsFrom meant settings c h k xs xs
near_twins meant settings bands reserve c w i x y h k [] le near none all = tt
near_twins meant settings bands reserve c w i x y h k (m ∷ ms) le near none all =
    let covered = message_covered settings bands reserve w i x y h k (meant m) (map meant ms) le near none all in
    let near' = near_next settings bands reserve w i x y h k (meant m) le covered near in (
      inl refl,
      near_agrees settings bands reserve c w i x y (next settings h (meant m)) (next settings k (meant m)) le near',
      near_twins meant settings bands reserve c w i x y (next settings h (meant m)) (next settings k (meant m)) ms le near' (no_more_next settings w i h (meant m) (map meant ms) none) all,
    )

-- and they stay near
pub last_near : {A F : Type 0} (meant : A → Message F) (settings : Settings) (bands : List (ℕ × ℕ)) (reserve : Option ℕ) (w i x y : ℕ) (h k : History) (xs : List A) → x ≤ y → Near settings bands reserve w i x y h k
    → mine w i (history_from settings h (map meant xs)) ≡ mine w i h → AreCovered bands x (bids_not_by w (bids_on (history_from settings h (map meant xs)) i))
    → Near settings bands reserve w i x y (history_from settings h (map meant xs)) (history_from settings k (map meant xs))
last_near meant settings bands reserve w i x y h k [] le near none all = near
last_near meant settings bands reserve w i x y h k (m ∷ ms) le near none all =
    let covered = message_covered settings bands reserve w i x y h k (meant m) (map meant ms) le near none all in
    last_near meant settings bands reserve w i x y (next settings h (meant m)) (next settings k (meant m)) ms le (near_next settings bands reserve w i x y h k (meant m) le covered near) (no_more_next settings w i h (meant m) (map meant ms) none) all

-- a leader's bid that is accepted is above its own
own_rises : (settings : Settings) (h : History) (t w i x : ℕ) → verdict settings h t w (Bid i x) ≡ None → leader (bids_on h i) ≡ Some w → greatest (bids_on h i) w < x
own_rises settings h t w i x none led =
    let more : ItemShown → List Rule = bid_rules t w x (greatest (bids_on h i) w) in
    let pass = item_pass settings h i more (own_pass settings h t w (Bid i x) none) in
    let l : Listing = pass.listing in
    let same : l.item ≡ i = listing_is h i l pass.listed in
    let listed : listing_at (listings h) l.item ≡ Some l = subst (λ (j : ℕ). listing_at (listings h) j ≡ Some l) (sym same) pass.listed in
    let none' : verdict settings h t w (Bid l.item x) ≡ None = subst (λ (j : ℕ). verdict settings h t w (Bid j x) ≡ None) (sym same) none in
    let led' : leader (bids_on h l.item) ≡ Some w = subst (λ (j : ℕ). leader (bids_on h j) ≡ Some w) (sym same) led in
    let above : top (bids_on h l.item) < x = accepted_above (bands_by settings l) (listed_opening l) (bids_on h l.item) w x (bid_accepted settings h t w x l listed none') led' in
    let above' : top (bids_on h i) < x = subst (λ (j : ℕ). top (bids_on h j) < x) same above in
    rw (leader_greatest (bids_on h i) w led) above'

-- the history after two lists of messages
pub history_append : {F : Type 0} (settings : Settings) (h : History) (before later : List (Message F)) → history_from settings h (before ++ later) ≡ history_from settings (history_from settings h before) later
history_append settings h [] later = refl
history_append settings h (m ∷ before) later = history_append settings (next settings h m) before later

-- what follows from a covered bid, after it: the two histories are near, the bidder bids no more on the item, and all others' are covered
pub record After {A F : Type 0} (meant : A → Message F) (settings : Settings) (bands : List (ℕ × ℕ)) (reserve : Option ℕ) (y : ℕ) (b : Sealed) (h : History) (here other : A) (later : List A) : Type 0 where
  pub near : Near settings bands reserve b.member b.item b.maximum y (next settings h (meant here)) (next settings h (meant other))
  pub none : mine b.member b.item (history_from settings (next settings h (meant here)) (map meant later)) ≡ mine b.member b.item (next settings h (meant here))
  pub last : AreCovered bands b.maximum (bids_not_by b.member (bids_on (history_from settings (next settings h (meant here)) (map meant later)) b.item))
  pub below : b.maximum ≤ y

pub after_bid : {A F : Type 0} (meant : A → Message F) (settings : Settings) (y : ℕ) (b : Sealed) (h : History) (here other : A) (later : List A) → IsBandTable settings.bands → IsHistory settings h
    → meant here ≡ bid_message b → meant other ≡ bid_message (with_maximum y b)
    → (covered : IsCoveredBid settings y b h (history_from settings h (map meant (here ∷ later))))
    → After meant settings (bands_by settings covered.listing) covered.listing.reserve y b h here other later
after_bid {F = F} meant settings y b h here other later valid history is raises covered =
    let w = b.member in
    let i = b.item in
    let x = b.maximum in
    let t = b.moment in
    let lt = covered.above in
    let bands : List (ℕ × ℕ) = bands_by settings covered.listing in
    let reserve : Option ℕ = covered.listing.reserve in
    let number : covered.listing.item ≡ i = listing_is h i covered.listing covered.listed in
    let own : listing_at (listings h) covered.listing.item ≡ Some covered.listing =
    subst (λ (j : ℕ). listing_at (listings h) j ≡ Some covered.listing) (sym number) covered.listed in
    let fits : IsBandTable bands = bands_valid settings h covered.listing valid history own in
    let le : x ≤ y = omega arith in
    let last : AreCovered bands x (bids_not_by w (bids_on (history_from settings h (map meant (here ∷ later))) i)) =
    others_covered bands w x (bids_on (history_from settings h (map meant (here ∷ later))) i) fits covered.leads covered.covers.0 in
    let all : AreCovered bands x (bids_not_by w (bids_on h i)) = others_before settings bands w i x h (map meant (here ∷ later)) last in
    let raised = raised_accepted settings w i t x y h le covered.fits covered.accepted in
    let leads = first_or_above bands w x (bids_on h i) (leader (bids_on h i)) refl fits (own_rises settings h t w i x covered.accepted) all in
    let near : Near settings bands reserve w i x y (next {F = F} settings h (Write t w (Bid i x))) (next {F = F} settings h (Write t w (Bid i y))) =
    near_raised F settings bands reserve w i t x y h covered.listing covered.listed refl refl covered.covers.1 le covered.accepted raised leads all in
    let one : mine w i (next settings h (meant here)) ≡ mine w i h + 1 =
    rw (is, next_accepted F settings h t w (Bid i x) covered.accepted) (bid_counts w i h t w (Bid i x) (grind (arith, nat_tests))) in
    record {
      near = rw (is, raises) near;
      none = covered.no_more ∙ sym one;
      last = last;
      below = le;
    }

-- from the bid on the runs are twins for everybody else
from_bid : {A F : Type 0} (meant : A → Message F) (settings : Settings) (c y : ℕ) (b : Sealed) (h : History) (here other : A) (later : List A) → IsBandTable settings.bands → IsHistory settings h
    → meant here ≡ bid_message b → meant other ≡ bid_message (with_maximum y b) → (b.member == c) ≡ false
    → IsCoveredBid settings y b h (history_from settings h (map meant (here ∷ later)))
    → AreTwinsFrom meant settings c h h (here ∷ later) (other ∷ later)
from_bid meant settings c y b h here other later valid history is raises apart covered =
    let follows = after_bid meant settings y b h here other later valid history is raises covered in
    let here_not : is_of c (meant here) ≡ false = rw is apart in
    let other_not : is_of c (meant other) ≡ false = rw raises apart in (
      inr (here_not, other_not),
      near_agrees settings (bands_by settings covered.listing) covered.listing.reserve c b.member b.item b.maximum y (next settings h (meant here)) (next settings h (meant other)) follows.below follows.near,
      near_twins meant settings (bands_by settings covered.listing) covered.listing.reserve c b.member b.item b.maximum y (next settings h (meant here)) (next settings h (meant other)) later follows.below follows.near follows.none follows.last,
    )

-- and before it
before_bid : {A F : Type 0} (meant : A → Message F) (settings : Settings) (c y : ℕ) (b : Sealed) (h : History) (before : List A) (here other : A) (later : List A) → IsBandTable settings.bands → IsHistory settings h
    → meant here ≡ bid_message b → meant other ≡ bid_message (with_maximum y b) → (b.member == c) ≡ false
    → IsCoveredBid settings y b (history_from settings h (map meant before)) (history_from settings h (map meant (before ++ here ∷ later)))
    → AreTwinsFrom meant settings c h h (before ++ here ∷ later) (before ++ other ∷ later)
before_bid meant settings c y b h [] here other later valid history is raises apart covered = from_bid meant settings c y b h here other later valid history is raises apart covered
before_bid meant settings c y b h (m ∷ before) here other later valid history is raises apart covered =
    (inl refl, record { public = refl; waiting = refl }, before_bid meant settings c y b (next settings h (meant m)) before here other later valid (next_is_history settings h (meant m) history) is raises apart covered)

-- the list with another element in the place
pub raised_is : {A : Type 0} (place : ℕ) (before : List A) (here other : A) (later : List A) → place ≡ length before + 1 → raised place other (before ++ here ∷ later) ≡ before ++ other ∷ later
raised_is place before here other later placed =
    let first : take (place - 1) (before ++ here ∷ later) ≡ before =
    (let e : place - 1 ≡ length before = omega arith in rw e (take-append_seam before (here ∷ later))) in
    let rest : drop place (before ++ here ∷ later) ≡ later = rw placed (drop-append-add before (here ∷ later) 1) in
    rw (first, rest) refl

-- nobody else sees that the bid was raised
pub covered_twins : {A F : Type 0} (meant : A → Message F) (settings : Settings) (c place y : ℕ) (b : Sealed) (xs : List A) (other : A) → IsBandTable settings.bands
    → IsCovered meant settings c place y b xs → meant other ≡ bid_message (with_maximum y b) → AreTwins meant settings c xs (raised place other xs)
covered_twins meant settings c place y b xs other valid is raises =
    let bid : IsCoveredBid settings y b (history_of settings (map meant is.before)) (history_of settings (map meant (is.before ++ is.here ∷ is.later))) =
    subst (λ (zs : _). IsCoveredBid settings y b (history_of settings (map meant is.before)) (history_of settings (map meant zs))) is.parts is.covered in
    let twins : AreTwins meant settings c (is.before ++ is.here ∷ is.later) (is.before ++ other ∷ is.later) =
    before_bid meant settings c y b [] is.before is.here other is.later valid tt is.means raises is.apart bid in
    let e : raised place other xs ≡ is.before ++ other ∷ is.later = rw is.parts (raised_is place is.before is.here other is.later is.placed) in
    rw (e, is.parts) twins
