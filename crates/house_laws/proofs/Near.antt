-- Two histories that differ in how far one leader's maximum lies above what leading takes look the same to everybody else.
use Rattle.std.proofs.Common.{◌≡◌, ◌≢◌, ℕ, ◌+◌, ◌<◌, ◌≤◌, List, [], ◌∷◌, ◌++◌, length, map, Bool, true, false, refl, ◌∙◌, ap, sym, subst, arith, inl, inr, ◌⊎◌, Option, Some, None}
use Rattle.std.specs.Prelude.{◌==◌, ◌&&◌, IfSome}
use Rattle.std.proofs.lemmas.Bool.Decides.{nat_tests}
use Rattle.std.proofs.lemmas.List.{append-nil}
use Rattle.steps.specs.Table.{over}
use Rattle.proxy.specs.Bids.{bids_not_by, greatest, leader, met, price, top}
use Rattle.proxy.specs.Surplus.{AreCovered, DifferInTop, IsSurplus}
use Rattle.proxy.proofs.Surpluses.{surplus_first, surplus_greatest, surplus_more, surplus_tops, tops_met, tops_price}
use Rattle.house_rows.specs.declared.command.Command.{Command}
use Rattle.house_rows.specs.declared.command.Command.TheVariants.{Register, AddCategory, List as Listed, Bid, Buy, Close, Settle, Watch, Unwatch, Ask, Answer, Feedback, SetBands}
use Rattle.house_rows.specs.declared.message.Message.{Message}
use Rattle.house_rows.specs.declared.message.Message.TheVariants.{Broken, Write, Read}
use Rattle.house_rows.specs.declared.refusal.Refusal.{Refusal}
use Rattle.house_rows.specs.declared.settings.Settings.{Settings}
use Rattle.house_rows.specs.declared.talk.Feedback as row
use Rattle.house_rows.specs.Bids.{bid_in, bids_on}
use Rattle.house_rows.specs.History.{Entry, History, clock}
use Rattle.house_rows.specs.Items.{closings, items_shown, leader_of, purchases, settlements, shown_now}
use Rattle.house_rows.specs.Listings.{Listing, bands_by, listed_opening, listing_at, listings, tables_set}
use Rattle.house_rows.specs.People.{categories, members}
use Rattle.house_rows.specs.Questions.{answers, asked, published, questions, waiting}
use Rattle.house_rows.specs.Ratings.{feedback, party_against, with_feedback}
use Rattle.house_rows.specs.Runs.{Agrees, entered, entry, next}
use Rattle.house_rows.specs.Verdict.{verdict}
use Rattle.house_rows.specs.Views.{own_questions, own_watches, public_view}
use Rattle.house_rows.specs.Watches.{watches}
use Rattle.house_rows.proofs.Lists.{map_each}
use Rattle.house_rows.proofs.Next.{next_accepted}
use Rattle.house_rows.proofs.Numbered.{numbered}
use Rattle.house_rows.proofs.Put.{by_test}
use Rattle.house_rows.proofs.RangedBids.{listed_more}

-- a command is a bid of that member on that item
abbrev pub is_bid_by : ℕ → ℕ → ℕ → Command → Bool
is_bid_by w i d (Bid j maximum) = (j == i) && (d == w)
is_bid_by w i d _ = false

-- if it is a bid on that item, one step over it lies at most at the amount
abbrev pub BidCovered : List (ℕ × ℕ) → ℕ → ℕ → Command → Type 0
BidCovered bands i x (Bid j maximum) = j ≡ i → over bands maximum ≤ x
BidCovered bands i x _ = Unit {0}

-- all is the same but the bids on that item, which has that band table and that reserve, and of these all but the leader's
pub record Near (settings : Settings) (bands : List (ℕ × ℕ)) (reserve : Option ℕ) (w i x y : ℕ) (h k : History) : Type 0 where
  pub clocks : clock h ≡ clock k
  pub people : members h ≡ members k
  pub kinds : categories h ≡ categories k
  pub lots : listings h ≡ listings k
  pub sets : tables_set h ≡ tables_set k
  pub bought : purchases h ≡ purchases k
  pub closed : closings h ≡ closings k
  pub settled : settlements h ≡ settlements k
  pub asks : asked h ≡ asked k
  pub given : answers h ≡ answers k
  pub watched : watches h ≡ watches k
  pub rated : feedback h ≡ feedback k
  pub others : (j : ℕ) → (j == i) ≡ false → bids_on h j ≡ bids_on k j
  pub surplus : IsSurplus bands reserve w x y (bids_on h i) (bids_on k i)
  pub listing : Listing
  pub listed : listing_at (listings h) i ≡ Some listing
  pub goes : bands_by settings listing ≡ bands
  pub asks_for : listing.reserve ≡ reserve

near_leads : (settings : Settings) (bands : List (ℕ × ℕ)) (reserve : Option ℕ) (w i x y : ℕ) (h k : History) → Near settings bands reserve w i x y h k → (j : ℕ) → leader (bids_on h j) ≡ leader (bids_on k j)
near_leads settings bands reserve w i x y h k near j =
    elim (by_test (j == i)) [
      | inl is ↦ (let me : j ≡ i = grind (arith, nat_tests) in rw me (near.surplus.left_leads ∙ sym near.surplus.right_leads))
      | inr other ↦ ap leader (near.others j other)
    ]

near_counts : (settings : Settings) (bands : List (ℕ × ℕ)) (reserve : Option ℕ) (w i x y : ℕ) (h k : History) → Near settings bands reserve w i x y h k → (j : ℕ) → length (bids_on h j) ≡ length (bids_on k j)
near_counts settings bands reserve w i x y h k near j =
    elim (by_test (j == i)) [
      | inl is ↦ (let me : j ≡ i = grind (arith, nat_tests) in rw me near.surplus.count)
      | inr other ↦ ap length (near.others j other)
    ]

-- the listing of the item is the one that is known
one_listing : (settings : Settings) (bands : List (ℕ × ℕ)) (reserve : Option ℕ) (w i x y : ℕ) (h k : History) (l : Listing) (near : Near settings bands reserve w i x y h k) → listing_at (listings h) l.item ≡ Some l → l.item ≡ i
    → l ≡ near.listing
one_listing settings bands reserve w i x y h k l near listed is =
    let here : listing_at (listings h) i ≡ Some l = subst (λ (j : ℕ). listing_at (listings h) j ≡ Some l) is listed in
    let both : Some l ≡ Some near.listing = sym here ∙ near.listed in
    cc

-- so what bids on it differ in is the top alone, by its own band table and reserve
near_tops : (settings : Settings) (bands : List (ℕ × ℕ)) (reserve : Option ℕ) (w i x y : ℕ) (h k : History) → x ≤ y → (near : Near settings bands reserve w i x y h k) → (l : Listing) → l ≡ near.listing
    → DifferInTop (bands_by settings l) l.reserve w (bids_on h i) (bids_on k i)
near_tops settings bands reserve w i x y h k le near l same =
    let table : bands_by settings l ≡ bands = ap (bands_by settings) same ∙ near.goes in
    let asks : l.reserve ≡ reserve = ap (λ (m : Listing). m.reserve) same ∙ near.asks_for in
    rw (table, asks) (surplus_tops bands reserve w x y (bids_on h i) (bids_on k i) le near.surplus)

near_price : (settings : Settings) (bands : List (ℕ × ℕ)) (reserve : Option ℕ) (w i x y : ℕ) (h k : History) → x ≤ y → Near settings bands reserve w i x y h k → (l : Listing) → listing_at (listings h) l.item ≡ Some l
    → price (bands_by settings l) (listed_opening l) (bids_on h l.item) ≡ price (bands_by settings l) (listed_opening l) (bids_on k l.item)
near_price settings bands reserve w i x y h k le near l listed =
    elim (by_test (l.item == i)) [
      | inl is ↦ (let me : l.item ≡ i = grind (arith, nat_tests) in
          let same : l ≡ near.listing = one_listing settings bands reserve w i x y h k l near listed me in
          subst (λ (j : ℕ). price (bands_by settings l) (listed_opening l) (bids_on h j) ≡ price (bands_by settings l) (listed_opening l) (bids_on k j)) (sym me)
          (tops_price (bands_by settings l) (listed_opening l) w (bids_on h i) (bids_on k i) (near_tops settings bands reserve w i x y h k le near l same)))
      | inr other ↦ ap (price (bands_by settings l) (listed_opening l)) (near.others l.item other)
    ]

near_met : (settings : Settings) (bands : List (ℕ × ℕ)) (reserve : Option ℕ) (w i x y : ℕ) (h k : History) → x ≤ y → Near settings bands reserve w i x y h k → (l : Listing) → listing_at (listings h) l.item ≡ Some l
    → met (listed_opening l) (bids_on h l.item) ≡ met (listed_opening l) (bids_on k l.item)
near_met settings bands reserve w i x y h k le near l listed =
    elim (by_test (l.item == i)) [
      | inl is ↦ (let me : l.item ≡ i = grind (arith, nat_tests) in
          let same : l ≡ near.listing = one_listing settings bands reserve w i x y h k l near listed me in
          subst (λ (j : ℕ). met (listed_opening l) (bids_on h j) ≡ met (listed_opening l) (bids_on k j)) (sym me)
          (tops_met (bands_by settings l) (listed_opening l) w (bids_on h i) (bids_on k i) (near_tops settings bands reserve w i x y h k le near l same)))
      | inr other ↦ ap (met (listed_opening l)) (near.others l.item other)
    ]

near_leader : (settings : Settings) (bands : List (ℕ × ℕ)) (reserve : Option ℕ) (w i x y : ℕ) (h k : History) → Near settings bands reserve w i x y h k → (l : Listing) → leader_of h l ≡ leader_of k l
near_leader settings bands reserve w i x y h k near l = rw (near.bought, near_leads settings bands reserve w i x y h k near l.item) refl

near_item : (settings : Settings) (bands : List (ℕ × ℕ)) (reserve : Option ℕ) (w i x y : ℕ) (h k : History) → x ≤ y → Near settings bands reserve w i x y h k → (l : Listing) → listing_at (listings h) l.item ≡ Some l
    → shown_now settings h l ≡ shown_now settings k l
near_item settings bands reserve w i x y h k le near l listed =
    rw (
      near.bought,
      near.closed,
      near.settled,
      near_met settings bands reserve w i x y h k le near l listed,
      near_leads settings bands reserve w i x y h k near l.item,
      near_counts settings bands reserve w i x y h k near l.item,
      near_price settings bands reserve w i x y h k le near l listed,
    ) refl

-- every item looks the same
pub near_items : (settings : Settings) (bands : List (ℕ × ℕ)) (reserve : Option ℕ) (w i x y : ℕ) (h k : History) → x ≤ y → Near settings bands reserve w i x y h k → items_shown settings h ≡ items_shown settings k
unfolding items_shown
near_items settings bands reserve w i x y h k le near =
    map_each (shown_now settings h) (shown_now settings k) (λ l. listing_at (listings h) l.item ≡ Some l) (listings h) (near_item settings bands reserve w i x y h k le near) (numbered h).own
    ∙ ap (map (shown_now settings k)) near.lots

near_published : (settings : Settings) (bands : List (ℕ × ℕ)) (reserve : Option ℕ) (w i x y : ℕ) (h k : History) → Near settings bands reserve w i x y h k → published h ≡ published k
unfolding published questions
near_published settings bands reserve w i x y h k near = rw (near.asks, near.given) refl

near_waiting : (settings : Settings) (bands : List (ℕ × ℕ)) (reserve : Option ℕ) (w i x y : ℕ) (h k : History) (c : ℕ) → Near settings bands reserve w i x y h k → waiting h c ≡ waiting k c
unfolding waiting questions
near_waiting settings bands reserve w i x y h k c near = rw (near.asks, near.given, near.lots) refl

near_public : (settings : Settings) (bands : List (ℕ × ℕ)) (reserve : Option ℕ) (w i x y : ℕ) (h k : History) → x ≤ y → Near settings bands reserve w i x y h k → public_view settings h ≡ public_view settings k
near_public settings bands reserve w i x y h k le near =
    rw (near.clocks, near.people, near.kinds, near.rated, near.sets, near_items settings bands reserve w i x y h k le near, near_published settings bands reserve w i x y h k near) refl

-- so they agree for everybody
pub near_agrees : (settings : Settings) (bands : List (ℕ × ℕ)) (reserve : Option ℕ) (c w i x y : ℕ) (h k : History) → x ≤ y → Near settings bands reserve w i x y h k → Agrees settings c h k
near_agrees settings bands reserve c w i x y h k le near =
    record { public = near_public settings bands reserve w i x y h k le near; waiting = near_waiting settings bands reserve w i x y h k c near }

near_greatest : (settings : Settings) (bands : List (ℕ × ℕ)) (reserve : Option ℕ) (w i x y : ℕ) (h k : History) (d j : ℕ) → ((j == i) && (d == w)) ≡ false → Near settings bands reserve w i x y h k → greatest (bids_on h j) d ≡ greatest (bids_on k j) d
near_greatest settings bands reserve w i x y h k d j differ near =
    elim (by_test (j == i)) [
      | inl is ↦ (let me : j ≡ i = grind (arith, nat_tests) in let ne : d ≢ w = grind (arith, nat_tests) in
          rw me (surplus_greatest bands reserve w x y d (bids_on h i) (bids_on k i) ne near.surplus))
      | inr other ↦ rw (near.others j other) refl
    ]

near_own_watches : (settings : Settings) (bands : List (ℕ × ℕ)) (reserve : Option ℕ) (w i x y : ℕ) (h k : History) (d : ℕ) → Near settings bands reserve w i x y h k → own_watches h d ≡ own_watches k d
unfolding own_watches
near_own_watches settings bands reserve w i x y h k d near = rw near.watched refl

near_own_questions : (settings : Settings) (bands : List (ℕ × ℕ)) (reserve : Option ℕ) (w i x y : ℕ) (h k : History) (d : ℕ) → Near settings bands reserve w i x y h k → own_questions h d ≡ own_questions k d
unfolding own_questions
near_own_questions settings bands reserve w i x y h k d near = rw near.asks refl

-- the verdict on all but that bidder's bids on that item is the same
pub near_verdict : (settings : Settings) (bands : List (ℕ × ℕ)) (reserve : Option ℕ) (w i x y : ℕ) (h k : History) (t d : ℕ) (command : Command) → x ≤ y → is_bid_by w i d command ≡ false → Near settings bands reserve w i x y h k
    → verdict settings h t d command ≡ verdict settings k t d command
unfolding verdict
near_verdict settings bands reserve w i x y h k t d (Bid j maximum) le differ near =
    rw (near.clocks, near.people, near_items settings bands reserve w i x y h k le near, near_greatest settings bands reserve w i x y h k d j differ near) refl
near_verdict settings bands reserve w i x y h k t d (Register name) le differ near = rw (near.clocks, near.people) refl
near_verdict settings bands reserve w i x y h k t d (AddCategory name) le differ near = rw (near.clocks, near.people, near.kinds) refl
near_verdict settings bands reserve w i x y h k t d (Listed category lot title text start buy_now end asks) le differ near =
    rw (near.clocks, near.people, near.kinds, near_items settings bands reserve w i x y h k le near) refl
near_verdict settings bands reserve w i x y h k t d (Buy j) le differ near = rw (near.clocks, near.people, near_items settings bands reserve w i x y h k le near) refl
near_verdict settings bands reserve w i x y h k t d Close le differ near = rw (near.clocks, near.people) refl
near_verdict settings bands reserve w i x y h k t d (Settle j) le differ near = rw (near.clocks, near.people, near_items settings bands reserve w i x y h k le near) refl
near_verdict settings bands reserve w i x y h k t d (Watch j) le differ near =
    rw (near.clocks, near.people, near_items settings bands reserve w i x y h k le near, near_own_watches settings bands reserve w i x y h k d near) refl
near_verdict settings bands reserve w i x y h k t d (Unwatch j) le differ near = rw (near.clocks, near.people, near_items settings bands reserve w i x y h k le near) refl
near_verdict settings bands reserve w i x y h k t d (Ask j text) le differ near =
    rw (near.clocks, near.people, near_items settings bands reserve w i x y h k le near, near_own_questions settings bands reserve w i x y h k d near) refl
near_verdict settings bands reserve w i x y h k t d (Answer j asker number text) le differ near = rw (
  near.clocks,
  near.people,
  near_items settings bands reserve w i x y h k le near,
  near_published settings bands reserve w i x y h k near,
  near_waiting settings bands reserve w i x y h k d near,
) refl
near_verdict settings bands reserve w i x y h k t d (Feedback j rating text) le differ near =
    rw (near.clocks, near.people, near_items settings bands reserve w i x y h k le near, near.rated) refl
near_verdict settings bands reserve w i x y h k t d (SetBands table) le differ near = rw (near.clocks, near.people, near.sets) refl

-- one more entry, the same in both
party_same : (settings : Settings) (bands : List (ℕ × ℕ)) (reserve : Option ℕ) (w i x y : ℕ) (h k : History) (o : Option Listing) (d : ℕ) → Near settings bands reserve w i x y h k → party_against h o d ≡ party_against k o d
party_same settings bands reserve w i x y h k None d near = refl
party_same settings bands reserve w i x y h k (Some l) d near = rw (near_leader settings bands reserve w i x y h k near l) refl

rated_same : (settings : Settings) (bands : List (ℕ × ℕ)) (reserve : Option ℕ) (w i x y : ℕ) (h k : History) (rows : List row.Feedback) (d : ℕ) (command : Command) → Near settings bands reserve w i x y h k
    → with_feedback h rows d command ≡ with_feedback k rows d command
rated_same settings bands reserve w i x y h k rows d (Feedback j None text) near = refl
rated_same settings bands reserve w i x y h k rows d (Feedback j (Some rating) text) near =
    rw (near.lots, party_same settings bands reserve w i x y h k (listing_at (listings k) j) d near) refl
rated_same settings bands reserve w i x y h k rows d (Register name) near = refl
rated_same settings bands reserve w i x y h k rows d (AddCategory name) near = refl
rated_same settings bands reserve w i x y h k rows d (Listed category lot title text start buy_now end asks) near = refl
rated_same settings bands reserve w i x y h k rows d (Bid j maximum) near = refl
rated_same settings bands reserve w i x y h k rows d (Buy j) near = refl
rated_same settings bands reserve w i x y h k rows d Close near = refl
rated_same settings bands reserve w i x y h k rows d (Settle j) near = refl
rated_same settings bands reserve w i x y h k rows d (Watch j) near = refl
rated_same settings bands reserve w i x y h k rows d (Unwatch j) near = refl
rated_same settings bands reserve w i x y h k rows d (Ask j text) near = refl
rated_same settings bands reserve w i x y h k rows d (Answer j asker number text) near = refl
rated_same settings bands reserve w i x y h k rows d (SetBands table) near = refl

surplus_stays : (bands : List (ℕ × ℕ)) (reserve : Option ℕ) (w i x y : ℕ) (h k : History) (number d : ℕ) (command : Command) → x ≤ y → is_bid_by w i d command ≡ false → BidCovered bands i x command
    → IsSurplus bands reserve w x y (bids_on h i) (bids_on k i) → IsSurplus bands reserve w x y (bids_on h i ++ bid_in i number d command) (bids_on k i ++ bid_in i number d command)
surplus_stays bands reserve w i x y h k number d (Bid j maximum) le differ covered s =
    elim (by_test (j == i)) [
      | inl is ↦ (let me : j ≡ i = grind (arith, nat_tests) in let ne : d ≢ w = grind (arith, nat_tests) in
          rw is (surplus_more bands reserve w x y (bids_on h i) (bids_on k i) (record { member = d; maximum = maximum; no = number }) le ne (covered me) s))
      | inr other ↦ rw other (simp append-nil s)
    ]
surplus_stays bands reserve w i x y h k number d (Register name) le differ covered s = simp append-nil s
surplus_stays bands reserve w i x y h k number d (AddCategory name) le differ covered s = simp append-nil s
surplus_stays bands reserve w i x y h k number d (Listed category lot title text start buy_now end asks) le differ covered s = simp append-nil s
surplus_stays bands reserve w i x y h k number d (Buy j) le differ covered s = simp append-nil s
surplus_stays bands reserve w i x y h k number d Close le differ covered s = simp append-nil s
surplus_stays bands reserve w i x y h k number d (Settle j) le differ covered s = simp append-nil s
surplus_stays bands reserve w i x y h k number d (Watch j) le differ covered s = simp append-nil s
surplus_stays bands reserve w i x y h k number d (Unwatch j) le differ covered s = simp append-nil s
surplus_stays bands reserve w i x y h k number d (Ask j text) le differ covered s = simp append-nil s
surplus_stays bands reserve w i x y h k number d (Answer j asker n text) le differ covered s = simp append-nil s
surplus_stays bands reserve w i x y h k number d (Feedback j rating text) le differ covered s = simp append-nil s
surplus_stays bands reserve w i x y h k number d (SetBands table) le differ covered s = simp append-nil s

pub near_step : (settings : Settings) (bands : List (ℕ × ℕ)) (reserve : Option ℕ) (w i x y : ℕ) (h k : History) (e : Entry) → x ≤ y → is_bid_by w i e.caller e.command ≡ false → BidCovered bands i x e.command
    → Near settings bands reserve w i x y h k → Near settings bands reserve w i x y (e ∷ h) (e ∷ k)
near_step settings bands reserve w i x y h k e le differ covered near = record {
  clocks = rw near.clocks refl;
  people = rw near.people refl;
  kinds = rw near.kinds refl;
  lots = rw (near.lots, near.sets) refl;
  sets = rw near.sets refl;
  bought = rw near.bought refl;
  closed = rw (near.closed, near.lots) refl;
  settled = rw near.settled refl;
  asks = rw near.asks refl;
  given = rw near.given refl;
  watched = rw near.watched refl;
  rated = rated_same settings bands reserve w i x y h k (feedback h) e.caller e.command near ∙ ap (λ rows. with_feedback k rows e.caller e.command) near.rated;
  others = λ j other. rw (near.others j other) refl;
  listing = near.listing;
  listed = listed_more h e i near.listing near.listed;
  goes = near.goes;
  asks_for = near.asks_for;
  surplus = rw near.surplus.count (surplus_stays bands reserve w i x y h k (length (bids_on k i) + 1) e.caller e.command le differ covered near.surplus);
}

-- one more message, the same in both: no bid of that bidder on that item is accepted in either, and of others' each is covered
abbrev pub MessageCovered : {F : Type 0} → Settings → List (ℕ × ℕ) → ℕ → ℕ → ℕ → History → History → Message F → Type 0
MessageCovered settings bands w i x h k (Write t d command) =
    (is_bid_by w i d command ≡ true → (verdict settings h t d command ≢ None) × (verdict settings k t d command ≢ None))
    × (verdict settings h t d command ≡ None → BidCovered bands i x command)
MessageCovered settings bands w i x h k (Read d query) = Unit {0}
MessageCovered settings bands w i x h k (Broken caller fault) = Unit {0}

entered_near : (settings : Settings) (bands : List (ℕ × ℕ)) (reserve : Option ℕ) (w i x y : ℕ) (h k : History) (e : Entry) (v : Option Refusal) → x ≤ y → is_bid_by w i e.caller e.command ≡ false
    → (v ≡ None → BidCovered bands i x e.command) → Near settings bands reserve w i x y h k → Near settings bands reserve w i x y (entered v e h) (entered v e k)
entered_near settings bands reserve w i x y h k e None le differ covered near = near_step settings bands reserve w i x y h k e le differ (covered refl) near
entered_near settings bands reserve w i x y h k e (Some r) le differ covered near = near

none_entered : (v : Option Refusal) (e : Entry) (h : History) → v ≢ None → entered v e h ≡ h
none_entered None e h refused = absurd (refused refl)
none_entered (Some r) e h refused = refl

pub near_next : {F : Type 0} (settings : Settings) (bands : List (ℕ × ℕ)) (reserve : Option ℕ) (w i x y : ℕ) (h k : History) (m : Message F) → x ≤ y → MessageCovered settings bands w i x h k m → Near settings bands reserve w i x y h k
    → Near settings bands reserve w i x y (next settings h m) (next settings k m)
unfolding next
near_next settings bands reserve w i x y h k (Write t d command) le covered near =
    elim (by_test (is_bid_by w i d command)) [
      | inl is ↦ (let refused = covered.0 is in
          rw (none_entered (verdict settings h t d command) (entry t d command) h refused.0, none_entered (verdict settings k t d command) (entry t d command) k refused.1) near)
      | inr differ ↦ rw (← near_verdict settings bands reserve w i x y h k t d command le differ near)
          (entered_near settings bands reserve w i x y h k (entry t d command) (verdict settings h t d command) le differ covered.1 near)
    ]
near_next settings bands reserve w i x y h k (Read d query) le covered near = near
near_next settings bands reserve w i x y h k (Broken caller fault) le covered near = near

-- the bid itself
near_first : (settings : Settings) (bands : List (ℕ × ℕ)) (reserve : Option ℕ) (w i t x y : ℕ) (h : History) (l : Listing) → listing_at (listings h) i ≡ Some l → bands_by settings l ≡ bands → l.reserve ≡ reserve → IfSome reserve (λ r. r ≤ x) → x ≤ y → (bids_on h i ≡ []) ⊎ (top (bids_on h i) < x) → AreCovered bands x (bids_not_by w (bids_on h i))
    → Near settings bands reserve w i x y (entry t w (Bid i x) ∷ h) (entry t w (Bid i y) ∷ h)
near_first settings bands reserve w i t x y h l listed goes asks met le lt all =
    let here : (i == i) ≡ true = grind (arith, nat_tests) in
    record {
      clocks = refl;
      people = refl;
      kinds = refl;
      lots = refl;
      sets = refl;
      bought = refl;
      closed = refl;
      settled = refl;
      asks = refl;
      given = refl;
      watched = refl;
      rated = refl;
      others = λ j other. (let there : (i == j) ≡ false = grind (arith, nat_tests) in rw there refl);
      listing = l;
      listed = listed_more h (entry t w (Bid i x)) i l listed;
      goes = goes;
      asks_for = asks;
      surplus = rw here (surplus_first bands reserve w x y (bids_on h i) (length (bids_on h i) + 1) met le lt all);
    }

pub near_raised : (F : Type 0) (settings : Settings) (bands : List (ℕ × ℕ)) (reserve : Option ℕ) (w i t x y : ℕ) (h : History) (l : Listing) → listing_at (listings h) i ≡ Some l → bands_by settings l ≡ bands → l.reserve ≡ reserve → IfSome reserve (λ r. r ≤ x) → x ≤ y → verdict settings h t w (Bid i x) ≡ None → verdict settings h t w (Bid i y) ≡ None
    → (bids_on h i ≡ []) ⊎ (top (bids_on h i) < x) → AreCovered bands x (bids_not_by w (bids_on h i))
    → Near settings bands reserve w i x y (next {F = F} settings h (Write t w (Bid i x))) (next {F = F} settings h (Write t w (Bid i y)))
near_raised F settings bands reserve w i t x y h l listed goes asks met le accepted raised leads all =
    rw (next_accepted F settings h t w (Bid i x) accepted, next_accepted F settings h t w (Bid i y) raised) (near_first settings bands reserve w i t x y h l listed goes asks met le leads all)
