-- The rows of items that fit, after a bid, a purchase, a close or a settlement that fits.
use Rattle.house_rows.proofs.RangedTalk.{sells_led}
use Rattle.std.proofs.Common.{option_map, ◌≡◌, ◌≢◌, ℕ, ◌+◌, ◌≤◌, ◌<◌, ◌⊎◌, List, [], ◌∷◌, ◌++◌, map, length, Bool, true, false, refl, ◌∙◌, ap, sym, subst, arith, inl, inr, Option, Some, None}
use Rattle.std.specs.Prelude.{◌==◌, ◌&&◌, find, nat_le, IfSome}
use Rattle.std.specs.List.{AllByRecursion}
use Rattle.std.proofs.lemmas.Bool.{cases_lt}
use Rattle.std.proofs.lemmas.Bool.Decides.{nat_tests}
use Rattle.std.proofs.lemmas.List.{length-append}
use Rattle.proxy.specs.Opening.{Opening}
use Rattle.proxy.specs.Accepted.{AreAccepted}
use Rattle.proxy.specs.Bids.{greatest_if_any, greatest_of, leader, maxima, one_more, refusal, standing_of, top, met_by}
use Rattle.proxy.specs.Kept.{Kept}
use Rattle.proxy.specs.Rules.{first_failing}
use Rattle.proxy.specs.declared.bid.Bid as bid
use Rattle.proxy.specs.declared.bid.BidRefusal.TheVariants.{Low, NotHigher, Full}
use Rattle.proxy.proofs.Leads.{if_any-more, leader_above, leader_kept, somebody_leads}
use Rattle.proxy.proofs.Placed.{standing-none}
use Rattle.house_rows.specs.declared.change.NewItem.{NewItem}
use Rattle.house_rows.specs.declared.item.Terms.{Terms}
use Rattle.house_rows.specs.declared.state.State.{State}
use Rattle.house_rows.specs.declared.state.State.TheVariants.{Open, Sold, Unsold, Settled}
use Rattle.house_rows.specs.Changed.{is_item, new_item, new_opening, with_close, with_purchase, with_settlement, with_standing, with_terms, kept_met}
use Rattle.house_rows.specs.Fits.{IsItem, IsMember, IsMoment, IsWithin, TermsFit, ReserveFits}
use Rattle.house_rows.specs.Found.{row_at}
use Rattle.house_rows.specs.Items.{close_sells, closed_state, is_due, is_open}
use Rattle.house_rows.specs.Keeping.{AreInTurn, AreSound, IsBought, IsByBids, ItemRowFits, RowFits}
use Rattle.house_rows.specs.Limits.{most_bids, most_categories, most_cents}
use Rattle.house_rows.specs.Tables.{ItemRow, Tables, bands_for, row_opening}
use Rattle.house_rows.specs.Text.{is_lot, is_text}
use Rattle.house_rows.specs.Verdict.{was_sold}
use Rattle.house_rows.proofs.AcceptedBids.{none_accepted}
use Rattle.house_rows.proofs.Every.{every_as, every_both, every_map, found_has, found_is}
use Rattle.house_rows.proofs.Put.{by_test}
use Rattle.house_rows.proofs.RangedBids.{price_under}
use Rattle.house_rows.proofs.RangedItems.{leads_member, leads_not}

-- of rows with numbers in turn, each is the first with its number
turn_least : {A : Type 0} (number : A → ℕ) (next : ℕ) (xs : List A) → AreInTurn number next xs → AllByRecursion (λ x. next ≤ number x) xs
turn_least number next [] are = tt
turn_least number next (x ∷ xs) are =
    ((let e = are.0 in omega arith), every_as (λ x. next + 1 ≤ number x) (λ x. next ≤ number x) xs (λ x le. omega arith) (turn_least number (next + 1) xs are.1))

turn_found : {A : Type 0} (number : A → ℕ) (next : ℕ) (xs : List A) → AreInTurn number next xs → AllByRecursion (λ x. find (λ y. number y == number x) xs ≡ Some x) xs
turn_found number next [] are = tt
turn_found number next (y ∷ ys) are = (
  (let here : (number y == number y) ≡ true = grind (arith, nat_tests) in rw here refl),
  every_both (λ x. next + 1 ≤ number x) (λ x. find (λ z. number z == number x) ys ≡ Some x) (λ x. find (λ z. number z == number x) (y ∷ ys) ≡ Some x) ys
      (λ x le found. let first = are.0 in let other : (number y == number x) ≡ false = grind (arith, nat_tests) in rw other found)
      (turn_least number (next + 1) ys are.1) (turn_found number (next + 1) ys are.1),
)

-- a row that is there fits, and has its number
pub there_fits : (t : Tables) (i : ℕ) (row : ItemRow) → AreSound t → row_at t i ≡ Some row → RowFits t row
there_fits t i row sound there = found_has (RowFits t) (is_item i) t.items row sound.items there

pub there_is : (t : Tables) (i : ℕ) (row : ItemRow) → row_at t i ≡ Some row → is_item i row ≡ true
there_is t i row there = found_is (is_item i) t.items row there

-- a row of a number fits by the band table of that number
pub fits_at : (t : Tables) (i : ℕ) (row : ItemRow) → row.item.terms.item ≡ i → ItemRowFits (bands_for t i) row → RowFits t row
fits_at t i row e fits = subst (λ (n : ℕ). ItemRowFits (bands_for t n) row) (sym e) fits

pub there_numbered : (t : Tables) (i : ℕ) (row : ItemRow) → row_at t i ≡ Some row → row.item.terms.item ≡ i
there_numbered t i row there = let is = there_is t i row there in grind (arith, nat_tests, is)

pub there_fits_by : (t : Tables) (i : ℕ) (row : ItemRow) → AreSound t → row_at t i ≡ Some row → ItemRowFits (bands_for t i) row
there_fits_by t i row sound there = subst (λ (n : ℕ). ItemRowFits (bands_for t n) row) (there_numbered t i row there) (there_fits t i row sound there)

pub there_within : (t : Tables) (i : ℕ) (row : ItemRow) → AreSound t → row_at t i ≡ Some row → IsItem i
there_within t i row sound there =
    let is = there_is t i row there in
    let e : row.item.terms.item ≡ i = grind (arith, nat_tests, is) in
    subst IsItem e (there_fits t i row sound there).item.terms.item

same_row : (t : Tables) (i : ℕ) (r row : ItemRow) → row_at t r.item.terms.item ≡ Some r → is_item i r ≡ true → row_at t i ≡ Some row → r ≡ row
same_row t i r row own is there =
    let e : r.item.terms.item ≡ i = grind (arith, nat_tests, is) in
    let own' : row_at t i ≡ Some r = subst (λ (n : ℕ). row_at t n ≡ Some r) e own in
    let same : Some r ≡ Some row = sym own' ∙ there in cc

-- where one row changes and still fits, all rows fit
pub one_changed : (t : Tables) (i : ℕ) (row : ItemRow) (f : ItemRow → ItemRow) → AreSound t → row_at t i ≡ Some row → ((r : ItemRow) → is_item i r ≡ false → f r ≡ r)
    → RowFits t (f row) → AllByRecursion (RowFits t) (map f t.items)
one_changed t i row f sound there others fits =
    every_map f (RowFits t) t.items
    (every_both (RowFits t) (λ r. row_at t r.item.terms.item ≡ Some r) (λ r. RowFits t (f r)) t.items by_number sound.items
    (turn_found (λ (r : ItemRow). r.item.terms.item) 1 t.items sound.items_in_turn)) where
      by_number : (r : ItemRow) → RowFits t r → row_at t r.item.terms.item ≡ Some r → RowFits t (f r)
      by_number r fit own =
          elim (by_test (is_item i r)) [
            | inl is ↦ subst (λ (x : ItemRow). RowFits t (f x)) (sym (same_row t i r row own is there)) fits
            | inr other ↦ subst (λ (x : ItemRow). RowFits t x) (sym (others r other)) fit
          ]

-- the leader after one more bid is the bidder or led before
first_leader : (b : bid.Bid) → leader (b ∷ []) ≡ Some b.member
unfolding leader top
first_leader b = grind (arith, nat_tests)

leader_more : (Q : ℕ → Type 0) (bids : List bid.Bid) (b : bid.Bid) → IfSome (leader bids) Q → Q b.member → IfSome (leader (bids ++ b ∷ [])) Q
leader_more Q [] b old new = rw (first_leader b) new
leader_more Q (a ∷ bids) b old new =
    let some = somebody_leads a bids in
    elim (cases_lt (top (a ∷ bids)) b.maximum) [
      | inl lt ↦ rw (leader_above (a ∷ bids) b lt) new
      | inr le ↦ rw (leader_kept (a ∷ bids) b some.0 some.1 le) (rw some.1 at old)
    ]

may_lead : (o : Option ℕ) (seller : ℕ) → IfSome o IsMember → o ≢ Some seller → IfSome o (λ m. IsMember m × (m ≢ seller))
may_lead None seller member apart = tt
may_lead (Some m) seller member apart = (member, λ e. apart (ap Some e))

-- what is open wasn't sold
open_unsold : (s : State) → is_open s ≡ true → was_sold s ≡ true → ⊥
open_unsold Open is sold = cc
open_unsold Sold is sold = cc
open_unsold Unsold is sold = cc
open_unsold Settled is sold = cc

bidders_may_lead : (bands : List (ℕ × ℕ)) (row : ItemRow) (bids : List bid.Bid) → ItemRowFits bands row → is_open row.item.terms.state ≡ true → row.standing ≡ standing_of bands (row_opening row) bids
    → IfSome (leader bids) (λ m. IsMember m × (m ≢ row.item.terms.seller))
bidders_may_lead bands row bids fits is is_consistent = by_reported fits.report where
  by_reported : IsByBids row ⊎ IsBought row → IfSome (leader bids) (λ m. IsMember m × (m ≢ row.item.terms.seller))
  by_reported (inl by) =
      let e : row.item.terms.leader ≡ leader bids = by.leader ∙ ap (λ (k : Kept). k.leader) is_consistent in
      subst (λ (o : Option ℕ). IfSome o (λ m. IsMember m × (m ≢ row.item.terms.seller))) e (may_lead row.item.terms.leader row.item.terms.seller fits.item.terms.leader fits.item.terms.apart)
  by_reported (inr bought) = absurd (open_unsold row.item.terms.state is bought.sold)

greatest_most : (bids : List bid.Bid) → IfSome (greatest_if_any (maxima bids)) (λ amount. amount ≤ most_cents) → greatest_of (maxima bids) ≤ most_cents
greatest_most [] within = omega arith
greatest_most (b ∷ bids) within = within

top_more : (bids : List bid.Bid) (b : bid.Bid) → greatest_of (maxima bids) ≤ most_cents → b.maximum ≤ most_cents → IfSome (greatest_if_any (maxima (bids ++ b ∷ []))) (λ amount. amount ≤ most_cents)
top_more bids b old new = rw (if_any-more bids b) (omega arith)

not_full : (raises low full : Bool) (f : ℕ) → first_failing ((raises, NotHigher) ∷ (low, Low f) ∷ (full, Full) ∷ []) ≡ None → full ≡ false
not_full raises low full f none = grind (arith, nat_tests, none)

-- an accepted bid leaves at most as many as there may be
pub room_for : (bands : List (ℕ × ℕ)) (opening : Opening) (bids : List bid.Bid) (m x : ℕ) → refusal bands opening bids m x ≡ None → length bids < most_bids
room_for bands opening bids m x none = let room = not_full _ _ (nat_le 10000 (length bids)) _ none in grind (arith, nat_tests, room)

-- the row of an item whose standing is that of its bids
abbrev with_bids : Kept → ItemRow → ItemRow
with_bids kept row = record (with_terms (record row.item.terms { price = kept.price; leader = kept.leader; count = kept.count; met = kept_met kept }) row) { standing = kept }

bid_row_fits : (bands : List (ℕ × ℕ)) (row : ItemRow) (bids : List bid.Bid) (m x : ℕ) → ItemRowFits bands row → is_open row.item.terms.state ≡ true → row.standing ≡ standing_of bands (row_opening row) bids
    → IsMember m → m ≢ row.item.terms.seller → x ≤ most_cents → AreAccepted bands (row_opening row) (one_more bids m x)
    → ItemRowFits bands (with_bids (standing_of bands (row_opening row) (one_more bids m x)) row)
bid_row_fits bands row bids m x fits is is_consistent member apart within accepted =
    let b : bid.Bid = record { member = m; maximum = x; no = length bids + 1 } in
    let more : List bid.Bid = one_more bids m x in
    let old : TermsFit row.item.terms = fits.item.terms in
    let room : length bids < most_bids = room_for bands (row_opening row) bids m x (accepted bids b [] refl).accepted in
    let few : length more ≤ most_bids = simp length-append (omega arith) in
    let may : IfSome (leader more) (λ n. IsMember n × (n ≢ row.item.terms.seller)) = leader_more (λ n. IsMember n × (n ≢ row.item.terms.seller)) bids b (bidders_may_lead bands row bids fits is is_consistent) (member, apart) in
    let tops : IfSome (greatest_if_any (maxima bids)) (λ amount. amount ≤ most_cents) = subst (λ (k : Kept). IfSome k.top (λ amount. amount ≤ most_cents)) is_consistent fits.top in
    let top' : IfSome (greatest_if_any (maxima more)) (λ amount. amount ≤ most_cents) = top_more bids b (greatest_most bids tops) within in
    record {
      item = record {
        terms = record {
          item = old.item;
          seller = old.seller;
          category = old.category;
          start = old.start;
          buy_now = old.buy_now;
          end = old.end;
          closed = old.closed;
          price = price_under bands (row_opening row) most_cents more old.start.1 (greatest_most more top');
          leader = leads_member (leader more) row.item.terms.seller may;
          apart = leads_not (leader more) row.item.terms.seller may;
          count = few;
          sold_led = λ sold. absurd (open_unsold row.item.terms.state is sold);
          sold_closed = old.sold_closed;
        };
        lot = fits.item.lot;
        title = fits.item.title;
        text = fits.item.text;
      };
      bids = more;
      accepted = accepted;
      few = few;
      is_consistent = refl;
      top = top';
      reserve = fits.reserve;
      count = refl;
      report = inl (record { price = refl; leader = refl; met = refl });
    }

standing_here : (i : ℕ) (kept : Kept) (row : ItemRow) → is_item i row ≡ true → with_standing i kept row ≡ with_bids kept row
standing_here i kept row is = rw is refl

pub standing_other : (i : ℕ) (kept : Kept) (row : ItemRow) → is_item i row ≡ false → with_standing i kept row ≡ row
standing_other i kept row other = rw other refl

-- after a bid the row of its item fits
pub standing_fits : (bands : List (ℕ × ℕ)) (i : ℕ) (kept : Kept) (row : ItemRow) (bids : List bid.Bid) (m x : ℕ) → is_item i row ≡ true → ItemRowFits bands row → row.item.terms.state ≡ Open
    → row.standing ≡ standing_of bands (row_opening row) bids → IsMember m → m ≢ row.item.terms.seller → x ≤ most_cents → AreAccepted bands (row_opening row) (one_more bids m x)
    → kept ≡ standing_of bands (row_opening row) (one_more bids m x) → ItemRowFits bands (with_standing i kept row)
standing_fits bands i kept row bids m x is fits state is_consistent member apart within accepted after =
    subst (λ (r : ItemRow). ItemRowFits bands r) (sym (standing_here i kept row is))
    (subst (λ (k : Kept). ItemRowFits bands (with_bids k row)) (sym after)
    (bid_row_fits bands row bids m x fits (rw state refl) is_consistent member apart within accepted))

-- the row of an item that was bought at once
abbrev bought_row : ℕ → ℕ → ℕ → ItemRow → ItemRow
bought_row buyer price moment row = with_terms (record row.item.terms { state = Sold; closed = Some moment; price = price; leader = Some buyer; met = option_map (λ m. true) row.item.terms.met }) row

purchase_here : (i buyer price moment : ℕ) (row : ItemRow) → is_item i row ≡ true → with_purchase i buyer price moment row ≡ bought_row buyer price moment row
purchase_here i buyer price moment row is = rw is refl

pub purchase_other : (i buyer price moment : ℕ) (row : ItemRow) → is_item i row ≡ false → with_purchase i buyer price moment row ≡ row
purchase_other i buyer price moment row other = rw other refl

-- a reserve is met where it was bought at once
pub met_again : (reserve top : Option ℕ) → option_map (λ m. true) (met_by reserve top) ≡ option_map (λ r. true) reserve
met_again None top = refl
met_again (Some r) None = refl
met_again (Some r) (Some t) = refl

met_still : (reserve : Option ℕ) → option_map (λ m. true) (option_map (λ r. true) reserve) ≡ option_map (λ r. true) reserve
met_still None = refl
met_still (Some r) = refl

met_now : (row : ItemRow) → IsByBids row ⊎ IsBought row → option_map (λ m. true) row.item.terms.met ≡ option_map (λ r. true) row.standing.reserve
met_now row (inl by) = rw by.met (met_again row.standing.reserve row.standing.top)
met_now row (inr bought) = rw bought.met (met_still row.standing.reserve)

bought_fits : (bands : List (ℕ × ℕ)) (buyer price moment : ℕ) (row : ItemRow) → ItemRowFits bands row → IsMember buyer → buyer ≢ row.item.terms.seller → IsMoment moment
    → row.item.terms.count ≡ 0 → row.item.terms.buy_now ≡ Some price → ItemRowFits bands (bought_row buyer price moment row)
bought_fits bands buyer price moment row fits member apart moment_fits no_bid at_price =
    let old : TermsFit row.item.terms = fits.item.terms in
    let within : IsWithin row.item.terms.start most_cents price = subst (λ (o : Option ℕ). IfSome o (λ amount. IsWithin row.item.terms.start most_cents amount)) at_price old.buy_now in
    let count : row.standing.count ≡ length fits.bids = ap (λ (k : Kept). k.count) fits.is_consistent in
    record {
      item = record {
        terms = record {
          item = old.item;
          seller = old.seller;
          category = old.category;
          start = old.start;
          buy_now = old.buy_now;
          end = old.end;
          closed = moment_fits;
          price = within.1;
          leader = member;
          apart = λ e. apart cc;
          count = old.count;
          sold_led = λ sold. refl;
          sold_closed = λ sold. refl;
        };
        lot = fits.item.lot;
        title = fits.item.title;
        text = fits.item.text;
      };
      bids = fits.bids;
      accepted = fits.accepted;
      few = fits.few;
      is_consistent = fits.is_consistent;
      top = fits.top;
      reserve = fits.reserve;
      count = fits.count;
      report = inr (record { sold = refl; no_bid = count ∙ sym fits.count ∙ no_bid; price = at_price; met = met_now row fits.report });
    }

-- after a purchase the row of its item fits
pub purchase_fits : (bands : List (ℕ × ℕ)) (i buyer price moment : ℕ) (row : ItemRow) → is_item i row ≡ true → ItemRowFits bands row → IsMember buyer → buyer ≢ row.item.terms.seller → IsMoment moment
    → row.item.terms.count ≡ 0 → row.item.terms.buy_now ≡ Some price → ItemRowFits bands (with_purchase i buyer price moment row)
purchase_fits bands i buyer price moment row is fits member apart moment_fits no_bid at_price =
    subst (λ (r : ItemRow). ItemRowFits bands r) (sym (purchase_here i buyer price moment row is)) (bought_fits bands buyer price moment row fits member apart moment_fits no_bid at_price)

-- the row of an item that a close took
abbrev closed_row : ItemRow → ItemRow
closed_row row = with_terms (record row.item.terms { state = closed_state (close_sells row.item.terms.leader row.item.terms.met); closed = Some row.item.terms.end }) row

close_here : (moment : ℕ) (row : ItemRow) → is_due moment row.item.terms ≡ true → with_close moment row ≡ closed_row row
close_here moment row due = rw due refl

close_other : (moment : ℕ) (row : ItemRow) → is_due moment row.item.terms ≡ false → with_close moment row ≡ row
close_other moment row other = rw other refl

due_open : (moment : ℕ) (terms : Terms) → is_due moment terms ≡ true → is_open terms.state ≡ true
due_open moment terms due = left (is_open terms.state) (nat_le terms.end moment) due where
  left : (a b : Bool) → (a && b) ≡ true → a ≡ true
  left true b e = refl
  left false b e = cc

led_if : (led : Bool) → was_sold (closed_state led) ≡ true → led ≡ true
led_if true sold = refl
led_if false sold = cc

closed_fits : (bands : List (ℕ × ℕ)) (row : ItemRow) → is_open row.item.terms.state ≡ true → ItemRowFits bands row → ItemRowFits bands (closed_row row)
closed_fits bands row is fits =
    let old : TermsFit row.item.terms = fits.item.terms in
    record {
      item = record {
        terms = record {
          item = old.item;
          seller = old.seller;
          category = old.category;
          start = old.start;
          buy_now = old.buy_now;
          end = old.end;
          closed = old.end;
          price = old.price;
          leader = old.leader;
          apart = old.apart;
          count = old.count;
          sold_led = λ sold. sells_led row.item.terms.leader row.item.terms.met (led_if (close_sells row.item.terms.leader row.item.terms.met) sold);
          sold_closed = λ sold. refl;
        };
        lot = fits.item.lot;
        title = fits.item.title;
        text = fits.item.text;
      };
      bids = fits.bids;
      accepted = fits.accepted;
      few = fits.few;
      is_consistent = fits.is_consistent;
      top = fits.top;
      reserve = fits.reserve;
      count = fits.count;
      report = by_reported fits.report;
    } where
      by_reported : IsByBids row ⊎ IsBought row → IsByBids (closed_row row) ⊎ IsBought (closed_row row)
      by_reported (inl by) = inl (record { price = by.price; leader = by.leader; met = by.met })
      by_reported (inr bought) = absurd (open_unsold row.item.terms.state is bought.sold)

-- after a close every row fits
pub close_fits : (bands : List (ℕ × ℕ)) (moment : ℕ) (row : ItemRow) → ItemRowFits bands row → ItemRowFits bands (with_close moment row)
close_fits bands moment row fits =
    elim (by_test (is_due moment row.item.terms)) [
      | inl due ↦ subst (λ (r : ItemRow). ItemRowFits bands r) (sym (close_here moment row due)) (closed_fits bands row (due_open moment row.item.terms due) fits)
      | inr other ↦ subst (λ (r : ItemRow). ItemRowFits bands r) (sym (close_other moment row other)) fits
    ]

-- the row of an item whose sale was settled
abbrev settled_row : ItemRow → ItemRow
settled_row row = with_terms (record row.item.terms { state = Settled }) row

settlement_here : (i : ℕ) (row : ItemRow) → is_item i row ≡ true → with_settlement i row ≡ settled_row row
settlement_here i row is = rw is refl

pub settlement_other : (i : ℕ) (row : ItemRow) → is_item i row ≡ false → with_settlement i row ≡ row
settlement_other i row other = rw other refl

settled_fits : (bands : List (ℕ × ℕ)) (row : ItemRow) → was_sold row.item.terms.state ≡ true → ItemRowFits bands row → ItemRowFits bands (settled_row row)
settled_fits bands row sold fits =
    let old : TermsFit row.item.terms = fits.item.terms in
    record {
      item = record {
        terms = record {
          item = old.item;
          seller = old.seller;
          category = old.category;
          start = old.start;
          buy_now = old.buy_now;
          end = old.end;
          closed = old.closed;
          price = old.price;
          leader = old.leader;
          apart = old.apart;
          count = old.count;
          sold_led = λ settled. old.sold_led sold;
          sold_closed = λ settled. old.sold_closed sold;
        };
        lot = fits.item.lot;
        title = fits.item.title;
        text = fits.item.text;
      };
      bids = fits.bids;
      accepted = fits.accepted;
      few = fits.few;
      is_consistent = fits.is_consistent;
      top = fits.top;
      reserve = fits.reserve;
      count = fits.count;
      report = by_reported fits.report;
    } where
      by_reported : IsByBids row ⊎ IsBought row → IsByBids (settled_row row) ⊎ IsBought (settled_row row)
      by_reported (inl by) = inl (record { price = by.price; leader = by.leader; met = by.met })
      by_reported (inr bought) = inr (record { sold = refl; no_bid = bought.no_bid; price = bought.price; met = bought.met })

-- after a settlement the row of its item fits
pub settlement_fits : (bands : List (ℕ × ℕ)) (i : ℕ) (row : ItemRow) → is_item i row ≡ true → ItemRowFits bands row → row.item.terms.state ≡ Sold → ItemRowFits bands (with_settlement i row)
settlement_fits bands i row is fits state =
    subst (λ (r : ItemRow). ItemRowFits bands r) (sym (settlement_here i row is)) (settled_fits bands row (rw state refl) fits)

-- none of these changes an item's number
pub standing_number : (i : ℕ) (kept : Kept) (row : ItemRow) → (with_standing i kept row).item.terms.item ≡ row.item.terms.item
standing_number i kept row = elim (by_test (is_item i row)) [ inl is ↦ rw is refl | inr other ↦ rw other refl ]

pub purchase_number : (i buyer price moment : ℕ) (row : ItemRow) → (with_purchase i buyer price moment row).item.terms.item ≡ row.item.terms.item
purchase_number i buyer price moment row = elim (by_test (is_item i row)) [ inl is ↦ rw is refl | inr other ↦ rw other refl ]

pub close_number : (moment : ℕ) (row : ItemRow) → (with_close moment row).item.terms.item ≡ row.item.terms.item
close_number moment row = elim (by_test (is_due moment row.item.terms)) [ inl due ↦ rw due refl | inr other ↦ rw other refl ]

pub settlement_number : (i : ℕ) (row : ItemRow) → (with_settlement i row).item.terms.item ≡ row.item.terms.item
settlement_number i row = elim (by_test (is_item i row)) [ inl is ↦ rw is refl | inr other ↦ rw other refl ]

-- nobody leads an item that has just come, and its price is the start, whatever the band table
new_is_consistent : (bands other : List (ℕ × ℕ)) (opening : Opening) → standing_of bands opening [] ≡ standing_of other opening []
new_is_consistent bands other opening = standing-none bands opening ∙ sym (standing-none other opening)

new_price : (bands : List (ℕ × ℕ)) (opening : Opening) → opening.start ≡ (standing_of bands opening []).price
new_price bands opening = sym (ap (λ (k : Kept). k.price) (standing-none bands opening))

new_leader : (bands : List (ℕ × ℕ)) (opening : Opening) → None ≡ (standing_of bands opening []).leader
new_leader bands opening = sym (ap (λ (k : Kept). k.leader) (standing-none bands opening))

new_met : (bands : List (ℕ × ℕ)) (opening : Opening) → met_by opening.reserve None ≡ kept_met (standing_of bands opening [])
new_met bands opening = refl

-- the row of a new item fits
pub new_fits : (bands : List (ℕ × ℕ)) (number : ℕ) (item : NewItem) → IsItem number → IsMember item.seller → IsWithin 1 most_categories item.category
    → is_lot item.lot.now ≡ true → is_text 1 80 item.title.now ≡ true → is_text 0 2000 item.text.now ≡ true → IsWithin 1 most_cents item.start
    → IfSome item.buy_now (λ amount. IsWithin item.start most_cents amount) → IsMoment item.end → ReserveFits item.start item.buy_now item.reserve
    → ItemRowFits bands (new_item number item)
new_fits bands number item number_fits seller_fits category_fits lot_fits title_fits text_fits start_fits buy_now_fits end_fits reserve_fits = record {
  item = record {
    terms = record {
      item = number_fits;
      seller = seller_fits;
      category = category_fits;
      start = start_fits;
      buy_now = buy_now_fits;
      end = end_fits;
      closed = tt;
      price = start_fits.1;
      leader = tt;
      apart = λ e. cc;
      count = omega arith;
      sold_led = λ sold. absurd (open_unsold Open refl sold);
      sold_closed = λ sold. absurd (open_unsold Open refl sold);
    };
    lot = lot_fits;
    title = title_fits;
    text = text_fits;
  };
  bids = [];
  accepted = none_accepted bands (new_opening item);
  few = omega arith;
  is_consistent = new_is_consistent [] bands (new_opening item);
  top = tt;
  reserve = reserve_fits;
  count = refl;
  report = inl (record { price = new_price [] (new_opening item); leader = new_leader [] (new_opening item); met = new_met [] (new_opening item) });
}
