-- Terms that are consistent, and rows of which each has them.
use Rattle.std.proofs.Common.{◌≡◌, ◌≢◌, refl, false, ◌==◌, ◌&&◌, ◌<◌, ◌≤◌, ◌∙◌, ℕ, suc, zero, true, List, [], ◌∷◌, Option, Some, None, IfSome, length, get_or, sym, ap, subst, arith, inl, inr, true≢false}
use Rattle.std.specs.Prelude.{is_none, is_some, nat_lt, option_map}
use Rattle.std.specs.List.{AllByRecursion}
use Rattle.std.proofs.lemmas.Bool.Decides.{nat_tests}
use Rattle.sqlite_keyed.proofs.RuleLemmas.{first_of_both, second_of_both}
use Rattle.proxy.specs.Bids.{met_by, standing_of}
use Rattle.proxy.specs.Kept.{Kept}
use Rattle.proxy.specs.Opening.{Opening}
use Rattle.proxy.specs.Rows.{is_shape}
use Rattle.proxy.proofs.Placed.{standing-none}
use Rattle.house_rows.specs.declared.item.Item.{Item}
use Rattle.house_rows.specs.declared.item.Terms.{Terms}
use Rattle.house_rows.specs.Fits.{ItemFits, TermsFit}
use Rattle.house_rows.specs.Keeping.{IsConsistent, IsKeptItem, IsPurchase, IsReserve}
use Rattle.house_rows.specs.Verdict.{was_sold}
use Rattle.house_rows.proofs.Put.{by_test}
use Rattle.store_rows.specs.ItemRows.{item_with, kept_from, met_with, with_met}
use Rattle.store_items.specs.Standing.{is_at_most, is_bought, is_price, is_reserve, is_reported, is_consistent}

price_is : (amount : Option ℕ) (price : ℕ) → is_price amount price ≡ true → amount ≡ Some price
price_is None price is = absurd (true≢false (sym is))
price_is (Some amount) price is = ap Some (grind (arith, nat_tests, is))

-- what was bought at once has its reserve met
bought_met : (reserve leader top : Option ℕ) → is_none top ≡ true → is_some leader ≡ true → met_with reserve leader top ≢ Some false
bought_met reserve None top none led = absurd (true≢false (sym led))
bought_met reserve (Some l) (Some t) none led = absurd (true≢false (sym none))
bought_met None (Some l) None none led = λ e. cc
bought_met (Some r) (Some l) None none led = λ e. cc

purchase : (t : Terms) (reserve top : Option ℕ) → is_none top ≡ true → is_bought t ≡ true → IsPurchase (with_met reserve top t)
purchase t reserve top unsealed is =
    let led = second_of_both (was_sold t.state) _ is in
    let rest = second_of_both (is_some t.leader) _ led in
    let none : (t.count == 0) ≡ true = first_of_both (t.count == 0) _ rest in
    record {
      sold = first_of_both (was_sold t.state) _ is;
      no_bid = grind (arith, nat_tests, none);
      price = price_is t.buy_now t.price (second_of_both (t.count == 0) _ rest);
      met = bought_met reserve t.leader top unsealed (first_of_both (is_some t.leader) _ led);
    }

-- by bids it is met where the greatest maximum meets it
shape_met : (bands : List (ℕ × ℕ)) (opening : Opening) (price count : ℕ) (leader top second : Option ℕ) → is_shape bands opening price count leader top second ≡ true → met_with opening.reserve leader top ≡ met_by opening.reserve top
shape_met bands opening price count None top second is = refl
shape_met bands opening price count (Some l) (Some t) second is = refl
shape_met bands opening price count (Some l) None None is = absurd (true≢false (sym is))
shape_met bands opening price count (Some l) None (Some s) is = absurd (true≢false (sym is))

-- terms that fit do so with a reserve
pub met_fits : (reserve top : Option ℕ) (t : Terms) → TermsFit t → TermsFit (with_met reserve top t)
met_fits reserve top t fits = record {
  item = fits.item;
  seller = fits.seller;
  category = fits.category;
  start = fits.start;
  buy_now = fits.buy_now;
  end = fits.end;
  closed = fits.closed;
  price = fits.price;
  leader = fits.leader;
  apart = fits.apart;
  count = fits.count;
  sold_led = fits.sold_led;
  sold_closed = fits.sold_closed;
}

-- and without it
pub met_out : (reserve top : Option ℕ) (t : Terms) → TermsFit (with_met reserve top t) → TermsFit t
met_out reserve top t fits = record {
  item = fits.item;
  seller = fits.seller;
  category = fits.category;
  start = fits.start;
  buy_now = fits.buy_now;
  end = fits.end;
  closed = fits.closed;
  price = fits.price;
  leader = fits.leader;
  apart = fits.apart;
  count = fits.count;
  sold_led = fits.sold_led;
  sold_closed = fits.sold_closed;
}

-- the same of items
pub item_out : (reserve top : Option ℕ) (it : Item) → ItemFits (item_with reserve top it) → ItemFits it
item_out reserve top it fits = record { terms = met_out reserve top it.terms fits.terms; lot = fits.lot; title = fits.title; text = fits.text }

standing : (bands : List (ℕ × ℕ)) (t : Terms) (reserve top second : Option ℕ) → is_reported bands t reserve top second ≡ true → IsConsistent bands (with_met reserve top t)
standing bands t reserve top second is =
    elim (by_test (is_none top && is_none second && is_bought t)) [
      | inl bought ↦ inr (purchase t reserve top (first_of_both (is_none top) _ (first_of_both (is_none top && is_none second) _ bought)) (second_of_both (is_none top && is_none second) _ bought))
      | inr other ↦ (let shape : is_shape bands (record { start = t.start; reserve = reserve }) t.price t.count t.leader top second ≡ true = rw other at is in
          inl (record { reserve = reserve; top = top; second = second; shape = shape; met = shape_met bands (record { start = t.start; reserve = reserve }) t.price t.count t.leader top second shape }))
    ]

-- what passes the test is consistent
pub stand : (bands : List (ℕ × ℕ)) (t : Terms) (reserve top second : Option ℕ) → is_consistent bands t reserve top second ≡ true → IsConsistent bands (with_met reserve top t)
stand bands t reserve top second is = standing bands t reserve top second (second_of_both (is_reserve t reserve) _ is)

-- the standing of what was bought at once is that of no bids
unbid : (start : ℕ) (reserve : Option ℕ) (at : ℕ) (led top next : Option ℕ) (count : ℕ) → is_none top ≡ true → is_none next ≡ true → is_some led ≡ true → (count == 0) ≡ true
    → kept_from start reserve at led top next count ≡ record { start = start; reserve = reserve; price = start; leader = None; top = None; second = None; count = 0 }
unbid start reserve at led (Some t) next count no_top no_next is_led none = absurd (true≢false (sym no_top))
unbid start reserve at led None (Some s) count no_top no_next is_led none = absurd (true≢false (sym no_next))
unbid start reserve at None None None count no_top no_next is_led none = absurd (true≢false (sym is_led))
unbid start reserve at (Some l) None None count no_top no_next is_led none = let zero : count ≡ 0 = grind (arith, nat_tests, none) in rw zero refl

pub bought_reported : (t : Terms) (reserve top second : Option ℕ) (s : Kept) → is_none top ≡ true → is_none second ≡ true → is_bought t ≡ true → s ≡ standing_of [] (record { start = t.start; reserve = reserve }) []
    → s ≡ kept_from t.start reserve t.price t.leader top second t.count
bought_reported t reserve top second s no_top no_second is opens =
    let led = second_of_both (was_sold t.state) _ is in
    let rest = second_of_both (is_some t.leader) _ led in
    opens ∙ standing-none [] (record { start = t.start; reserve = reserve })
    ∙ sym (unbid t.start reserve t.price t.leader top second t.count no_top no_second (first_of_both (is_some t.leader) _ led) (first_of_both (t.count == 0) _ rest))

-- and by bids the standing is reported as it is
shaped : (bands : List (ℕ × ℕ)) (start : ℕ) (reserve : Option ℕ) (at : ℕ) (led top next : Option ℕ) (count : ℕ) → is_shape bands (record { start = start; reserve = reserve }) at count led top next ≡ true
    → kept_from start reserve at led top next count ≡ record { start = start; reserve = reserve; price = at; leader = led; top = top; second = next; count = count }
shaped bands start reserve at None top next count is = refl
shaped bands start reserve at (Some l) (Some t) next count is = refl
shaped bands start reserve at (Some l) None None count is = absurd (true≢false (sym is))
shaped bands start reserve at (Some l) None (Some s) count is = absurd (true≢false (sym is))

pub row_reported : (bands : List (ℕ × ℕ)) (start : ℕ) (reserve : Option ℕ) (at : ℕ) (led top next : Option ℕ) (count : ℕ) (report : Option Kept) → is_some report ≡ is_shape bands (record { start = start; reserve = reserve }) at count led top next
    → IfSome report (λ s. s ≡ record { start = start; reserve = reserve; price = at; leader = led; top = top; second = next; count = count }) → IfSome report (λ s. s ≡ kept_from start reserve at led top next count)
row_reported bands start reserve at led top next count None fits value = tt
row_reported bands start reserve at led top next count (Some s) fits value = value ∙ sym (shaped bands start reserve at led top next count (sym fits))

-- ---- what passes the test goes with what is sealed

under : (most : Option ℕ) (amount : ℕ) → is_at_most most amount ≡ true → IfSome most (λ m. amount ≤ m)
under None amount is = tt
under (Some most) amount is = grind (arith, nat_tests, is)

reserved : (t : Terms) (reserve : Option ℕ) → is_reserve t reserve ≡ true → IsReserve t.start t.buy_now reserve
reserved t None is = tt
reserved t (Some amount) is =
    let over : nat_lt t.start amount ≡ true = first_of_both (nat_lt t.start amount) _ is in
    (grind (arith, nat_tests, over), under t.buy_now amount (second_of_both (nat_lt t.start amount) _ is))

bought_as_met : (reserve leader top : Option ℕ) → is_none top ≡ true → is_some leader ≡ true → met_with reserve leader top ≡ option_map (λ r. true) reserve
bought_as_met reserve None top none led = absurd (true≢false (sym led))
bought_as_met reserve (Some l) (Some t) none led = absurd (true≢false (sym none))
bought_as_met reserve (Some l) None none led = refl

same_start : (n : ℕ) → (n == n) ≡ true
same_start n = grind (arith, nat_tests)

-- a standing
keeps_bids : (bands : List (ℕ × ℕ)) (t : Terms) (reserve top second : Option ℕ) → IsReserve t.start t.buy_now reserve
    → is_shape bands (record { start = t.start; reserve = reserve }) t.price t.count t.leader top second ≡ true
    → IsKeptItem bands (with_met reserve top t) (record { start = t.start; reserve = reserve; price = t.price; leader = t.leader; top = top; second = second; count = t.count })
keeps_bids bands t reserve top second goes shape = record {
  reserve = goes;
  start = refl;
  count = refl;
  standing = shape;
  report = inl (record { price = refl; leader = refl; met = shape_met bands (record { start = t.start; reserve = reserve }) t.price t.count t.leader top second shape });
}

-- a purchase
keeps_purchase : (bands : List (ℕ × ℕ)) (t : Terms) (reserve top : Option ℕ) → IsReserve t.start t.buy_now reserve → is_none top ≡ true → is_bought t ≡ true
    → IsKeptItem bands (with_met reserve top t) (record { start = t.start; reserve = reserve; price = t.start; leader = None; top = None; second = None; count = 0 })
keeps_purchase bands t reserve top goes unsealed is =
    let led = second_of_both (was_sold t.state) _ is in
    let rest = second_of_both (is_some t.leader) _ led in
    let none : (t.count == 0) ≡ true = first_of_both (t.count == 0) _ rest in
    let no_bids : t.count ≡ 0 = grind (arith, nat_tests, none) in
    record {
      reserve = goes;
      start = refl;
      count = no_bids;
      standing = same_start t.start;
      report = inr (record {
        sold = first_of_both (was_sold t.state) _ is;
        no_bid = refl;
        price = price_is t.buy_now t.price (second_of_both (t.count == 0) _ rest);
        met = bought_as_met reserve t.leader top unsealed (first_of_both (is_some t.leader) _ led);
      });
    }

pub keeps : (bands : List (ℕ × ℕ)) (t : Terms) (reserve top second : Option ℕ) → is_consistent bands t reserve top second ≡ true
    → IsKeptItem bands (with_met reserve top t) (kept_from t.start reserve t.price t.leader top second t.count)
keeps bands t reserve top second is =
    let goes = reserved t reserve (first_of_both (is_reserve t reserve) _ is) in
    let reported : is_reported bands t reserve top second ≡ true = second_of_both (is_reserve t reserve) _ is in
    let Goes = λ (k : Kept). IsKeptItem bands (with_met reserve top t) k in
    elim (by_test (is_none top && is_none second && is_bought t)) [
      | inl bought ↦ (let unsealed = first_of_both (is_none top && is_none second) _ bought in
          let is_sold = second_of_both (is_none top && is_none second) _ bought in
          let no_top = first_of_both (is_none top) _ unsealed in
          let led = second_of_both (was_sold t.state) _ is_sold in
          let rest = second_of_both (is_some t.leader) _ led in
          subst Goes (sym (unbid t.start reserve t.price t.leader top second t.count no_top (second_of_both (is_none top) _ unsealed) (first_of_both (is_some t.leader) _ led) (first_of_both (t.count == 0) _ rest)))
          (keeps_purchase bands t reserve top goes no_top is_sold))
      | inr other ↦ (let shape : is_shape bands (record { start = t.start; reserve = reserve }) t.price t.count t.leader top second ≡ true = rw other at reported in
          subst Goes (sym (shaped bands t.start reserve t.price t.leader top second t.count shape)) (keeps_bids bands t reserve top second goes shape))
    ]

-- a row of those of which each has a property
pub row_has : {A : Type 0} (P : A → Type 0) (rows : List A) (i : ℕ) (r : A) → i < length rows → AllByRecursion P rows → P (get_or rows i r)
row_has P [] i r low all = absurd (omega (arith, low))
row_has P (x ∷ rows) zero r low all = all.0
row_has P (x ∷ rows) (suc i) r low all = row_has P rows i r (omega (arith, low)) all.1
