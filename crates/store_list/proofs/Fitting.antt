-- What is found in a table whose rows fit, fits.
use Rattle.std.proofs.Common.{◌≡◌, ℕ, zero, suc, List, [], ◌∷◌, length, take, map, filter, Bool, true, ◌∙◌, ap, sym, subst, arith, inl, inr, refl, Bor, Option, Some, None, Result, Ok, Err}
use Rattle.std.specs.Option.{option_copied}
use Rattle.std.specs.Prelude.{IfOk, IfSome, OnOk, Vec, find, is_some, option_map, ◌++◌, ◌==◌, ◌&&◌, nat_le, nat_lt}
use Rattle.std.specs.List.{AllByRecursion}
use Rattle.std.proofs.lemmas.Bool.Decides.{nat_tests}
use Rattle.proxy.specs.declared.bid.Bid.{Bid}
use Rattle.proxy.specs.Bids.{standing_of}
use Rattle.proxy.specs.Opening.{Opening}
use Rattle.proxy.specs.Kept.{Kept}
use Rattle.proxy.proofs.Placed.{standing-none}
use Rattle.house_rows.specs.declared.auction.Auction.{Auction}
use Rattle.house_rows.specs.declared.item.Item.{Item}
use Rattle.house_rows.specs.declared.item.OwnBid.{OwnBid}
use Rattle.house_rows.specs.declared.item.OwnReserve.{OwnReserve}
use Rattle.house_rows.specs.declared.item.Terms.{Terms}
use Rattle.house_rows.specs.Fits.{IsItem, IsMember, ItemFits, OwnBidFits, OwnReserveFits, StandingFits, TermsFit}
use Rattle.house_rows.specs.Found.{all_items, auction_at, auction_of, item_at, item_with_lot, own_bid, own_bids, own_reserves, reserves_in, row_at, standing_at, terms_at}
use Rattle.house_rows.specs.Changed.{is_item}
use Rattle.house_rows.specs.Keeping.{AllConsistent, AllKept, AreSound, ItemRowFits, RowFits, IsConsistentAt, IsConsistentIn, IsKeptRow}
use Rattle.house_rows.specs.Limits.{most_shown}
use Rattle.house_rows.specs.Pages.{reserve_reported}
use Rattle.house_rows.specs.Tables.{ItemRow, Tables, bands_for, row_opening}
use Rattle.house_rows.specs.Text.{same_text}
use Rattle.house_rows.proofs.Every.{every_as, every_map}
use Rattle.house_rows.proofs.Put.{by_test}
use Rattle.house_rows.proofs.Standing.{row_is_consistent, row_is_kept}

pub find_fits : {A : Type 0} (P : A → Type 0) (p : A → Bool) (xs : List A) → AllByRecursion P xs → IfSome (find p xs) P
find_fits P p [] all = tt
find_fits P p (x ∷ xs) all = elim (by_test (p x)) [ inl is ↦ rw is all.0 | inr not ↦ rw not (find_fits P p xs all.1) ]

-- what is there is there after a reference
pub some_copied : {A : Type 0} (o : Option (Bor A)) → is_some (option_copied o) ≡ is_some o
some_copied None = refl
some_copied (Some r) = refl

pub some_as : {A B : Type 0} (f : A → B) (P : A → Type 0) (Q : B → Type 0) (o : Option A) → ((x : A) → P x → Q (f x)) → IfSome o P → IfSome (option_map f o) Q
some_as f P Q None as' fits = tt
some_as f P Q (Some x) as' fits = as' x fits

pub filter_fits : {A : Type 0} (P : A → Type 0) (p : A → Bool) (xs : List A) → AllByRecursion P xs → AllByRecursion P (filter p xs)
filter_fits P p [] all = tt
filter_fits P p (x ∷ xs) all = elim (by_test (p x)) [ inl is ↦ rw is (all.0, filter_fits P p xs all.1) | inr not ↦ rw not (filter_fits P p xs all.1) ]

pub take_fits : {A : Type 0} (P : A → Type 0) (n : ℕ) (xs : List A) → AllByRecursion P xs → AllByRecursion P (take n xs)
take_fits P zero xs all = tt
take_fits P (suc n) [] all = tt
take_fits P (suc n) (x ∷ xs) all = (all.0, take_fits P n xs all.1)

-- what was answered is what fits
pub ok_fits : {A E : Type 0} (P : A → Type 0) (r : Result A E) (v : A) → IfOk r (λ a. a ≡ v) → P v → IfOk r P
ok_fits P (Ok a) v is fits = rw is fits
ok_fits P (Err e) v is fits = tt

-- the same of lists
pub ok_items : {A Z E : Type 0} (P : List A → Type 0) (r : Result (Vec A Z) E) (xs : List A) → IfOk r (λ v. v.items ≡ xs) → P xs → IfOk r (λ v. P v.items)
ok_items P (Ok v) xs is fits = rw is fits
ok_items P (Err e) xs is fits = tt

pub ok_same : {A Z E : Type 0} (r : Result (Vec A Z) E) (xs ys : List A) → IfOk r (λ v. v.items ≡ xs) → xs ≡ ys → IfOk r (λ v. v.items ≡ ys)
ok_same (Ok v) xs ys is same = is ∙ same
ok_same (Err e) xs ys is same = tt

-- what passes a test has the property, and passes
pub passed : {A : Type 0} (P : A → Type 0) (p : A → Bool) (xs : List A) → AllByRecursion P xs → AllByRecursion (λ x. P x × (p x ≡ true)) (filter p xs)
passed P p [] all = tt
passed P p (x ∷ xs) all = elim (by_test (p x)) [ inl is ↦ rw is ((all.0, is), passed P p xs all.1) | inr not ↦ rw not (passed P p xs all.1) ]

pub items_fit : (t : Tables) → AreSound t → AllByRecursion ItemFits (all_items t)
items_fit t sound = every_map (λ (row : ItemRow). row.item) ItemFits t.items
    (every_as (RowFits t) (λ (row : ItemRow). ItemFits row.item) t.items (λ row fits. fits.item) sound.items)

pub items_are_consistent : (t : Tables) → AreSound t → AllByRecursion (λ (it : Item). IsConsistentIn t it.terms) (all_items t)
items_are_consistent t sound = every_map (λ (row : ItemRow). row.item) (λ (it : Item). IsConsistentIn t it.terms) t.items
    (every_as (RowFits t) (λ (row : ItemRow). IsConsistentIn t row.item.terms) t.items (λ row fits. row_is_consistent (bands_for t row.item.terms.item) row fits) sound.items)

-- whichever rows of items are looked at, they are consistent
pub all_are_consistent : (t : Tables) (test : ItemRow → Bool) → AreSound t → AllConsistent test t
all_are_consistent t test sound = filter_fits (λ (row : ItemRow). IsConsistentIn t row.item.terms) test t.items
    (every_as (RowFits t) (λ (row : ItemRow). IsConsistentIn t row.item.terms) t.items (λ row fits. row_is_consistent (bands_for t row.item.terms.item) row fits) sound.items)

pub is_consistent_at : (t : Tables) → AreSound t → (item : ℕ) → IsConsistentAt t item
is_consistent_at t sound item = some_as (λ (row : ItemRow). row.item.terms) (RowFits t) (IsConsistentIn t) _ (λ row fits. row_is_consistent (bands_for t row.item.terms.item) row fits)
    (find_fits (RowFits t) (is_item item) t.items sound.items)

each : {A : Type 0} (P : A → Type 0) → ((x : A) → P x) → (xs : List A) → AllByRecursion P xs
each P all [] = tt
each P all (x ∷ xs) = (all x, each P all xs)

-- what holds of everything holds of what was answered
pub ok_each : {A Z E : Type 0} (P : A → Type 0) (r : Result (Vec A Z) E) → ((x : A) → P x) → IfOk r (λ v. AllByRecursion P v.items)
ok_each P (Ok v) all = each P all v.items
ok_each P (Err e) all = tt

pub ok_so : {A E : Type 0} {P : Type 0} (r : Result A E) → P → OnOk r P
ok_so (Ok a) so = so
ok_so (Err e) so = tt

none_leads : (bands : List (ℕ × ℕ)) (opening : Opening) (bids : List Bid) (k : Kept) → k ≡ standing_of bands opening bids → k.count ≡ 0 → IfSome k.leader IsMember
none_leads bands opening [] k is none = rw (is ∙ standing-none bands opening) tt
none_leads bands opening (b ∷ bids) k is none = absurd (let n : length (b ∷ bids) ≡ 0 = sym (ap (λ (x : Kept). x.count) is) ∙ none in omega arith)

pub standing_fits : (bands : List (ℕ × ℕ)) (row : ItemRow) → ItemRowFits bands row → StandingFits row.standing
standing_fits bands row fits = record {
  leader = elim fits.report [
    | inl report ↦ rw (← report.leader) fits.item.terms.leader
    | inr bought ↦ none_leads bands (row_opening row) fits.bids row.standing fits.is_consistent bought.no_bid
  ];
  count = let n : row.standing.count ≡ length fits.bids = ap (λ (x : Kept). x.count) fits.is_consistent in let few = fits.few in omega arith;
}

pub own_bids_fit : (t : Tables) (member from : ℕ) → AreSound t → AllByRecursion OwnBidFits (own_bids t member from)
own_bids_fit t member from sound =
    let test : OwnBid → Bool = λ b. nat_lt 0 b.mine && nat_le from b.item in
    let made : List OwnBid = map (own_bid t member) (all_items t) in
    let known : AllByRecursion (λ (b : OwnBid). IsItem b.item) made = every_map (own_bid t member) (λ (b : OwnBid). IsItem b.item) (all_items t)
    (every_as ItemFits (λ (it : Item). IsItem it.terms.item) (all_items t) (λ it fits. fits.terms.item) (items_fit t sound)) in
    take_fits OwnBidFits most_shown (filter test made)
    (every_as (λ (b : OwnBid). IsItem b.item × (test b ≡ true)) OwnBidFits (filter test made) (λ b one. record { item = one.0; mine = let is = one.1 in grind (arith, nat_tests, is) }) (passed (λ (b : OwnBid). IsItem b.item) test made known))

-- a reserve that is reported is of an item
reserve_fits : (terms : Terms) (reserve : Option ℕ) (rest : List OwnReserve) → IsItem terms.item → AllByRecursion OwnReserveFits rest → AllByRecursion OwnReserveFits (reserve_reported terms reserve ++ rest)
reserve_fits terms None rest is all = all
reserve_fits terms (Some amount) rest is all = (record { item = is }, all)

reserves_fit : (rows : List ItemRow) → AllByRecursion (λ row. IsItem row.item.terms.item) rows → AllByRecursion OwnReserveFits (reserves_in rows)
reserves_fit [] all = tt
reserves_fit (row ∷ rows) all = reserve_fits row.item.terms row.standing.reserve (reserves_in rows) all.0 (reserves_fit rows all.1)

pub own_reserves_fit : (t : Tables) (member from : ℕ) → AreSound t → AllByRecursion OwnReserveFits (own_reserves t member from)
own_reserves_fit t member from sound =
    let sells : ItemRow → Bool = λ row. row.item.terms.seller == member in
    let known : AllByRecursion (λ (row : ItemRow). IsItem row.item.terms.item) t.items =
    every_as (RowFits t) (λ (row : ItemRow). IsItem row.item.terms.item) t.items (λ row fits. fits.item.terms.item) sound.items in
    take_fits OwnReserveFits most_shown _ (filter_fits OwnReserveFits (λ (r : OwnReserve). nat_le from r.item) (reserves_in (filter sells t.items))
    (reserves_fit (filter sells t.items) (filter_fits (λ (row : ItemRow). IsItem row.item.terms.item) sells t.items known)))

-- what is found in tables that are sound, here those that a keep's fields are, fits and is
-- consistent
pub terms_fit : (t u : Tables) → t ≡ u → AreSound t → (i : ℕ) → IfSome (terms_at t i) TermsFit
terms_fit t u same sound i = some_as (λ (row : ItemRow). row.item.terms) (RowFits t) TermsFit _ (λ row fits. fits.item.terms) (find_fits (RowFits t) (is_item i) t.items sound.items)

pub terms_are_consistent : (t u : Tables) → t ≡ u → AreSound t → (i : ℕ) → IfSome (terms_at t i) (IsConsistentIn u)
terms_are_consistent t u same sound i = subst (λ (x : Tables). IfSome (terms_at t i) (IsConsistentIn x)) same (is_consistent_at t sound i)

pub item_fits : (t u : Tables) → t ≡ u → AreSound t → (i : ℕ) → IfSome (item_at t i) ItemFits
item_fits t u same sound i = some_as (λ (row : ItemRow). row.item) (RowFits t) ItemFits _ (λ row fits. fits.item) (find_fits (RowFits t) (is_item i) t.items sound.items)

pub item_is_consistent : (t u : Tables) → t ≡ u → AreSound t → (i : ℕ) → IfSome (item_at t i) (λ it. IsConsistentIn u it.terms)
item_is_consistent t u same sound i =
    subst (λ (x : Tables). IfSome (item_at t i) (λ it. IsConsistentIn x it.terms)) same
    (some_as (λ (row : ItemRow). row.item) (RowFits t) (λ (it : Item). IsConsistentIn t it.terms) _ (λ row fits. row_is_consistent (bands_for t row.item.terms.item) row fits)
    (find_fits (RowFits t) (is_item i) t.items sound.items))

pub standing_fit : (t u : Tables) → t ≡ u → AreSound t → (i : ℕ) → IfSome (standing_at t i) StandingFits
standing_fit t u same sound i =
    some_as (λ (row : ItemRow). row.standing) (RowFits t) StandingFits _ (λ row fits. standing_fits (bands_for t row.item.terms.item) row fits) (find_fits (RowFits t) (is_item i) t.items sound.items)

pub auction_fits : (t u : Tables) → t ≡ u → AreSound t → (i : ℕ) → IfSome (auction_at t i) (λ a. TermsFit a.terms × StandingFits a.standing)
auction_fits t u same sound i =
    some_as auction_of (RowFits t) (λ (a : Auction). TermsFit a.terms × StandingFits a.standing) _ (λ row fits. (fits.item.terms, standing_fits (bands_for t row.item.terms.item) row fits))
    (find_fits (RowFits t) (is_item i) t.items sound.items)

pub auction_is_consistent : (t u : Tables) → t ≡ u → AreSound t → (i : ℕ) → IfSome (auction_at t i) (λ a. IsConsistentIn u a.terms)
auction_is_consistent t u same sound i =
    subst (λ (x : Tables). IfSome (auction_at t i) (λ a. IsConsistentIn x a.terms)) same
    (some_as auction_of (RowFits t) (λ (a : Auction). IsConsistentIn t a.terms) _ (λ row fits. row_is_consistent (bands_for t row.item.terms.item) row fits)
    (find_fits (RowFits t) (is_item i) t.items sound.items))

pub lot_fits : (t u : Tables) → t ≡ u → AreSound t → (seller : ℕ) (lot : List ℕ) → IfSome (item_with_lot t seller lot) IsItem
lot_fits t u same sound seller lot =
    some_as (λ (row : ItemRow). row.item.terms.item) (RowFits t) IsItem _ (λ row fits. fits.item.terms.item)
    (find_fits (RowFits t) (λ row. (row.item.terms.seller == seller) && same_text row.item.lot lot) t.items sound.items)

pub those_are_consistent : (t : Tables) (p : Item → Bool) → AreSound t → AllByRecursion (λ (it : Item). IsConsistentIn t it.terms) (filter p (all_items t))
those_are_consistent t p sound = filter_fits (λ (it : Item). IsConsistentIn t it.terms) p (all_items t) (items_are_consistent t sound)

pub first_are_consistent : (t : Tables) (n : ℕ) (p : Item → Bool) → AreSound t → AllByRecursion (λ (it : Item). IsConsistentIn t it.terms) (take n (filter p (all_items t)))
first_are_consistent t n p sound = take_fits (λ (it : Item). IsConsistentIn t it.terms) n (filter p (all_items t)) (those_are_consistent t p sound)

pub ok_items_are_consistent : {Z E : Type 0} (t u : Tables) → t ≡ u → (r : Result (Vec Item Z) E) (xs : List Item) → IfOk r (λ v. v.items ≡ xs) → AllByRecursion (λ (it : Item). IsConsistentIn t it.terms) xs
    → IfOk r (λ v. AllByRecursion (λ (it : Item). IsConsistentIn u it.terms) v.items)
ok_items_are_consistent t u same r xs is all =
    subst (λ (x : Tables). IfOk r (λ v. AllByRecursion (λ (it : Item). IsConsistentIn x it.terms) v.items)) same (ok_items (λ xs. AllByRecursion (λ (it : Item). IsConsistentIn t it.terms) xs) r xs is all)

-- of sound tables what is sealed of each item goes with what is shown
pub all_kept : (t : Tables) → AreSound t → AllByRecursion (IsKeptRow t) t.items
all_kept t sound = every_as (RowFits t) (IsKeptRow t) t.items (λ row fits. row_is_kept (bands_for t row.item.terms.item) row fits) sound.items

pub kept_at : (t : Tables) → AreSound t → (i : ℕ) → IfSome (row_at t i) (IsKeptRow t)
kept_at t sound i = find_fits (IsKeptRow t) (is_item i) t.items (all_kept t sound)

pub all_are_kept : (t : Tables) (test : ItemRow → Bool) → AreSound t → AllKept test t
all_are_kept t test sound = filter_fits (IsKeptRow t) test t.items (all_kept t sound)
