-- Members, categories and listings of a history are in their ranges, and items are numbered apart.
use Rattle.std.proofs.Common.{◌≡◌, ℕ, ◌+◌, ◌≤◌, ◌<◌, List, [], ◌∷◌, length, Bool, true, false, not, refl, arith, Option, Some, None}
use Rattle.std.specs.Prelude.{◌==◌, ◌&&◌, nat_le, nat_lt, IfSome}
use Rattle.std.specs.List.{AllByRecursion, list_any}
use Rattle.std.proofs.lemmas.Bool.Decides.{nat_tests}
use Rattle.std.proofs.lemmas.List.{append-nil, length-append, length-map}
use Rattle.proxy.specs.Rules.{first_failing}
use Rattle.house_rows.specs.declared.command.Command.{Command}
use Rattle.house_rows.specs.declared.command.Command.TheVariants.{Register, AddCategory, List as Listed, Bid, Buy, Close, Settle, Watch, Unwatch, Ask, Answer, Feedback, SetBands}
use Rattle.house_rows.specs.declared.people.Category.{Category}
use Rattle.house_rows.specs.declared.people.Member.{Member}
use Rattle.house_rows.specs.declared.refusal.Refusal.TheVariants.{Range, NameTaken, Limit, LotExists, Unknown}
use Rattle.house_rows.specs.declared.settings.Settings.{Settings}
use Rattle.house_rows.specs.Fits.{CategoryFits, IsItem, IsMember, IsMoment, IsWithin, MemberFits, ReserveFits}
use Rattle.house_rows.specs.History.{History}
use Rattle.house_rows.specs.Items.{items_shown}
use Rattle.house_rows.specs.Limits.{last_moment, most_categories, most_cents, most_items, most_members}
use Rattle.house_rows.specs.Listings.{Listing, listings, tables_set}
use Rattle.house_rows.specs.People.{categories, members}
use Rattle.house_rows.specs.Text.{is_lot, is_text}
use Rattle.house_rows.specs.Verdict.{IsHistory, are_terms, is_buy_now, verdict, is_at_most, is_reserve}
use Rattle.house_rows.proofs.Every.{every_more, some_has}
use Rattle.house_rows.proofs.Passed.{Common, common_pass, own_pass}

true_not : (b : Bool) → not b ≡ false → b ≡ true
true_not true e = refl
true_not false e = cc

pub record NameRules (name : List ℕ) (count most : ℕ) : Type 0 where
  pub text : is_text 1 40 name ≡ true
  pub room : count < most

name_rules : (fits taken : Bool) (count most : ℕ) → first_failing ((not fits, Range) ∷ (taken, NameTaken) ∷ (nat_le most count, Limit) ∷ []) ≡ None → (fits ≡ true) × (count < most)
name_rules true true count most none = cc
name_rules true false count most none = (refl, grind (arith, nat_tests, none))
name_rules false taken count most none = cc

-- members
pub record MembersFit (ms : List Member) : Type 0 where
  pub all : AllByRecursion MemberFits ms
  pub room : length ms ≤ most_members

members_step : (settings : Settings) (h : History) (t c : ℕ) (command : Command) → verdict settings h t c command ≡ None → MembersFit (members h) → MembersFit (members (record { moment = t; caller = c; command = command } ∷ h))
members_step settings h t c (Register name) none fits =
    let own = own_pass settings h t c (Register name) none in
    let pass = name_rules (is_text 1 40 name) _ (length (members h)) most_members own in
    let n = fits.room in let lt = pass.1 in
    record {
      all = every_more MemberFits (members h) (record { member = length (members h) + 1; name = name }) fits.all (record { member = (omega arith, omega arith); name = pass.0 });
      room = simp length-append (omega arith);
    }
members_step settings h t c (AddCategory name) none fits = simp append-nil fits
members_step settings h t c (Listed category lot title text start buy_now end reserve) none fits = simp append-nil fits
members_step settings h t c (Bid i m) none fits = simp append-nil fits
members_step settings h t c (Buy i) none fits = simp append-nil fits
members_step settings h t c Close none fits = simp append-nil fits
members_step settings h t c (Settle i) none fits = simp append-nil fits
members_step settings h t c (Watch i) none fits = simp append-nil fits
members_step settings h t c (Unwatch i) none fits = simp append-nil fits
members_step settings h t c (Ask i text) none fits = simp append-nil fits
members_step settings h t c (Answer i asker number text) none fits = simp append-nil fits
members_step settings h t c (Feedback i rating text) none fits = simp append-nil fits
members_step settings h t c (SetBands bands) none fits = simp append-nil fits

pub members_fit : (settings : Settings) (h : History) → IsHistory settings h → MembersFit (members h)
members_fit settings [] is = record { all = tt; room = omega arith }
members_fit settings (e ∷ h) is = members_step settings h e.moment e.caller e.command is.0 (members_fit settings h is.1)

-- whoever is registered and not the house has a member's number
pub caller_is : (settings : Settings) (h : History) (t c : ℕ) (of_house : Bool) → IsHistory settings h → Common h t c of_house → of_house ≡ false → IsMember c
caller_is settings h t c of_house is common not =
    let n = (members_fit settings h is).room in let r = common.registered in let m = common.member_if not in (m, omega arith)

-- categories
pub record CategoriesFit (ks : List Category) : Type 0 where
  pub all : AllByRecursion CategoryFits ks
  pub room : length ks ≤ most_categories

categories_step : (settings : Settings) (h : History) (t c : ℕ) (command : Command) → verdict settings h t c command ≡ None → CategoriesFit (categories h) → CategoriesFit (categories (record { moment = t; caller = c; command = command } ∷ h))
categories_step settings h t c (AddCategory name) none fits =
    let own = own_pass settings h t c (AddCategory name) none in
    let pass = name_rules (is_text 1 40 name) _ (length (categories h)) most_categories own in
    let n = fits.room in let lt = pass.1 in
    record {
      all = every_more CategoryFits (categories h) (record { category = length (categories h) + 1; name = name }) fits.all (record { category = (omega arith, omega arith); name = pass.0 });
      room = simp length-append (omega arith);
    }
categories_step settings h t c (Register name) none fits = simp append-nil fits
categories_step settings h t c (Listed category lot title text start buy_now end reserve) none fits = simp append-nil fits
categories_step settings h t c (Bid i m) none fits = simp append-nil fits
categories_step settings h t c (Buy i) none fits = simp append-nil fits
categories_step settings h t c Close none fits = simp append-nil fits
categories_step settings h t c (Settle i) none fits = simp append-nil fits
categories_step settings h t c (Watch i) none fits = simp append-nil fits
categories_step settings h t c (Unwatch i) none fits = simp append-nil fits
categories_step settings h t c (Ask i text) none fits = simp append-nil fits
categories_step settings h t c (Answer i asker number text) none fits = simp append-nil fits
categories_step settings h t c (Feedback i rating text) none fits = simp append-nil fits
categories_step settings h t c (SetBands bands) none fits = simp append-nil fits

pub categories_fit : (settings : Settings) (h : History) → IsHistory settings h → CategoriesFit (categories h)
categories_fit settings [] is = record { all = tt; room = omega arith }
categories_fit settings (e ∷ h) is = categories_step settings h e.moment e.caller e.command is.0 (categories_fit settings h is.1)

-- listings
pub record ListingRanges (l : Listing) : Type 0 where
  pub item : IsItem l.item
  pub seller : IsMember l.seller
  pub category : IsWithin 1 most_categories l.category
  pub lot : is_lot l.lot ≡ true
  pub title : is_text 1 80 l.title ≡ true
  pub text : is_text 0 2000 l.text ≡ true
  pub start : IsWithin 1 most_cents l.start
  pub buy_now : IfSome l.buy_now (λ amount. IsWithin l.start most_cents amount)
  pub end : IsMoment l.end
  pub reserve : ReserveFits l.start l.buy_now l.reserve

and_left : (a b : Bool) → (a && b) ≡ true → a ≡ true
and_left true b e = refl
and_left false b e = cc

and_right : (a b : Bool) → (a && b) ≡ true → b ≡ true
and_right true b e = e
and_right false b e = cc

listing_pass : (lot taken fits known : Bool) (count : ℕ)
    → first_failing ((not lot, Range) ∷ (taken, LotExists) ∷ (not fits, Range) ∷ (not known, Unknown) ∷ (nat_le most_items count, Limit) ∷ []) ≡ None
    → (lot ≡ true) × (fits ≡ true) × (known ≡ true) × (count < most_items)
listing_pass false taken fits known count none = cc
listing_pass true true fits known count none = cc
listing_pass true false false known count none = cc
listing_pass true false true false count none = cc
listing_pass true false true true count none = (refl, refl, refl, grind (arith, nat_tests, none))

buy_now_within : (start : ℕ) (buy_now : Option ℕ) → is_buy_now start buy_now ≡ true → IfSome buy_now (λ amount. IsWithin start most_cents amount)
buy_now_within start None is = tt
buy_now_within start (Some amount) is = (grind (arith, nat_tests, is), grind (arith, nat_tests, is))

at_most_within : (buy_now : Option ℕ) (amount : ℕ) → is_at_most buy_now amount ≡ true → IfSome buy_now (λ most. amount ≤ most)
at_most_within None amount is = tt
at_most_within (Some most) amount is = grind (arith, nat_tests, is)

pub reserve_within : (start : ℕ) (buy_now reserve : Option ℕ) → is_reserve start buy_now reserve ≡ true → ReserveFits start buy_now reserve
reserve_within start buy_now None is = tt
reserve_within start buy_now (Some amount) is =
    let above = and_left (nat_lt start amount) _ is in let rest = and_right (nat_lt start amount) _ is in
    let most = and_left (nat_le amount most_cents) _ rest in
    (grind (arith, nat_tests, above), grind (arith, nat_tests, most), at_most_within buy_now amount (and_right (nat_le amount most_cents) _ rest))

pub record ListingsFit (ls : List Listing) : Type 0 where
  pub all : AllByRecursion ListingRanges ls
  pub room : length ls ≤ most_items

pub shown_count : (settings : Settings) (h : History) → length (items_shown settings h) ≡ length (listings h)
unfolding items_shown
shown_count settings h = simp length-map

listings_step : (settings : Settings) (h : History) (t c : ℕ) (command : Command) → IsHistory settings h → verdict settings h t c command ≡ None → ListingsFit (listings h) → ListingsFit (listings (record { moment = t; caller = c; command = command } ∷ h))
listings_step settings h t c (Listed category lot title text start buy_now end reserve) is none fits =
    let own = own_pass settings h t c (Listed category lot title text start buy_now end reserve) none in
    let pass = listing_pass (is_lot lot) _ (are_terms t title text start buy_now end reserve) (list_any (λ k. k.category == category) (categories h)) (length (items_shown settings h)) own in
    let count : length (items_shown settings h) ≡ length (listings h) = shown_count settings h in
    let lt = pass.3 in let n = fits.room in
    let one = pass.1 in
    let two = and_right _ _ one in let three = and_right _ _ two in let four = and_right _ _ three in let five = and_right _ _ four in let six = and_right _ _ five in
    let least = and_left (nat_le 1 start) _ three in let most = and_left (nat_le start most_cents) _ four in let seven = and_right (nat_lt t end) _ six in let last = and_left (nat_le end last_moment) _ seven in
    let known = some_has CategoryFits (λ k. k.category == category) (categories h) (categories_fit settings h is).all pass.2 in
    let known_fits = known.1.category in let known_is = known.2 in
    let at : known.0.category ≡ category = grind (arith, nat_tests, known_is) in
    let fits_category : IsWithin 1 most_categories category = rw at at known_fits in
    let caller_fits : IsMember c = caller_is settings h t c false is (common_pass settings h t c (Listed category lot title text start buy_now end reserve) none) refl in
    record {
      all = every_more ListingRanges (listings h) (record { item = length (listings h) + 1; seller = c; category = category; lot = lot; title = title; text = text; start = start; buy_now = buy_now; end = end; set = tables_set h; reserve = reserve }) fits.all (record {
        item = (omega arith, omega arith);
        seller = caller_fits;
        category = fits_category;
        lot = pass.0;
        title = and_left (is_text 1 80 title) _ one;
        text = and_left (is_text 0 2000 text) _ two;
        start = (grind (arith, nat_tests, least), grind (arith, nat_tests, most));
        buy_now = buy_now_within start buy_now (and_left (is_buy_now start buy_now) _ five);
        end = grind (arith, nat_tests, last);
        reserve = reserve_within start buy_now reserve (and_right (nat_le end last_moment) _ seven);
      });
      room = simp length-append (omega arith);
    }
listings_step settings h t c (Register name) is none fits = simp append-nil fits
listings_step settings h t c (AddCategory name) is none fits = simp append-nil fits
listings_step settings h t c (Bid i m) is none fits = simp append-nil fits
listings_step settings h t c (Buy i) is none fits = simp append-nil fits
listings_step settings h t c Close is none fits = simp append-nil fits
listings_step settings h t c (Settle i) is none fits = simp append-nil fits
listings_step settings h t c (Watch i) is none fits = simp append-nil fits
listings_step settings h t c (Unwatch i) is none fits = simp append-nil fits
listings_step settings h t c (Ask i text) is none fits = simp append-nil fits
listings_step settings h t c (Answer i asker number text) is none fits = simp append-nil fits
listings_step settings h t c (Feedback i rating text) is none fits = simp append-nil fits
listings_step settings h t c (SetBands bands) is none fits = simp append-nil fits

pub listings_fit : (settings : Settings) (h : History) → IsHistory settings h → ListingsFit (listings h)
listings_fit settings [] is = record { all = tt; room = omega arith }
listings_fit settings (e ∷ h) is = listings_step settings h e.moment e.caller e.command is.1 is.0 (listings_fit settings h is.1)
