-- Which lines are on a member's statement.
use Rattle.std.proofs.Common.{◌≡◌, ℕ, ◌+◌, ◌<◌, ◌≤◌, length, List, [], ◌∷◌, ◌++◌, filter, map, Bool, true, false, refl, arith, inl, inr, Option, Some, None, ◌∙◌, ap}
use Rattle.std.specs.Prelude.{◌==◌, ◌&&◌, is_some, nat_le, unwrap_or}
use Rattle.std.proofs.lemmas.Bool.Decides.{nat_tests}
use Rattle.std.proofs.lemmas.List.{append-nil, map-append}
use Rattle.std.proofs.lemmas.List.Elements.{filter-append}
use Rattle.settle.specs.Statement.{in_order, insert_line, is_before, is_party, is_within, line_of, lines_of, rows_of}
use Rattle.settle.specs.declared.line.Line.{Line}
use Rattle.settle.specs.declared.sale.Sold.{Sold}
use Rattle.settle.specs.declared.zone.Zone.{Zone}
use Rattle.house_rows.specs.declared.item.Terms.{Terms}
use Rattle.house_rows.specs.declared.query.Query.TheVariants.{MyStatement}
use Rattle.house_rows.specs.declared.settings.Settings.{Settings}
use Rattle.house_rows.specs.History.{History}
use Rattle.house_rows.specs.Items.{closed_at, items_shown, leader_of, price_of, shown_now, state_of, terms_now}
use Rattle.house_rows.specs.Keeping.{AreInTurn}
use Rattle.house_rows.specs.Listings.{Listing, bands_by, listing_at, listings}
use Rattle.house_rows.specs.declared.page.Page.TheVariants.{Statement}
use Rattle.house_rows.specs.Pages.{all_sales, page_of, sale_of, sales_of}
use Rattle.house_rows.specs.People.{members}
use Rattle.house_rows.specs.Verdict.{IsHistory, was_sold}
use Rattle.house_rows.proofs.InTurn.{listings_in_turn}
use Rattle.house_rows.proofs.Put.{by_test}
use Rattle.house_rows.proofs.RangedTalk.{sold_is_closed, sold_is_led}
use Rattle.house_laws.specs.Statements.{IsSaleOf, lines_on}

-- ordering lines leaves those that pass a test, where one does at most
insert_other : (p : Line → Bool) (x : Line) (xs : List Line) → p x ≡ false → filter p (insert_line x xs) ≡ filter p xs
unfolding insert_line
insert_other p x [] other = rw other refl
insert_other p x (y ∷ xs) other =
    elim (by_test (is_before y x)) [
      | inl before ↦ rw before (elim (by_test (p y)) [ inl is ↦ rw is (ap (λ rest. y ∷ rest) (insert_other p x xs other)) | inr not ↦ rw not (insert_other p x xs other) ])
      | inr rest_after ↦ rw (rest_after, other) refl
    ]

insert_only : (p : Line → Bool) (x : Line) (xs : List Line) → p x ≡ true → filter p xs ≡ [] → filter p (insert_line x xs) ≡ x ∷ []
unfolding insert_line
insert_only p x [] is none = rw is refl
insert_only p x (y ∷ xs) is none =
    elim (by_test (p y)) [
      | inl there ↦ absurd (let e : y ∷ filter p xs ≡ [] = rw there at none in cc)
      | inr not ↦ elim (by_test (is_before y x)) [
        | inl before ↦ rw (before, not) (insert_only p x xs is (rw not at none))
        | inr rest_after ↦ rw (rest_after, is) (ap (λ rest. x ∷ rest) none)
      ]
    ]

order_none : (p : Line → Bool) (xs : List Line) → filter p xs ≡ [] → filter p (in_order xs) ≡ []
unfolding in_order
order_none p [] none = refl
order_none p (x ∷ xs) none =
    elim (by_test (p x)) [
      | inl is ↦ absurd (let e : x ∷ filter p xs ≡ [] = rw is at none in cc)
      | inr not ↦ insert_other p x (in_order xs) not ∙ order_none p xs (rw not at none)
    ]

order_one : (p : Line → Bool) (xs : List Line) (y : Line) → filter p xs ≡ y ∷ [] → filter p (in_order xs) ≡ y ∷ []
unfolding in_order
order_one p [] y one = absurd (let e : [] ≡ y ∷ [] = one in cc)
order_one p (x ∷ xs) y one =
    elim (by_test (p x)) [
      | inl is ↦ (let e : x ∷ filter p xs ≡ y ∷ [] = rw is at one in
          let same : x ≡ y = cc in let none : filter p xs ≡ [] = cc in
          insert_only p x (in_order xs) is (order_none p xs none) ∙ ap (λ z. z ∷ []) same)
      | inr not ↦ insert_other p x (in_order xs) not ∙ order_one p xs y (rw not at one)
    ]

-- the lines of those sales that pass two tests, about one item
abbrev picked : (Sold → Bool) → (Sold → Bool) → (Sold → Line) → ℕ → List Sold → List Line
picked r w f i sales = filter (λ line. line.item == i) (map f (filter (λ s. r s && w s) (filter r sales)))

picked_more : (r w : Sold → Bool) (f : Sold → Line) (i : ℕ) (xs ys : List Sold) → picked r w f i (xs ++ ys) ≡ picked r w f i xs ++ picked r w f i ys
picked_more r w f i xs ys = simp (filter-append, map-append)

picked_other : (r w : Sold → Bool) (f : Sold → Line) (i : ℕ) (s : Sold) → (f s).item ≡ s.item → (s.item == i) ≡ false → picked r w f i (s ∷ []) ≡ []
picked_other r w f i s same other =
    let line : ((f s).item == i) ≡ false = rw same other in
    elim (by_test (r s)) [
      | inl party ↦ elim (by_test (w s)) [ inl within ↦ rw party (rw (party, within) (rw line refl)) | inr outside ↦ rw party (rw (party, outside) refl) ]
      | inr not ↦ rw not refl
    ]

picked_none : (r w : Sold → Bool) (f : Sold → Line) (i : ℕ) (s : Sold) → (r s && w s) ≡ false → picked r w f i (s ∷ []) ≡ []
picked_none r w f i s out =
    elim (by_test (r s)) [ inl party ↦ rw party (rw out refl) | inr not ↦ rw not refl ]

picked_one : (r w : Sold → Bool) (f : Sold → Line) (i : ℕ) (s : Sold) → (f s).item ≡ s.item → (s.item == i) ≡ true → r s ≡ true → w s ≡ true → picked r w f i (s ∷ []) ≡ f s ∷ []
picked_one r w f i s same here party within =
    let line : ((f s).item == i) ≡ true = rw same here in
    rw party (rw (party, within) (rw line refl))

-- of an item's own sale, where it is another's
sale_other : (r w : Sold → Bool) (f : Sold → Line) (i : ℕ) (terms : Terms) → ((s : Sold) → (f s).item ≡ s.item) → (terms.item == i) ≡ false → picked r w f i (sale_of terms) ≡ []
sale_other r w f i terms same other =
    elim (by_test (was_sold terms.state)) [
      | inl sold ↦ rw sold (picked_other r w f i _ (same _) other)
      | inr not ↦ rw not refl
    ]

-- the sales of listings
abbrev sales_in : Settings → History → List Listing → List Sold
sales_in settings h ls = all_sales (map (shown_now settings h) ls)

sales_above : (settings : Settings) (h : History) (r w : Sold → Bool) (f : Sold → Line) (i next : ℕ) (ls : List Listing) → ((s : Sold) → (f s).item ≡ s.item) → AreInTurn (λ l. l.item) next ls → i < next
    → picked r w f i (sales_in settings h ls) ≡ []
sales_above settings h r w f i next [] same turn lt = refl
sales_above settings h r w f i next (l ∷ ls) same turn lt =
    let at' = turn.0 in
    let other : (l.item == i) ≡ false = grind (arith, nat_tests) in
    picked_more r w f i (sale_of (terms_now settings h l)) (sales_in settings h ls)
    ∙ rw (sale_other r w f i (terms_now settings h l) same other) (sales_above settings h r w f i (next + 1) ls same turn.1 (omega arith))

-- only the sale of the item's listing counts
sales_here : (settings : Settings) (h : History) (r w : Sold → Bool) (f : Sold → Line) (i next : ℕ) (ls : List Listing) (l : Listing) → ((s : Sold) → (f s).item ≡ s.item) → AreInTurn (λ l. l.item) next ls
    → listing_at ls i ≡ Some l → picked r w f i (sales_in settings h ls) ≡ picked r w f i (sale_of (terms_now settings h l))
sales_here settings h r w f i next [] l same turn listed = absurd (let e : None ≡ Some l = listed in cc)
sales_here settings h r w f i next (a ∷ ls) l same turn listed =
    elim (by_test (a.item == i)) [
      | inl here ↦ (let is : Some a ≡ Some l = rw here at listed in
          let at' = turn.0 in
          let e : a ≡ l = cc in
          let number : a.item ≡ i = grind (arith, nat_tests) in
          let above : picked r w f i (sales_in settings h ls) ≡ [] = sales_above settings h r w f i (next + 1) ls same turn.1 (omega arith) in
          picked_more r w f i (sale_of (terms_now settings h a)) (sales_in settings h ls)
          ∙ rw above (simp append-nil (ap (λ (x : Listing). picked r w f i (sale_of (terms_now settings h x))) e)))
      | inr other ↦ picked_more r w f i (sale_of (terms_now settings h a)) (sales_in settings h ls)
          ∙ rw (sale_other r w f i (terms_now settings h a) same other) (sales_here settings h r w f i (next + 1) ls l same turn.1 (rw other at listed))
    ]

sales_unlisted : (settings : Settings) (h : History) (r w : Sold → Bool) (f : Sold → Line) (i : ℕ) (ls : List Listing) → ((s : Sold) → (f s).item ≡ s.item) → listing_at ls i ≡ None → picked r w f i (sales_in settings h ls) ≡ []
sales_unlisted settings h r w f i [] same free = refl
sales_unlisted settings h r w f i (a ∷ ls) same free =
    elim (by_test (a.item == i)) [
      | inl here ↦ absurd (let e : Some a ≡ None = rw here at free in cc)
      | inr other ↦ picked_more r w f i (sale_of (terms_now settings h a)) (sales_in settings h ls)
          ∙ rw (sale_other r w f i (terms_now settings h a) same other) (sales_unlisted settings h r w f i ls same (rw other at free))
    ]

line_item : (c : ℕ) (zone : Zone) (rate : ℕ) (s : Sold) → (line_of c zone rate s).item ≡ s.item
line_item c zone rate s = elim (by_test (s.seller == c)) [ inl is ↦ rw is refl | inr not ↦ rw not refl ]

-- an item that isn't listed has no line
pub unlisted_line : (settings : Settings) (h : History) (c from to i : ℕ) (zone : Zone) → listing_at (listings h) i ≡ None → lines_on settings h c from to zone i ≡ []
unfolding rows_of lines_of items_shown
unlisted_line settings h c from to i zone free =
    order_none (λ (line : Line). line.item == i) _
    (sales_unlisted settings h (is_party c) (is_within from to zone) (line_of c zone settings.rate) i (listings h) (line_item c zone settings.rate) free)

-- nor has one that wasn't sold
pub unsold_line : (settings : Settings) (h : History) (c from to : ℕ) (zone : Zone) (l : Listing) → listing_at (listings h) l.item ≡ Some l → was_sold (state_of h l) ≡ false
    → lines_on settings h c from to zone l.item ≡ []
unfolding rows_of lines_of items_shown
unsold_line settings h c from to zone l listed unsold =
    order_none (λ (line : Line). line.item == l.item) _
    (sales_here settings h (is_party c) (is_within from to zone) (line_of c zone settings.rate) l.item 1 (listings h) l (line_item c zone settings.rate) (listings_in_turn h) listed
    ∙ rw unsold refl)

same_sale : (item seller price : ℕ) (buyer closed : Option ℕ) (s : Sold) → s.item ≡ item → s.seller ≡ seller → buyer ≡ Some s.buyer → closed ≡ Some s.closed → s.price ≡ price
    → record { item = item; seller = seller; buyer = unwrap_or buyer 0; closed = unwrap_or closed 0; price = price } ≡ s
same_sale item seller price buyer closed s at by to when' for = rw (to, when', ← at, ← by, ← for) refl

sale_known : (settings : Settings) (h : History) (l : Listing) (s : Sold) → IsSaleOf settings h l s → sale_of (terms_now settings h l) ≡ s ∷ []
sale_known settings h l s is =
    let sold = is.sold in
    rw sold (ap (λ (x : Sold). x ∷ []) (same_sale l.item l.seller (price_of (bands_by settings l) h l) (leader_of h l) (closed_at h l) s is.item is.seller is.buyer is.closed is.price))

-- what was sold has one line, if the member is a party and the day lies in the period
pub sale_line : (settings : Settings) (h : History) (c from to : ℕ) (zone : Zone) (l : Listing) (s : Sold) → listing_at (listings h) l.item ≡ Some l → IsSaleOf settings h l s
    → is_party c s ≡ true → is_within from to zone s ≡ true → lines_on settings h c from to zone l.item ≡ line_of c zone settings.rate s ∷ []
unfolding rows_of lines_of items_shown
sale_line settings h c from to zone l s listed is party within =
    let here : (s.item == l.item) ≡ true = (let item = is.item in grind (arith, nat_tests)) in
    order_one (λ (line : Line). line.item == l.item) _ (line_of c zone settings.rate s)
    (sales_here settings h (is_party c) (is_within from to zone) (line_of c zone settings.rate) l.item 1 (listings h) l (line_item c zone settings.rate) (listings_in_turn h) listed
    ∙ ap (picked (is_party c) (is_within from to zone) (line_of c zone settings.rate) l.item) (sale_known settings h l s is)
    ∙ picked_one (is_party c) (is_within from to zone) (line_of c zone settings.rate) l.item s (line_item c zone settings.rate s) here party within)

-- and else none
pub sale_no_line : (settings : Settings) (h : History) (c from to : ℕ) (zone : Zone) (l : Listing) (s : Sold) → listing_at (listings h) l.item ≡ Some l → IsSaleOf settings h l s
    → (is_party c s && is_within from to zone s) ≡ false → lines_on settings h c from to zone l.item ≡ []
unfolding rows_of lines_of items_shown
sale_no_line settings h c from to zone l s listed is out =
    order_none (λ (line : Line). line.item == l.item) _
    (sales_here settings h (is_party c) (is_within from to zone) (line_of c zone settings.rate) l.item 1 (listings h) l (line_item c zone settings.rate) (listings_in_turn h) listed
    ∙ ap (picked (is_party c) (is_within from to zone) (line_of c zone settings.rate) l.item) (sale_known settings h l s is)
    ∙ picked_none (is_party c) (is_within from to zone) (line_of c zone settings.rate) l.item s out)

there : (o : Option ℕ) → is_some o ≡ true → o ≡ Some (unwrap_or o 0)
there None some = cc
there (Some x) some = refl

-- every item that was sold has a sale
pub sold_has_sale : (settings : Settings) (h : History) (l : Listing) → IsHistory settings h → listing_at (listings h) l.item ≡ Some l → was_sold (state_of h l) ≡ true → (s : Sold) × IsSaleOf settings h l s
sold_has_sale settings h l is listed sold = (
  record {
    item = l.item;
    seller = l.seller;
    buyer = unwrap_or (leader_of h l) 0;
    closed = unwrap_or (closed_at h l) 0;
    price = price_of (bands_by settings l) h l;
  },
  record {
    sold = sold;
    item = refl;
    seller = refl;
    buyer = there (leader_of h l) (sold_is_led settings h l is listed sold);
    closed = there (closed_at h l) (sold_is_closed settings h l is listed sold);
    price = refl;
  },
)

-- a member reads its statement of these sales
pub statement_read : (settings : Settings) (h : History) (c from to : ℕ) → 1 ≤ c → c ≤ length (members h)
    → page_of settings h c (MyStatement from to) ≡ Statement c from to settings.rate (sales_of (items_shown settings h) c)
unfolding page_of
statement_read settings h c from to least most =
    let one : nat_le 1 c ≡ true = grind (arith, nat_tests) in
    let two : nat_le c (length (members h)) ≡ true = grind (arith, nat_tests) in
    rw (one, two) refl
