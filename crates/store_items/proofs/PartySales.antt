-- The sales of the items that a member sells, and of those that it leads, by number.
use Rattle.std.proofs.Common.{◌≡◌, ◌≢◌, ◌≤◌, ◌<◌, ◌+◌, ◌^◌, ℕ, zero, suc, Bool, true, false, not, ◌&&◌, ◌||◌, List, [], ◌∷◌, ◌++◌, get_or, map, filter, flat_map, length, Option, Some, None, refl, ap, sym, subst, ◌∙◌, arith, inl, inr, is_lt, Less, IsPermutation}
use Rattle.std.specs.Prelude.{◌==◌, IfSome, is_some, nat_le, nat_lt, unwrap_or}
use Rattle.std.specs.List.{AllByRecursion}
use Rattle.std.specs.List.Sorted.{IsNonDecreasingBy}
use Rattle.std.specs.Ordering.{nat_cmp}
use Rattle.std.proofs.lemmas.Bool.Decides.{nat_tests}
use Rattle.std.proofs.lemmas.Cmp.{nat_cmp_total, on_total}
use Rattle.std.proofs.lemmas.List.{map-append}
use Rattle.std.proofs.lemmas.List.Elements.{All-from_recursion, recursion_from_All}
use Rattle.std.proofs.lemmas.List.Sorted.{All-permutation, IsPermutation-filter_both, IsPermutation-map, IsPermutation-trans}
use Rattle.sqlite_trees.specs.Tree.{IsAscending}
use Rattle.sqlite_keyed.proofs.ListLemmas.{all_both, all_unmap, all_weaker, ascending-filter, ascending-map, filter-filter}
use Rattle.sqlite_keyed.proofs.SortLemmas.{sorted_unique}
use Rattle.sqlite.specs.Effect.{Database}
use Rattle.proxy.specs.Bids.{is_leader}
use Rattle.settle.specs.Statement.{IsSale, is_party}
use Rattle.settle.specs.declared.sale.Sold.{Sold}
use Rattle.house_rows.specs.Fits.{IsMember, IsMoment, ItemFits, TermsFit}
use Rattle.house_rows.specs.Found.{sales_in, sales_to}
use Rattle.house_rows.specs.Limits.{last_moment, most_items}
use Rattle.house_rows.specs.Pages.{sale_of}
use Rattle.house_rows.specs.Tables.{ItemRow}
use Rattle.house_rows.specs.Verdict.{was_sold}
use Rattle.house_rows.specs.declared.item.Item.{Item}
use Rattle.house_rows.specs.declared.item.Terms.{Terms}
use Rattle.house_rows.proofs.Put.{by_test}
use Rattle.store_rows.specs.House.{IsHouse}
use Rattle.store_rows.specs.ItemRows.{items_in}
use Rattle.store_rows.proofs.RowLemmas.{filter_same_on}
use Rattle.store_rows.specs.Tables.{tables_in}
use Rattle.store_rows.proofs.Apart.{ascending_on}
use Rattle.store_rows.proofs.Tested.{filter_both}
use Rattle.store_items.specs.LookUps.{AreSales}
use Rattle.store_items.specs.Rising.{rise_from}
use Rattle.store_items.proofs.ItemRising.{items_rise, number_of}
use Rattle.store_rows.proofs.Joined.{IsBelow}

-- ---- sales of items that fit

buyer_fits : (leader : Option ℕ) (seller : ℕ) → is_some leader ≡ true → IfSome leader IsMember → leader ≢ Some seller → IsMember (unwrap_or leader 0) × (seller ≢ unwrap_or leader 0)
buyer_fits None seller led fits apart = absurd (let e : false ≡ true = led in cc)
buyer_fits (Some l) seller led fits apart = (fits, λ same. apart (ap Some (sym same)))

closed_fits : (closed : Option ℕ) → IfSome closed IsMoment → unwrap_or closed 0 ≤ last_moment
closed_fits None fits = omega arith
closed_fits (Some m) fits = fits

sales_fit : (items : List Terms) → AllByRecursion TermsFit items → AllByRecursion IsSale (flat_map sale_of items)
sales_fit [] fits = tt
sales_fit (t ∷ items) fits =
    let rest = sales_fit items fits.1 in
    let it = fits.0 in
    elim (by_test (was_sold t.state)) [
      | inl is ↦ (let buyer = buyer_fits t.leader t.seller (it.sold_led is) it.leader it.apart in
          rw is (record { item = it.item; seller = it.seller; buyer = buyer.0; parties = buyer.1; closed = closed_fits t.closed it.closed }, rest))
      | inr not ↦ rw not rest
    ]

-- ---- sales of items whose numbers rise

abbrev pub ItemsRise : List Terms → Type 0
ItemsRise = IsAscending (λ a b. a.item < b.item)

later_sales : (n : ℕ) (items : List Terms) → AllByRecursion (λ (t : Terms). n < t.item) items → AllByRecursion (λ (s : Sold). n < s.item) (flat_map sale_of items)
later_sales n [] above = tt
later_sales n (t ∷ items) above =
    let rest = later_sales n items above.1 in
    elim (by_test (was_sold t.state)) [ inl is ↦ rw is (above.0, rest) | inr not ↦ rw not rest ]

sales_rise : (items : List Terms) → ItemsRise items → IsAscending (λ (a : Sold) (b : Sold). a.item < b.item) (flat_map sale_of items)
sales_rise [] up = tt
sales_rise (t ∷ items) up =
    let rest = sales_rise items up.1 in
    elim (by_test (was_sold t.state)) [ inl is ↦ rw is (later_sales t.item items up.0, rest) | inr not ↦ rw not rest ]

later_at : (n : ℕ) (sales : List Sold) (j : ℕ) (d : Sold) → AllByRecursion (λ (s : Sold). n < s.item) sales → j < length sales → n < (get_or sales j d).item
later_at n [] j d above low = absurd (omega (arith, low))
later_at n (s ∷ sales) zero d above low = above.0
later_at n (s ∷ sales) (suc j) d above low = later_at n sales j d above.1 (omega (arith, low))

apart_at : (sales : List Sold) (i j : ℕ) (d : Sold) → IsAscending (λ (a : Sold) (b : Sold). a.item < b.item) sales → i < j → j < length sales → (get_or sales i d).item ≢ (get_or sales j d).item
apart_at [] i j d up before low = absurd (omega (arith, low))
apart_at (s ∷ sales) i zero d up before low = absurd (omega (arith, before))
apart_at (s ∷ sales) zero (suc j) d up before low = λ same. let less = later_at s.item sales j d up.0 (omega (arith, low)) in omega (arith, same, less)
apart_at (s ∷ sales) (suc i) (suc j) d up before low = apart_at sales i j d up.1 (omega (arith, before)) (omega (arith, low))

few_between : (least : ℕ) (sales : List Sold) → least ≤ most_items + 1 → AllByRecursion (λ (s : Sold). (least ≤ s.item) × (s.item ≤ most_items)) sales → IsAscending (λ (a : Sold) (b : Sold). a.item < b.item) sales → least + length sales ≤ most_items + 1
few_between least [] low within up = omega (arith, low)
few_between least (s ∷ sales) low within up =
    let rest = few_between (s.item + 1) sales (let here = within.0.1 in omega (arith, here))
    (all_both (λ (x : Sold). (least ≤ x.item) × (x.item ≤ most_items)) (λ (x : Sold). s.item < x.item) (λ (x : Sold). (s.item + 1 ≤ x.item) × (x.item ≤ most_items)) (λ x here less. (omega (arith, less), here.1)) sales within.1 up.0) up.1 in
    let first = within.0.0 in omega (arith, rest, first)

pub are_sales : (items : List Terms) → AllByRecursion TermsFit items → ItemsRise items → AreSales (flat_map sale_of items)
are_sales items fits up =
    let sales : List Sold = flat_map sale_of items in
    let each = sales_fit items fits in
    let rise = sales_rise items up in
    record {
      fits = All-from_recursion IsSale sales each;
      apart = λ i j d. apart_at sales i j d rise;
      few = (let room = few_between 1 sales (omega arith) (all_weaker IsSale (λ (s : Sold). (1 ≤ s.item) × (s.item ≤ most_items)) (λ s sale. sale.item) sales each) rise in omega (arith, room));
    }

-- ---- the items that a member sells or leads

pub all_kept : {A : Type 0} (P : A → Type 0) (p : A → Bool) (xs : List A) → AllByRecursion P (filter p xs) → AllByRecursion (λ x. p x ≡ true → P x) xs
all_kept P p [] all = tt
all_kept P p (x ∷ xs) all =
    elim (by_test (p x)) [
      | inl is ↦ (let kept = rw is at all in (λ passes. kept.0, all_kept P p xs kept.1))
      | inr not ↦ (let kept = rw not at all in (λ passes. absurd (let e : false ≡ true = sym not ∙ passes in cc), all_kept P p xs kept))
    ]

all_kept_either : {A : Type 0} (P : A → Type 0) (p q : A → Bool) (xs : List A) → AllByRecursion (λ x. p x ≡ true → P x) xs → AllByRecursion (λ x. q x ≡ true → P x) xs → AllByRecursion P (filter (λ x. p x || q x) xs)
all_kept_either P p q [] one other = tt
all_kept_either P p q (x ∷ xs) one other =
    let rest = all_kept_either P p q xs one.1 other.1 in
    elim (by_test (p x)) [
      | inl is ↦ rw is (one.0 is, rest)
      | inr not ↦ elim (by_test (q x)) [ inl also ↦ rw (not, also) (other.0 also, rest) | inr nor ↦ rw (not, nor) rest ]
    ]

other_only : (m l : Bool) → (m ≡ true → l ≡ false) → ((m || l) && not m) ≡ l
other_only true l apart = sym (apart refl)
other_only false true apart = refl
other_only false false apart = refl

first_holds : (m l : Bool) → m ≡ true → (m || l) ≡ true
first_holds true l is = refl
first_holds false l is = absurd (let e : false ≡ true = is in cc)

-- nobody leads its own item
leads_other : (t : Terms) (member : ℕ) → TermsFit t → (t.seller == member) ≡ true → is_leader t.leader member ≡ false
leads_other t member fits mine = go t.leader refl
  where
    go : (leader : Option ℕ) → t.leader ≡ leader → is_leader leader member ≡ false
    go None is = refl
    go (Some l) is = elim (by_test (l == member)) [
      | inl same ↦ (let e : l ≡ t.seller = grind (arith, nat_tests, same, mine) in absurd (fits.apart (is ∙ ap Some e)))
      | inr other ↦ other
    ]

not_less : (a b : ℕ) → a ≤ b → is_lt (nat_cmp b a) ≡ false
not_less a b le =
    let below : nat_lt b a ≡ false = grind (arith, nat_tests, le) in
    rw below (elim (by_test (b == a)) [ inl is ↦ rw is refl | inr other ↦ rw other refl ])

is_less : (a b : ℕ) → a < b → nat_cmp a b ≡ Less
is_less a b less = let below : nat_lt a b ≡ true = grind (arith, nat_tests, less) in rw below refl

module _ (db : Database) (house : IsHouse db) (member : ℕ) (sold led all : List Terms) where
  abbrev rows : List ItemRow
  rows = items_in db.trees

  abbrev mine : ItemRow → Bool
  mine row = row.item.terms.seller == member

  abbrev leads : ItemRow → Bool
  leads row = is_leader row.item.terms.leader member

  abbrev part : ItemRow → Terms
  part row = row.item.terms

  abbrev pub party_rows : List ItemRow
  party_rows = filter (λ row. mine row || leads row) rows

  abbrev AreFound : Type 0
  AreFound = (sold ≡ map part (filter mine rows)) × (led ≡ map part (filter leads rows)) × AllByRecursion TermsFit sold × AllByRecursion TermsFit led

  sold_kept : AreFound → AllByRecursion (λ row. mine row ≡ true → TermsFit (part row)) rows
  sold_kept h = all_kept (λ row. TermsFit (part row)) mine rows (all_unmap TermsFit part (filter mine rows) (subst (AllByRecursion TermsFit) h.0 h.2))

  led_kept : AreFound → AllByRecursion (λ row. leads row ≡ true → TermsFit (part row)) rows
  led_kept h = all_kept (λ row. TermsFit (part row)) leads rows (all_unmap TermsFit part (filter leads rows) (subst (AllByRecursion TermsFit) h.1 h.3))

  party_fits : AreFound → AllByRecursion (λ row. TermsFit (part row)) party_rows
  party_fits h = all_kept_either (λ row. TermsFit (part row)) mine leads rows (sold_kept h) (led_kept h)

  rise : AreFound → ItemsRise (map part party_rows)
  rise h =
      let low = all_weaker (λ row. TermsFit (part row)) (λ row. number_of row < 2 ^ 64) (λ row fit. omega (arith, fit.item.1)) party_rows (party_fits h) in
      ascending-map (λ (a : Terms) (b : Terms). a.item < b.item) part party_rows
      (ascending_on (λ row. number_of row < 2 ^ 64) (IsBelow number_of) (λ r s. number_of r < number_of s) (λ r s p q below. below p) party_rows low
      (ascending-filter (IsBelow number_of) (λ row. mine row || leads row) rows (items_rise db house)))

  moved : AreFound → IsPermutation (map part party_rows) (sold ++ led)
  moved h =
      let ours : filter mine party_rows ≡ filter mine rows = filter-filter mine (λ row. mine row || leads row) (λ row is. first_holds (mine row) (leads row) is) rows in
      let theirs : filter (λ row. not (mine row)) party_rows ≡ filter leads rows =
      filter_both (λ row. mine row || leads row) (λ row. not (mine row)) rows
      ∙ filter_same_on (λ row. mine row ≡ true → TermsFit (part row)) (λ row. (mine row || leads row) && not (mine row)) leads
      (λ row fits. other_only (mine row) (leads row) (λ is. leads_other (part row) member (fits is) is)) rows (sold_kept h) in
      let same : map part (filter mine party_rows ++ filter (λ row. not (mine row)) party_rows) ≡ sold ++ led =
      map-append part (filter mine party_rows) (filter (λ row. not (mine row)) party_rows) ∙ ap (λ l. map part l ++ map part (filter (λ row. not (mine row)) party_rows)) ours ∙ ap (λ l. map part (filter mine rows) ++ map part l) theirs
      ∙ ap (λ l. l ++ map part (filter leads rows)) (sym h.0) ∙ ap (λ l. sold ++ l) (sym h.1) in
      subst (IsPermutation (map part party_rows)) same (IsPermutation-map part party_rows (filter mine party_rows ++ filter (λ row. not (mine row)) party_rows) (IsPermutation-filter_both mine (λ row. not (mine row)) (λ row. refl) party_rows))

  abbrev by_item : Terms → Terms → Rattle.std.proofs.Common.Ordering
  by_item a b = nat_cmp a.item b.item

  -- sorted, the two are the rows in their order
  pub party_found : AreFound → IsPermutation (sold ++ led) all → IsNonDecreasingBy (λ (t : Terms). t.item) all → all ≡ map part party_rows
  party_found h both ordered =
      sorted_unique by_item (on_total (λ (t : Terms). t.item) nat_cmp_total) (map part party_rows) all
      (Rattle.sqlite_keyed.proofs.ListLemmas.ascending_weaker (λ (a : Terms) (b : Terms). a.item < b.item) (λ a b. by_item a b ≡ Less) (λ a b less. is_less a.item b.item less) (map part party_rows) (rise h))
      (IsPermutation-trans (map part party_rows) (sold ++ led) all (moved h) both)
      (λ k d low high. not_less (get_or all k d).item (get_or all (k + 1) d).item (ordered k (k + 1) d (omega arith) high))

  pub party_rises : AreFound → IsPermutation (sold ++ led) all → IsNonDecreasingBy (λ (t : Terms). t.item) all → ItemsRise all
  party_rises h both ordered = subst ItemsRise (sym (party_found h both ordered)) (rise h)

-- every item of both fits
pub both_fit : (sold led all : List Terms) → AllByRecursion TermsFit sold → AllByRecursion TermsFit led → IsPermutation (sold ++ led) all → AllByRecursion TermsFit all
both_fit sold led all one other both = recursion_from_All TermsFit all (All-permutation TermsFit (sold ++ led) all both (All-from_recursion TermsFit (sold ++ led) (joined_fit sold one)))
  where
    joined_fit : (xs : List Terms) → AllByRecursion TermsFit xs → AllByRecursion TermsFit (xs ++ led)
    joined_fit = elim [ [] ↦ λ h. other | x ∷ (xs → more) ↦ λ h. (h.0, more h.1) ]

-- ---- their sales

pub buyer_is : (leader : Option ℕ) (member : ℕ) → 1 ≤ member → (unwrap_or leader 0 == member) ≡ is_leader leader member
buyer_is None member some = grind (arith, nat_tests, some)
buyer_is (Some l) member some = refl

-- a member's sales are those of the items that it sells or leads
pub sales_by_party : (member : ℕ) (rows : List ItemRow) → 1 ≤ member
    → flat_map sale_of (map (λ (row : ItemRow). row.item.terms) (filter (λ row. (row.item.terms.seller == member) || is_leader row.item.terms.leader member) rows)) ≡ filter (is_party member) (sales_in (map (λ (row : ItemRow). row.item) rows))
sales_by_party member [] some = refl
sales_by_party member (row ∷ rows) some =
    let rest = sales_by_party member rows some in
    let same = buyer_is row.item.terms.leader member some in
    elim (by_test (was_sold row.item.terms.state)) [
      | inl is ↦ elim (by_test ((row.item.terms.seller == member) || is_leader row.item.terms.leader member)) [
        | inl party ↦ (let sold : Sold = record { item = row.item.terms.item; seller = row.item.terms.seller; buyer = unwrap_or row.item.terms.leader 0; closed = unwrap_or row.item.terms.closed 0; price = row.item.terms.price } in
            rw (is, same, party) (rw is (ap (λ l. sold ∷ l) rest)))
        | inr other ↦ rw (is, same, other) rest
      ]
      | inr not ↦ elim (by_test ((row.item.terms.seller == member) || is_leader row.item.terms.leader member)) [
        | inl party ↦ rw (not, party) (rw not rest)
        | inr other ↦ rw (not, other) rest
      ]
    ]

-- of items that fit none has the party 0
pub no_party : (items : List Item) → AllByRecursion ItemFits items → filter (is_party 0) (sales_in items) ≡ []
no_party [] fits = refl
no_party (it ∷ items) fits =
    let rest = no_party items fits.1 in
    elim (by_test (was_sold it.terms.state)) [
      | inl is ↦ (let buyer = buyer_fits it.terms.leader it.terms.seller (fits.0.terms.sold_led is) fits.0.terms.leader fits.0.terms.apart in
          let seller : (it.terms.seller == 0) ≡ false = (let one = fits.0.terms.seller in grind (arith, nat_tests, one)) in
          let bought : (unwrap_or it.terms.leader 0 == 0) ≡ false = (let one = buyer.0 in grind (arith, nat_tests, one)) in
          rw (is, seller, bought) rest)
      | inr not ↦ rw not rest
    ]

-- the sales of a member, from what was found
pub sales_found : (db : Database) (member : ℕ) (sold led all : List Terms) → IsHouse db → 1 ≤ member → sold ≡ map (λ (row : ItemRow). row.item.terms) (filter (λ row. row.item.terms.seller == member) (items_in db.trees))
    → led ≡ map (λ (row : ItemRow). row.item.terms) (filter (λ row. is_leader row.item.terms.leader member) (items_in db.trees)) → AllByRecursion TermsFit sold → AllByRecursion TermsFit led
    → IsPermutation (sold ++ led) all → IsNonDecreasingBy (λ (t : Terms). t.item) all → (flat_map sale_of all ≡ sales_to (tables_in db.trees) member) × ItemsRise all
unfolding tables_in
sales_found db member sold led all house some sold_is led_is one other both ordered =
    let found : AreFound db house member sold led all = (sold_is, led_is, one, other) in (
      ap (flat_map sale_of) (party_found db house member sold led all found both ordered) ∙ sales_by_party member (items_in db.trees) some,
      party_rises db house member sold led all found both ordered,
    )

pub no_sales_found : (db : Database) (items : List Item) → items ≡ map (λ (row : ItemRow). row.item) (items_in db.trees) → AllByRecursion ItemFits items → [] ≡ sales_to (tables_in db.trees) 0
unfolding tables_in
no_sales_found db items are fits = sym (ap (λ l. filter (is_party 0) (sales_in l)) (sym are) ∙ no_party items fits)

-- ---- the test of numbers that rise

pub rising_reported : (least : ℕ) (items : List Terms) → rise_from least items ≡ true → AllByRecursion (λ (t : Terms). least ≤ t.item) items × ItemsRise items
rising_reported least [] is = (tt, tt)
rising_reported least (t ∷ items) is =
    elim (by_test (nat_le least t.item)) [
      | inl low ↦ (let rest = rising_reported (t.item + 1) items (rw low at is) in
          let here : least ≤ t.item = grind (arith, nat_tests, low) in (
            (here, all_weaker (λ (u : Terms). t.item + 1 ≤ u.item) (λ (u : Terms). least ≤ u.item) (λ u up. omega (arith, up, here)) items rest.0),
            (all_weaker (λ (u : Terms). t.item + 1 ≤ u.item) (λ (u : Terms). t.item < u.item) (λ u up. omega (arith, up)) items rest.0, rest.1),
          ))
      | inr not ↦ absurd (let e : false ≡ true = rw not at is in cc)
    ]

pub rising_kept : (least : ℕ) (items : List Terms) → AllByRecursion (λ (t : Terms). least ≤ t.item) items → ItemsRise items → rise_from least items ≡ true
rising_kept least [] above up = refl
rising_kept least (t ∷ items) above up =
    let low : nat_le least t.item ≡ true = (let le = above.0 in grind (arith, nat_tests, le)) in
    rw low (rising_kept (t.item + 1) items (all_weaker (λ (u : Terms). t.item < u.item) (λ (u : Terms). t.item + 1 ≤ u.item) (λ u less. omega (arith, less)) items up.0) up.1)

pub rising_from_0 : (items : List Terms) → ItemsRise items → rise_from 0 items ≡ true
rising_from_0 items up = rising_kept 0 items (least_0 items) up
  where
    least_0 : (ts : List Terms) → AllByRecursion (λ (t : Terms). 0 ≤ t.item) ts
    least_0 = elim [ [] ↦ tt | t ∷ (ts → more) ↦ (omega arith, more) ]

-- what is shown of items that rise are sales
pub sales_are : (all : List Terms) (sales : List Sold) → rise_from 0 all ≡ true → AllByRecursion TermsFit all → sales ≡ flat_map sale_of all → AreSales sales
sales_are all sales up fits is = subst AreSales (sym is) (are_sales all fits (rising_reported 0 all up).1)
