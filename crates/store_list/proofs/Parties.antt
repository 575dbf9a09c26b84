-- The sales of sound tables are sales: of different items, and no more than there are items.
use Rattle.std.proofs.Common.{◌≡◌, ◌≢◌, ℕ, zero, suc, ◌+◌, ◌≤◌, ◌<◌, List, [], ◌∷◌, length, get_or, filter, Bool, true, false, refl, ap, sym, arith, inl, inr, Option, Some, None}
use Rattle.std.specs.Prelude.{All, AllPairs, IfSome, is_some, unwrap_or}
use Rattle.std.specs.List.{AllByRecursion, filter_map}
use Rattle.std.proofs.lemmas.List.Elements.{All-cons, All-filter, All-nil}
use Rattle.settle.specs.Statement.{IsSale, is_party}
use Rattle.settle.specs.declared.sale.Sold.{Sold}
use Rattle.house_rows.specs.Fits.{IsMember, IsMoment}
use Rattle.house_rows.specs.Found.{sales_to}
use Rattle.house_rows.specs.Keeping.{AreInTurn, AreSound, ItemRowFits, RowFits}
use Rattle.house_rows.specs.Limits.{last_moment, most_items}
use Rattle.house_rows.specs.Tables.{ItemRow, Tables, bands_for}
use Rattle.house_rows.specs.Verdict.{was_sold}
use Rattle.house_rows.proofs.Put.{by_test}
use Rattle.list_items.specs.Sales.{sale_if_sold}
use Rattle.list_rows.proofs.Growing.{filter_few}
use Rattle.store_list.proofs.Sold.{sales_are}

abbrev of_row : ItemRow → Option Sold
of_row row = sale_if_sold row.item.terms

buyer_fits : (leader : Option ℕ) (seller : ℕ) → is_some leader ≡ true → IfSome leader IsMember → leader ≢ Some seller → IsMember (unwrap_or leader 0) × (seller ≢ unwrap_or leader 0)
buyer_fits None seller led fits apart = absurd (let e : false ≡ true = led in cc)
buyer_fits (Some l) seller led fits apart = (fits, λ same. apart (ap Some (sym same)))

closed_fits : (closed : Option ℕ) → IfSome closed IsMoment → unwrap_or closed 0 ≤ last_moment
closed_fits None fits = omega arith
closed_fits (Some m) fits = fits

-- each sale is one
sale_fits : (bands : List (ℕ × ℕ)) (row : ItemRow) → ItemRowFits bands row → was_sold row.item.terms.state ≡ true
    → IsSale (record { item = row.item.terms.item; seller = row.item.terms.seller; buyer = unwrap_or row.item.terms.leader 0; closed = unwrap_or row.item.terms.closed 0; price = row.item.terms.price })
sale_fits bands row fits sold =
    let terms = fits.item.terms in
    let buyer = buyer_fits row.item.terms.leader row.item.terms.seller (terms.sold_led sold) terms.leader terms.apart in
    record { item = terms.item; seller = terms.seller; buyer = buyer.0; parties = buyer.1; closed = closed_fits row.item.terms.closed terms.closed }

sales_fit : (t : Tables) (rows : List ItemRow) → AllByRecursion (RowFits t) rows → All IsSale (filter_map of_row rows)
sales_fit t [] all = All-nil IsSale
sales_fit t (row ∷ rows) all =
    elim (by_test (was_sold row.item.terms.state)) [
      | inl is ↦ rw is (All-cons IsSale _ (filter_map of_row rows) (sale_fits (bands_for t row.item.terms.item) row all.0 is) (sales_fit t rows all.1))
      | inr not ↦ rw not (sales_fit t rows all.1)
    ]

-- sales of greater and greater items
abbrev AreRising : ℕ → List Sold → Type 0
AreRising least [] = Unit {0}
AreRising least (s ∷ sales) = (least ≤ s.item) × AreRising (s.item + 1) sales

rising_from : (least from : ℕ) (sales : List Sold) → least ≤ from → AreRising from sales → AreRising least sales
rising_from least from [] le are = tt
rising_from least from (s ∷ sales) le are = (let here = are.0 in omega arith, are.1)

rising_filter : (p : Sold → Bool) (least : ℕ) (sales : List Sold) → AreRising least sales → AreRising least (filter p sales)
rising_filter p least [] are = tt
rising_filter p least (s ∷ sales) are =
    elim (by_test (p s)) [
      | inl is ↦ rw is (are.0, rising_filter p (s.item + 1) sales are.1)
      | inr not ↦ rw not (rising_from least (s.item + 1) (filter p sales) (let here = are.0 in omega arith) (rising_filter p (s.item + 1) sales are.1))
    ]

sales_rising : (next : ℕ) (rows : List ItemRow) → AreInTurn (λ row. row.item.terms.item) next rows → AreRising next (filter_map of_row rows)
sales_rising next [] are = tt
sales_rising next (row ∷ rows) are =
    elim (by_test (was_sold row.item.terms.state)) [
      | inl is ↦ rw is (let here = are.0 in (omega arith, rw here (sales_rising (next + 1) rows are.1)))
      | inr not ↦ rw not (rising_from next (next + 1) (filter_map of_row rows) (omega arith) (sales_rising (next + 1) rows are.1))
    ]

rising_at : (least : ℕ) (sales : List Sold) (j : ℕ) (d : Sold) → AreRising least sales → j < length sales → least ≤ (get_or sales j d).item
rising_at least [] j d are lt = absurd (omega arith)
rising_at least (s ∷ sales) zero d are lt = are.0
rising_at least (s ∷ sales) (suc j) d are lt = let later = rising_at (s.item + 1) sales j d are.1 (omega arith) in let here = are.0 in omega arith

rising_apart : (least : ℕ) (sales : List Sold) (i j : ℕ) (d : Sold) → AreRising least sales → i < j → j < length sales → (get_or sales i d).item ≢ (get_or sales j d).item
rising_apart least [] i j d are before lt = absurd (omega arith)
rising_apart least (s ∷ sales) i zero d are before lt = absurd (omega arith)
rising_apart least (s ∷ sales) zero (suc j) d are before lt = λ same. let later = rising_at (s.item + 1) sales j d are.1 (omega arith) in omega arith
rising_apart least (s ∷ sales) (suc i) (suc j) d are before lt = rising_apart (s.item + 1) sales i j d are.1 (omega arith) (omega arith)

sales_few : (rows : List ItemRow) → length (filter_map of_row rows) ≤ length rows
sales_few [] = omega arith
sales_few (row ∷ rows) =
    let few = sales_few rows in
    elim (by_test (was_sold row.item.terms.state)) [ inl is ↦ rw is (omega arith) | inr not ↦ rw not (omega arith) ]

pub sales_to_fit : (t : Tables) (member : ℕ) → AreSound t → All IsSale (sales_to t member)
sales_to_fit t member sound = rw (sales_are t t.items member refl) (All-filter (is_party member) IsSale (filter_map of_row t.items) (sales_fit t t.items sound.items))

pub sales_to_apart : (t : Tables) (member : ℕ) → AreSound t → AllPairs (λ (a : Sold) (b : Sold). a.item ≢ b.item) (sales_to t member)
sales_to_apart t member sound =
    rw (sales_are t t.items member refl) (λ i j d. rising_apart 1 (filter (is_party member) (filter_map of_row t.items)) i j d (rising_filter (is_party member) 1 (filter_map of_row t.items) (sales_rising 1 t.items sound.items_in_turn)))

pub sales_to_few : (t : Tables) (member : ℕ) → AreSound t → length (sales_to t member) ≤ most_items
sales_to_few t member sound =
    let few = filter_few (is_party member) (filter_map of_row t.items) in let sales = sales_few t.items in let rows = sound.few_items in
    rw (sales_are t t.items member refl) (omega arith)
