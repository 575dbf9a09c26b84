-- A close, item by item, is a close of all.
use Rattle.std.proofs.Common.{◌≡◌, ◌≢◌, ◌≤◌, ◌<◌, ◌^◌, ◌+◌, suc, get_or, drop, drop-cons, ap₂, ℕ, Bool, true, false, List, [], ◌∷◌, map, filter, length, Some, refl, sym, ap, subst, ◌∙◌, arith, inl, inr, true≢false}
use Rattle.std.specs.Prelude.{◌==◌, All}
use Rattle.std.specs.List.{AllByRecursion, list_any}
use Rattle.std.proofs.lemmas.Bool.Decides.{nat_tests}
use Rattle.std.proofs.lemmas.List.{drop_all}
use Rattle.std.proofs.lemmas.List.Elements.{All-from_recursion, All-map, All-weaker}
use Rattle.sqlite_rules.specs.Lists.{Has}
use Rattle.sqlite_rules.proofs.ListLemmas.{all_from, all_has, has_filtered, some_from}
use Rattle.sqlite_rules.proofs.ProbeLemmas.{has_mapped}
use Rattle.sqlite_keyed.proofs.ListLemmas.{all_both, map-map}
use Rattle.sqlite_schema.specs.declared.schema.Table.{Table}
use Rattle.sqlite.specs.Effect.{Database}
use Rattle.house_rows.specs.declared.item.Terms.{Terms}
use Rattle.house_rows.specs.Changed.{is_item, with_close, with_terms}
use Rattle.house_rows.specs.Fits.{TermsFit}
use Rattle.house_rows.specs.Items.{close_sells, closed_state, is_due}
use Rattle.house_rows.specs.Tables.{ItemRow}
use Rattle.house_rows.proofs.Put.{by_test}
use Rattle.store_rows.specs.House.{IsHouse, KeepsOthers}
use Rattle.store_rows.specs.ItemRows.{items_in}
use Rattle.store_rows.specs.Schema.{house_schema}
use Rattle.store_rows.proofs.Update.{map_on}
use Rattle.store_items.specs.Items.{OfItem, SetsClosed, with_end, SetsItems}
use Rattle.store_selling.specs.Sales.{IsDue, StartFits, StartsFit, with_ends}
use Rattle.store_items.proofs.Rows.{one_item}

-- ---- members of lists

has_kept : {X : Type 0} (p : X → Bool) (xs : List X) (x : X) → Has xs x → p x ≡ true → Has (filter p xs) x
has_kept p [] x has is = absurd has
has_kept p (y ∷ ys) x (inl same) is = (let here : p y ≡ true = subst (λ z. p z ≡ true) same is in rw here (inl same))
has_kept p (y ∷ ys) x (inr later) is =
    elim (by_test (p y)) [ inl here ↦ rw here (inr (has_kept p ys x later is)) | inr other ↦ rw other (has_kept p ys x later is) ]

has_part : {X Y : Type 0} (f : X → Y) (xs : List X) (x : X) → Has xs x → Has (map f xs) (f x)
has_part f [] x has = absurd has
has_part f (y ∷ ys) x (inl same) = inl (ap f same)
has_part f (y ∷ ys) x (inr later) = inr (has_part f ys x later)

one_of_few : {X : Type 0} (xs : List X) (x y : X) → length xs ≤ 1 → Has xs x → Has xs y → x ≡ y
one_of_few [] x y few has also = absurd has
one_of_few (z ∷ []) x y few (inl e) (inl f) = e ∙ sym f
one_of_few (z ∷ []) x y few (inl e) (inr f) = absurd f
one_of_few (z ∷ []) x y few (inr e) also = absurd e
one_of_few (z ∷ w ∷ xs) x y few has also = absurd (omega (arith, few))

-- ---- one row

pub end_number : (item : ℕ) (is_sold : Bool) (row : ItemRow) → (with_end item is_sold row).item.terms.item ≡ row.item.terms.item
end_number item is_sold row = elim (by_test (is_item item row)) [ inl is ↦ rw is refl | inr other ↦ rw other refl ]

end_start : (item : ℕ) (is_sold : Bool) (row : ItemRow) → (with_end item is_sold row).item.terms.start ≡ row.item.terms.start
end_start item is_sold row = elim (by_test (is_item item row)) [ inl is ↦ rw is refl | inr other ↦ rw other refl ]

-- an item closed at its end
abbrev ended : ItemRow → ItemRow
ended row = with_terms (record row.item.terms { state = closed_state (close_sells row.item.terms.leader row.item.terms.met); closed = Some row.item.terms.end }) row

-- terms with the row's number are the row's own
abbrev Knows : ItemRow → List Terms → Type 0
Knows row ts = AllByRecursion (λ (t : Terms). is_item t.item row ≡ true → t ≡ row.item.terms) ts

end_other : (t : Terms) (row : ItemRow) → is_item t.item row ≡ false → with_end t.item (close_sells t.leader t.met) row ≡ row
end_other t row other = rw other refl

end_here : (t : Terms) (row : ItemRow) → is_item t.item row ≡ true → t ≡ row.item.terms → with_end t.item (close_sells t.leader t.met) row ≡ ended row
end_here t row is same = rw is (ap (λ (x : Terms). with_terms (record row.item.terms { state = closed_state (close_sells x.leader x.met); closed = Some row.item.terms.end }) row) same)

end_again : (t : Terms) (row : ItemRow) → is_item t.item row ≡ true → t ≡ row.item.terms → with_end t.item (close_sells t.leader t.met) (ended row) ≡ ended row
end_again t row is same = rw is (ap (λ (x : Terms). with_terms (record row.item.terms { state = closed_state (close_sells x.leader x.met); closed = Some row.item.terms.end }) row) same)

ends_again : (ts : List Terms) (row : ItemRow) → Knows row ts → with_ends ts (ended row) ≡ ended row
ends_again [] row known = refl
ends_again (t ∷ ts) row known =
    elim (by_test (is_item t.item row)) [
      | inl is ↦ ap (with_ends ts) (end_again t row is (known.0 is)) ∙ ends_again ts row known.1
      | inr other ↦ ap (with_ends ts) (end_other t (ended row) other) ∙ ends_again ts row known.1
    ]

ends_here : (ts : List Terms) (row : ItemRow) → Knows row ts → list_any (λ (t : Terms). is_item t.item row) ts ≡ true → with_ends ts row ≡ ended row
ends_here [] row known some = absurd (true≢false (sym some))
ends_here (t ∷ ts) row known some =
    elim (by_test (is_item t.item row)) [
      | inl is ↦ ap (with_ends ts) (end_here t row is (known.0 is)) ∙ ends_again ts row known.1
      | inr other ↦ (let later : list_any (λ (t : Terms). is_item t.item row) ts ≡ true = rw other at some in ap (with_ends ts) (end_other t row other) ∙ ends_here ts row known.1 later)
    ]

ends_none : (ts : List Terms) (row : ItemRow) → AllByRecursion (λ (t : Terms). is_item t.item row ≡ false) ts → with_ends ts row ≡ row
ends_none [] row none = refl
ends_none (t ∷ ts) row none = ap (with_ends ts) (end_other t row none.0) ∙ ends_none ts row none.1

-- ---- all rows

module _ (moment : ℕ) (due : List Terms) (db : Database) (house : IsHouse db) (is : IsDue moment due db.trees) where
  items : List ItemRow
  items = items_in db.trees

  -- whose terms they are
  owner : (t : Terms) → Has due t → (row : ItemRow) × Has (items_in db.trees) row × (is_due moment row.item.terms ≡ true) × (t ≡ row.item.terms)
  owner t has =
      let found = has_mapped (λ (row : ItemRow). row.item.terms) (filter (λ row. is_due moment row.item.terms) (items_in db.trees)) t (subst (λ (l : List Terms). Has l t) is.all has) in
      let there = has_filtered (λ (row : ItemRow). is_due moment row.item.terms) (items_in db.trees) found.0 found.1 in
      (found.0, there.0, there.1, found.2)

  knows : (row : ItemRow) → Has (items_in db.trees) row → Knows row due
  knows row has = all_from (λ (t : Terms). is_item t.item row ≡ true → t ≡ row.item.terms) due one
    where
      one : (t : Terms) → Has due t → is_item t.item row ≡ true → t ≡ row.item.terms
      one t there here =
          let own = owner t there in
          let fits = all_has TermsFit due t is.fits there in
          let low : t.item < 2 ^ 32 = (let most = fits.item.1 in omega (arith, most)) in
          let self : (t.item == t.item) ≡ true = grind (arith, nat_tests) in
          let also : is_item t.item own.0 ≡ true = subst (λ (x : Terms). (x.item == t.item) ≡ true) own.3 self in
          let same = one_of_few (filter (is_item t.item) (items_in db.trees)) own.0 row (one_item db house t.item low) (has_kept (is_item t.item) (items_in db.trees) own.0 own.1 also) (has_kept (is_item t.item) (items_in db.trees) row has here) in
          own.3 ∙ ap (λ (r : ItemRow). r.item.terms) same

  row_closed : (row : ItemRow) → Has (items_in db.trees) row → with_ends due row ≡ with_close moment row
  row_closed row has =
      elim (by_test (is_due moment row.item.terms)) [
        | inl due_now ↦ (let self : is_item row.item.terms.item row ≡ true = grind (arith, nat_tests) in
            let kept = has_part (λ (r : ItemRow). r.item.terms) (filter (λ r. is_due moment r.item.terms) (items_in db.trees)) row (has_kept (λ (r : ItemRow). is_due moment r.item.terms) (items_in db.trees) row has due_now) in
            let some = some_from (λ (t : Terms). is_item t.item row) due row.item.terms (subst (λ (l : List Terms). Has l row.item.terms) (sym is.all) kept) self in
            ends_here due row (knows row has) some ∙ rw due_now refl)
        | inr later ↦ ends_none due row (all_from (λ (t : Terms). is_item t.item row ≡ false) due (none row has later)) ∙ rw later refl
      ]
    where
      none : (row : ItemRow) → Has (items_in db.trees) row → is_due moment row.item.terms ≡ false → (t : Terms) → Has due t → is_item t.item row ≡ false
      none row has later t there =
          elim (by_test (is_item t.item row)) [
            | inr other ↦ other
            | inl here ↦ (let own = owner t there in
                let same = all_has (λ (t : Terms). is_item t.item row ≡ true → t ≡ row.item.terms) due t (knows row has) there here in
                let terms : own.0.item.terms ≡ row.item.terms = sym own.3 ∙ same in
                absurd (true≢false (sym own.2 ∙ ap (is_due moment) terms ∙ later)))
          ]

  -- each in turn is all
  pub closes_all : map (with_ends due) (items_in db.trees) ≡ map (with_close moment) (items_in db.trees)
  closes_all = map_on (Has (items_in db.trees)) (with_ends due) (with_close moment) row_closed (items_in db.trees) (all_from (Has (items_in db.trees)) (items_in db.trees) (λ row has. has))

  pub starts_fit : StartsFit due db
  starts_fit = all_from (λ (t : Terms). OfItem t.item StartFits db) due one
    where
      start : (t : Terms) → Has due t → (row : ItemRow) → Has (items_in db.trees) row → is_item t.item row ≡ true → StartFits row
      start t there row has here =
          let same = all_has (λ (t : Terms). is_item t.item row ≡ true → t ≡ row.item.terms) due t (knows row has) there here in
          let fits = subst TermsFit same (all_has TermsFit due t is.fits there) in
          fits.start.1

      one : (t : Terms) → Has due t → OfItem t.item StartFits db
      one t there = All-from_recursion (λ row. is_item t.item row ≡ true → StartFits row) (items_in db.trees) (all_from (λ row. is_item t.item row ≡ true → StartFits row) (items_in db.trees) (start t there))

-- ---- item by item

-- some of the items are closed, and the rest is to come
pub record IsClosing (due rest : List Terms) (old now : Database) : Type 0 where
  pub house : IsHouse now
  pub schema : now.schema ≡ old.schema
  pub others : KeepsOthers 6 old now
  pub starts : StartsFit due now
  pub items : map (with_ends rest) (items_in now.trees) ≡ map (with_ends due) (items_in old.trees)

pub closing_goes_on : (due rest : List Terms) (t : Terms) (old now next : Database) → IsClosing due (t ∷ rest) old now → OfItem t.item StartFits now → SetsClosed t.item (close_sells t.leader t.met) now next → IsClosing due rest old next
closing_goes_on due rest t old now next so fits sets = record {
  house = sets.house;
  schema = sets.schema ∙ so.schema;
  others = all_both (λ (x : Table). x.tree ≢ 6 → now.trees x.tree ≡ old.trees x.tree) (λ (x : Table). x.tree ≢ 6 → next.trees x.tree ≡ now.trees x.tree) (λ (x : Table). x.tree ≢ 6 → next.trees x.tree ≡ old.trees x.tree)
      (λ x before after other. after other ∙ before other) house_schema.tables so.others sets.others;
  starts = still due so.starts;
  items = ap (map (with_ends rest)) (sets.items fits) ∙ map-map (with_ends rest) (with_end t.item (close_sells t.leader t.met)) (items_in now.trees) ∙ so.items;
}
  where
    one : (item : ℕ) → OfItem item StartFits now → OfItem item StartFits next
    one item all =
        subst (λ (rows : List ItemRow). All (λ row. is_item item row ≡ true → StartFits row) rows) (sym (sets.items fits))
        (All-map (λ row. is_item item row ≡ true → StartFits row) (with_end t.item (close_sells t.leader t.met)) (items_in now.trees)
        (All-weaker (λ row. is_item item row ≡ true → StartFits row) (λ row. is_item item (with_end t.item (close_sells t.leader t.met) row) ≡ true → StartFits (with_end t.item (close_sells t.leader t.met) row))
        (λ row fit here. rw (end_start t.item (close_sells t.leader t.met) row) (fit (rw (end_number t.item (close_sells t.leader t.met) row) at here))) (items_in now.trees) all))

    still : (ts : List Terms) → StartsFit ts now → StartsFit ts next
    still [] all = tt
    still (x ∷ ts) all = (one x.item all.0, still ts all.1)

every_same : {X : Type 0} (f : X → X) → ((x : X) → f x ≡ x) → (xs : List X) → map f xs ≡ xs
every_same f same [] = refl
every_same f same (x ∷ xs) = rw (same x, every_same f same xs) refl

pub closing_ends : (due : List Terms) (old now : Database) → IsClosing due [] old now → SetsItems (with_ends due) old now
closing_ends due old now so = record { house = so.house; schema = so.schema; others = so.others; items = sym (every_same (with_ends []) (λ row. refl) (items_in now.trees)) ∙ so.items }

-- the item at a place is closed
pub closing_steps : (due : List Terms) (i : ℕ) (t : Terms) (is_sold : Bool) (old now next : Database) → i < length due → t ≡ get_or due i t → is_sold ≡ close_sells t.leader t.met → IsClosing due (drop i due) old now → SetsClosed t.item is_sold now next
    → IsClosing due (drop (i + 1) due) old next
closing_steps due i t is_sold old now next within is sold so sets =
    let next_place : suc i ≡ i + 1 = omega arith in
    let seen : drop i due ≡ t ∷ drop (i + 1) due = drop-cons due i t within ∙ ap₂ (λ x n. x ∷ drop n due) (sym is) next_place in
    let fits = subst (λ (x : Terms). OfItem x.item StartFits now) (sym is) (All-from_recursion (λ (x : Terms). OfItem x.item StartFits now) due so.starts i t within) in
    closing_goes_on due (drop (i + 1) due) t old now next (subst (λ (rest : List Terms). IsClosing due rest old now) seen so) fits (subst (λ (b : Bool). SetsClosed t.item b now next) sold sets)

pub closing_done : (due : List Terms) (i : ℕ) (old now : Database) → length due ≤ i → IsClosing due (drop i due) old now → SetsItems (with_ends due) old now
closing_done due i old now over so = closing_ends due old now (subst (λ (rest : List Terms). IsClosing due rest old now) (drop_all i due over) so)
