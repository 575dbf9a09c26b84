-- What is handed out is of items whose rows are consistent.
use Rattle.std.proofs.Common.{◌≡◌, ◌≤◌, ◌⊎◌, ◌||◌, refl, ℕ, zero, suc, Bool, true, false, not, List, [], ◌∷◌, ◌++◌, map, filter, find, option_map, take, Option, Some, None, Result, Ok, Err, inl, inr, sym, subst}
use Rattle.std.specs.Prelude.{◌==◌, IfSome, OnOk}
use Rattle.std.specs.List.{AllByRecursion, list_any}
use Rattle.sqlite_trees.specs.Tree.{Trees}
use Rattle.sqlite_keyed.proofs.ListLemmas.{all_both, all_unmap, all-filter}
use Rattle.proxy.specs.Bids.{is_leader}
use Rattle.settle.specs.Statement.{is_party}
use Rattle.house_rows.specs.Changed.{is_item}
use Rattle.house_rows.specs.Fits.{TermsFit}
use Rattle.house_rows.specs.Found.{auction_of}
use Rattle.house_rows.specs.Keeping.{FitsBy, IsConsistentBy, IsKeptItemBy, IsKeptRowBy}
use Rattle.house_rows.specs.Taken.{FitWhere, may_be_party}
use Rattle.house_rows.specs.Pages.{sale_of}
use Rattle.house_rows.specs.Tables.{ItemRow}
use Rattle.house_rows.specs.Verdict.{was_sold}
use Rattle.house_rows.specs.declared.auction.Auction.{Auction}
use Rattle.house_rows.specs.declared.item.Item.{Item}
use Rattle.house_rows.specs.declared.item.Terms.{Terms}
use Rattle.house_rows.specs.Editions.{BandTables}
use Rattle.house_rows.proofs.Every.{every_as}
use Rattle.house_rows.proofs.Put.{by_test}
use Rattle.store_rows.specs.ItemRows.{items_in}
use Rattle.store_rows.specs.Tables.{tables_in}
use Rattle.store_rows.proofs.Wrote.{all_more}
use Rattle.store_items.specs.ConsistentRows.{HasStandingItem, RowsAreKept, RowsFit, RowsAreConsistent, ItemIsConsistent}
use Rattle.store_items.proofs.PartySales.{all_kept, buyer_is}
use Rattle.store_items.proofs.Rows.{whole}

pub ok_so : {A E : Type 0} {P : Type 0} (r : Result A E) → P → OnOk r P
ok_so (Ok a) so = so
ok_so (Err e) so = tt

pub ok_as : {A E : Type 0} {P Q : Type 0} (r : Result A E) → OnOk r P → (P → Q) → OnOk r Q
ok_as (Ok a) so as' = as' so
ok_as (Err e) so as' = tt

-- each row has a property, where one that has it comes besides
pub pushed : {A E : Type 0} (P : A → Type 0) (result : Result (Unit {0}) E) (old new : List A) (row : A)
    → OnOk result (new ≡ old ++ row ∷ []) → P row → AllByRecursion P old → OnOk result (AllByRecursion P new)
pushed P (Ok u) old new row is here each = rw is (all_more P old row each here)
pushed P (Err e) old new row is here each = tt

-- what is there is there whole
pub some_whole : {A : Type 0} (P : A → Type 0) (o : Option A) → IfSome (option_map (λ (x : A). x) o) P → IfSome o P
some_whole P None so = tt
some_whole P (Some x) so = so

pub map_whole : {A : Type 0} (P : A → Type 0) (xs : List A) → AllByRecursion P (map (λ (x : A). x) xs) → AllByRecursion P xs
map_whole P [] all = tt
map_whole P (x ∷ xs) all = (all.0, map_whole P xs all.1)

pub all_whole : {A : Type 0} (P : A → Type 0) (xs : List A) → AllByRecursion P (map (λ (x : A). x) (filter (λ _. true) xs)) → AllByRecursion P xs
all_whole P [] all = tt
all_whole P (x ∷ xs) all = (all.0, all_whole P xs all.1)

pub take_whole : {A : Type 0} (P : A → Type 0) (n : ℕ) (xs : List A) → AllByRecursion P (take n (map (λ (x : A). x) xs)) → AllByRecursion P (take n xs)
take_whole P zero xs all = tt
take_whole P (suc n) [] all = tt
take_whole P (suc n) (x ∷ xs) all = (all.0, take_whole P n xs all.1)

-- ---- the rows that pass a test

passed : {A : Type 0} (P : A → Type 0) (p : A → Bool) (xs : List A) → AllByRecursion (λ x. p x ≡ true → P x) xs → AllByRecursion P (filter p xs)
passed P p [] report = tt
passed P p (x ∷ xs) report =
    let rest = passed P p xs report.1 in
    elim (by_test (p x)) [ inl is ↦ rw is (report.0 is, rest) | inr not ↦ rw not rest ]

pub terms_fit : (db : Trees) (test : ItemRow → Bool) (found : List Terms) → found ≡ map (λ (row : ItemRow). row.item.terms) (filter test (items_in db)) → AllByRecursion TermsFit found → RowsFit test db
terms_fit db test found are fit = all_unmap TermsFit (λ (row : ItemRow). row.item.terms) (filter test (items_in db)) (rw are at fit)

module _ (editions : BandTables) (db : Trees) where
  abbrev IsConsistentRow : ItemRow → Type 0
  IsConsistentRow row = IsConsistentBy editions row.item.terms

  pub terms_are_consistent : (test : ItemRow → Bool) (found : List Terms) → found ≡ map (λ (row : ItemRow). row.item.terms) (filter test (items_in db)) → AllByRecursion (IsConsistentBy editions) found → RowsAreConsistent editions test db
  terms_are_consistent test found are stand = all_unmap (IsConsistentBy editions) (λ (row : ItemRow). row.item.terms) (filter test (items_in db)) (rw are at stand)

  pub items_are_consistent : (test : ItemRow → Bool) (items : List Item) → items ≡ map (λ (row : ItemRow). row.item) (items_in db) → AllByRecursion (λ (it : Item). IsConsistentBy editions it.terms) items → RowsAreConsistent editions test db
  items_are_consistent test items are stand =
      all-filter IsConsistentRow test (items_in db) (all_unmap (λ (it : Item). IsConsistentBy editions it.terms) (λ (row : ItemRow). row.item) (items_in db) (rw are at stand))

  -- those that pass the test by which items were found
  pub found_are_consistent : (test : ItemRow → Bool) (found : List Terms) → found ≡ map (λ (row : ItemRow). row.item.terms) (filter test (items_in db)) → AllByRecursion (IsConsistentBy editions) found
      → AllByRecursion (λ row. test row ≡ true → IsConsistentRow row) (items_in db)
  found_are_consistent test found are stand = all_kept IsConsistentRow test (items_in db) (terms_are_consistent test found are stand)

  -- ---- sales

  -- who is a party to the sale of an item sells or leads it
  party_known : (member : ℕ) (t : Terms) → 1 ≤ member → list_any (is_party member) (sale_of t) ≡ true → ((t.seller == member) ≡ true) ⊎ (is_leader t.leader member ≡ true)
  party_known member t some is =
      elim (by_test (was_sold t.state)) [
        | inl sold ↦ elim (by_test (t.seller == member)) [
          | inl mine ↦ inl mine
          | inr other ↦ elim (by_test (is_leader t.leader member)) [
            | inl leads ↦ inr leads
            | inr nor ↦ absurd (let e : false ≡ true = rw (sold, other, buyer_is t.leader member some, nor) at is in cc)
          ]
        ]
        | inr not ↦ absurd (let e : false ≡ true = rw not at is in cc)
      ]

  pub sales_are_consistent : (member : ℕ) (sold led : List Terms) → 1 ≤ member → sold ≡ map (λ (row : ItemRow). row.item.terms) (filter (λ row. row.item.terms.seller == member) (items_in db))
      → led ≡ map (λ (row : ItemRow). row.item.terms) (filter (λ row. is_leader row.item.terms.leader member) (items_in db)) → AllByRecursion (IsConsistentBy editions) sold → AllByRecursion (IsConsistentBy editions) led
      → RowsAreConsistent editions (λ row. list_any (is_party member) (sale_of row.item.terms)) db
  sales_are_consistent member sold led some sold_is led_is one other =
      let mine : ItemRow → Bool = λ row. row.item.terms.seller == member in
      let leads : ItemRow → Bool = λ row. is_leader row.item.terms.leader member in
      let party : ItemRow → Bool = λ row. list_any (is_party member) (sale_of row.item.terms) in
      passed IsConsistentRow party (items_in db)
      (all_both (λ row. mine row ≡ true → IsConsistentRow row) (λ row. leads row ≡ true → IsConsistentRow row) (λ row. party row ≡ true → IsConsistentRow row)
      (λ row by_seller by_leader is. elim (party_known member row.item.terms some is) [ inl sells' ↦ by_seller sells' | inr leads' ↦ by_leader leads' ])
      (items_in db) (found_are_consistent mine sold sold_is one) (found_are_consistent leads led led_is other))

  -- and of each what is sealed goes with what is shown
  pub sales_are_kept : (member : ℕ) → 1 ≤ member → RowsAreKept editions (λ row. row.item.terms.seller == member) db → RowsAreKept editions (λ row. is_leader row.item.terms.leader member) db
      → RowsAreKept editions (λ row. list_any (is_party member) (sale_of row.item.terms)) db
  sales_are_kept member some one other =
      let mine : ItemRow → Bool = λ row. row.item.terms.seller == member in
      let leads : ItemRow → Bool = λ row. is_leader row.item.terms.leader member in
      let party : ItemRow → Bool = λ row. list_any (is_party member) (sale_of row.item.terms) in
      passed (IsKeptRowBy editions) party (items_in db)
      (all_both (λ row. mine row ≡ true → IsKeptRowBy editions row) (λ row. leads row ≡ true → IsKeptRowBy editions row) (λ row. party row ≡ true → IsKeptRowBy editions row)
      (λ row by_seller by_leader is. elim (party_known member row.item.terms some is) [ inl sells' ↦ by_seller sells' | inr leads' ↦ by_leader leads' ])
      (items_in db) (all_kept (IsKeptRowBy editions) mine (items_in db) one) (all_kept (IsKeptRowBy editions) leads (items_in db) other))

  -- of all items those that pass a test are kept
  pub those_are_kept : (test : ItemRow → Bool) → AllByRecursion (IsKeptRowBy editions) (items_in db) → RowsAreKept editions test db
  those_are_kept test all = all-filter (IsKeptRowBy editions) test (items_in db) all

  -- ---- what a member has bid

  pub terms_in : (item : ℕ) (terms : Option Terms) → terms ≡ option_map (λ (row : ItemRow). row.item.terms) (find (is_item item) (items_in db)) → IfSome terms (IsConsistentBy editions) → ItemIsConsistent editions db item
  unfolding tables_in
  terms_in item terms are stand = rw are at stand

  -- ---- an item that is looked up

  pub has_standing_item : (item : ℕ) (a : Auction) → option_map auction_of (find (is_item item) (items_in db)) ≡ Some a → TermsFit a.terms → IsConsistentBy editions a.terms → IsKeptItemBy editions a.terms a.standing
      → HasStandingItem editions db item
  unfolding tables_in
  has_standing_item item a found fits is_consistent kept =
      let row = whole auction_of (find (is_item item) (items_in db)) a found in
      record {
        row = row.0;
        row_there = row.1;
        fits = subst (λ (x : Auction). TermsFit x.terms) (sym row.2) fits;
        is_consistent = subst (λ (x : Auction). IsConsistentBy editions x.terms) (sym row.2) is_consistent;
        kept = subst (λ (x : Auction). IsKeptItemBy editions x.terms x.standing) (sym row.2) kept;
      }

-- ---- rows that a member's sales take

sells_passes : (nobody mine leads : Bool) → mine ≡ true → (nobody || (mine || leads)) ≡ true
sells_passes true mine leads is = refl
sells_passes false true leads is = refl
sells_passes false false leads is = absurd (let e : false ≡ true = is in cc)

leads_passes : (nobody mine leads : Bool) → leads ≡ true → (nobody || (mine || leads)) ≡ true
leads_passes true mine leads is = refl
leads_passes false true leads is = refl
leads_passes false false leads is = is

nobody_passes : (nobody other : Bool) → nobody ≡ true → (nobody || other) ≡ true
nobody_passes true other is = refl
nobody_passes false other is = absurd (let e : false ≡ true = is in cc)

module _ (editions : BandTables) (db : Trees) (member : ℕ) (fits : FitWhere (may_be_party member) (FitsBy editions) (items_in db)) where
  pub sold_fit : FitWhere (λ row. row.item.terms.seller == member) (FitsBy editions) (items_in db)
  sold_fit = every_as (λ (row : ItemRow). may_be_party member row ≡ true → FitsBy editions row) (λ (row : ItemRow). (row.item.terms.seller == member) ≡ true → FitsBy editions row) (items_in db)
      (λ row fit is. fit (sells_passes (member == 0) (row.item.terms.seller == member) (is_leader row.item.terms.leader member) is)) fits

  pub led_fit : FitWhere (λ row. is_leader row.item.terms.leader member) (FitsBy editions) (items_in db)
  led_fit = every_as (λ (row : ItemRow). may_be_party member row ≡ true → FitsBy editions row) (λ (row : ItemRow). is_leader row.item.terms.leader member ≡ true → FitsBy editions row) (items_in db)
      (λ row fit is. fit (leads_passes (member == 0) (row.item.terms.seller == member) (is_leader row.item.terms.leader member) is)) fits

  pub all_fit : (member == 0) ≡ true → AllByRecursion (FitsBy editions) (items_in db)
  all_fit nobody = every_as (λ (row : ItemRow). may_be_party member row ≡ true → FitsBy editions row) (FitsBy editions) (items_in db)
      (λ row fit. fit (nobody_passes (member == 0) _ nobody)) fits
