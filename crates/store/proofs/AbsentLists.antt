-- A list by a number of more than 32 bits is empty.
use Rattle.std.proofs.Common.{◌≡◌, ◌<◌, ◌≤◌, ◌^◌, ◌&&◌, ◌∙◌, ℕ, List, [], ◌∷◌, Bool, true, false, not, Option, Some, None, cond, find, filter, map, refl, ap, arith, subst, sym, true≢false}
use Rattle.std.specs.Prelude.{◌==◌, is_some, nat_le, nat_lt, take, unwrap_or}
use Rattle.std.specs.List.{AllByRecursion, list_any}
use Rattle.std.proofs.lemmas.List.Elements.{filter-append}
use Rattle.sqlite_trees.specs.Tree.{Trees}
use Rattle.settle.specs.Statement.{is_party}
use Rattle.proxy.specs.Bids.{is_leader}
use Rattle.house_rows.specs.Changed.{is_item}
use Rattle.house_rows.specs.Found.{feedback_to, first_waiting, is_watched, items_in, items_watched, own_bid, own_bids, own_reserves, published_on, questions_of, reserves_in, sales_in, sales_to, sells, waiting_for}
use Rattle.house_rows.specs.Keeping.{AllConsistent, AllKept, AreKeptWatched, IsConsistentIn, IsKeptRow}
use Rattle.house_rows.specs.Limits.{most_shown}
use Rattle.house_rows.specs.Pages.{sale_of}
use Rattle.house_rows.specs.Tables.{ItemRow}
use Rattle.house_rows.specs.Taken.{has_own_reserve}
use Rattle.house_rows.specs.Verdict.{was_sold}
use Rattle.house_rows.specs.declared.item.Item.{Item}
use Rattle.house_rows.specs.declared.item.OwnBid.{OwnBid}
use Rattle.house_rows.specs.declared.item.Terms.{Terms}
use Rattle.house_rows.specs.declared.talk.Feedback.{Feedback}
use Rattle.house_rows.specs.declared.talk.Question.{Question}
use Rattle.store_rows.specs.ItemRows as stored
use Rattle.store_rows.proofs.Small.{none_narrower}
use Rattle.store_items.proofs.Small.{no_items_in, no_items_led, no_items_of}
use Rattle.store_rows.specs.Sorted.{sorted_feedback, sorted_questions}
use Rattle.store_rows.specs.Tables.{tables_in}
use Rattle.store_rows.proofs.SmallByKey.{no_feedback_to, no_questions_by, no_questions_on}
use Rattle.store.proofs.Absent.{no_bids_of, no_watcher}
use Rattle.store.proofs.Nothing.{always_fails, each_fails, first_fails, none_among, second_fails}

-- of rows that fail, what they show fails
shown_fail : (p : Item → Bool) (rows : List ItemRow) → AllByRecursion (λ (row : ItemRow). p row.item ≡ false) rows → filter p (map (λ (row : ItemRow). row.item) rows) ≡ []
shown_fail p [] all = refl
shown_fail p (row ∷ rows) all = rw all.0 (shown_fail p rows all.1)

-- ---- sales

buyer_other : (leader : Option ℕ) (n : ℕ) → 2 ^ 32 ≤ n → is_leader leader n ≡ false → (unwrap_or leader 0 == n) ≡ false
buyer_other None n high other = grind arith
buyer_other (Some l) n high other = other

no_sale : (terms : Terms) (n : ℕ) → 2 ^ 32 ≤ n → (terms.seller == n) ≡ false → is_leader terms.leader n ≡ false → filter (is_party n) (sale_of terms) ≡ []
no_sale terms n high seller leader = report (was_sold terms.state)
  where
    report : (b : Bool)
        → filter (is_party n) (cond b (record { item = terms.item; seller = terms.seller; buyer = unwrap_or terms.leader 0; closed = unwrap_or terms.closed 0; price = terms.price } ∷ []) []) ≡ []
    report true = rw (seller, buyer_other terms.leader n high leader) refl
    report false = refl

none_sold : (rows : List ItemRow) (n : ℕ) → 2 ^ 32 ≤ n → AllByRecursion (λ (row : ItemRow). (row.item.terms.seller == n) ≡ false) rows
    → AllByRecursion (λ (row : ItemRow). is_leader row.item.terms.leader n ≡ false) rows → filter (is_party n) (sales_in (map (λ (row : ItemRow). row.item) rows)) ≡ []
none_sold [] n high sellers leaders = refl
none_sold (row ∷ rows) n high sellers leaders =
    filter-append (is_party n) (sale_of row.item.terms) (sales_in (map (λ (r : ItemRow). r.item) rows))
    ∙ (rw (no_sale row.item.terms n high sellers.0 leaders.0, none_sold rows n high sellers.1 leaders.1) refl)

no_party : (terms : Terms) (n : ℕ) → 2 ^ 32 ≤ n → (terms.seller == n) ≡ false → is_leader terms.leader n ≡ false → list_any (is_party n) (sale_of terms) ≡ false
no_party terms n high seller leader = report (was_sold terms.state)
  where
    report : (b : Bool)
        → list_any (is_party n) (cond b (record { item = terms.item; seller = terms.seller; buyer = unwrap_or terms.leader 0; closed = unwrap_or terms.closed 0; price = terms.price } ∷ []) []) ≡ false
    report true = rw (seller, buyer_other terms.leader n high leader) refl
    report false = refl

-- and no row is one of such a sale
none_party : (P : ItemRow → Type 0) (rows : List ItemRow) (n : ℕ) → 2 ^ 32 ≤ n → AllByRecursion (λ (row : ItemRow). (row.item.terms.seller == n) ≡ false) rows
    → AllByRecursion (λ (row : ItemRow). is_leader row.item.terms.leader n ≡ false) rows → AllByRecursion P (filter (λ (row : ItemRow). list_any (is_party n) (sale_of row.item.terms)) rows)
none_party P [] n high sellers leaders = tt
none_party P (row ∷ rows) n high sellers leaders = rw (no_party row.item.terms n high sellers.0 leaders.0) (none_party P rows n high sellers.1 leaders.1)

-- ---- what waits

first_sells : (row : ItemRow) (rest : Option ItemRow) (n : ℕ) (b : Bool) → (row.item.terms.seller == n) ≡ false → sells rest n ≡ false → sells (cond b (Some row) rest) n ≡ false
first_sells row rest n true first others = first
first_sells row rest n false first others = others

not_sold_by : (rows : List ItemRow) (n item : ℕ) → AllByRecursion (λ (row : ItemRow). (row.item.terms.seller == n) ≡ false) rows → sells (find (is_item item) rows) n ≡ false
not_sold_by [] n item all = refl
not_sold_by (row ∷ rows) n item all = first_sells row (find (is_item item) rows) n (is_item item row) all.0 (not_sold_by rows n item all.1)

module _ (db : Trees) (n : ℕ) (high : 2 ^ 32 ≤ n) (low : n < 2 ^ 64) where
  pub no_items : (from : ℕ) → items_in (tables_in db) n from ≡ []
  unfolding tables_in
  no_items from =
      let p : ItemRow → Bool = λ (row : ItemRow). row.item.terms.category == n in
      let q : ItemRow → Bool = λ (row : ItemRow). (row.item.terms.category == n) && nat_le from row.item.terms.item in
      ap (take most_shown) (shown_fail (λ (it : Item). (it.terms.category == n) && nat_le from it.terms.item) (stored.items_in db)
      (each_fails q (stored.items_in db) ((none_narrower p q (λ row other. first_fails (row.item.terms.category == n) (nat_le from row.item.terms.item) other) (stored.items_in db) (no_items_in db n high low)).1)))

  pub no_rows_kept : (from : ℕ) → AllByRecursion (IsKeptRow (tables_in db)) (take most_shown (filter (λ row. (row.item.terms.category == n) && nat_le from row.item.terms.item) (tables_in db).items))
  unfolding tables_in
  no_rows_kept from =
      let p : ItemRow → Bool = λ (row : ItemRow). row.item.terms.category == n in
      let q : ItemRow → Bool = λ (row : ItemRow). (row.item.terms.category == n) && nat_le from row.item.terms.item in
      subst (λ (l : List ItemRow). AllByRecursion (IsKeptRow (tables_in db)) (take most_shown l))
      (sym ((none_narrower p q (λ row other. first_fails (row.item.terms.category == n) (nat_le from row.item.terms.item) other) (stored.items_in db) (no_items_in db n high low)).1)) tt

  pub no_watched_kept : AreKeptWatched n (tables_in db)
  unfolding tables_in
  no_watched_kept item is = absurd (true≢false (sym is ∙ no_watcher db n high low item))

  none_bid : (from : ℕ) (its : List Item) → filter (λ (b : OwnBid). nat_lt 0 b.mine && nat_le from b.item) (map (own_bid (tables_in db) n) its) ≡ []
  none_bid from [] = refl
  none_bid from (it ∷ its) = rw (no_bids_of db n high low it.terms.item) (none_bid from its)

  pub no_own_bids : (from : ℕ) → own_bids (tables_in db) n from ≡ []
  no_own_bids from = ap (take most_shown) (none_bid from (map (λ (row : ItemRow). row.item) (tables_in db).items))

  pub no_reserves : (from : ℕ) → own_reserves (tables_in db) n from ≡ []
  unfolding tables_in
  no_reserves from = ap (λ (rows : List ItemRow). take most_shown (filter (λ r. nat_le from r.item) (reserves_in rows))) (no_items_of db n high low)

  pub no_reserves_kept : (from : ℕ) → AllByRecursion (IsKeptRow (tables_in db)) (take most_shown (filter (has_own_reserve n from) (tables_in db).items))
  unfolding tables_in
  no_reserves_kept from =
      let p : ItemRow → Bool = λ (row : ItemRow). row.item.terms.seller == n in
      subst (λ (l : List ItemRow). AllByRecursion (IsKeptRow (tables_in db)) (take most_shown l))
      (sym ((none_narrower p (has_own_reserve n from) (λ row other. first_fails (row.item.terms.seller == n) (is_some row.standing.reserve && nat_le from row.item.terms.item) other) (stored.items_in db) (no_items_of db n high low)).1)) tt

  pub no_published : (from : ℕ) → published_on (tables_in db) n from ≡ []
  unfolding tables_in
  no_published from =
      let p : Question → Bool = λ (q : Question). q.item == n in
      let listed : Question → Bool = λ (q : Question). (q.item == n) && nat_le from q.asker in
      ap (take most_shown) (none_among listed (λ (q : Question). is_some q.answer) (sorted_questions db)
      ((none_narrower p listed (λ q other. first_fails (q.item == n) (nat_le from q.asker) other) (sorted_questions db) (no_questions_on db n high low)).1))

  pub no_own_questions : (from : ℕ) → questions_of (tables_in db) n from ≡ []
  unfolding tables_in
  no_own_questions from =
      ap (take most_shown) ((none_narrower (λ (q : Question). q.asker == n) (λ (q : Question). (q.asker == n) && nat_le from q.item)
      (λ q other. first_fails (q.asker == n) (nat_le from q.item) other) (sorted_questions db) (no_questions_by db n high low)).1)

  pub no_feedback : (from : ℕ) → feedback_to (tables_in db) n from ≡ []
  unfolding tables_in
  no_feedback from =
      ap (take most_shown) ((none_narrower (λ (f : Feedback). f.to == n) (λ (f : Feedback). (f.to == n) && nat_le from f.item)
      (λ f other. first_fails (f.to == n) (nat_le from f.item) other) (sorted_feedback db) (no_feedback_to db n high low)).1)

  pub no_items_watched : items_watched (tables_in db) n ≡ []
  unfolding tables_in
  no_items_watched =
      always_fails (λ (it : Item). is_watched (tables_in db) n it.terms.item) (λ it. no_watcher db n high low it.terms.item) (map (λ (row : ItemRow). row.item) (stored.items_in db))

  sellers_other : AllByRecursion (λ (row : ItemRow). (row.item.terms.seller == n) ≡ false) (stored.items_in db)
  sellers_other = each_fails (λ (row : ItemRow). row.item.terms.seller == n) (stored.items_in db) (no_items_of db n high low)

  pub no_waiting : waiting_for (tables_in db) n ≡ []
  unfolding tables_in
  no_waiting =
      always_fails (λ (q : Question). not (is_some q.answer) && sells (find (is_item q.item) (stored.items_in db)) n)
      (λ q. second_fails (not (is_some q.answer)) (sells (find (is_item q.item) (stored.items_in db)) n) (not_sold_by (stored.items_in db) n q.item sellers_other)) (sorted_questions db)

  pub no_first_waiting : first_waiting (tables_in db) n ≡ []
  no_first_waiting = ap (take most_shown) no_waiting

  pub no_sales : sales_to (tables_in db) n ≡ []
  unfolding tables_in
  no_sales =
      none_sold (stored.items_in db) n high sellers_other
      (each_fails (λ (row : ItemRow). is_leader row.item.terms.leader n) (stored.items_in db) (no_items_led db n high low))

  pub no_rows_sold : AllConsistent (λ (row : ItemRow). list_any (is_party n) (sale_of row.item.terms)) (tables_in db)
  unfolding tables_in
  no_rows_sold =
      none_party (λ (row : ItemRow). IsConsistentIn (tables_in db) row.item.terms) (stored.items_in db) n high sellers_other
      (each_fails (λ (row : ItemRow). is_leader row.item.terms.leader n) (stored.items_in db) (no_items_led db n high low))

  pub no_sold_kept : AllKept (λ (row : ItemRow). list_any (is_party n) (sale_of row.item.terms)) (tables_in db)
  unfolding tables_in
  no_sold_kept =
      none_party (IsKeptRow (tables_in db)) (stored.items_in db) n high sellers_other
      (each_fails (λ (row : ItemRow). is_leader row.item.terms.leader n) (stored.items_in db) (no_items_led db n high low))

  pub no_seller_kept : AllKept (λ (row : ItemRow). row.item.terms.seller == n) (tables_in db)
  unfolding tables_in
  no_seller_kept = subst (AllByRecursion (IsKeptRow (tables_in db))) (sym (no_items_of db n high low)) tt
