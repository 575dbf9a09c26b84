-- The reserves that a member has sealed, by the rows of what it sells.
use Rattle.std.proofs.Common.{◌≡◌, ◌==◌, ◌++◌, ◌&&◌, ◌+◌, ◌-◌, ◌<◌, ◌≤◌, ◌^◌, ℕ, zero, suc, pos, Bool, true, false, cond, List, [], ◌∷◌, Option, Some, None, map, filter, flat_map, take, length, refl, sym, ap, ap₂, subst, ◌∙◌, arith, true≢false}
use Rattle.std.specs.Prelude.{Err, Ok, OnOk, Result, is_some, nat_le}
use Rattle.std.specs.List.{AllByRecursion}
use Rattle.std.proofs.lemmas.List.{append-nil, length-append}
use Rattle.std.proofs.lemmas.List.Elements.{filter-append}
use Rattle.sqlite_value.specs.declared.value.Value.TheVariants.{Int}
use Rattle.sqlite_value.specs.Order.{Row, column}
use Rattle.sqlite_trees.specs.Tree.{Trees}
use Rattle.sqlite_keyed.proofs.ListLemmas.{all-filter}
use Rattle.house_rows.specs.Found.{own_reserve, own_reserves, reserves_in as reserves_reported}
use Rattle.house_rows.specs.Limits.{most_shown}
use Rattle.house_rows.specs.Pages.{reserve_reported}
use Rattle.house_rows.specs.Tables.{ItemRow}
use Rattle.house_rows.specs.Taken.{has_own_reserve, up_to}
use Rattle.house_rows.specs.declared.item.OwnReserve.{OwnReserve}
use Rattle.house_rows.specs.declared.item.Terms.{Terms}
use Rattle.store_rows.specs.ItemRows.{amount_of, item_row_in, items_in, terms_by}
use Rattle.store_rows.specs.Plain.{passes, shown_by}
use Rattle.store_rows.specs.Rows.{number_in, reserves_in}
use Rattle.store_rows.specs.Tables.{tables_in}
use Rattle.store_rows.specs.declared.reserve.ReserveRow.{ReserveRow}
use Rattle.store_rows.proofs.Select.{equals}
use Rattle.store_items.specs.OwnReserves.{reserve_in, reserve_shown}
use Rattle.store_items.proofs.ItemMeaning.{terms_shown}
use Rattle.store_items.proofs.Rows.{IsReserved, rows_reserved}
use Rattle.store_items.proofs.TermFinds.{IsRow, seller_test}
use Rattle.store_items.proofs.UpTo.{up_to-more}

-- ---- which reserves are shown

-- the reserve of an item, if it has one and its number is not below another
abbrev reserve_from : List ReserveRow → ℕ → Terms → List OwnReserve
reserve_from reserves from t = filter (λ r. nat_le from r.item) (reserve_reported t (amount_of reserves t.item))

report_from : (t : Terms) (from : ℕ) (b : Bool) (o : Option ℕ) → nat_le from t.item ≡ b → reserve_reported t (cond b o None) ≡ filter (λ (r : OwnReserve). nat_le from r.item) (reserve_reported t o)
report_from t from true None is = refl
report_from t from true (Some a) is = rw is refl
report_from t from false None is = refl
report_from t from false (Some a) is = rw is refl

shown_from : (reserves : List ReserveRow) (from : ℕ) (rows : List Row) → flat_map (reserve_shown reserves from) rows ≡ flat_map (reserve_from reserves from) (map (terms_by reserves) rows)
shown_from reserves from [] = refl
shown_from reserves from (r ∷ rows) =
    ap₂ (λ (a b : List OwnReserve). a ++ b) (report_from (terms_by reserves r) from (nat_le from (number_in (column r 0))) (amount_of reserves (number_in (column r 0))) refl) (shown_from reserves from rows)

each : (reserves : List ReserveRow) (from : ℕ) (rows : List ItemRow) → AllByRecursion (IsReserved reserves) rows
    → flat_map (reserve_from reserves from) (map (λ (row : ItemRow). row.item.terms) rows) ≡ filter (λ r. nat_le from r.item) (reserves_reported rows)
each reserves from [] all = refl
each reserves from (row ∷ rows) all =
    let shows = λ (r : OwnReserve). nat_le from r.item in
    let rest = flat_map (reserve_from reserves from) (map (λ (r : ItemRow). r.item.terms) rows) in
    ap (λ (o : Option ℕ). filter shows (reserve_reported row.item.terms o) ++ rest) (sym all.0)
    ∙ ap (λ l. filter shows (own_reserve row) ++ l) (each reserves from rows all.1)
    ∙ sym (filter-append shows (own_reserve row) (reserves_reported rows))

-- those of the rows that a query shows are those of the items
pub reserves_are : (db : Trees) (member from : ℕ) (answer : List Row)
    → map (terms_by (reserves_in db)) answer ≡ map (λ (row : ItemRow). row.item.terms) (filter (λ row. row.item.terms.seller == member) (items_in db))
    → take most_shown (flat_map (reserve_shown (reserves_in db) from) answer) ≡ own_reserves (tables_in db) member from
unfolding tables_in
reserves_are db member from answer are =
    let mine = λ (row : ItemRow). row.item.terms.seller == member in
    ap (take most_shown)
    (shown_from (reserves_in db) from answer
    ∙ ap (flat_map (reserve_from (reserves_in db) from)) are
    ∙ each (reserves_in db) from (filter mine (items_in db)) (all-filter (IsReserved (reserves_in db)) mine (items_in db) (rows_reserved (reserves_in db) (db 6))))

-- ---- which rows are read

some_from : (b : Bool) (o : Option ℕ) → is_some (cond b o None) ≡ (is_some o && b)
some_from true None = refl
some_from true (Some a) = refl
some_from false None = refl
some_from false (Some a) = refl

-- of the rows that the query keeps those whose reserves are shown
pub own_test : (reserves : List ReserveRow) (member from : ℕ) → member < 2 ^ 32 → (r : Row) → IsRow r
    → (passes (equals 2 ∷ []) (Int (pos member) ∷ []) r && is_some (reserve_in reserves from (shown_by terms_shown (Int (pos member) ∷ []) r))) ≡ has_own_reserve member from (item_row_in reserves r)
own_test reserves member from low r is =
    let n : ℕ = number_in (column r 0) in
    let mine = (item_row_in reserves r).item.terms.seller == member in
    ap (λ b. b && is_some (cond (nat_le from n) (amount_of reserves n) None)) (seller_test reserves member low r is)
    ∙ ap (λ b. mine && b) (some_from (nat_le from n) (amount_of reserves n) ∙ ap (λ (o : Option ℕ). is_some o && nat_le from n) (sym (rows_reserved reserves (r ∷ [])).0))

here_held : {A : Type 0} (P : A → Type 0) (shows : A → Bool) (most many : ℕ) (x : A) (rest : List A) → many < most → shows x ≡ true → AllByRecursion P (take (most - many) (filter shows (x ∷ rest)))
    → P x × AllByRecursion P (take (most - (many + 1)) (filter shows rest))
here_held P shows most many x rest room is held =
    let one : most - many ≡ suc (most - (many + 1)) = omega (arith, room) in
    rw is at (subst (λ k. AllByRecursion P (take k (filter shows (x ∷ rest)))) one held)

there_held : {A : Type 0} (P : A → Type 0) (shows : A → Bool) (many : ℕ) (x : A) (rest : List A) → shows x ≡ false → AllByRecursion P (take many (filter shows (x ∷ rest))) → AllByRecursion P (take many (filter shows rest))
there_held P shows many x rest not held = rw not at held

-- where the first rows that are still to be read hold, the next does if it is read, and so do the first of those after it
pub next_held : {A : Type 0} (P : A → Type 0) (report : A → Option ℕ) (terms : A → Terms) (most : ℕ) (found : List OwnReserve) (x : A) (rest : List A) → length found < most
    → AllByRecursion P (take (most - length found) (filter (λ y. is_some (report y)) (x ∷ rest)))
    → (is_some (report x) ≡ true → P x) × AllByRecursion P (take (most - length (found ++ reserve_reported (terms x) (report x))) (filter (λ y. is_some (report y)) rest))
next_held {A} P report terms most found x rest room held = go (report x) refl
  where
    go : (o : Option ℕ) → report x ≡ o → (is_some (report x) ≡ true → P x) × AllByRecursion P (take (most - length (found ++ reserve_reported (terms x) (report x))) (filter (λ y. is_some (report y)) rest))
    go None is =
        let not : is_some (report x) ≡ false = ap is_some is in
        let long : length (found ++ reserve_reported (terms x) (report x)) ≡ length found = ap (λ o. length (found ++ reserve_reported (terms x) o)) is ∙ ap length (append-nil found) in (
          λ e. absurd (true≢false (sym e ∙ not)),
          subst (λ k. AllByRecursion P (take (most - k) (filter (λ y. is_some (report y)) rest))) (sym long) (there_held P (λ y. is_some (report y)) (most - length found) x rest not held),
        )
    go (Some a) is =
        let yes : is_some (report x) ≡ true = ap is_some is in
        let long : length (found ++ reserve_reported (terms x) (report x)) ≡ length found + 1 = ap (λ o. length (found ++ reserve_reported (terms x) o)) is ∙ length-append found (reserve_reported (terms x) (Some a)) in
        let both = here_held P (λ y. is_some (report y)) most (length found) x rest room yes held in
        (λ e. both.0, subst (λ k. AllByRecursion P (take (most - k) (filter (λ y. is_some (report y)) rest))) (sym long) both.1)

-- where the rows up to the one with which a list is full have a property, the next has it, and so do those after it
pub next_low : {A : Type 0} (P : A → Type 0) (report : A → Option ℕ) (terms : A → Terms) (most : ℕ) (found : List OwnReserve) (x : A) (rest : List A) → length found < most
    → AllByRecursion P (up_to (most - length found) (λ y. is_some (report y)) (x ∷ rest))
    → P x × AllByRecursion P (up_to (most - length (found ++ reserve_reported (terms x) (report x))) (λ y. is_some (report y)) rest)
next_low {A} P report terms most found x rest room low =
    let more = up_to-more P (most - length found) (λ y. is_some (report y)) x rest (omega (arith, room)) low in
    (more.0, subst (λ k. AllByRecursion P (up_to k (λ y. is_some (report y)) rest)) (go (report x)) more.1)
  where
    go : (o : Option ℕ) → cond (is_some o) (most - length found - 1) (most - length found) ≡ most - length (found ++ reserve_reported (terms x) o)
    go None = sym (ap (λ l. most - length l) (append-nil found))
    go (Some a) = let long = length-append found (reserve_reported (terms x) (Some a)) in omega (arith, long, room)

pub report_few : (t : Terms) (o : Option ℕ) → length (reserve_reported t o) ≤ 1
report_few t None = omega arith
report_few t (Some a) = omega arith

-- what is so of a row that was read is so where it shows a reserve
pub some_kept : {A E : Type 0} (r : Result A E) (Q P : Type 0) → P → OnOk r (Q → P)
some_kept (Ok a) Q P so = λ _. so
some_kept (Err e) Q P so = tt

-- where the next is so if it is read, and the first of those after it are, the first of them all are
pub back_held : {A : Type 0} (P : A → Type 0) (report : A → Option ℕ) (terms : A → Terms) (most : ℕ) (found : List OwnReserve) (x : A) (rest : List A) → length found < most
    → (is_some (report x) ≡ true → P x) → AllByRecursion P (take (most - length (found ++ reserve_reported (terms x) (report x))) (filter (λ y. is_some (report y)) rest))
    → AllByRecursion P (take (most - length found) (filter (λ y. is_some (report y)) (x ∷ rest)))
back_held {A} P report terms most found x rest room here later = go (report x) refl
  where
    go : (o : Option ℕ) → report x ≡ o → AllByRecursion P (take (most - length found) (filter (λ y. is_some (report y)) (x ∷ rest)))
    go None is =
        let no : is_some (report x) ≡ false = ap is_some is in
        let long : length (found ++ reserve_reported (terms x) (report x)) ≡ length found = ap (λ o. length (found ++ reserve_reported (terms x) o)) is ∙ ap length (append-nil found) in
        rw no (subst (λ k. AllByRecursion P (take (most - k) (filter (λ y. is_some (report y)) rest))) long later)
    go (Some a) is =
        let yes : is_some (report x) ≡ true = ap is_some is in
        let long : length (found ++ reserve_reported (terms x) (report x)) ≡ length found + 1 = ap (λ o. length (found ++ reserve_reported (terms x) o)) is ∙ length-append found (reserve_reported (terms x) (Some a)) in
        let one : suc (most - (length found + 1)) ≡ most - length found = omega (arith, room) in
        subst (λ k. AllByRecursion P (take k (filter (λ y. is_some (report y)) (x ∷ rest)))) one
        (rw yes (here yes, subst (λ k. AllByRecursion P (take (most - k) (filter (λ y. is_some (report y)) rest))) long later))

-- of none whatever is taken is so
pub none_taken : {A : Type 0} (P : A → Type 0) (n : ℕ) → AllByRecursion P (take n [])
none_taken P zero = tt
none_taken P (suc n) = tt
