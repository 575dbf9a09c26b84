-- What a list of objects is under other numbers.
use Rattle.std.proofs.Common.{◌≡◌, ℕ, suc, ◌+◌, pos, Bool, true, false, not, cond, List, [], ◌∷◌, map, take, Option, Some, None, option_map, true≢false, IsTrue, Ordering, Less, Equal, Greater, refl, sym, ap, ap₂, ◌∙◌, subst, add-one, is_eq, is_lt}
use Rattle.std.specs.Prelude.{ℤ, find, unwrap_or, ◌&&◌}
use Rattle.std.specs.List.{AllByRecursion}
use Rattle.std.specs.Ordering.{match_ordering}
use Rattle.std.specs.Cmp.{both_ways}
use Rattle.sqlite_value.specs.declared.value.Value.TheVariants.{Null, Int, Real, Text, Blob}
use Rattle.sqlite_value.specs.Order.{Row, column, value_cmp}
use Rattle.sqlite_trees.specs.declared.store.Shape.TheVariants.{Table}
use Rattle.sqlite_trees.specs.Tree.{rowid, has_rowid, put_row, without_rowid}
use Rattle.sqlite_trees.specs.View.{is_int, IsShaped}
use Rattle.sqlite_trees.specs.Objects.{row_for}
use Rattle.tree_order.specs.Numbers.{number, AreInverse}
use Rattle.tree_order.specs.Rows.{shifted, renumbered_row, is_before, is_table, in_order, renumbered_rows}
use Rattle.tree_order.specs.NumberLaws.{other_way, shifted_back, shifted-plain}
use Rattle.tree_order.specs.TableLaws.{table_from_test, test_from_table, same_id, itself_tied, id_of, find-put_row, find-in_order, in_order_table, same_table}
use Rattle.sqlite_trees.proofs.TreeLemmas.{all-put_row, IsShaped-put_row, IsShaped-filter}

int_stays : (numbers : List ℕ) (row : Row) → IsTrue (is_int (rowid row)) → IsTrue (is_int (rowid (renumbered_row numbers row)))
int_stays numbers [] h = h
int_stays numbers (Null ∷ more) h = h
int_stays numbers (Int id ∷ more) h = h
int_stays numbers (Real x ∷ more) h = h
int_stays numbers (Text t ∷ more) h = h
int_stays numbers (Blob b ∷ more) h = h

ints_stay : (numbers : List ℕ) (rows : List Row) → AllByRecursion (λ r. IsTrue (is_int (rowid r))) rows
    → AllByRecursion (λ r. IsTrue (is_int (rowid r))) (map (renumbered_row numbers) rows)
ints_stay numbers [] h = tt
ints_stay numbers (row ∷ rows) h = (int_stays numbers row h.0, ints_stay numbers rows h.1)

-- of a table, the rows are put in order
in_order_of : (numbers : List ℕ) (rows : List Row) → is_table rows ≡ true → renumbered_rows numbers rows ≡ in_order (map (renumbered_row numbers) rows)
in_order_of numbers rows h = ap (λ b. cond b (in_order (map (renumbered_row numbers) rows)) rows) h

no_table : (numbers : List ℕ) (rows : List Row) → is_table rows ≡ false → renumbered_rows numbers rows ≡ rows
no_table numbers rows h = ap (λ b. cond b (in_order (map (renumbered_row numbers) rows)) rows) h

pub renumbered_table : (numbers : List ℕ) (rows : List Row) → IsShaped Table rows → IsShaped Table (renumbered_rows numbers rows)
renumbered_table numbers rows h =
    subst (IsShaped Table) (sym (in_order_of numbers rows (test_from_table rows h))) (in_order_table _ (ints_stay numbers rows h.1))

option_map-cond : (f : Row → Row) (b : Bool) (x : Row) (o : Option Row) → option_map f (cond b (Some x) o) ≡ cond b (Some (f x)) (option_map f o)
option_map-cond f true x o = refl
option_map-cond f false x o = refl

find-map : (f : Row → Row) (p q : Row → Bool) (rows : List Row) → AllByRecursion (λ r. p (f r) ≡ q r) rows → find p (map f rows) ≡ option_map f (find q rows)
find-map f p q [] h = refl
find-map f p q (row ∷ rows) h =
    ap₂ (λ b o. cond b (Some (f row)) o) h.0 (find-map f p q rows h.1) ∙ sym (option_map-cond f (q row) row (find q rows))

row_back : (inner outer : List ℕ) → AreInverse inner outer → (row : Row) → renumbered_row outer (renumbered_row inner row) ≡ row
row_back inner outer h [] = refl
row_back inner outer h (Null ∷ more) = refl
row_back inner outer h (Int id ∷ more) = ap (λ k. Int k ∷ more) (shifted_back inner outer h id)
row_back inner outer h (Real x ∷ more) = refl
row_back inner outer h (Text t ∷ more) = refl
row_back inner outer h (Blob b ∷ more) = refl

option_back : (inner outer : List ℕ) → AreInverse inner outer → (o : Option Row) → option_map (renumbered_row outer) (option_map (renumbered_row inner) o) ≡ o
option_back inner outer h None = refl
option_back inner outer h (Some row) = ap Some (row_back inner outer h row)

module _ (inner outer : List ℕ) (h : AreInverse inner outer) where
  has_shifted : (id : ℤ) (row : Row) → IsTrue (is_int (rowid row)) → has_rowid id (renumbered_row outer row) ≡ has_rowid (shifted inner id) row
  has_shifted id [] int = absurd (true≢false (sym int))
  has_shifted id (Null ∷ more) int = absurd (true≢false (sym int))
  has_shifted id (Int k ∷ more) int = both_ways _ _
      (λ e. subst (λ n. is_eq (value_cmp (Int k) (Int n)) ≡ true) (sym (shifted_back outer inner (other_way inner outer h) k) ∙ ap (shifted inner) (same_id _ _ e)) (itself_tied k))
      (λ e. subst (λ n. is_eq (value_cmp (Int n) (Int id)) ≡ true) (sym (shifted_back inner outer h id) ∙ ap (shifted outer) (sym (same_id _ _ e))) (itself_tied id))
  has_shifted id (Real x ∷ more) int = absurd (true≢false (sym int))
  has_shifted id (Text t ∷ more) int = absurd (true≢false (sym int))
  has_shifted id (Blob b ∷ more) int = absurd (true≢false (sym int))

  each_shifted : (id : ℤ) (rows : List Row) → AllByRecursion (λ r. IsTrue (is_int (rowid r))) rows
      → AllByRecursion (λ r. has_rowid id (renumbered_row outer r) ≡ has_rowid (shifted inner id) r) rows
  each_shifted id [] ints = tt
  each_shifted id (row ∷ rows) ints = (has_shifted id row ints.0, each_shifted id rows ints.1)

  -- the row with a rowid is the one with the other, under its number
  pub find-renumbered : (id : ℤ) (rows : List Row) → IsShaped Table rows
      → find (has_rowid id) (renumbered_rows outer rows) ≡ option_map (renumbered_row outer) (find (has_rowid (shifted inner id)) rows)
  find-renumbered id rows table =
      ap (find (has_rowid id)) (in_order_of outer rows (test_from_table rows table))
      ∙ find-in_order id (map (renumbered_row outer) rows)
      ∙ find-map (renumbered_row outer) _ _ rows (each_shifted id rows table.1)

  pub row_for_renumbered : (rows : List Row) (tree : ℕ) → IsShaped Table rows → row_for (renumbered_rows outer rows) tree ≡ renumbered_row outer (row_for rows (number inner tree))
  row_for_renumbered rows tree table =
      let there : shifted inner (pos (tree + 1)) ≡ pos (number inner tree + 1) = ap (λ n. shifted inner (pos n)) (add-one tree) in
      ap (λ o. unwrap_or o []) (find-renumbered (pos (tree + 1)) rows table ∙ ap (λ n. option_map (renumbered_row outer) (find (has_rowid n) rows)) there)
      ∙ unwrapped (find (has_rowid (pos (number inner tree + 1))) rows)
    where
      unwrapped : (o : Option Row) → unwrap_or (option_map (renumbered_row outer) o) [] ≡ renumbered_row outer (unwrap_or o [])
      unwrapped None = refl
      unwrapped (Some row) = refl

-- back under the first numbers a list is what it was
pub rows_back : (inner outer : List ℕ) → AreInverse inner outer → (rows : List Row) → renumbered_rows inner (renumbered_rows outer rows) ≡ rows
rows_back inner outer h rows = go (is_table rows) refl
  where
    back : AreInverse outer inner
    back = other_way inner outer h

    found : IsShaped Table rows → (id : ℤ) → find (has_rowid id) (renumbered_rows inner (renumbered_rows outer rows)) ≡ find (has_rowid id) rows
    found table id =
        find-renumbered outer inner back id (renumbered_rows outer rows) (renumbered_table outer rows table)
        ∙ ap (option_map (renumbered_row inner)) (find-renumbered inner outer h (shifted outer id) rows table)
        ∙ option_back outer inner back (find (has_rowid (shifted inner (shifted outer id))) rows)
        ∙ ap (λ n. find (has_rowid n) rows) (shifted_back outer inner back id)

    go : (t : Bool) → is_table rows ≡ t → renumbered_rows inner (renumbered_rows outer rows) ≡ rows
    go true e =
        let table = table_from_test rows e in
        same_table _ rows (renumbered_table inner (renumbered_rows outer rows) (renumbered_table outer rows table)) table (found table)
    go false e = ap (renumbered_rows inner) (no_table outer rows e) ∙ no_table inner rows e

pub renumbered_once : (inner outer : List ℕ) → AreInverse inner outer → (a b : List Row) → renumbered_rows outer a ≡ renumbered_rows outer b → a ≡ b
renumbered_once inner outer h a b same = sym (rows_back inner outer h a) ∙ ap (renumbered_rows inner) same ∙ rows_back inner outer h b

pub column_kept : (numbers : List ℕ) (row : Row) (at : ℕ) → column (renumbered_row numbers row) (suc at) ≡ column row (suc at)
column_kept numbers [] at = refl
column_kept numbers (id ∷ more) at = refl

row-plain : (row : Row) → renumbered_row [] row ≡ row
row-plain [] = refl
row-plain (Null ∷ more) = refl
row-plain (Int id ∷ more) = ap (λ k. Int k ∷ more) (shifted-plain id)
row-plain (Real x ∷ more) = refl
row-plain (Text t ∷ more) = refl
row-plain (Blob b ∷ more) = refl

map-plain : (rows : List Row) → map (renumbered_row []) rows ≡ rows
map-plain [] = refl
map-plain (row ∷ rows) = ap₂ (λ r more. r ∷ more) (row-plain row) (map-plain rows)

-- with no other number each list stays
pub rows-plain : (rows : List Row) → renumbered_rows [] rows ≡ rows
rows-plain rows = go (is_table rows) refl
  where
    go : (t : Bool) → is_table rows ≡ t → renumbered_rows [] rows ≡ rows
    go true e =
        let table = table_from_test rows e in
        in_order_of [] rows e ∙ ap in_order (map-plain rows) ∙ same_table (in_order rows) rows (in_order_table rows table.1) table (λ id. find-in_order id rows)
    go false e = no_table [] rows e

-- the first columns have the rowid
module _ (n : ℕ) where
  abbrev front : Row → Row
  front = take (suc n)

  front_id : (row : Row) → rowid (front row) ≡ rowid row
  front_id [] = refl
  front_id (id ∷ more) = refl

  front_renumbered : (numbers : List ℕ) (row : Row) → front (renumbered_row numbers row) ≡ renumbered_row numbers (front row)
  front_renumbered numbers [] = refl
  front_renumbered numbers (id ∷ more) = refl

  fronts_renumbered : (numbers : List ℕ) (rows : List Row) → map front (map (renumbered_row numbers) rows) ≡ map (renumbered_row numbers) (map front rows)
  fronts_renumbered numbers [] = refl
  fronts_renumbered numbers (row ∷ rows) = ap₂ (λ r more. r ∷ more) (front_renumbered numbers row) (fronts_renumbered numbers rows)

  front_before : (row : Row) (rows : List Row) → is_before (front row) (map front rows) ≡ is_before row rows
  front_before row [] = refl
  front_before row (next ∷ rows) = ap₂ (λ v w. is_lt (value_cmp v w)) (front_id row) (front_id next)

  fronts_table : (rows : List Row) → is_table (map front rows) ≡ is_table rows
  fronts_table [] = refl
  fronts_table (row ∷ rows) = ap₂ (λ v b. is_int v && b) (front_id row) (ap₂ (λ a b. a && b) (front_before row rows) (fronts_table rows))

  front-put_row : (new : Row) (rows : List Row) → map front (put_row new rows) ≡ put_row (front new) (map front rows)
  front-put_row new [] = refl
  front-put_row new (r ∷ rows) =
      go (value_cmp (rowid r) (rowid new)) (front-put_row new rows)
      ∙ ap (λ o. match_ordering o (front r ∷ put_row (front new) (map front rows)) (front new ∷ map front rows) (front new ∷ front r ∷ map front rows))
      (ap₂ value_cmp (sym (front_id r)) (sym (front_id new)))
    where
      go : (o : Ordering) → map front (put_row new rows) ≡ put_row (front new) (map front rows)
          → map front (match_ordering o (r ∷ put_row new rows) (new ∷ rows) (new ∷ r ∷ rows))
          ≡ match_ordering o (front r ∷ put_row (front new) (map front rows)) (front new ∷ map front rows) (front new ∷ front r ∷ map front rows)
      go Less more = ap (λ rest. front r ∷ rest) more
      go Equal more = refl
      go Greater more = refl

  fronts-in_order : (rows : List Row) → map front (in_order rows) ≡ in_order (map front rows)
  fronts-in_order [] = refl
  fronts-in_order (row ∷ rows) = front-put_row row (in_order rows) ∙ ap (put_row (front row)) (fronts-in_order rows)

  -- the first columns of the rows under other numbers are those of the rows, under these numbers
  pub fronts-renumbered_rows : (numbers : List ℕ) (rows : List Row) → map front (renumbered_rows numbers rows) ≡ renumbered_rows numbers (map front rows)
  fronts-renumbered_rows numbers rows =
      go (is_table rows)
      ∙ ap (λ t. cond t (in_order (map (renumbered_row numbers) (map front rows))) (map front rows)) (sym (fronts_table rows))
    where
      go : (t : Bool) → map front (cond t (in_order (map (renumbered_row numbers) rows)) rows) ≡ cond t (in_order (map (renumbered_row numbers) (map front rows))) (map front rows)
      go true = fronts-in_order (map (renumbered_row numbers) rows) ∙ ap in_order (fronts_renumbered numbers rows)
      go false = refl

all_in_order : (P : Row → Type 0) (rows : List Row) → AllByRecursion P rows → AllByRecursion P (in_order rows)
all_in_order P [] h = tt
all_in_order P (row ∷ rows) h = all-put_row P row (in_order rows) h.0 (all_in_order P rows h.1)

all_renumbered : (P : Row → Type 0) (numbers : List ℕ) → ((row : Row) → P row → P (renumbered_row numbers row)) → (rows : List Row) → AllByRecursion P rows
    → AllByRecursion P (renumbered_rows numbers rows)
all_renumbered P numbers stays rows h = go (is_table rows)
  where
    each : (xs : List Row) → AllByRecursion P xs → AllByRecursion P (map (renumbered_row numbers) xs)
    each [] all = tt
    each (x ∷ xs) all = (stays x all.0, each xs all.1)

    go : (t : Bool) → AllByRecursion P (cond t (in_order (map (renumbered_row numbers) rows)) rows)
    go true = all_in_order P (map (renumbered_row numbers) rows) (each rows h)
    go false = h

-- what holds of each row under the other numbers holds of each row
pub all_back : (inner outer : List ℕ) → AreInverse inner outer → (P : Row → Type 0) → ((row : Row) → P row → P (renumbered_row inner row)) → (rows : List Row)
    → AllByRecursion P (renumbered_rows outer rows) → AllByRecursion P rows
all_back inner outer h P stays rows all = subst (AllByRecursion P) (rows_back inner outer h rows) (all_renumbered P inner stays (renumbered_rows outer rows) all)

pub renumbered-put_row : (inner outer : List ℕ) → AreInverse inner outer → (new : Row) (rows : List Row) → IsTrue (is_int (rowid new)) → IsShaped Table rows
    → renumbered_rows outer (put_row new rows) ≡ put_row (renumbered_row outer new) (renumbered_rows outer rows)
renumbered-put_row inner outer h new rows int table =
    same_table _ _ (renumbered_table outer (put_row new rows) with_new) (IsShaped-put_row _ _ (int_stays outer new int) (renumbered_table outer rows table)) (λ id.
    find-renumbered inner outer h id (put_row new rows) with_new
    ∙ ap (option_map (renumbered_row outer)) (find-put_row (shifted inner id) new rows)
    ∙ option_map-cond (renumbered_row outer) (has_rowid (shifted inner id) new) new (find (has_rowid (shifted inner id)) rows)
    ∙ ap₂ (λ b o. cond b (Some (renumbered_row outer new)) o) (sym (has_shifted inner outer h id new int)) (sym (find-renumbered inner outer h id rows table))
    ∙ sym (find-put_row id (renumbered_row outer new) (renumbered_rows outer rows)))
  where
    with_new : IsShaped Table (put_row new rows)
    with_new = IsShaped-put_row new rows int table

-- a row is found unless it was taken out
without : (a b c : Bool) (row : Row) (o : Option Row) → (b ≡ true → c ≡ a) → (a ≡ true → c ≡ true → b ≡ true) → (w : Option Row) → w ≡ cond b None o
    → cond (not a) (cond c (Some row) w) w ≡ cond b None (cond c (Some row) o)
without true true c row o f g w is = is
without true false true row o f g w is = absurd (true≢false (sym (g refl refl)))
without true false false row o f g w is = is
without false true true row o f g w is = absurd (true≢false (f refl))
without false true false row o f g w is = is
without false false true row o f g w is = refl
without false false false row o f g w is = is

pub find-without : (id k : ℤ) (rows : List Row) → AllByRecursion (λ r. IsTrue (is_int (rowid r))) rows
    → find (has_rowid id) (without_rowid k rows) ≡ cond (is_eq (value_cmp (Int id) (Int k))) None (find (has_rowid id) rows)
find-without id k [] h = none (is_eq (value_cmp (Int id) (Int k))) None
  where
    none : (b : Bool) (o : Option Row) → o ≡ cond b o o
    none true o = refl
    none false o = refl
find-without id k (row ∷ rows) h =
    split (not (has_rowid k row)) ∙ without (has_rowid k row) (is_eq (value_cmp (Int id) (Int k))) (has_rowid id row) row (find (has_rowid id) rows) tied apart _ (find-without id k rows h.1)
  where
    split : (b : Bool) → find (has_rowid id) (cond b (row ∷ without_rowid k rows) (without_rowid k rows))
        ≡ cond b (cond (has_rowid id row) (Some row) (find (has_rowid id) (without_rowid k rows))) (find (has_rowid id) (without_rowid k rows))
    split true = refl
    split false = refl

    tied : is_eq (value_cmp (Int id) (Int k)) ≡ true → has_rowid id row ≡ has_rowid k row
    tied e = ap (λ n. has_rowid n row) (same_id id k e)

    apart : has_rowid k row ≡ true → has_rowid id row ≡ true → is_eq (value_cmp (Int id) (Int k)) ≡ true
    apart at_k at_id =
        let i = id_of row h.0 in
        let here : i.0 ≡ k = same_id i.0 k (ap (λ v. is_eq (value_cmp v (Int k))) (sym i.1) ∙ at_k) in
        let there : i.0 ≡ id = same_id i.0 id (ap (λ v. is_eq (value_cmp v (Int id))) (sym i.1) ∙ at_id) in
        ap (λ n. is_eq (value_cmp (Int n) (Int k))) (sym there ∙ here) ∙ itself_tied k

pub renumbered-without : (inner outer : List ℕ) → AreInverse inner outer → (k : ℤ) (rows : List Row) → IsShaped Table rows
    → renumbered_rows outer (without_rowid k rows) ≡ without_rowid (shifted outer k) (renumbered_rows outer rows)
renumbered-without inner outer h k rows table =
    same_table _ _ (renumbered_table outer (without_rowid k rows) left) (IsShaped-filter Table _ (renumbered_rows outer rows) there) (λ id.
    find-renumbered inner outer h id (without_rowid k rows) left
    ∙ ap (option_map (renumbered_row outer)) (find-without (shifted inner id) k rows table.1)
    ∙ moved (is_eq (value_cmp (Int (shifted inner id)) (Int k))) (find (has_rowid (shifted inner id)) rows)
    ∙ ap₂ (λ b o. cond b None o) (same_test id) (sym (find-renumbered inner outer h id rows table))
    ∙ sym (find-without id (shifted outer k) (renumbered_rows outer rows) there.1))
  where
    left : IsShaped Table (without_rowid k rows)
    left = IsShaped-filter Table _ rows table

    there : IsShaped Table (renumbered_rows outer rows)
    there = renumbered_table outer rows table

    moved : (b : Bool) (o : Option Row) → option_map (renumbered_row outer) (cond b None o) ≡ cond b None (option_map (renumbered_row outer) o)
    moved true o = refl
    moved false o = refl

    same_test : (id : ℤ) → is_eq (value_cmp (Int (shifted inner id)) (Int k)) ≡ is_eq (value_cmp (Int id) (Int (shifted outer k)))
    same_test id = both_ways _ _
        (λ e. ap (λ n. is_eq (value_cmp (Int id) (Int n))) (ap (shifted outer) (sym (same_id _ _ e)) ∙ shifted_back inner outer h id) ∙ itself_tied id)
        (λ e. ap (λ n. is_eq (value_cmp (Int n) (Int k))) (ap (shifted inner) (same_id _ _ e) ∙ shifted_back outer inner (other_way inner outer h) k) ∙ itself_tied k)
