-- A table is known by what it has at each rowid.
use Rattle.std.proofs.Common.{◌≡◌, Bool, true, false, cond, List, [], ◌∷◌, Option, Some, None, Ordering, Less, Equal, Greater, is_lt, is_eq, true≢false, IsTrue, refl, sym, ap, ap₂, ◌∙◌}
use Rattle.std.specs.Prelude.{ℤ, find}
use Rattle.std.specs.List.{AllByRecursion}
use Rattle.std.specs.Ordering.{match_ordering, ordering_reverse, int_cmp}
use Rattle.std.specs.Cmp.{Equal-is}
use Rattle.std.proofs.lemmas.Bool.{and_parts, and_from}
use Rattle.std.proofs.lemmas.Cmp.{tied_itself, int_ranked}
use Rattle.sqlite_value.specs.declared.value.Value.TheVariants.{Null, Int, Real, Text, Blob}
use Rattle.sqlite_value.specs.Order.{Row, value_cmp}
use Rattle.sqlite_value.proofs.OrderLemmas.{value_cmp_total, value_cmp-Int}
use Rattle.sqlite_trees.specs.declared.store.Shape.TheVariants.{Table}
use Rattle.sqlite_trees.specs.Tree.{rowid, has_rowid, IsTable, put_row}
use Rattle.sqlite_trees.specs.View.{is_int, IsShaped}
use Rattle.sqlite_trees.proofs.ListLemmas.{all_weaker}
use Rattle.sqlite_trees.proofs.TreeLemmas.{later_rowids, above, IsShaped-put_row}
use Rattle.tree_order.specs.Rows.{is_before, is_table, in_order}

less_of : (o : Ordering) → is_lt o ≡ true → o ≡ Less
less_of Less h = refl
less_of Equal h = absurd (true≢false (sym h))
less_of Greater h = absurd (true≢false (sym h))

below_all : (row : Row) (rows : List Row) → is_before row rows ≡ true → IsTable rows → AllByRecursion (λ r. value_cmp (rowid row) (rowid r) ≡ Less) rows
below_all row [] h up = tt
below_all row (next ∷ rows) h up =
    let first = less_of _ h in
    (first, all_weaker _ (λ r. value_cmp (rowid row) (rowid r) ≡ Less) (λ r. value_cmp_total.trans _ _ _ first) rows up.0)

pub table_from_test : (rows : List Row) → is_table rows ≡ true → IsShaped Table rows
table_from_test [] h = (tt, tt)
table_from_test (row ∷ rows) h =
    let whole = and_parts _ _ h in
    let parts = and_parts _ _ whole.1 in
    let rest = table_from_test rows parts.1 in
    ((below_all row rows parts.0 rest.0, rest.0), (whole.0, rest.1))

pub test_from_table : (rows : List Row) → IsShaped Table rows → is_table rows ≡ true
test_from_table [] h = refl
test_from_table (row ∷ []) h = and_from _ _ h.1.0 refl
test_from_table (row ∷ next ∷ rows) h = and_from _ _ h.1.0 (and_from _ _ (ap is_lt h.0.0.0) (test_from_table (next ∷ rows) (h.0.1, h.1.1)))

-- the rowids are equal if they tie
pub same_id : (a b : ℤ) → is_eq (value_cmp (Int a) (Int b)) ≡ true → a ≡ b
same_id a b h =
    let tied : Equal ≡ int_cmp a b = sym ((Equal-is _).0 h) ∙ value_cmp-Int a b in
    int_ranked a b Equal tied

pub itself_tied : (id : ℤ) → is_eq (value_cmp (Int id) (Int id)) ≡ true
itself_tied id = ap is_eq (tied_itself value_cmp_total (Int id))

pub id_of : (row : Row) → IsTrue (is_int (rowid row)) → (id : ℤ) × (rowid row ≡ Int id)
id_of [] h = absurd (true≢false (sym h))
id_of (Null ∷ more) h = absurd (true≢false (sym h))
id_of (Int id ∷ more) h = (id, refl)
id_of (Real x ∷ more) h = absurd (true≢false (sym h))
id_of (Text t ∷ more) h = absurd (true≢false (sym h))
id_of (Blob b ∷ more) h = absurd (true≢false (sym h))

turned : (a b : Bool) (x y z : Option Row) → (a ≡ true → b ≡ true → ⊥) → cond a x (cond b y z) ≡ cond b y (cond a x z)
turned true true x y z h = absurd (h refl refl)
turned true false x y z h = refl
turned false true x y z h = refl
turned false false x y z h = refl

hidden : (b : Bool) (x y z : Option Row) → cond b x z ≡ cond b x (cond b y z)
hidden true x y z = refl
hidden false x y z = refl

pub find-put_row : (id : ℤ) (new : Row) (rows : List Row) → find (has_rowid id) (put_row new rows) ≡ find (has_rowid id) (new ∷ rows)
find-put_row id new [] = refl
find-put_row id new (r ∷ rows) = go (value_cmp (rowid r) (rowid new)) refl (find-put_row id new rows)
  where
    apart : value_cmp (rowid r) (rowid new) ≡ Less → has_rowid id r ≡ true → has_rowid id new ≡ true → ⊥
    apart e p q =
        let at_r : value_cmp (rowid r) (Int id) ≡ Equal = (Equal-is _).0 p in
        let at_new : value_cmp (rowid new) (Int id) ≡ Equal = (Equal-is _).0 q in
        let back : value_cmp (Int id) (rowid new) ≡ Equal = value_cmp_total.antisymm _ _ ∙ ap ordering_reverse at_new in
        let tied : value_cmp (rowid r) (rowid new) ≡ Equal = value_cmp_total.congr _ _ (rowid new) at_r ∙ back in
        true≢false (ap is_eq (sym tied ∙ e))

    go : (o : Ordering) → value_cmp (rowid r) (rowid new) ≡ o → find (has_rowid id) (put_row new rows) ≡ find (has_rowid id) (new ∷ rows)
        → find (has_rowid id) (match_ordering o (r ∷ put_row new rows) (new ∷ rows) (new ∷ r ∷ rows)) ≡ find (has_rowid id) (new ∷ r ∷ rows)
    go Less e more = ap (cond (has_rowid id r) (Some r)) more ∙ turned _ _ _ _ _ (apart e)
    go Equal e more =
        let tests : has_rowid id new ≡ has_rowid id r = ap is_eq (sym (value_cmp_total.congr _ _ (Int id) e)) in
        hidden (has_rowid id new) (Some new) (Some r) _ ∙ ap (λ b. cond (has_rowid id new) (Some new) (cond b (Some r) (find (has_rowid id) rows))) tests
    go Greater e more = refl

pub find-in_order : (id : ℤ) (rows : List Row) → find (has_rowid id) (in_order rows) ≡ find (has_rowid id) rows
find-in_order id [] = refl
find-in_order id (row ∷ rows) = find-put_row id row (in_order rows) ∙ ap (cond (has_rowid id row) (Some row)) (find-in_order id rows)

pub in_order_table : (rows : List Row) → AllByRecursion (λ r. IsTrue (is_int (rowid r))) rows → IsShaped Table (in_order rows)
in_order_table [] h = (tt, tt)
in_order_table (row ∷ rows) h = IsShaped-put_row row (in_order rows) h.0 (in_order_table rows h.1)

found_first : (row : Row) (rows : List Row) (id : ℤ) → rowid row ≡ Int id → find (has_rowid id) (row ∷ rows) ≡ Some row
found_first row rows id is = ap (λ b. cond b (Some row) (find (has_rowid id) rows)) (ap (λ v. is_eq (value_cmp v (Int id))) is ∙ itself_tied id)

none_found : (id : ℤ) (rows : List Row) → AllByRecursion (λ r. has_rowid id r ≡ false) rows → find (has_rowid id) rows ≡ None
none_found id [] h = refl
none_found id (row ∷ rows) h = ap (λ b. cond b (Some row) (find (has_rowid id) rows)) h.0 ∙ none_found id rows h.1

none_after : (id : ℤ) (row : Row) (rows : List Row) → is_lt (value_cmp (rowid row) (Int id)) ≡ false → AllByRecursion (λ r. value_cmp (rowid row) (rowid r) ≡ Less) rows
    → find (has_rowid id) rows ≡ None
none_after id row rows h up = none_found id rows (later_rowids (Int id) row rows h up)

-- a row that is below the first of a table is not in it
absent : (x y : Row) (rows : List Row) (id : ℤ) → rowid x ≡ Int id → value_cmp (rowid x) (rowid y) ≡ Less → IsTable (y ∷ rows) → find (has_rowid id) (y ∷ rows) ≡ None
absent x y rows id is below up =
    let over : value_cmp (rowid y) (Int id) ≡ Greater = ap (value_cmp (rowid y)) (sym is) ∙ value_cmp_total.antisymm _ _ ∙ ap ordering_reverse below in
    ap (λ o. cond (is_eq o) (Some y) (find (has_rowid id) rows)) over ∙ none_after id y rows (ap is_lt over) up.0

none_is_some : {G : Type 0} (x : Row) (o : Option Row) → o ≡ None → Some x ≡ o → G
none_is_some x o none some = absurd (cc)

abbrev Same : List Row → List Row → Type 0
Same a b = (id : ℤ) → find (has_rowid id) a ≡ find (has_rowid id) b

same_heads : (x y : Row) (a b : List Row) → IsShaped Table (x ∷ a) → IsShaped Table (y ∷ b) → Same (x ∷ a) (y ∷ b) → (Same a b → a ≡ b) → x ∷ a ≡ y ∷ b
same_heads x y a b ha hb h more = go (value_cmp (rowid x) (rowid y)) refl
  where
    i : (id : ℤ) × (rowid x ≡ Int id)
    i = id_of x ha.1.0

    k : (id : ℤ) × (rowid y ≡ Int id)
    k = id_of y hb.1.0

    rest : x ≡ y → Same a b
    rest same id = go2 (has_rowid id x) refl
      where
        go2 : (t : Bool) → has_rowid id x ≡ t → find (has_rowid id) a ≡ find (has_rowid id) b
        go2 true e =
            let tied : value_cmp (rowid x) (Int id) ≡ Equal = (Equal-is _).0 e in
            let tied' : value_cmp (rowid y) (Int id) ≡ Equal = ap (λ r. value_cmp (rowid r) (Int id)) (sym same) ∙ tied in
            none_after id x a (ap is_lt tied) ha.0.0 ∙ sym (none_after id y b (ap is_lt tied') hb.0.0)
        go2 false e =
            let e' : has_rowid id y ≡ false = ap (has_rowid id) (sym same) ∙ e in
            sym (ap (λ t. cond t (Some x) (find (has_rowid id) a)) e) ∙ h id ∙ ap (λ t. cond t (Some y) (find (has_rowid id) b)) e'

    go : (o : Ordering) → value_cmp (rowid x) (rowid y) ≡ o → x ∷ a ≡ y ∷ b
    go Less e = none_is_some x _ (absent x y b i.0 i.1 e hb.0) (sym (found_first x a i.0 i.1) ∙ h i.0)
    go Greater e = none_is_some y _ (absent y x a k.0 k.1 (above value_cmp_total _ _ e) ha.0) (sym (found_first y b k.0 k.1) ∙ sym (h k.0))
    go Equal e =
        let tied : value_cmp (Int i.0) (Int k.0) ≡ Equal = ap₂ value_cmp (sym i.1) (sym k.1) ∙ e in
        let id : k.0 ≡ i.0 = sym (same_id i.0 k.0 (ap is_eq tied)) in
        let found : Some x ≡ Some y = sym (found_first x a i.0 i.1) ∙ h i.0 ∙ found_first y b i.0 (k.1 ∙ ap Int id) in
        let same : x ≡ y = cc in
        ap₂ (λ r rows. r ∷ rows) same (more (rest same))

pub same_table : (a b : List Row) → IsShaped Table a → IsShaped Table b → ((id : ℤ) → find (has_rowid id) a ≡ find (has_rowid id) b) → a ≡ b
same_table [] [] ha hb h = refl
same_table [] (y ∷ b) ha hb h = let k = id_of y hb.1.0 in none_is_some y None refl (sym (found_first y b k.0 k.1) ∙ sym (h k.0))
same_table (x ∷ a) [] ha hb h = let i = id_of x ha.1.0 in none_is_some x None refl (sym (found_first x a i.0 i.1) ∙ h i.0)
same_table (x ∷ a) (y ∷ b) ha hb h = same_heads x y a b ha hb h (same_table a b (ha.0.1, ha.1.1) (hb.0.1, hb.1.1))
