-- What an answer over one table is.
use Rattle.std.proofs.Common.{◌≡◌, ℕ, Bool, true, false, cond, List, [], ◌∷◌, ◌++◌, map, filter, flat_map, refl, sym, ap, subst, ◌∙◌, IsPermutation, IsSorted, Less}
use Rattle.sqlite_value.specs.Order.{Row}
use Rattle.sqlite_value.specs.declared.keys.Key.{Key}
use Rattle.sqlite_sql.specs.Term.{Term, eval_all}
use Rattle.sqlite_sql.specs.Query.{IsAnswer, Output, output, output_cmp}
use Rattle.sqlite_trees.specs.Tree.{Trees}
use Rattle.std.specs.List.{AllByRecursion}
use Rattle.sqlite_value.specs.declared.keys.Collation.TheVariants.{Binary}
use Rattle.sqlite_value.specs.Keys.{ascending}
use Rattle.sqlite_value.specs.Order.{value_cmp}
use Rattle.sqlite_value.proofs.OrderLemmas.{then-Equal}
use Rattle.sqlite_sql.specs.Term.{col, op2}
use Rattle.sqlite_sql.specs.declared.ops.BinaryOp.TheVariants.{Compare}
use Rattle.sqlite_sql.specs.declared.ops.CompareOp.TheVariants.{Eq}
use Rattle.sqlite_sql.proofs.QueryLemmas.{output_cmp_total}
use Rattle.sqlite_trees.specs.Tree.{rowid, IsTable, IsAscending}
use Rattle.sqlite_keyed.proofs.ListLemmas.{map-map, map_same, filter-map, filter_all, all_of, ascending-map, ascending_weaker, ascending-filter}
use Rattle.sqlite_keyed.proofs.SortLemmas.{sorted_unique}
use Rattle.store_rows.proofs.RowLemmas.{filter_same_on}
use Rattle.store_rows.specs.Plain.{plain_query, passes, shown_by}

pub kept_each : {A B : Type 0} (p : A → Bool) (f : A → B) (xs : List A) → flat_map (λ x. cond (p x) (f x ∷ []) []) xs ≡ map f (filter p xs)
kept_each p f [] = refl
kept_each p f (x ∷ xs) = go (p x) (kept_each p f xs)
  where
    go : (b : Bool) → flat_map (λ y. cond (p y) (f y ∷ []) []) xs ≡ map f (filter p xs) → cond b (f x ∷ []) [] ++ flat_map (λ y. cond (p y) (f y ∷ []) []) xs ≡ map f (cond b (x ∷ filter p xs) (filter p xs))
    go true e = ap (λ l. f x ∷ l) e
    go false e = e

-- the rows that pass WHERE, as they are sorted and shown
abbrev pub outputs : List Term → List Term → List (Term × Key) → Row → List Row → List Output
outputs test project order params rows = map (λ r. (eval_all (map (λ k. k.0) order) (params ∷ r ∷ []), shown_by project params r)) (filter (passes test params) rows)

pub record IsListOf (table : List Row) (test project : List Term) (order : List (Term × Key)) (params : Row) (rows : List Row) : Type 0 where
  pub ordered : List Output
  pub same : IsPermutation (outputs test project order params table) ordered
  pub sorted : IsSorted (output_cmp (plain_query 0 test project order)) ordered
  pub shown : rows ≡ map (λ o. o.1) ordered

pub listed : (t : ℕ) (test project : List Term) (order : List (Term × Key)) (db : Trees) (params : Row) (rows : List Row)
    → IsAnswer (plain_query t test project order) db params rows → IsListOf (db t) test project order params rows
listed t test project order db params rows a =
    let q = plain_query t test project order in
    let staged : a.staged ≡ map (λ r. params ∷ r ∷ []) (filter (passes test params) (db t)) = a.grouped ∙ kept_each (passes test params) (λ r. params ∷ r ∷ []) (db t) in
    let kept : a.kept ≡ outputs test project order params (db t) =
    a.distinct ∙ ap (map (output q)) staged ∙ map-map (output q) (λ r. params ∷ r ∷ []) (filter (passes test params) (db t)) in
    record { ordered = a.ordered; same = subst (λ k. IsPermutation k a.ordered) kept a.same; sorted = a.sorted; shown = a.shown }

-- column `at` of the row equals the first parameter
abbrev pub equals : ℕ → Term
equals at = op2 (Compare Eq Binary) (col 1 at) (col 0 0)

-- ORDER BY the rowid
abbrev pub by_rowid : List (Term × Key)
by_rowid = (col 1 0, ascending Binary) ∷ []

-- An answer in the order of the rowids has what passes WHERE, as the table has it.
pub in_order : (test project : List Term) (params : Row) (table rows : List Row) → IsTable table → IsListOf table test project by_rowid params rows
    → rows ≡ map (shown_by project params) (filter (passes test params) table)
in_order test project params table rows up a =
    let cmp = output_cmp (plain_query 0 test project by_rowid) in
    let show : Row → Output = λ r. (rowid r ∷ [], shown_by project params r) in
    let kept = filter (passes test params) table in
    let rises : IsAscending (λ x y. cmp (show x) (show y) ≡ Less) kept =
    ascending_weaker _ _ (λ x y h. then-Equal _ ∙ h) kept (ascending-filter (λ x y. value_cmp (rowid x) (rowid y) ≡ Less) (passes test params) table up) in
    let same = sorted_unique cmp (output_cmp_total (plain_query 0 test project by_rowid)) (map show kept) a.ordered (ascending-map (λ x y. cmp x y ≡ Less) show kept rises) a.same a.sorted in
    a.shown ∙ ap (map (λ (o : Output). o.1)) same ∙ map-map (λ (o : Output). o.1) show kept

-- the rows that WHERE keeps, as typed rows
pub typed_where : {T : Type 0} (decode inside : Row → T) (keep : T → Bool) (P : Row → Type 0) (test project : List Term) (params : Row) (table rows : List Row)
    → ((r : Row) → decode (shown_by project params r) ≡ inside r) → ((r : Row) → P r → passes test params r ≡ keep (inside r)) → AllByRecursion P table
    → rows ≡ map (shown_by project params) (filter (passes test params) table) → map decode rows ≡ filter keep (map inside table)
typed_where decode inside keep P test project params table rows reads tests all same =
    ap (map decode) same ∙ map-map decode (shown_by project params) _ ∙ map_same _ inside reads _
    ∙ ap (map inside) (filter_same_on P (passes test params) (λ r. keep (inside r)) tests table all) ∙ sym (filter-map keep inside table)

-- all rows, as typed rows
pub typed_all : {T : Type 0} (decode inside : Row → T) (project : List Term) (params : Row) (table rows : List Row)
    → ((r : Row) → decode (shown_by project params r) ≡ inside r) → rows ≡ map (shown_by project params) (filter (passes [] params) table) → map decode rows ≡ map inside table
typed_all decode inside project params table rows reads same =
    ap (map decode) same ∙ map-map decode (shown_by project params) _ ∙ map_same _ inside reads _ ∙ ap (map inside) (filter_all (passes [] params) table (all_of _ (λ r. refl) table))

-- a part of each row that WHERE keeps, as a part of the typed rows
pub typed_part : {T U : Type 0} (decode : Row → U) (inside : Row → T) (part : T → U) (keep : T → Bool) (P : Row → Type 0) (test project : List Term) (params : Row) (table rows : List Row)
    → ((r : Row) → decode (shown_by project params r) ≡ part (inside r)) → ((r : Row) → P r → passes test params r ≡ keep (inside r)) → AllByRecursion P table
    → rows ≡ map (shown_by project params) (filter (passes test params) table) → map decode rows ≡ map part (filter keep (map inside table))
typed_part decode inside part keep P test project params table rows reads tests all same =
    ap (map decode) same ∙ map-map decode (shown_by project params) _ ∙ map_same _ (λ r. part (inside r)) reads _ ∙ sym (map-map part inside _)
    ∙ ap (λ l. map part (map inside l)) (filter_same_on P (passes test params) (λ r. keep (inside r)) tests table all) ∙ ap (map part) (sym (filter-map keep inside table))
