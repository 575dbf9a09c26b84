-- What a query that counts answers.
use Rattle.std.proofs.Common.{◌≡◌, ℕ, List, [], ◌∷◌, map, filter, length, Option, Some, refl, sym, ap, subst, ◌∙◌, arith, IsPermutation}
use Rattle.std.specs.List.{AllZip}
use Rattle.std.proofs.lemmas.List.Sorted.{length_permutation}
use Rattle.sqlite_value.specs.declared.value.Value.TheVariants.{Null}
use Rattle.sqlite_value.specs.Order.{Row}
use Rattle.sqlite_sql.specs.Term.{Term, Env}
use Rattle.sqlite_sql.specs.Group.{IsSummary, value_over}
use Rattle.sqlite_sql.specs.Aggregate.{count}
use Rattle.sqlite_sql.specs.Query.{IsAnswer, Output, output, matches, inner, end}
use Rattle.sqlite_trees.specs.Tree.{Trees}
use Rattle.sqlite_keyed.proofs.ListLemmas.{filter_all, all_of}
use Rattle.sqlite.proofs.Callers.{one_permutation}
use Rattle.store_rows.specs.Plain.{passes}
use Rattle.store_rows.proofs.Select.{kept_each}
use Rattle.store_rows.proofs.CountMeaning.{count_query, count_rows}

pub length_map : {X Y : Type 0} (f : X → Y) (xs : List X) → length (map f xs) ≡ length xs
length_map f [] = refl
length_map f (x ∷ xs) = omega (arith, length_map f xs)

-- the one group has one row, its count
one_summary : (order : List Env) (rows : List Row) → AllZip (IsSummary count_rows) (order ∷ []) rows → rows ≡ (count (length order) ∷ []) ∷ []
one_summary order [] h = absurd h
one_summary order (r ∷ s ∷ rows) h = absurd h.1
one_summary order (r ∷ []) h = ap (λ l. l ∷ []) (go h.0.0 h.0.1 h.0.2)
  where
    go : (values : Row) → AllZip (λ a v. value_over order a ≡ Some v) count_rows.aggregates values → r ≡ values → r ≡ count (length order) ∷ []
    go [] zip same = absurd zip
    go (v ∷ w ∷ values) zip same = absurd zip.1
    go (v ∷ []) zip same =
        let is : Some (count (length order)) ≡ Some v = ap (λ n. Some (count n)) (sym (length_map (λ env. Null) order)) ∙ zip.0 in
        let value : v ≡ count (length order) = cc in
        same ∙ ap (λ x. x ∷ []) value

pub counted : (t : ℕ) (test : List Term) (db : Trees) (params : Row) (rows : List Row) → IsAnswer (count_query t test) db params rows
    → rows ≡ (count (length (filter (passes test params) (db t))) ∷ []) ∷ []
counted t test db params rows a =
    let q = count_query t test in
    let s = a.grouped in
    let order = s.grouping.0 in
    let kept_rows = filter (passes test params) (db t) in
    let all : matches db test (inner t end) (params ∷ []) ≡ map (λ r. params ∷ r ∷ []) kept_rows = kept_each (passes test params) (λ r. params ∷ r ∷ []) (db t) in
    let many : length order ≡ length kept_rows = length_permutation _ _ s.grouping.1 ∙ ap length all ∙ length_map (λ r. params ∷ r ∷ []) kept_rows in
    let row = count (length kept_rows) ∷ [] in
    let summary : s.rows ≡ row ∷ [] = one_summary order s.rows (subst (λ gs. AllZip (IsSummary count_rows) gs s.rows) s.grouping.2 s.summaries) ∙ ap (λ n. (count n ∷ []) ∷ []) many in
    let staged : a.staged ≡ (params ∷ row ∷ []) ∷ [] = s.having ∙ ap (λ l. filter (λ env. Rattle.std.proofs.Common.true) (map (λ r. params ∷ r ∷ []) l)) summary in
    let kept : a.kept ≡ ([], row) ∷ [] = a.distinct ∙ ap (map (output q)) staged in
    a.shown ∙ ap (map (λ (o : Output). o.1)) (one_permutation ([], row) a.ordered (subst (λ k. IsPermutation k a.ordered) kept a.same))

pub every : (params : Row) (rows : List Row) → length (filter (passes [] params) rows) ≡ length rows
every params rows = ap length (filter_all (passes [] params) rows (all_of _ (λ r. refl) rows))

pub same_some : (a b : ℕ) → ◌≡◌ {A = Option ℕ} (Some a) (Some b) → a ≡ b
same_some a b e = cc
