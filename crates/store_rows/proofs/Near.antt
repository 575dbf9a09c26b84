-- Of a list that goes by a number the first rows fit, where those fit before which too few come.
use Rattle.std.proofs.Common.{◌≡◌, ◌≤◌, ◌<◌, ◌+◌, ◌^◌, ◌⊎◌, ◌&&◌, ℕ, zero, suc, pos, negsuc, Bool, true, false, List, [], ◌∷◌, ◌++◌, map, filter, take, length, nat_lt, refl, sym, ap, subst, ◌∙◌, inl, inr, arith, append_assoc, IsPermutation, Ordering, Less, Equal, Greater, is_eq}
use Rattle.std.specs.List.{AllByRecursion}
use Rattle.std.proofs.lemmas.Bool.Decides.{nat_tests}
use Rattle.std.proofs.lemmas.List.{length-append, length-map, take-map}
use Rattle.std.proofs.lemmas.List.Elements.{filter-append}
use Rattle.std.proofs.lemmas.List.Sorted.{length_permutation, IsPermutation-map}
use Rattle.sqlite_value.specs.declared.keys.Key.{Key as Sorting}
use Rattle.sqlite_value.specs.Order.{Row, value_cmp}
use Rattle.std.specs.Ordering.{ordering_then}
use Rattle.sqlite_value.specs.declared.value.Value.{Value}
use Rattle.sqlite_value.specs.declared.value.Value.TheVariants.{Null, Int, Real, Text, Blob}
use Rattle.sqlite_sql.specs.Term.{Term}
use Rattle.sqlite_sql.specs.Query.{Output, output_cmp}
use Rattle.sqlite_sql.proofs.QueryLemmas.{output_cmp_total}
use Rattle.sqlite_trees.specs.Tree.{IsAscending}
use Rattle.sqlite_trees.specs.View.{is_int}
use Rattle.sqlite_keyed.proofs.ListLemmas.{IsPermutation-filter, all_map, all_unmap, all_weaker, ascending-map, map-map, map_same}
use Rattle.house_rows.specs.History.{Key, counted}
use Rattle.house_rows.specs.Taken.{FirstFit, is_near}
use Rattle.house_rows.proofs.Put.{by_test}
use Rattle.store_rows.specs.Plain.{plain_query, passes, shown_by}
use Rattle.store_rows.specs.Rows.{number_in}
use Rattle.store_rows.specs.Sorted.{sorted_by}
use Rattle.store_rows.proofs.Apart.{ascending_on}
use Rattle.store_rows.proofs.Compared.{is_negative}
use Rattle.store_rows.proofs.Counted.{counted_few}
use Rattle.store_rows.proofs.Firsts.{as_many}
use Rattle.store_rows.proofs.NoTies.{rises_strictly}
use Rattle.store_rows.proofs.Select.{IsListOf}
use Rattle.store_rows.proofs.Shown.{every_stored, moved, output_row}
use Rattle.store_rows.proofs.Sorting.{count-sorted}
use Rattle.store_rows.proofs.Ties.{less_number, number_rises}

-- ---- lists that go by a number

module _ {T : Type 0} (number : T → ℕ) where
  abbrev lesser : T → T → Bool
  lesser x y = nat_lt (number y) (number x)

  none_lesser : (x : T) (ts : List T) → AllByRecursion (λ y. number x ≤ number y) ts → counted (lesser x) ts ≡ 0
  none_lesser x [] all = refl
  none_lesser x (y ∷ ts) all =
      let not : nat_lt (number y) (number x) ≡ false = let over = all.0 in grind (arith, nat_tests) in
      rw not (none_lesser x ts all.1)

  few_before : (x : T) (before ts : List T) → AllByRecursion (λ y. number x ≤ number y) ts
      → counted (lesser x) (before ++ x ∷ ts) ≤ length before
  few_before x before ts all =
      let own : nat_lt (number x) (number x) ≡ false = grind (arith, nat_tests) in
      let none : counted (lesser x) (x ∷ ts) ≡ 0 = rw own (none_lesser x ts all) in
      let parts : counted (lesser x) (before ++ x ∷ ts) ≡ counted (lesser x) before + counted (lesser x) (x ∷ ts) =
      ap length (filter-append (lesser x) before (x ∷ ts)) ∙ length-append (filter (lesser x) before) (filter (lesser x) (x ∷ ts)) in
      omega (arith, parts, none, counted_few (lesser x) before)

  module _ (Far : T → Type 0) where
    -- the number does not say where the row is shown, or fewer than so many have a lesser one
    abbrev pub IsNear : ℕ → List T → T → Type 0
    IsNear n ts x = Far x ⊎ (counted (lesser x) ts < n)

    -- a row is shown before one of a greater number, or its number does not say where
    abbrev pub IsUp : T → T → Type 0
    IsUp x y = Far x ⊎ (number x ≤ number y)

    all_up : (x : T) (ts : List T) → AllByRecursion (IsUp x) ts → Far x ⊎ AllByRecursion (λ y. number x ≤ number y) ts
    all_up x [] up = inr tt
    all_up x (y ∷ ts) up =
        elim up.0 [
          | inl far ↦ inl far
          | inr first ↦ elim (all_up x ts up.1) [ inl far ↦ inl far | inr rest ↦ inr (first, rest) ]
        ]

    walk : (Fits : T → Type 0) (n : ℕ) (before ts : List T) → IsAscending IsUp ts
        → AllByRecursion (λ x. IsNear (length before + n) (before ++ ts) x → Fits x) ts → AllByRecursion Fits (take n ts)
    walk Fits zero before ts up fits = tt
    walk Fits (suc n) before [] up fits = tt
    walk Fits (suc n) before (x ∷ ts) up fits = (
      elim (all_up x ts up.0) [
        | inl far ↦ fits.0 (inl far)
        | inr above ↦ fits.0 (inr (omega (arith, few_before x before ts above)))
      ],
      walk Fits n (before ++ x ∷ []) ts up.1
          (subst (λ many. AllByRecursion (λ y. IsNear many ((before ++ x ∷ []) ++ ts) y → Fits y) ts)
          (let e = length-append before (x ∷ []) in let f : length before + suc n ≡ length (before ++ x ∷ []) + n = omega (arith, e) in f)
          (subst (λ all. AllByRecursion (λ y. IsNear (length before + suc n) all y → Fits y) ts) (sym (append_assoc before (x ∷ []) ts)) fits.1)),
    )

-- ---- the first rows of an answer

-- first rows that are fewer than they may be are all
few_in_all : {X : Type 0} (n : ℕ) (all : List X) → length (take n all) < n → length all < n
few_in_all zero all few = absurd (omega (arith, few))
few_in_all (suc n) [] few = omega arith
few_in_all (suc n) (x ∷ all) few =
    let less : length (take n all) < n = omega (arith, few) in
    omega (arith, few_in_all n all less)

module _ (test project : List Term) (order : List (Term × Sorting)) (params : Row) (table all : List Row) (a : IsListOf table test project order params all) where
  abbrev kept : List Row
  kept = filter (passes test params) table

  abbrev show : Row → Output
  show = output_row project order params

  pub few_kept : (rows : List Row) → rows ≡ take 50 all → length rows < 50 → length kept < 50
  few_kept rows are few =
      let less = few_in_all 50 all (rw are at few) in
      omega (arith, less, as_many test project order params table all a)

  module _ {T : Type 0} (report inside : Row → T) (reads : (r : Row) → report (shown_by project params r) ≡ inside r) (number : T → ℕ) (Far Fits : T → Type 0) (Is : Row → Type 0)
      (apart : IsAscending (λ r s. is_eq (output_cmp (plain_query 0 test project order) (show r) (show s)) ≡ false) kept) (are : AllByRecursion Is kept)
      (rises : (r s : Row) → Is r → Is s → output_cmp (plain_query 0 test project order) (show r) (show s) ≡ Less → IsUp number Far (inside r) (inside s)) where
    abbrev IsShown : Output → Type 0
    IsShown o = (r : Row) × Is r × (o ≡ show r)

    abbrev report_of : Output → T
    report_of o = report o.1

    over : (o p : Output) → IsShown o → IsShown p → output_cmp (plain_query 0 test project order) o p ≡ Less → IsUp number Far (report_of o) (report_of p)
    over o p here there less =
        let first : report_of o ≡ inside here.0 = ap report_of here.2 ∙ reads here.0 in
        let second : report_of p ≡ inside there.0 = ap report_of there.2 ∙ reads there.0 in
        let rising = rises here.0 there.0 here.1 there.1 (rw (here.2, there.2) at less) in
        subst (λ (t : T). IsUp number Far t (report_of p)) (sym first) (subst (λ (t : T). IsUp number Far (inside here.0) t) (sym second) rising)

    pub first_near : (n : ℕ) → AllByRecursion (λ x. IsNear number Far n (map inside kept) x → Fits x) (map inside kept) → AllByRecursion Fits (map report (take n all))
    first_near n fits =
        let as_ordered : map report all ≡ map report_of a.ordered = ap (map report) a.shown ∙ map-map report (λ (o : Output). o.1) a.ordered in
        let typed : map report (take n all) ≡ take n (map report_of a.ordered) = sym (take-map report n all) ∙ ap (take n) as_ordered in
        let strict = rises_strictly (output_cmp (plain_query 0 test project order)) (output_cmp_total (plain_query 0 test project order)) (map show kept) a.ordered
        (ascending-map (λ x y. is_eq (output_cmp (plain_query 0 test project order) x y) ≡ false) show kept apart) a.same a.sorted in
        let shown = moved IsShown (map show kept) a.ordered a.same (all_map IsShown show kept (all_weaker Is (λ r. IsShown (show r)) (λ r is. (r, is, refl)) kept are)) in
        let up = ascending-map (IsUp number Far) report_of a.ordered
        (ascending_on IsShown (λ o p. output_cmp (plain_query 0 test project order) o p ≡ Less) (λ o p. IsUp number Far (report_of o) (report_of p)) over a.ordered shown strict) in
        let back : map report_of (map show kept) ≡ map inside kept = map-map report_of show kept ∙ map_same (λ r. report_of (show r)) inside reads kept in
        let same : IsPermutation (map inside kept) (map report_of a.ordered) = subst (λ l. IsPermutation l (map report_of a.ordered)) back (IsPermutation-map report_of (map show kept) a.ordered a.same) in
        let many = λ (x : T). length_permutation (filter (lesser number x) (map inside kept)) (filter (lesser number x) (map report_of a.ordered)) (IsPermutation-filter (lesser number x) (map inside kept) (map report_of a.ordered) same) in
        let there = moved (λ x. IsNear number Far n (map inside kept) x → Fits x) (map inside kept) (map report_of a.ordered) same fits in
        let counts = all_weaker (λ x. IsNear number Far n (map inside kept) x → Fits x) (λ x. IsNear number Far n (map report_of a.ordered) x → Fits x)
        (λ x fit near. fit (elim near [ inl far ↦ inl far | inr few ↦ inr (omega (arith, few, many x)) ])) (map report_of a.ordered) there in
        let start : n ≡ 0 + n = omega arith in
        subst (AllByRecursion Fits) (sym typed) (walk number Far Fits n [] (map report_of a.ordered) up
        (subst (λ many. AllByRecursion (λ x. IsNear number Far many (map report_of a.ordered) x → Fits x) (map report_of a.ordered)) start counts))

-- ---- the rows that a query keeps, where the test is known of low numbers alone

module _ {T : Type 0} (inside : Row → T) (number : T → ℕ) (keep : T → Bool) (p : Row → Bool) (Is : Row → Type 0)
    (low_tests : (r : Row) → Is r → (p r && nat_lt (number (inside r)) (2 ^ 64)) ≡ (keep (inside r) && nat_lt (number (inside r)) (2 ^ 64))) where
  low_same : (b c low : Bool) → (b && low) ≡ (c && low) → low ≡ true → b ≡ c
  low_same true true low e is = refl
  low_same false false low e is = refl
  low_same true false true e is = absurd (let f : true ≡ false = e in cc)
  low_same false true true e is = absurd (let f : false ≡ true = e in cc)
  low_same true false false e is = absurd (let f : false ≡ true = is in cc)
  low_same false true false e is = absurd (let f : false ≡ true = is in cc)

  -- those of a lesser number
  counted_kept : (x : T) → number x ≤ 2 ^ 64 → (rows : List Row) → AllByRecursion Is rows
      → counted (λ y. keep y && nat_lt (number y) (number x)) (map inside rows) ≡ counted (λ y. nat_lt (number y) (number x)) (map inside (filter p rows))
  counted_kept x low [] are = refl
  counted_kept x low (r ∷ rows) are =
      let rest = counted_kept x low rows are.1 in
      elim (by_test (nat_lt (number (inside r)) (number x))) [
        | inl less ↦ (let small : nat_lt (number (inside r)) (2 ^ 64) ≡ true = grind (arith, nat_tests, less) in
            let same : p r ≡ keep (inside r) = low_same (p r) (keep (inside r)) (nat_lt (number (inside r)) (2 ^ 64)) (low_tests r are.0) small in
            elim (by_test (p r)) [
              | inl is ↦ (let also : keep (inside r) ≡ true = sym same ∙ is in rw (is, also, less) (ap suc rest))
              | inr not ↦ (let nor : keep (inside r) ≡ false = sym same ∙ not in rw (not, nor) rest)
            ])
        | inr more ↦ elim (by_test (p r)) [
          | inl is ↦ elim (by_test (keep (inside r))) [ inl also ↦ rw (is, also, more) rest | inr nor ↦ rw (is, nor) (rw more rest) ]
          | inr not ↦ elim (by_test (keep (inside r))) [ inl also ↦ rw (not, also, more) rest | inr nor ↦ rw (not, nor) rest ]
        ]
      ]

  near_in : (table : List Row) → AllByRecursion Is table → (x : T) → number x ≤ 2 ^ 64
      → counted (λ y. nat_lt (number y) (number x)) (map inside (filter p table)) < 50 → is_near keep number (map inside table) x ≡ true
  near_in table are x low few =
      let so : nat_lt (counted (λ y. nat_lt (number y) (number x)) (map inside (filter p table))) 50 ≡ true = grind (arith, nat_tests, few) in
      subst (λ (n : ℕ). nat_lt n 50 ≡ true) (sym (counted_kept x low table are)) so

  -- a list that is not full reaches every row
  pub all_near : (table : List Row) → AllByRecursion Is table → (x : T) → number x ≤ 2 ^ 64 → length (filter p table) < 50 → is_near keep number (map inside table) x ≡ true
  all_near table are x low few =
      let least = counted_few (λ y. nat_lt (number y) (number x)) (map inside (filter p table)) in
      near_in table are x low (omega (arith, few, least, length-map (filter p table) inside))

  module _ (Far Fits : T → Type 0) (most : (r : Row) → number (inside r) ≤ 2 ^ 64) (passes_keep : (r : Row) → Is r → p r ≡ true → keep (inside r) ≡ true) where
    pub kept_near : (table : List Row) → AllByRecursion Is table → FirstFit keep number Fits (map inside table) → AllByRecursion (λ x. keep x ≡ true → Far x → Fits x) (map inside table)
        → AllByRecursion (λ x. IsNear number Far 50 (map inside (filter p table)) x → Fits x) (map inside (filter p table))
    kept_near table are fits far =
        let P = λ (x : T). keep x ≡ true → is_near keep number (map inside table) x ≡ true → Fits x in
        let F = λ (x : T). keep x ≡ true → Far x → Fits x in
        let Q = λ (x : T). IsNear number Far 50 (map inside (filter p table)) x → Fits x in
        all_map Q inside (filter p table) (each table are (all_unmap P inside table fits) (all_unmap F inside table far)) where
          P' : Row → Type 0
          P' r = keep (inside r) ≡ true → is_near keep number (map inside table) (inside r) ≡ true → Fits (inside r)

          F' : Row → Type 0
          F' r = keep (inside r) ≡ true → Far (inside r) → Fits (inside r)

          Q' : Row → Type 0
          Q' r = IsNear number Far 50 (map inside (filter p table)) (inside r) → Fits (inside r)

          each : (rows : List Row) → AllByRecursion Is rows → AllByRecursion P' rows → AllByRecursion F' rows → AllByRecursion Q' (filter p rows)
          each [] is fit off = tt
          each (r ∷ rows) is fit off =
              let rest = each rows is.1 fit.1 off.1 in
              elim (by_test (p r)) [
                | inl stays ↦ (let kept' = passes_keep r is.0 stays in
                    rw stays ((λ near. elim near [ inl far' ↦ off.0 kept' far' | inr few ↦ fit.0 kept' (near_in table are (inside r) (most r) few) ]), rest))
                | inr not ↦ rw not rest
              ]

-- where each number says where its row is shown, none has to fit besides
pub none_far : {T : Type 0} (keep : T → Bool) (Fits : T → Type 0) (ts : List T) → AllByRecursion (λ x. keep x ≡ true → ⊥ → Fits x) ts
none_far keep Fits [] = tt
none_far keep Fits (x ∷ ts) = ((λ is far. absurd far), none_far keep Fits ts)

-- in the order of their keys the rows fit as they are stored
pub first_stored : {T : Type 0} (key : T → Key) (keep : T → Bool) (number : T → ℕ) (Fits : T → Type 0) (rows : List T) → FirstFit keep number Fits (sorted_by key rows) → FirstFit keep number Fits rows
first_stored {T} key keep number Fits rows fits =
    all_weaker (λ (x : T). keep x ≡ true → is_near keep number (sorted_by key rows) x ≡ true → Fits x) (λ (x : T). keep x ≡ true → is_near keep number rows x ≡ true → Fits x)
    (λ x fit is near. fit is (rw (count-sorted key (λ y. keep y && nat_lt (number y) (number x)) rows) near)) rows
    (every_stored key (λ (x : T). keep x ≡ true → is_near keep number (sorted_by key rows) x ≡ true → Fits x) rows fits)

-- ---- numbers rise in the order of SQL

-- no number is greater than that of what is none of ours
pub number_most : (v : Value) → number_in v ≤ 2 ^ 64
number_most Null = omega arith
number_most (Int (pos n)) = elim (by_test (nat_lt n (2 ^ 32))) [ inl is ↦ rw is (let low : n < 2 ^ 32 = grind (arith, nat_tests, is) in omega (arith, low)) | inr not ↦ rw not (omega arith) ]
number_most (Int (negsuc n)) = omega arith
number_most (Real x) = omega arith
number_most (Text t) = omega arith
number_most (Blob b) = omega arith

-- ORDER BY a number that isn't negative
module _ (v v' : Value) (rest : Ordering) (from : is_int v ≡ true) (to : is_int v' ≡ true) (up : is_negative v ≡ false) where
  first_up : (x : Ordering) → value_cmp v v' ≡ x → ordering_then x rest ≡ Less → number_in v ≤ number_in v'
  first_up Less e less = number_rises v v' from to up (inl e)
  first_up Equal e less = number_rises v v' from to up (inr e)
  first_up Greater e less = absurd (let f = less in cc)

  pub first_rises : ordering_then (value_cmp v v') rest ≡ Less → number_in v ≤ number_in v'
  first_rises less = first_up (value_cmp v v') refl less

-- ORDER BY another number first, which is one for all
module _ (u v u' v' : Value) (rest : Ordering) (u_low : number_in u < 2 ^ 32) (u_is : is_int u' ≡ true) (from : is_int v ≡ true) (to : is_int v' ≡ true) (up : is_negative v ≡ false) (same : number_in u ≡ number_in u') where
  second_up : (x : Ordering) → value_cmp u u' ≡ x → ordering_then x (ordering_then (value_cmp v v') rest) ≡ Less → number_in v ≤ number_in v'
  second_up Less e less = absurd (let over = less_number u u' u_low u_is e in omega (arith, over, same))
  second_up Equal e less = first_rises v v' rest from to up less
  second_up Greater e less = absurd (let f = less in cc)

  pub second_rises : ordering_then (value_cmp u u') (ordering_then (value_cmp v v') rest) ≡ Less → number_in v ≤ number_in v'
  second_rises less = second_up (value_cmp u u') refl less
