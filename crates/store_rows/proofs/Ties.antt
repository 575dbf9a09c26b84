-- Columns of a key, in the order of SQL: rows do not tie, and they rise with their keys.
use Rattle.std.proofs.Common.{◌≡◌, ◌≤◌, ◌<◌, ◌<ℤ◌, ◌^◌, ◌⊎◌, ℕ, pos, negsuc, Bool, true, false, not, cond, nat_lt, ◌&&◌, List, filter, refl, sym, ap, ◌∙◌, arith, inl, inr, IsTrue, true≢false, Ordering, Less, Equal, Greater, is_eq}
use Rattle.std.specs.List.{AllByRecursion}
use Rattle.std.specs.Ordering.{ordering_then}
use Rattle.std.proofs.lemmas.Bool.Decides.{nat_tests}
use Rattle.std.proofs.lemmas.Int.{ints}
use Rattle.std.proofs.lemmas.Grind.{common_steps}
use Rattle.sqlite_value.specs.declared.value.Value.{Value}
use Rattle.sqlite_value.specs.declared.value.Value.TheVariants.{Null, Int, Real, Text, Blob}
use Rattle.sqlite_value.specs.declared.keys.Collation.TheVariants.{Binary}
use Rattle.sqlite_value.specs.Keys as keys
use Rattle.sqlite_value.specs.Order.{Row, value_cmp}
use Rattle.sqlite_value.proofs.OrderLemmas.{value_cmp-Int}
use Rattle.sqlite_sql.specs.Ops.{binary}
use Rattle.sqlite_trees.specs.Tree.{rowid, IsAscending}
use Rattle.sqlite_trees.specs.View.{is_int, IsShaped}
use Rattle.sqlite_trees.specs.declared.store.Shape.TheVariants.{Table}
use Rattle.sqlite_rules.specs.Lists.{Has}
use Rattle.sqlite_rules.proofs.ListLemmas.{some_from, all_from, all_has, has_filtered}
use Rattle.sqlite_schema.specs.Rules.{agree, clashes, differ, equal}
use Rattle.sqlite_keyed.proofs.KeyedLemmas.{lt_from_Less, same_int}
use Rattle.sqlite_keyed.proofs.ListLemmas.{ascending-filter}
use Rattle.house_rows.specs.History.{Key, is_less}
use Rattle.house_rows.proofs.Put.{by_test}
use Rattle.store_rows.specs.Rows.{number_in}
use Rattle.store_rows.proofs.RowLemmas.{row_key, keyed, truth_back}
use Rattle.store_rows.proofs.Compared.{is_negative}
use Rattle.store_rows.proofs.Comparing.{both_true, differs}
use Rattle.store_rows.proofs.Apart.{ascending_on}
use Rattle.store_rows.proofs.ByKey.{number_is}

-- ---- rows do not tie

-- integers that tie are equal to SQL
pub tied_equal : (v w : Value) → is_int v ≡ true → is_int w ≡ true → is_eq (value_cmp v w) ≡ true → equal Binary v w ≡ true
unfolding binary
tied_equal (Int m) (Int n) p q tie = truth_back _ ∙ tie
tied_equal (Int m) Null p q tie = absurd (true≢false (sym q))
tied_equal (Int m) (Real x) p q tie = absurd (true≢false (sym q))
tied_equal (Int m) (Text x) p q tie = absurd (true≢false (sym q))
tied_equal (Int m) (Blob x) p q tie = absurd (true≢false (sym q))
tied_equal Null w p q tie = absurd (true≢false (sym p))
tied_equal (Real x) w p q tie = absurd (true≢false (sym p))
tied_equal (Text x) w p q tie = absurd (true≢false (sym p))
tied_equal (Blob x) w p q tie = absurd (true≢false (sym p))

pub ties_of_three : (x y z : Ordering) → is_eq (ordering_then x (ordering_then y (ordering_then z Equal))) ≡ true → (is_eq x ≡ true) × (is_eq y ≡ true) × (is_eq z ≡ true)
ties_of_three Equal Equal Equal tie = (refl, refl, refl)
ties_of_three Less y z tie = absurd (true≢false (sym tie))
ties_of_three Greater y z tie = absurd (true≢false (sym tie))
ties_of_three Equal Less z tie = absurd (true≢false (sym tie))
ties_of_three Equal Greater z tie = absurd (true≢false (sym tie))
ties_of_three Equal Equal Less tie = absurd (true≢false (sym tie))
ties_of_three Equal Equal Greater tie = absurd (true≢false (sym tie))

-- where a tie means equal keys, UNIQUE says that none of these rows tie
module _ (tie : Row → Row → Bool) (places : List ℕ) (Is : Row → Type 0) (agrees : (r s : Row) → Is r → Is s → tie r s ≡ true → agree keys.plain places r places s ≡ true)
    (rows : List Row) (shaped : IsShaped Table rows) (unique : AllByRecursion (λ s. not (clashes keys.plain places rows s) ≡ true) rows) where
  abbrev IsThere : Row → Type 0
  IsThere r = Has rows r × Is r

  no_other : (r s : Row) → IsThere r → IsThere s → row_key r <ℤ row_key s → tie r s ≡ false
  no_other r s r_is s_is rises =
      elim (by_test (tie r s)) [
        | inr apart ↦ apart
        | inl same ↦ (let r_int = all_has (λ x. IsTrue (is_int (rowid x))) rows r shaped.1 r_is.0 in
            let s_int = all_has (λ x. IsTrue (is_int (rowid x))) rows s shaped.1 s_is.0 in
            let both = both_true _ _ (agrees r s r_is.1 s_is.1 same) (differs (rowid r) (rowid s) r_int s_int rises) in
            let some = some_from (λ other. agree keys.plain places other places s && differ (rowid other) (rowid s)) rows r r_is.0 both in
            let none = all_has (λ x. not (clashes keys.plain places rows x) ≡ true) rows s unique s_is.0 in
            absurd (true≢false (sym (sym (ap not some) ∙ none))))
      ]

  pub none_tie : (p : Row → Bool) → AllByRecursion Is (filter p rows) → IsAscending (λ r s. tie r s ≡ false) (filter p rows)
  none_tie p are =
      let there = all_from IsThere (filter p rows) (λ r has. ((has_filtered p rows r has).0, all_has Is (filter p rows) r are has)) in
      let rises = ascending-filter (λ a b. row_key a <ℤ row_key b) p rows (keyed rows shaped.0 shaped.1) in
      ascending_on IsThere (λ a b. row_key a <ℤ row_key b) (λ a b. tie a b ≡ false) no_other (filter p rows) there rises

-- ---- rows rise with their keys

report_over : (m n : ℕ) → m < 2 ^ 32 → m < n → m < number_in (Int (pos n))
report_over m n low less = go (nat_lt n (2 ^ 32)) refl
  where
    go : (b : Bool) → nat_lt n (2 ^ 32) ≡ b → m < cond b n (2 ^ 64)
    go true e = less
    go false e = omega (arith, low)

-- a number over one of ours is over it as a number too
over_number : (m : ℕ) (w : Value) → m < 2 ^ 32 → is_int w ≡ true → value_cmp (Int (pos m)) w ≡ Less → m < number_in w
over_number m (Int (pos n)) low is less = report_over m n low (omega (arith, ints, lt_from_Less (pos m) (pos n) (sym (value_cmp-Int (pos m) (pos n)) ∙ less)))
over_number m (Int (negsuc n)) low is less = absurd (omega (arith, ints, lt_from_Less (pos m) (negsuc n) (sym (value_cmp-Int (pos m) (negsuc n)) ∙ less)))
over_number m Null low is less = absurd (true≢false (sym is))
over_number m (Real x) low is less = absurd (true≢false (sym is))
over_number m (Text x) low is less = absurd (true≢false (sym is))
over_number m (Blob x) low is less = absurd (true≢false (sym is))

tied_number : (m : ℕ) (w : Value) → is_int w ≡ true → value_cmp (Int (pos m)) w ≡ Equal → Int (pos m) ≡ w
tied_number m (Int (pos n)) is tie = ap Int (same_int (pos m) (pos n) (let e : Rattle.std.proofs.Common.int_cmp (pos m) (pos n) ≡ Equal = sym (value_cmp-Int (pos m) (pos n)) ∙ tie in grind (arith, ints, common_steps, e)))
tied_number m (Int (negsuc n)) is tie = absurd (let e : Rattle.std.proofs.Common.int_cmp (pos m) (negsuc n) ≡ Equal = sym (value_cmp-Int (pos m) (negsuc n)) ∙ tie in grind (arith, ints, common_steps, e))
tied_number m Null is tie = absurd (true≢false (sym is))
tied_number m (Real x) is tie = absurd (true≢false (sym is))
tied_number m (Text x) is tie = absurd (true≢false (sym is))
tied_number m (Blob x) is tie = absurd (true≢false (sym is))

pub less_number : (v w : Value) → number_in v < 2 ^ 32 → is_int w ≡ true → value_cmp v w ≡ Less → number_in v < number_in w
less_number v w low is less = over_number (number_in v) w low is (sym (ap (λ x. value_cmp x w) (number_is v low)) ∙ less)

pub equal_number : (v w : Value) → number_in v < 2 ^ 32 → is_int w ≡ true → value_cmp v w ≡ Equal → number_in v ≡ number_in w
equal_number v w low is tie = ap number_in (number_is v low ∙ tied_number (number_in v) w is (sym (ap (λ x. value_cmp x w) (number_is v low)) ∙ tie))

-- what isn't negative rises as a number too
report_rises : (m n : ℕ) → m ≤ n → number_in (Int (pos m)) ≤ number_in (Int (pos n))
report_rises m n less =
    elim (by_test (nat_lt n (2 ^ 32))) [
      | inl is ↦ (let small : nat_lt m (2 ^ 32) ≡ true = grind (arith, nat_tests, is, less) in rw (small, is) less)
      | inr not ↦ rw not (elim (by_test (nat_lt m (2 ^ 32))) [ inl is ↦ rw is (let low : m < 2 ^ 32 = grind (arith, nat_tests, is) in omega (arith, low)) | inr high ↦ rw high (omega arith) ])
    ]

pub number_rises : (v w : Value) → is_int v ≡ true → is_int w ≡ true → is_negative v ≡ false → (value_cmp v w ≡ Less) ⊎ (value_cmp v w ≡ Equal) → number_in v ≤ number_in w
number_rises (Int (pos m)) (Int (pos n)) from to up (inl less) = report_rises m n (omega (arith, ints, lt_from_Less (pos m) (pos n) (sym (value_cmp-Int (pos m) (pos n)) ∙ less)))
number_rises (Int (pos m)) (Int (negsuc n)) from to up (inl less) = absurd (omega (arith, ints, lt_from_Less (pos m) (negsuc n) (sym (value_cmp-Int (pos m) (negsuc n)) ∙ less)))
number_rises (Int (pos m)) (Int (pos n)) from to up (inr tie) = (let same = ap number_in (tied_number m (Int (pos n)) to tie) in omega (arith, same))
number_rises (Int (pos m)) (Int (negsuc n)) from to up (inr tie) = (let same = ap number_in (tied_number m (Int (negsuc n)) to tie) in omega (arith, same))
number_rises (Int (pos m)) Null from to up less = absurd (true≢false (sym to))
number_rises (Int (pos m)) (Real x) from to up less = absurd (true≢false (sym to))
number_rises (Int (pos m)) (Text x) from to up less = absurd (true≢false (sym to))
number_rises (Int (pos m)) (Blob x) from to up less = absurd (true≢false (sym to))
number_rises (Int (negsuc m)) w from to up less = absurd (true≢false up)
number_rises Null w from to up less = absurd (true≢false (sym from))
number_rises (Real x) w from to up less = absurd (true≢false (sym from))
number_rises (Text x) w from to up less = absurd (true≢false (sym from))
number_rises (Blob x) w from to up less = absurd (true≢false (sym from))

by_first : (a b c a' b' c' : ℕ) → a < a' → is_less (record { first = a; second = b; third = c }) (record { first = a'; second = b'; third = c' }) ≡ true
by_first a b c a' b' c' less = grind (arith, nat_tests)

by_second : (a b c a' b' c' : ℕ) → a ≡ a' → b < b' → is_less (record { first = a; second = b; third = c }) (record { first = a'; second = b'; third = c' }) ≡ true
by_second a b c a' b' c' same less = grind (arith, nat_tests)

by_third : (a b c a' b' c' : ℕ) → a ≡ a' → b ≡ b' → c < c' → is_less (record { first = a; second = b; third = c }) (record { first = a'; second = b'; third = c' }) ≡ true
by_third a b c a' b' c' same also less = grind (arith, nat_tests)

module _ (u v w u' v' w' : Value) (ul : number_in u < 2 ^ 32) (vl : number_in v < 2 ^ 32) (wl : number_in w < 2 ^ 32) (ui : is_int u' ≡ true) (vi : is_int v' ≡ true) (wi : is_int w' ≡ true) where
  abbrev key : Key
  key = record { first = number_in u; second = number_in v; third = number_in w }

  abbrev key' : Key
  key' = record { first = number_in u'; second = number_in v'; third = number_in w' }

  decided : (x y z : Ordering) → value_cmp u u' ≡ x → value_cmp v v' ≡ y → value_cmp w w' ≡ z → ordering_then x (ordering_then y (ordering_then z Equal)) ≡ Less → is_less key key' ≡ true
  decided Less y z p q s less = by_first (number_in u) (number_in v) (number_in w) (number_in u') (number_in v') (number_in w') (less_number u u' ul ui p)
  decided Greater y z p q s less = absurd (let e = less in cc)
  decided Equal Less z p q s less = by_second (number_in u) (number_in v) (number_in w) (number_in u') (number_in v') (number_in w') (equal_number u u' ul ui p) (less_number v v' vl vi q)
  decided Equal Greater z p q s less = absurd (let e = less in cc)
  decided Equal Equal Less p q s less = by_third (number_in u) (number_in v) (number_in w) (number_in u') (number_in v') (number_in w') (equal_number u u' ul ui p) (equal_number v v' vl vi q) (less_number w w' wl wi s)
  decided Equal Equal Greater p q s less = absurd (let e = less in cc)
  decided Equal Equal Equal p q s less = absurd (let e = less in cc)

  -- ORDER BY the three numbers of the key
  pub three_rise : ordering_then (value_cmp u u') (ordering_then (value_cmp v v') (ordering_then (value_cmp w w') Equal)) ≡ Less → is_less key key' ≡ true
  three_rise less = decided (value_cmp u u') (value_cmp v v') (value_cmp w w') refl refl refl less

  decided_second : (y x z : Ordering) → value_cmp v v' ≡ y → value_cmp u u' ≡ x → value_cmp w w' ≡ z → number_in v ≡ number_in v' → ordering_then y (ordering_then x (ordering_then z Equal)) ≡ Less → is_less key key' ≡ true
  decided_second Less x z q p s same less = absurd (let low = less_number v v' vl vi q in omega (arith, low, same))
  decided_second Greater x z q p s same less = absurd (let e = less in cc)
  decided_second Equal Less z q p s same less = by_first (number_in u) (number_in v) (number_in w) (number_in u') (number_in v') (number_in w') (less_number u u' ul ui p)
  decided_second Equal Greater z q p s same less = absurd (let e = less in cc)
  decided_second Equal Equal Less q p s same less = by_third (number_in u) (number_in v) (number_in w) (number_in u') (number_in v') (number_in w') (equal_number u u' ul ui p) same (less_number w w' wl wi s)
  decided_second Equal Equal Greater q p s same less = absurd (let e = less in cc)
  decided_second Equal Equal Equal q p s same less = absurd (let e = less in cc)

  -- ORDER BY the second of them first, where it is one number
  pub second_fixed_rise : number_in v ≡ number_in v' → ordering_then (value_cmp v v') (ordering_then (value_cmp u u') (ordering_then (value_cmp w w') Equal)) ≡ Less → is_less key key' ≡ true
  second_fixed_rise same less = decided_second (value_cmp v v') (value_cmp u u') (value_cmp w w') refl refl refl same less
