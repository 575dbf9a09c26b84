-- What has a great number lies after, and WHERE keeps rows by a number.
use Rattle.std.proofs.Common.{◌≡◌, ◌≤◌, ◌<◌, ◌^◌, ◌&&◌, ◌++◌, ℕ, pos, Bool, true, false, not, List, [], ◌∷◌, filter, eqb, refl, sym, ap, ◌∙◌, arith, inl, inr}
use Rattle.std.specs.Prelude.{nat_lt}
use Rattle.std.proofs.lemmas.Bool.Decides.{nat_tests}
use Rattle.sqlite_value.specs.declared.value.Value.TheVariants.{Int}
use Rattle.sqlite_value.specs.Order.{Row, column}
use Rattle.sqlite_sql.specs.Term.{Term}
use Rattle.sqlite_trees.specs.Tree.{IsAscending}
use Rattle.sqlite_trees.specs.View.{is_int}
use Rattle.sqlite_keyed.proofs.ListLemmas.{all_weaker, filter_all, filter_none}
use Rattle.sqlite_keyed.proofs.RuleLemmas.{first_of_both}
use Rattle.house_rows.proofs.Put.{by_test}
use Rattle.store_rows.specs.Plain.{passes}
use Rattle.store_rows.specs.Rows.{number_in}
use Rattle.store_rows.proofs.RowLemmas.{equals_number}
use Rattle.store_rows.proofs.Select.{equals}
use Rattle.store_rows.proofs.TextLemmas.{same_number}

module _ {A : Type 0} (number : A → ℕ) (top : ℕ) where
  abbrev pub is_under : A → Bool
  is_under x = nat_lt (number x) top

  still_over : (a b : ℕ) → nat_lt a top ≡ false → a ≤ b → nat_lt b top ≡ false
  still_over a b over le = grind (arith, nat_tests)

  -- what rises is what is under a number, and then the rest
  pub parts : (xs : List A) → IsAscending (λ a b. number a ≤ number b) xs → xs ≡ filter is_under xs ++ filter (λ x. not (is_under x)) xs
  parts [] up = refl
  parts (x ∷ xs) up =
      elim (by_test (is_under x)) [
        | inl is ↦ rw is (ap (λ l. x ∷ l) (parts xs up.1))
        | inr over ↦ (let later = all_weaker (λ y. number x ≤ number y) (λ y. is_under y ≡ false) (λ y le. still_over (number x) (number y) over le) xs up.0 in
            let others = all_weaker (λ y. is_under y ≡ false) (λ y. not (is_under y) ≡ true) (λ y h. ap not h) xs later in
            rw (over, filter_none is_under xs later, filter_all (λ y. not (is_under y)) xs others) refl)
      ]

-- WHERE the first test is that a column has a number
pub kept_number : (at : ℕ) (n : ℕ) → n < 2 ^ 32 → (rest : List Term) (others : Row) (r : Row) → is_int (column r at) ≡ true → passes (equals at ∷ rest) (Int (pos n) ∷ others) r ≡ true → number_in (column r at) ≡ n
kept_number at n low rest others r is p =
    let more = passes rest (Int (pos n) ∷ others) r in
    let both : passes (equals at ∷ rest) (Int (pos n) ∷ others) r ≡ (eqb (number_in (column r at)) n && more) = rw (equals_number (column r at) n is low) refl in
    same_number (number_in (column r at)) n (first_of_both (eqb (number_in (column r at)) n) more (sym both ∙ p))
