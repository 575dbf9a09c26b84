-- What the queries of a list and of its strays mean.
use Rattle.std.proofs.Common.{◌≡◌, ◌<◌, ◌^◌, ◌&&◌, ℕ, pos, Bool, true, false, not, List, [], ◌∷◌, eqb, refl, sym, ap, subst, ◌∙◌}
use Rattle.std.specs.Prelude.{nat_le}
use Rattle.sqlite_value.specs.declared.value.Value.TheVariants.{Null, Int}
use Rattle.sqlite_value.specs.declared.keys.Collation.TheVariants.{Binary}
use Rattle.sqlite_value.specs.declared.keys.Key.{Key as Sorting}
use Rattle.sqlite_value.specs.Order.{Row, column}
use Rattle.sqlite_sql.specs.declared.ops.BinaryOp.TheVariants.{Compare}
use Rattle.sqlite_sql.specs.declared.ops.CompareOp.TheVariants.{Ge, Lt}
use Rattle.sqlite_sql.specs.Ops.{binary, is_true}
use Rattle.sqlite_sql.specs.Program.{overlay}
use Rattle.sqlite_trees.specs.Tree.{Trees}
use Rattle.sqlite_trees.specs.View.{is_int}
use Rattle.sqlite_keyed.proofs.RuleLemmas.{first_of_both}
use Rattle.sqlite.specs.Term.{Term, lit, col, op2}
use Rattle.sqlite.specs.Command.TheVariants.{Select}
use Rattle.sqlite.specs.Listing.{understood, reads_listing}
use Rattle.sqlite.specs.State.{State, Shown}
use Rattle.sqlite.proofs.Callers.{IsPlain, command_of, reads_as}
use Rattle.store_rows.specs.House.{IsHouse}
use Rattle.store_rows.specs.Plain.{plain_query, passes}
use Rattle.store_rows.specs.Rows.{number_in}
use Rattle.store_rows.specs.Schema.{house_by}
use Rattle.store_rows.proofs.RowLemmas.{equals_number, alone}
use Rattle.store_rows.proofs.Select.{IsListOf, listed, equals}
use Rattle.store_rows.proofs.Compared.{at_least, below_zero, is_negative, without_strays}
use Rattle.store_rows.proofs.TextLemmas.{same_number}

-- a column is the second parameter or more, and is negative
abbrev pub from_second : ℕ → Term
from_second at = op2 (Compare Ge Binary) (col 1 at) (col 0 1)

abbrev pub under_zero : ℕ → Term
under_zero at = op2 (Compare Lt Binary) (col 1 at) (lit (Int (pos 0)))

abbrev pub Asks : List ℕ → ℕ → List Term → List Term → List (Term × Sorting) → List (List ℕ) → Type 0
Asks sql tree test project order names =
    (b : Bool) → (command_of (understood (house_by b) sql) ≡ Select (record { lets = []; body = plain_query tree test project order }) names) × (reads_listing (house_by b) sql ≡ false) × IsPlain (understood (house_by b) sql)

-- what a query shows is a list of the rows that WHERE keeps
pub lists : (sql : List ℕ) (tree : ℕ) (test project : List Term) (order : List (Term × Sorting)) (names : List (List ℕ)) → Asks sql tree test project order names
    → ((db : Trees) → overlay db [] tree ≡ db tree) → (old new : State) (params : Row) (rows : List Row) → IsHouse old.now → Shown sql params old new rows → IsListOf (old.now.trees tree) test project order params rows
lists sql tree test project order names is over old new params rows house h =
    subst (λ table. IsListOf table test project order params rows) (over old.now.trees) (listed tree test project order (overlay old.now.trees []) params rows ((reads_as sql params old new _ house.schema _ (is _).0 (is _).2 (is _).1 rows h).answer Null))

-- WHERE one column is the first parameter, and another is negative, or the second parameter or more
module _ (at other : ℕ) (n : ℕ) (low : n < 2 ^ 32) (r : Row) (at_is : is_int (column r at) ≡ true) (other_is : is_int (column r other) ≡ true) where
  pub stray_passes : passes (equals at ∷ under_zero other ∷ []) (Int (pos n) ∷ []) r ≡ (eqb (number_in (column r at)) n && is_negative (column r other))
  stray_passes = rw (equals_number (column r at) n at_is low, below_zero (column r other) other_is) (ap (λ b. eqb (number_in (column r at)) n && b) (alone (is_negative (column r other))))

  pub page_passes : (from : ℕ) → from < 2 ^ 32 → passes (equals at ∷ under_zero other ∷ []) (Int (pos n) ∷ []) r ≡ false
      → passes (equals at ∷ from_second other ∷ []) (Int (pos n) ∷ Int (pos from) ∷ []) r ≡ (eqb (number_in (column r at)) n && nat_le from (number_in (column r other)))
  page_passes from small none =
      rw (equals_number (column r at) n at_is low, at_least (column r other) from other_is small)
      (ap (λ b. eqb (number_in (column r at)) n && b) (alone (not (is_negative (column r other)) && nat_le from (number_in (column r other))))
      ∙ without_strays (eqb (number_in (column r at)) n) (is_negative (column r other)) (nat_le from (number_in (column r other))) (sym stray_passes ∙ none))

-- what passes has the first parameter in its column
pub first_passes : (at other : ℕ) (n : ℕ) (low : n < 2 ^ 32) (r : Row) → is_int (column r at) ≡ true → is_int (column r other) ≡ true → (from : ℕ)
    → passes (equals at ∷ from_second other ∷ []) (Int (pos n) ∷ Int (pos from) ∷ []) r ≡ true → number_in (column r at) ≡ n
first_passes at other n low r at_is other_is from p =
    let rest = is_true (binary (Compare Ge Binary) (column r other) (Int (pos from))) && true in
    let both : passes (equals at ∷ from_second other ∷ []) (Int (pos n) ∷ Int (pos from) ∷ []) r ≡ (eqb (number_in (column r at)) n && rest) = rw (equals_number (column r at) n at_is low) refl in
    same_number (number_in (column r at)) n (first_of_both (eqb (number_in (column r at)) n) rest (sym both ∙ p))

pub never : (a b : Bool) → b ≡ false → (a && b) ≡ false
never true b e = e
never false b e = refl
