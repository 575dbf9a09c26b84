-- What the look-ups of a member and of a category by their numbers find.
use Rattle.std.proofs.Common.{◌≡◌, ◌==◌, ◌<◌, ◌^◌, ℕ, pos, true, false, not, List, [], ◌∷◌, find, length, map, refl, arith, ap, ◌∙◌, inl, inr, IsTrue, IfSome}
use Rattle.std.specs.Prelude.{is_some}
use Rattle.std.specs.List.{AllByRecursion}
use Rattle.std.proofs.lemmas.Bool.Decides.{nat_tests}
use Rattle.sqlite_value.specs.declared.value.Value.TheVariants.{Null, Int}
use Rattle.sqlite_value.specs.Order.{Row, column}
use Rattle.sqlite_sql.specs.Term.{col}
use Rattle.sqlite_sql.specs.Program.{overlay}
use Rattle.sqlite_trees.specs.Tree.{Trees, rowid}
use Rattle.sqlite_trees.specs.View.{is_int}
use Rattle.sqlite.specs.State.{State, Shown}
use Rattle.sqlite.proofs.Callers.{reads_as}
use Rattle.house_rows.specs.declared.people.Category.{Category}
use Rattle.house_rows.specs.declared.people.Member.{Member}
use Rattle.house_rows.proofs.Put.{by_test}
use Rattle.store_rows.specs.House.{IsHouse}
use Rattle.store_rows.specs.Rows.{categories_in, category_in, member_in, members_in, number_in}
use Rattle.store_rows.proofs.RowLemmas.{equals_number, alone}
use Rattle.store_rows.proofs.Select.{equals, listed}
use Rattle.store_rows.proofs.Found.{rows_kept, some_found}
use Rattle.store_house.proofs.FindMeaning.{FindsNumbered, has_category_is, has_category_text, has_member_is, has_member_text}

-- a row is shown where one of the number is there
module _ (sql : List ℕ) (tree : ℕ) (is : FindsNumbered sql tree) (over : (db : Trees) → overlay db [] tree ≡ db tree) {T : Type 0} (inside : Row → T) (number : T → ℕ) (first : (r : Row) → number (inside r) ≡ number_in (column r 0)) where
  pub numbered_found : (n : ℕ) → n < 2 ^ 32 → (old new : State) (answer : List Row) → IsHouse old.now → AllByRecursion (λ r. IsTrue (is_int (rowid r))) (old.now.trees tree) → Shown sql (Int (pos n) ∷ []) old new answer
      → not (length answer == 0) ≡ is_some (find (λ x. number x == n) (map inside (old.now.trees tree)))
  numbered_found n low old new answer house ints h =
      let params : Row = Int (pos n) ∷ [] in
      let table = old.now.trees tree in
      let read = reads_as sql params old new _ house.schema _ (is _).0 (is _).2 (is _).1 answer h in
      let listing = rw (over old.now.trees) at (listed tree (equals 0 ∷ []) (col 1 0 ∷ []) [] (overlay old.now.trees []) params answer (read.answer Null)) in
      let many = rows_kept (equals 0 ∷ []) (col 1 0 ∷ []) [] params table answer listing inside (λ (x : T). number x == n) (λ r. IsTrue (is_int (rowid r)))
      (λ r int. rw (equals_number (rowid r) n int low, first r) (alone _)) ints in
      ap (λ k. not (k == 0)) many ∙ some_found (λ (x : T). number x == n) (map inside table)

module _ (n : ℕ) (low : n < 2 ^ 32) (old new : State) (answer : List Row) (house : IsHouse old.now) where
  pub member_found : Shown has_member_text (Int (pos n) ∷ []) old new answer → not (length answer == 0) ≡ is_some (find (λ m. m.member == n) (members_in old.now.trees))
  member_found h = numbered_found has_member_text 2 has_member_is (λ db. refl) member_in (λ (m : Member). m.member) (λ r. refl) n low old new answer house house.shaped.1.1.0.1 h

  pub category_found : Shown has_category_text (Int (pos n) ∷ []) old new answer → not (length answer == 0) ≡ is_some (find (λ k. k.category == n) (categories_in old.now.trees))
  category_found h = numbered_found has_category_text 4 has_category_is (λ db. refl) category_in (λ (k : Category). k.category) (λ r. refl) n low old new answer house house.shaped.1.1.1.0.1 h

-- where the row of a number has a property, the number is one of those that it has
pub here_number : {A : Type 0} (number : A → ℕ) (P : A → Type 0) (Is : ℕ → Type 0) (n : ℕ) (xs : List A) → ((x : A) → P x → Is (number x)) → IfSome (find (λ x. number x == n) xs) P
    → is_some (find (λ x. number x == n) xs) ≡ true → Is n
here_number number P Is n [] has fits found = absurd (let e : false ≡ true = found in cc)
here_number number P Is n (x ∷ xs) has fits found =
    elim (by_test (number x == n)) [
      | inl is ↦ (let same : number x ≡ n = grind (arith, nat_tests, is) in rw (← same) (has x (rw is at fits)))
      | inr not ↦ here_number number P Is n xs has (rw not at fits) (rw not at found)
    ]
