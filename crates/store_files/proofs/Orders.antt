-- A database in some order of its trees is in any other order what it is in the first one.
use Rattle.std.proofs.Common.{◌≡◌, ◌<◌, ◌≤◌, ◌+◌, ◌∙◌, ℕ, zero, suc, pos, negsuc, add-one, Bool, true, false, cond, List, [], ◌∷◌, map, length, Option, Some, None, option_map, refl, sym, ap, arith, inl, inr}
use Rattle.std.specs.Prelude.{ℤ, find, max}
use Rattle.std.specs.List.{range_with_len}
use Rattle.std.proofs.lemmas.Bool.{cases_eq, cases_lt}
use Rattle.std.proofs.lemmas.List.{get_or-map, length-map}
use Rattle.std.proofs.lemmas.List.FromFn.{get_or-range_with_len, length-range_with_len}
use mathlib.Core.Path.{fun_ext}
use Rattle.sqlite_value.specs.declared.value.Value.TheVariants.{Null, Int, Real, Text, Blob}
use Rattle.sqlite_value.specs.Order.{Row}
use Rattle.sqlite_trees.specs.Objects.{catalog_tree}
use Rattle.sqlite_trees.specs.Tree.{Trees, has_rowid}
use Rattle.sqlite_trees.specs.View.{IsShaped}
use Rattle.sqlite_trees.specs.declared.store.Shape.TheVariants.{Table}
use Rattle.tree_order.specs.Laws.{never_catalog, trees_at}
use Rattle.tree_order.specs.NumberLaws.{number_back, number_past, other_way}
use Rattle.tree_order.specs.Numbers.{AreInverse, number}
use Rattle.tree_order.specs.Renumbered.{renumbered_trees}
use Rattle.tree_order.specs.RowLaws.{find-renumbered, renumbered_table, rows_back}
use Rattle.tree_order.specs.Rows.{in_order, is_table, renumbered_row, renumbered_rows, shifted}
use Rattle.tree_order.specs.TableLaws.{same_table, table_from_test}
use Rattle.store_house.specs.Named.{IsReordered}

-- ---- one list of numbers for two

-- where the first list leads, the second leads on
abbrev pub both_numbers : List ℕ → List ℕ → List ℕ
both_numbers first second = map (λ t. number second (number first t)) (range_with_len 0 (max (length first) (length second)))

both_length : (first second : List ℕ) → length (both_numbers first second) ≡ max (length first) (length second)
both_length first second = length-map (range_with_len 0 (max (length first) (length second))) _ ∙ length-range_with_len 0 (max (length first) (length second))

both_at : (first second : List ℕ) (t : ℕ) → number (both_numbers first second) t ≡ number second (number first t)
both_at first second t = elim (cases_lt t (max (length first) (length second))) [
  | inl low ↦
      get_or-map (λ s. number second (number first s)) (range_with_len 0 (max (length first) (length second))) t 0 t (omega (arith, length-range_with_len 0 (max (length first) (length second))))
      ∙ ap (λ s. number second (number first s)) (omega (arith, get_or-range_with_len 0 (max (length first) (length second)) t 0 low))
  | inr past ↦
      number_past (both_numbers first second) t (omega (arith, both_length first second))
      ∙ sym (ap (number second) (number_past first t (omega arith)) ∙ number_past second t (omega arith))
]

-- a list leads from below a number to below it
pub stays_low : (inner outer : List ℕ) → AreInverse inner outer → (most t : ℕ) → length inner ≤ most → t < most → number inner t < most
stays_low inner outer h most t within low = elim (cases_lt t (length inner)) [
  | inl small ↦ omega (arith, h.low t small)
  | inr past ↦ omega (arith, number_past inner t past)
]

module _ (inner outer more_inner more_outer : List ℕ) (h : AreInverse inner outer) (k : AreInverse more_inner more_outer) where
  abbrev pub in_all : List ℕ
  in_all = both_numbers more_inner inner

  abbrev pub out_all : List ℕ
  out_all = both_numbers outer more_outer

  lengths : length out_all ≡ length in_all
  lengths = omega (arith, both_length outer more_outer, both_length more_inner inner, h.same, k.same)

  back_all : (t : ℕ) → number out_all (number in_all t) ≡ t
  back_all t =
      both_at outer more_outer (number in_all t)
      ∙ ap (λ s. number more_outer (number outer s)) (both_at more_inner inner t)
      ∙ ap (number more_outer) (number_back inner outer h (number more_inner t))
      ∙ number_back more_inner more_outer k t

  forth_all : (t : ℕ) → number in_all (number out_all t) ≡ t
  forth_all t =
      both_at more_inner inner (number out_all t)
      ∙ ap (λ s. number inner (number more_inner s)) (both_at outer more_outer t)
      ∙ ap (number inner) (number_back more_outer more_inner (other_way more_inner more_outer k) (number outer t))
      ∙ number_back outer inner (other_way inner outer h) t

  in_low : (t : ℕ) → t < length in_all → number in_all t < length in_all
  in_low t low =
      let n : length in_all ≡ max (length more_inner) (length inner) = both_length more_inner inner in
      let first : number more_inner t < length in_all = stays_low more_inner more_outer k (length in_all) t (omega (arith, n)) low in
      let next : number inner (number more_inner t) < length in_all = stays_low inner outer h (length in_all) (number more_inner t) (omega (arith, n)) first in
      omega (arith, both_at more_inner inner t, next)

  out_low : (t : ℕ) → t < length in_all → number out_all t < length in_all
  out_low t low =
      let n : length in_all ≡ max (length more_inner) (length inner) = both_length more_inner inner in
      let first : number outer t < length in_all = stays_low outer inner (other_way inner outer h) (length in_all) t (omega (arith, n, h.same)) low in
      let next : number more_outer (number outer t) < length in_all = stays_low more_outer more_inner (other_way more_inner more_outer k) (length in_all) (number outer t) (omega (arith, n, k.same)) first in
      omega (arith, both_at outer more_outer t, next)

  pub all_inverse : AreInverse in_all out_all
  all_inverse = record {
    few = omega (arith, both_length more_inner inner, h.few, k.few);
    same = lengths;
    low = in_low;
    back = λ t low. back_all t;
    high = out_low;
    forth = λ t low. forth_all t;
  }

-- ---- the list of objects

id_all : (first second : List ℕ) (id : ℤ) → shifted (both_numbers first second) id ≡ shifted second (shifted first id)
id_all first second (pos zero) = refl
id_all first second (pos (suc t)) =
    ap (λ n. pos (n + 1)) (both_at first second t)
    ∙ sym (ap (λ n. shifted second (pos n)) (add-one (number first t)))
id_all first second (negsuc n) = refl

row_all : (first second : List ℕ) (row : Row) → renumbered_row (both_numbers first second) row ≡ renumbered_row second (renumbered_row first row)
row_all first second [] = refl
row_all first second (Null ∷ more) = refl
row_all first second (Int id ∷ more) = ap (λ k. Int k ∷ more) (id_all first second id)
row_all first second (Real x ∷ more) = refl
row_all first second (Text t ∷ more) = refl
row_all first second (Blob b ∷ more) = refl

found_all : (first second : List ℕ) (o : Option Row) → option_map (renumbered_row second) (option_map (renumbered_row first) o) ≡ option_map (renumbered_row (both_numbers first second)) o
found_all first second None = refl
found_all first second (Some row) = ap Some (sym (row_all first second row))

rows_all : (inner outer more_inner more_outer : List ℕ) → AreInverse inner outer → AreInverse more_inner more_outer → (rows : List Row)
    → renumbered_rows more_outer (renumbered_rows outer rows) ≡ renumbered_rows (both_numbers outer more_outer) rows
rows_all inner outer more_inner more_outer h k rows = go (is_table rows) refl
  where
    all : AreInverse (both_numbers more_inner inner) (both_numbers outer more_outer)
    all = all_inverse inner outer more_inner more_outer h k

    found : IsShaped Table rows → (id : ℤ) → find (has_rowid id) (renumbered_rows more_outer (renumbered_rows outer rows)) ≡ find (has_rowid id) (renumbered_rows (both_numbers outer more_outer) rows)
    found table id =
        find-renumbered more_inner more_outer k id (renumbered_rows outer rows) (renumbered_table outer rows table)
        ∙ ap (option_map (renumbered_row more_outer)) (find-renumbered inner outer h (shifted more_inner id) rows table)
        ∙ found_all outer more_outer (find (has_rowid (shifted inner (shifted more_inner id))) rows)
        ∙ ap (λ n. option_map (renumbered_row (both_numbers outer more_outer)) (find (has_rowid n) rows)) (sym (id_all more_inner inner id))
        ∙ sym (find-renumbered (both_numbers more_inner inner) (both_numbers outer more_outer) all id rows table)

    none : (numbers : List ℕ) (some : List Row) → is_table some ≡ false → renumbered_rows numbers some ≡ some
    none numbers some not_one = ap (λ b. cond b (in_order (map (renumbered_row numbers) some)) some) not_one

    go : (t : Bool) → is_table rows ≡ t → renumbered_rows more_outer (renumbered_rows outer rows) ≡ renumbered_rows (both_numbers outer more_outer) rows
    go true e =
        let table = table_from_test rows e in
        same_table _ _ (renumbered_table more_outer (renumbered_rows outer rows) (renumbered_table outer rows table)) (renumbered_table (both_numbers outer more_outer) rows table) (found table)
    go false e = ap (renumbered_rows more_outer) (none outer rows e) ∙ none more_outer rows e ∙ sym (none (both_numbers outer more_outer) rows e)

-- ---- the trees

-- trees in some order of their order are trees in some order
trees_all : (inner outer more_inner more_outer : List ℕ) → AreInverse inner outer → AreInverse more_inner more_outer → (below : Trees)
    → renumbered_trees more_inner more_outer (renumbered_trees inner outer below) ≡ renumbered_trees (both_numbers more_inner inner) (both_numbers outer more_outer) below
trees_all inner outer more_inner more_outer h k below = fun_ext (λ tree. elim (cases_eq tree catalog_tree) [
  | inl same ↦
      ap (renumbered_trees more_inner more_outer (renumbered_trees inner outer below)) same
      ∙ rows_all inner outer more_inner more_outer h k (below catalog_tree)
      ∙ ap (renumbered_trees (both_numbers more_inner inner) (both_numbers outer more_outer) below) (sym same)
  | inr other ↦
      trees_at more_inner more_outer (renumbered_trees inner outer below) tree other
      ∙ trees_at inner outer below (number more_inner tree) (never_catalog more_inner more_outer k tree other)
      ∙ ap below (sym (both_at more_inner inner tree))
      ∙ sym (trees_at (both_numbers more_inner inner) (both_numbers outer more_outer) below tree other)
])

-- and back in the first order they are what they were
trees_back : (inner outer : List ℕ) → AreInverse inner outer → (below : Trees) → renumbered_trees outer inner (renumbered_trees inner outer below) ≡ below
trees_back inner outer h below = fun_ext (λ tree. elim (cases_eq tree catalog_tree) [
  | inl same ↦
      ap (renumbered_trees outer inner (renumbered_trees inner outer below)) same
      ∙ rows_back inner outer h (below catalog_tree)
      ∙ ap below (sym same)
  | inr other ↦
      trees_at outer inner (renumbered_trees inner outer below) tree other
      ∙ trees_at inner outer below (number outer tree) (never_catalog outer inner (other_way inner outer h) tree other)
      ∙ ap below (number_back outer inner (other_way inner outer h) tree)
])

pub reordered_back : (below db : Trees) → IsReordered below db → IsReordered db below
reordered_back below db order = record {
  inner = order.outer;
  outer = order.inner;
  inverse = other_way order.inner order.outer order.inverse;
  shown = sym (trees_back order.inner order.outer order.inverse below) ∙ ap (renumbered_trees order.outer order.inner) (sym order.shown);
}

pub reordered_then : (a b c : Trees) → IsReordered a b → IsReordered b c → IsReordered a c
reordered_then a b c first next = record {
  inner = both_numbers next.inner first.inner;
  outer = both_numbers first.outer next.outer;
  inverse = all_inverse first.inner first.outer next.inner next.outer first.inverse next.inverse;
  shown = next.shown ∙ ap (renumbered_trees next.inner next.outer) first.shown
      ∙ trees_all first.inner first.outer next.inner next.outer first.inverse next.inverse a;
}
