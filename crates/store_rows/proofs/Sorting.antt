-- Rows in the order of their keys, as the writes leave them and the reads find them.
use Rattle.std.proofs.Common.{◌≡◌, ◌≤◌, List, [], ◌∷◌, ◌++◌, map, filter, find, length, slice_get, Bool, true, false, refl, sym, ap, ◌∙◌, arith, inl, inr, IsPermutation}
use Rattle.std.specs.Prelude.{fold}
use Rattle.std.specs.List.{AllByRecursion}
use Rattle.std.proofs.lemmas.List.{append-nil}
use Rattle.std.proofs.lemmas.List.Sums.{fold_push}
use Rattle.std.proofs.lemmas.List.Sorted.{length_permutation, IsPermutation-refl, IsPermutation-sym, IsPermutation-cons, IsPermutation-trans, IsPermutation-middle, IsPermutation-append_left}
use Rattle.sqlite_trees.specs.Tree.{IsAscending}
use Rattle.sqlite_keyed.proofs.ListLemmas.{all_both, any_from_none, slice_get-filter}
use Rattle.house_rows.specs.History.{Key, is_less, put_by}
use Rattle.house_rows.proofs.Every.{every_put}
use Rattle.house_rows.proofs.Put.{IsInOrder, by_test, filter_put, filter_put_other, put_in_order}
use Rattle.list_rows.specs.Blocks.{IsRising, same_key}
use Rattle.list_rows.proofs.Order.{rising_put}
use Rattle.store_rows.specs.Sorted.{sorted_by}

-- no row has the key of a later one
abbrev pub AreApart : {A : Type 0} → (A → Key) → List A → Type 0
AreApart key = IsAscending (λ a b. same_key (key a) (key b) ≡ false)

put_map : {A B : Type 0} (key : A → Key) (other : B → Key) (f : A → B) → ((x : A) → other (f x) ≡ key x) → (x : A) (xs : List A) → map f (put_by key x xs) ≡ put_by other (f x) (map f xs)
put_map key other f same x [] = refl
put_map key other f same x (y ∷ ys) =
    elim (by_test (is_less (key x) (key y))) [
      | inl less ↦ (let also : is_less (other (f x)) (other (f y)) ≡ true = rw (same x, same y) less in rw (less, also) refl)
      | inr not ↦ (let also : is_less (other (f x)) (other (f y)) ≡ false = rw (same x, same y) not in rw (not, also) (ap (λ l. f y ∷ l) (put_map key other f same x ys)))
    ]

put_moves : {A : Type 0} (key : A → Key) (x : A) (xs : List A) → IsPermutation (put_by key x xs) (x ∷ xs)
put_moves key x [] = IsPermutation-refl (x ∷ [])
put_moves key x (y ∷ ys) =
    elim (by_test (is_less (key x) (key y))) [
      | inl less ↦ rw less (IsPermutation-refl (x ∷ y ∷ ys))
      | inr not ↦ rw not (IsPermutation-trans _ _ _ (IsPermutation-cons y _ _ (put_moves key x ys)) (IsPermutation-middle (y ∷ []) x ys))
    ]

module _ {A : Type 0} (key : A → Key) where
  -- rows put one after another among sorted ones
  abbrev placed : List A → List A → List A
  placed sorted rows = fold (λ all row. put_by key row all) sorted rows

  placed_in_order : (sorted rows : List A) → IsInOrder key sorted → IsInOrder key (placed sorted rows)
  placed_in_order sorted [] order = order
  placed_in_order sorted (x ∷ rows) order = placed_in_order (put_by key x sorted) rows (put_in_order key x sorted order)

  filter_placed : (p : A → Bool) (sorted rows : List A) → IsInOrder key sorted → filter p (placed sorted rows) ≡ placed (filter p sorted) (filter p rows)
  filter_placed p sorted [] order = refl
  filter_placed p sorted (x ∷ rows) order =
      let rest = filter_placed p (put_by key x sorted) rows (put_in_order key x sorted order) in
      elim (by_test (p x)) [
        | inl is ↦ rw is (rest ∙ ap (λ s. placed s (filter p rows)) (filter_put key p x sorted is order))
        | inr not ↦ rw not (rest ∙ ap (λ s. placed s (filter p rows)) (filter_put_other key p x sorted not))
      ]

  placed_map : {B : Type 0} (other : B → Key) (f : A → B) → ((x : A) → other (f x) ≡ key x) → (sorted rows : List A)
      → map f (placed sorted rows) ≡ fold (λ all row. put_by other row all) (map f sorted) (map f rows)
  placed_map other f same sorted [] = refl
  placed_map other f same sorted (x ∷ rows) =
      placed_map other f same (put_by key x sorted) rows ∙ ap (λ s. fold (λ all row. put_by other row all) s (map f rows)) (put_map key other f same x sorted)

  placed_moves : (sorted rows : List A) → IsPermutation (placed sorted rows) (sorted ++ rows)
  placed_moves sorted [] = rw (append-nil sorted) (IsPermutation-refl sorted)
  placed_moves sorted (x ∷ rows) =
      IsPermutation-trans _ _ _ (placed_moves (put_by key x sorted) rows)
      (IsPermutation-trans _ _ _ (IsPermutation-append_left rows _ _ (put_moves key x sorted)) (IsPermutation-sym _ _ (IsPermutation-middle sorted x rows)))

  -- no sorted row has the key of one to come
  abbrev AreFree : List A → List A → Type 0
  AreFree sorted rows = AllByRecursion (λ r. AllByRecursion (λ y. same_key (key y) (key r) ≡ false) sorted) rows

  placed_rising : (sorted rows : List A) → IsRising key sorted → AreFree sorted rows → AreApart key rows → IsRising key (placed sorted rows)
  placed_rising sorted [] rising free apart = rising
  placed_rising sorted (x ∷ rows) rising free apart =
      placed_rising (put_by key x sorted) rows (rising_put key x sorted rising (any_from_none (λ y. same_key (key y) (key x)) sorted free.0))
      (all_both _ _ (λ r. AllByRecursion (λ y. same_key (key y) (key r) ≡ false) (put_by key x sorted))
      (λ r all one. every_put key (λ y. same_key (key y) (key r) ≡ false) x sorted all one) rows free.1 apart.0) apart.1

  -- a row more at the end is put in its place
  pub sorted_more : (rows : List A) (x : A) → sorted_by key (rows ++ x ∷ []) ≡ put_by key x (sorted_by key rows)
  unfolding sorted_by
  sorted_more rows x = fold_push (λ all row. put_by key row all) [] rows x

  pub sorted_in_order : (rows : List A) → IsInOrder key (sorted_by key rows)
  unfolding sorted_by
  sorted_in_order rows = placed_in_order [] rows tt

  -- the rows that pass a test, in order
  pub filter-sorted : (p : A → Bool) (rows : List A) → filter p (sorted_by key rows) ≡ sorted_by key (filter p rows)
  unfolding sorted_by
  filter-sorted p rows = filter_placed p [] rows tt

  -- a change that keeps the keys
  pub map-sorted : {B : Type 0} (other : B → Key) (f : A → B) → ((x : A) → other (f x) ≡ key x) → (rows : List A) → map f (sorted_by key rows) ≡ sorted_by other (map f rows)
  unfolding sorted_by
  map-sorted other f same rows = placed_map other f same [] rows

  pub sorted_moves : (rows : List A) → IsPermutation (sorted_by key rows) rows
  unfolding sorted_by
  sorted_moves rows = placed_moves [] rows

  pub length-sorted : (rows : List A) → length (sorted_by key rows) ≡ length rows
  length-sorted rows = sym (length_permutation _ _ (sorted_moves rows))

  pub count-sorted : (p : A → Bool) (rows : List A) → length (filter p (sorted_by key rows)) ≡ length (filter p rows)
  count-sorted p rows = ap length (filter-sorted p rows) ∙ length-sorted (filter p rows)

  one_sorted : (rows : List A) → length rows ≤ 1 → sorted_by key rows ≡ rows
  unfolding sorted_by
  one_sorted [] few = refl
  one_sorted (x ∷ []) few = refl
  one_sorted (x ∷ y ∷ rows) few = absurd (omega (arith, few))

  -- what one row at most passes is found in any order
  pub find-sorted : (p : A → Bool) (rows : List A) → length (filter p rows) ≤ 1 → find p (sorted_by key rows) ≡ find p rows
  find-sorted p rows few =
      sym (slice_get-filter p (sorted_by key rows)) ∙ ap (λ l. slice_get l 0) (filter-sorted p rows ∙ one_sorted (filter p rows) few) ∙ slice_get-filter p rows

  -- with keys apart, each is less than all that follow
  pub sorted_rising : (rows : List A) → AreApart key rows → IsRising key (sorted_by key rows)
  unfolding sorted_by
  sorted_rising rows apart = placed_rising [] rows tt (free rows) apart
    where
      free : (l : List A) → AreFree [] l
      free [] = tt
      free (x ∷ l) = (tt, free l)
