-- What a table whose rows fit shows, fits.
use Rattle.std.proofs.Common.{◌≡◌, Bool, true, false, cond, List, [], ◌∷◌, map, filter, find, option_map, slice_get, Some, IfSome, sym, subst, inl, inr, ℕ, suc, zero, ◌<◌, length, get_or, arith}
use Rattle.std.specs.List.{AllByRecursion}
use Rattle.house_rows.proofs.Put.{by_test}
use Rattle.sqlite_value.specs.Order.{Row}
use Rattle.sqlite_keyed.proofs.ListLemmas.{all-filter}

module _ {T : Type 0} (report : Row → T) (Fits : T → Type 0) where
  pub found_fits : (p : T → Bool) (table : List T) → AllByRecursion Fits table → IfSome (find p table) Fits
  found_fits p [] all = search
  found_fits p (x ∷ table) all = go (p x) (found_fits p table all.1)
    where
      go : (b : Bool) → IfSome (find p table) Fits → IfSome (cond b (Some x) (find p table)) Fits
      go true later = all.0
      go false later = later

  -- the first row, of a look-up
  pub first_fits : (rows : List Row) (p : T → Bool) (table : List T) → option_map report (slice_get rows 0) ≡ find p table → AllByRecursion Fits table → IfSome (option_map report (slice_get rows 0)) Fits
  first_fits rows p table same all = subst (λ o. IfSome o Fits) (sym same) (found_fits p table all)

  -- each row, of a list
  pub rows_fit : (rows : List Row) (keep : T → Bool) (table : List T) → map report rows ≡ filter keep table → AllByRecursion Fits table → AllByRecursion Fits (map report rows)
  rows_fit rows keep table same all = subst (AllByRecursion Fits) (sym same) (all-filter Fits keep table all)

-- a row of those that fit
pub row_fits : {T : Type 0} (report : Row → T) (Fits : T → Type 0) (rows : List Row) (i : ℕ) (r : Row) → i < length rows → AllByRecursion Fits (map report rows) → Fits (report (get_or rows i r))
row_fits report Fits [] i r low all = absurd (omega (arith, low))
row_fits report Fits (x ∷ rows) zero r low all = all.0
row_fits report Fits (x ∷ rows) (suc i) r low all = row_fits report Fits rows i r (omega (arith, low)) all.1

-- of rows that fit where they pass a test those fit that pass it
pub kept_where : {T : Type 0} (p : T → Bool) (Fits : T → Type 0) (table : List T) → AllByRecursion (λ x. p x ≡ true → Fits x) table → AllByRecursion Fits (filter p table)
kept_where p Fits [] fits = tt
kept_where p Fits (x ∷ table) fits =
    let rest = kept_where p Fits table fits.1 in
    elim (by_test (p x)) [ inl is ↦ rw is (fits.0 is, rest) | inr not ↦ rw not rest ]

-- and where those fit that pass a test, rows fit that pass it
pub where_kept : {T : Type 0} (p : T → Bool) (Fits : T → Type 0) (table : List T) → AllByRecursion Fits (filter p table) → AllByRecursion (λ x. p x ≡ true → Fits x) table
where_kept p Fits [] fits = tt
where_kept p Fits (x ∷ table) fits =
    elim (by_test (p x)) [
      | inl is ↦ (let kept : Fits x × AllByRecursion Fits (filter p table) = rw is at fits in ((λ passes. kept.0), where_kept p Fits table kept.1))
      | inr not ↦ ((λ passes. absurd cc), where_kept p Fits table (rw not at fits))
    ]
