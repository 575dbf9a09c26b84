-- What a new clock leaves of a numbered house.
use Rattle.std.proofs.Common.{◌≡◌, ℕ, true, not, List, [], ◌∷◌, map, filter, find, Option, Some, None, refl, ap, ◌∙◌, inl, inr, arith}
use Rattle.std.specs.Prelude.{◌==◌, is_some, option_map, unwrap_or}
use Rattle.sqlite.specs.Effect.{Database}
use Rattle.house_rows.specs.Tables.{Tables}
use Rattle.house_rows.proofs.Put.{by_test}
use Rattle.store_rows.specs.House.{SetsClock, with_clock}
use Rattle.store_rows.specs.Rows.{houses_in}
use Rattle.store_rows.specs.declared.house.HouseRow.{HouseRow}
use Rattle.store_rows.specs.Tables.{IsNumbered, house_row_in, other_houses_in, settings_in, tables_in, version_in}

-- a numbered house with these tables
pub record Holds (t : Tables) (db : Database) : Type 0 where
  pub tables : tables_in db.trees ≡ t
  pub numbered : IsNumbered db.trees

abbrev at_moment : ℕ → HouseRow → HouseRow
at_moment moment h = record h { clock = moment }

-- the row of the house is found with the new clock
found_with_clock : (moment : ℕ) (rows : List HouseRow) → find (λ h. h.id == 1) (map (with_clock moment) rows) ≡ option_map (at_moment moment) (find (λ h. h.id == 1) rows)
found_with_clock moment [] = refl
found_with_clock moment (h ∷ rows) = elim (by_test (h.id == 1)) [ inl is ↦ rw (is, is) refl | inr not ↦ rw (not, not) (found_with_clock moment rows) ]

unwrapped : (moment : ℕ) (found : Option HouseRow) (none : HouseRow) → is_some found ≡ true → unwrap_or (option_map (at_moment moment) found) none ≡ record (unwrap_or found none) { clock = moment }
unwrapped moment None none h = absurd cc
unwrapped moment (Some row) none h = refl

still_some : (moment : ℕ) (found : Option HouseRow) → is_some found ≡ true → is_some (option_map (at_moment moment) found) ≡ true
still_some moment None h = h
still_some moment (Some row) h = h

same_version : (moment : ℕ) (found : Option HouseRow) → option_map (λ (h : HouseRow). h.version) (option_map (at_moment moment) found) ≡ option_map (λ (h : HouseRow). h.version) found
same_version moment None = refl
same_version moment (Some row) = refl

-- and of the same version
pub clock_version : (moment : ℕ) (old new : Database) → SetsClock moment old new → version_in new.trees ≡ version_in old.trees
clock_version moment old new w =
    ap (λ rows. option_map (λ (h : HouseRow). h.version) (find (λ h. h.id == 1) rows)) w.houses
    ∙ ap (option_map (λ (h : HouseRow). h.version)) (found_with_clock moment (houses_in old.trees)) ∙ same_version moment (find (λ h. h.id == 1) (houses_in old.trees))

-- the rows of other numbers keep their clocks
others_with_clock : (moment : ℕ) (rows : List HouseRow) → filter (λ h. not (h.id == 1)) (map (with_clock moment) rows) ≡ filter (λ h. not (h.id == 1)) rows
others_with_clock moment [] = refl
others_with_clock moment (h ∷ rows) =
    elim (by_test (h.id == 1)) [
      | inl is ↦ rw (is, is) (others_with_clock moment rows)
      | inr other ↦ rw (other, other) (ap (λ (l : List HouseRow). h ∷ l) (others_with_clock moment rows))
    ]

-- so no row but the house's is another
pub clock_others : (moment : ℕ) (old new : Database) → SetsClock moment old new → other_houses_in new.trees ≡ other_houses_in old.trees
clock_others moment old new w =
    ap (filter (λ (h : HouseRow). not (h.id == 1))) w.houses ∙ others_with_clock moment (houses_in old.trees)

pub clock_set : (moment : ℕ) (old new : Database) → IsNumbered old.trees → SetsClock moment old new → Holds (record (tables_in old.trees) { clock = moment }) new
unfolding house_row_in settings_in tables_in
clock_set moment old new was w =
    let found = ap (find (λ h. h.id == 1)) w.houses ∙ found_with_clock moment (houses_in old.trees) in
    let row = ap (λ o. unwrap_or o (record { id = 0; version = 0; clock = 0; rate = 0; zone = [] })) found ∙ unwrapped moment (find (λ h. h.id == 1) (houses_in old.trees)) _ was.house in
    let b : new.trees 1 ≡ old.trees 1 = w.others.1.0 (λ e. omega (arith, e)) in
    let m : new.trees 2 ≡ old.trees 2 = w.others.1.1.0 (λ e. omega (arith, e)) in
    let k : new.trees 4 ≡ old.trees 4 = w.others.1.1.1.0 (λ e. omega (arith, e)) in
    let i : new.trees 6 ≡ old.trees 6 = w.others.1.1.1.1.0 (λ e. omega (arith, e)) in
    let d : new.trees 8 ≡ old.trees 8 = w.others.1.1.1.1.1.0 (λ e. omega (arith, e)) in
    let v : new.trees 10 ≡ old.trees 10 = w.others.1.1.1.1.1.1.0 (λ e. omega (arith, e)) in
    let q : new.trees 12 ≡ old.trees 12 = w.others.1.1.1.1.1.1.1.0 (λ e. omega (arith, e)) in
    let f : new.trees 14 ≡ old.trees 14 = w.others.1.1.1.1.1.1.1.1.0 (λ e. omega (arith, e)) in
    let r : new.trees 23 ≡ old.trees 23 = w.others.1.1.1.1.1.1.1.1.1.0 (λ e. omega (arith, e)) in
    let s : new.trees 24 ≡ old.trees 24 = w.others.1.1.1.1.1.1.1.1.1.1.0 (λ e. omega (arith, e)) in
    let l : new.trees 25 ≡ old.trees 25 = w.others.1.1.1.1.1.1.1.1.1.1.1.0 (λ e. omega (arith, e)) in
    record {
      tables = rw (b, m, k, i, r, d, v, q, f, s, l, row) refl;
      numbered = record {
        house = ap is_some found ∙ still_some moment (find (λ h. h.id == 1) (houses_in old.trees)) was.house;
        members = rw m was.members;
        categories = rw k was.categories;
        items = rw (i, r) was.items;
        reserves = rw (i, r) was.reserves;
        editions = rw s was.editions;
        later_bands = rw (s, l) was.later_bands;
      };
    }
