-- What is read of the editions, row by row.
use Rattle.std.proofs.Common.{◌≡◌, ◌≤◌, ◌<◌, ◌+◌, ◌&&◌, ℕ, zero, suc, Bool, true, List, [], ◌∷◌, ◌++◌, get_or, length, take, refl, sym, ap, subst, ◌∙◌, arith}
use Rattle.std.specs.Prelude.{nat_le, All}
use Rattle.std.specs.List.{AllByRecursion, list_all}
use Rattle.std.proofs.lemmas.Bool.Decides.{nat_tests}
use Rattle.std.proofs.lemmas.List.{length-take-le, take_more}
use Rattle.std.proofs.lemmas.List.Elements.{All-from_recursion}
use Rattle.sqlite_keyed.proofs.RuleLemmas.{first_of_both, second_of_both}
use Rattle.sqlite_trees.specs.Tree.{Trees}
use Rattle.steps.specs.Table.{IsBandTable}
use Rattle.house_rows.specs.Editions.{BandTables}
use Rattle.house_rows.specs.Fits.{IsWithin}
use Rattle.house_rows.specs.Keeping.{AreInTurn}
use Rattle.house_rows.specs.Tables.{band_tables}
use Rattle.house_rows.specs.declared.edition.Edition.{Edition}
use Rattle.house_rows.specs.declared.settings.Settings.{Settings}
use Rattle.store_rows.specs.declared.edition.EditionRow.{EditionRow}
use Rattle.store_rows.specs.declared.edition.LaterBandRow.{LaterBandRow}
use Rattle.store_rows.specs.Tables.{bands_at, editions_by, editions_in, settings_in, tables_in}
use Rattle.store_house.specs.Opening.{HasEditions}

-- ---- a test of all bands, as it is read off a slice

abbrev pub is_of : ℕ → LaterBandRow → Bool
is_of most = λ b. nat_le 2 b.edition && nat_le b.edition most

pub within_is : (most : ℕ) (rows : List LaterBandRow) → list_all (is_of most) rows ≡ true → AllByRecursion (λ b. IsWithin 2 most b.edition) rows
within_is most [] is = tt
within_is most (b ∷ rows) is =
    let here = first_of_both (is_of most b) (list_all (is_of most) rows) is in
    let least = first_of_both (nat_le 2 b.edition) (nat_le b.edition most) here in
    let last = second_of_both (nat_le 2 b.edition) (nat_le b.edition most) here in
    ((grind (arith, nat_tests, least), grind (arith, nat_tests, last)), within_is most rows (second_of_both (is_of most b) (list_all (is_of most) rows) is))

pub is_within : (most : ℕ) (rows : List LaterBandRow) → AllByRecursion (λ b. IsWithin 2 most b.edition) rows → list_all (is_of most) rows ≡ true
is_within most [] all = refl
is_within most (b ∷ rows) all =
    let low = all.0.0 in
    let high = all.0.1 in
    let least : nat_le 2 b.edition ≡ true = grind (arith, nat_tests, low) in
    let last : nat_le b.edition most ≡ true = grind (arith, nat_tests, high) in
    rw (least, last) (is_within most rows all.1)

-- none has a greater number
pub none_over : (most : ℕ) (rows : List LaterBandRow) → AllByRecursion (λ b. IsWithin 2 most b.edition) rows → AllByRecursion (λ b. b.edition ≤ most) rows
none_over most [] all = tt
none_over most (b ∷ rows) all = (all.0.1, none_over most rows all.1)

-- ---- one row after another

-- the editions of one row more
pub editions_more : (bands : List LaterBandRow) (rows : List EditionRow) (r : EditionRow) → editions_by bands (rows ++ r ∷ []) ≡ editions_by bands rows ++ record { edition = r.edition; first = r.first; bands = bands_at r.edition bands } ∷ []
editions_more bands [] r = refl
editions_more bands (x ∷ rows) r = ap (λ (es : List Edition). record { edition = x.edition; first = x.first; bands = bands_at x.edition bands } ∷ es) (editions_more bands rows r)

pub as_many : (bands : List LaterBandRow) (rows : List EditionRow) → length (editions_by bands rows) ≡ length rows
as_many bands [] = refl
as_many bands (r ∷ rows) = ap suc (as_many bands rows)

tables_on : (bands : List LaterBandRow) (rows : List EditionRow) (r : EditionRow) → AllByRecursion (λ (e : Edition). IsBandTable e.bands) (editions_by bands rows) → IsBandTable (bands_at r.edition bands)
    → AllByRecursion (λ (e : Edition). IsBandTable e.bands) (editions_by bands (rows ++ r ∷ []))
tables_on bands [] r all is = (is, tt)
tables_on bands (x ∷ rows) r all is = (all.0, tables_on bands rows r all.1 is)

pub tables_more : (bands : List LaterBandRow) (rows : List EditionRow) (i : ℕ) (d : EditionRow) → i < length rows → AllByRecursion (λ (e : Edition). IsBandTable e.bands) (editions_by bands (take i rows))
    → IsBandTable (bands_at (get_or rows i d).edition bands) → AllByRecursion (λ (e : Edition). IsBandTable e.bands) (editions_by bands (take (i + 1) rows))
tables_more bands rows i d low all is =
    subst (λ (l : List EditionRow). AllByRecursion (λ (e : Edition). IsBandTable e.bands) (editions_by bands l)) (sym (take_more rows i d low)) (tables_on bands (take i rows) (get_or rows i d) all is)

abbrev number : EditionRow → ℕ
number r = r.edition

in_turn_on : (next : ℕ) (rows : List EditionRow) (r : EditionRow) → AreInTurn number next rows → r.edition ≡ length rows + next → AreInTurn number next (rows ++ r ∷ [])
in_turn_on next [] r turn is = (omega (arith, is), tt)
in_turn_on next (x ∷ rows) r turn is = (turn.0, in_turn_on (next + 1) rows r turn.1 (omega (arith, is)))

pub turn_more : (rows : List EditionRow) (i : ℕ) (d : EditionRow) → i < length rows → AreInTurn number 2 (take i rows) → (get_or rows i d).edition ≡ i + 2 → AreInTurn number 2 (take (i + 1) rows)
turn_more rows i d low turn is =
    let long = length-take-le i rows (omega (arith, low)) in
    subst (AreInTurn number 2) (sym (take_more rows i d low)) (in_turn_on 2 (take i rows) (get_or rows i d) turn (omega (arith, is, long)))

pub nth_number : (next : ℕ) (rows : List EditionRow) (i : ℕ) (d : EditionRow) → AreInTurn number next rows → i < length rows → (get_or rows i d).edition ≡ i + next
nth_number next [] i d turn low = absurd (omega (arith, low))
nth_number next (r ∷ rows) zero d turn low = let here : r.edition ≡ next = turn.0 in let plus : 0 + next ≡ next = omega arith in here ∙ sym plus
nth_number next (r ∷ rows) (suc i) d turn low =
    let plus : i + (next + 1) ≡ suc i + next = omega arith in
    nth_number (next + 1) rows i d turn.1 (omega (arith, low)) ∙ plus

pub nth_table : (bands : List LaterBandRow) (rows : List EditionRow) (i : ℕ) (d : EditionRow) → AllByRecursion (λ (e : Edition). IsBandTable e.bands) (editions_by bands rows) → i < length rows
    → IsBandTable (bands_at (get_or rows i d).edition bands)
nth_table bands [] i d all low = absurd (omega (arith, low))
nth_table bands (r ∷ rows) zero d all low = all.0
nth_table bands (r ∷ rows) (suc i) d all low = nth_table bands rows i d all.1 (omega (arith, low))

-- ---- the editions that a house has

-- numbers in turn from 2 are at most how many there are with the first
turn_within : (next most : ℕ) (rows : List EditionRow) → AreInTurn number next rows → length rows + next ≤ most + 1 → AllByRecursion (λ (r : EditionRow). r.edition ≤ most) rows
turn_within next most [] turn low = tt
turn_within next most (r ∷ rows) turn low = let first : r.edition ≡ next = turn.0 in (omega (arith, first, low), turn_within (next + 1) most rows turn.1 (omega (arith, low)))

pub are_numbered : (rows : List EditionRow) → AreInTurn number 2 rows → All (λ (r : EditionRow). r.edition ≤ length rows + 1) rows
are_numbered rows turn = All-from_recursion (λ (r : EditionRow). r.edition ≤ length rows + 1) rows (turn_within 2 (length rows + 1) rows turn (omega arith))

pub are_tables : (db : Trees) (editions : BandTables) → settings_in db ≡ editions.settings → HasEditions db editions.later → band_tables (tables_in db) ≡ editions
unfolding tables_in
are_tables db editions set has =
    ap (λ (s : Settings). record { settings = s; later = editions_in db }) set ∙ ap (λ (es : List Edition). record { settings = editions.settings; later = es }) (sym has.editions_are)
