-- The items of a member's watches, found by their numbers.
use Rattle.std.proofs.Common.{◌≡◌, ◌<◌, ◌^◌, ℕ, suc, true, false, List, [], ◌∷◌, get_or, map, filter, flat_map, refl, ap, sym, subst, ◌∙◌, arith, inl, inr}
use Rattle.std.specs.Prelude.{◌==◌, AllPairs}
use Rattle.std.specs.List.{AllByRecursion, list_any}
use Rattle.std.proofs.lemmas.Bool.Decides.{nat_tests}
use Rattle.std.proofs.lemmas.List.Elements.{All-from_get_or, recursion_from_All}
use Rattle.sqlite_trees.specs.Tree.{IsAscending, Trees}
use Rattle.sqlite_keyed.proofs.ListLemmas.{filter-map, filter_same}
use Rattle.sqlite.specs.Effect.{Database}
use Rattle.house_rows.specs.Editions.{BandTables}
use Rattle.house_rows.specs.Found.{is_watched, items_watched}
use Rattle.house_rows.specs.Fits.{WatchRowFits}
use Rattle.house_rows.specs.Keeping.{AreSound, AreSoundBy, FitsBy}
use Rattle.house_rows.specs.Taken.{FitWhere}
use Rattle.house_rows.specs.Tables.{ItemRow}
use Rattle.house_rows.specs.Watches.{WatchRow, is_watch}
use Rattle.house_rows.specs.declared.item.Item.{Item}
use Rattle.house_rows.proofs.Every.{every_as, some_has}
use Rattle.house_rows.proofs.Put.{by_test}
use Rattle.store_rows.specs.House.{IsHouse}
use Rattle.store_rows.specs.ItemRows.{items_in}
use Rattle.store_rows.specs.Sorted.{sorted_watches}
use Rattle.store_rows.specs.Tables.{tables_in}
use Rattle.store_items.specs.ConsistentRows.{RowFitsAt}
use Rattle.store_watches.specs.Watched.{WatchedFit, WatchesFit, item_found}
use Rattle.store_rows.specs.Rows.{watches_in}
use Rattle.store_rows.proofs.Sound.{rows_fit, watches_fit}
use Rattle.store_items.proofs.ItemRising.{items_rise, number_of}
use Rattle.store_rows.proofs.Joined.{among, each_among, joined}

pub ascending_pairs : (xs : List ℕ) → AllPairs (λ m n. m < n) xs → IsAscending (λ m n. m < n) xs
ascending_pairs [] pairs = tt
ascending_pairs (x ∷ xs) pairs = (
  recursion_from_All (λ n. x < n) xs (All-from_get_or (λ n. x < n) xs 0 (λ i low. pairs 0 (suc i) 0 (omega arith) (omega (arith, low)))),
  ascending_pairs xs (λ i j d less low. pairs (suc i) (suc j) d (omega (arith, less)) (omega (arith, low))),
)

pub all_small : (xs : List ℕ) → ((i : ℕ) → get_or xs i 0 < 2 ^ 64) → AllByRecursion (λ n. n < 2 ^ 64) xs
all_small xs each = recursion_from_All (λ n. n < 2 ^ 64) xs (All-from_get_or (λ n. n < 2 ^ 64) xs 0 (λ i low. each i))

-- an item is watched where its number is among those of the watches
watched_among : (member n : ℕ) (rows : List WatchRow) → list_any (λ m. n == m) (map (λ (w : WatchRow). w.item) (filter (λ w. w.member == member) rows)) ≡ list_any (is_watch member n) rows
watched_among member n [] = refl
watched_among member n (w ∷ rows) =
    let rest = watched_among member n rows in
    elim (by_test (w.member == member)) [
      | inl is ↦ elim (by_test (w.item == n)) [
        | inl here ↦ (let there : (n == w.item) ≡ true = grind (arith, nat_tests, here) in rw (is, here, there) refl)
        | inr other ↦ (let there : (n == w.item) ≡ false = grind (arith, nat_tests, other) in rw (is, other, there) rest)
      ]
      | inr not ↦ rw not rest
    ]

pub watched_found : (db : Database) (member : ℕ) (numbers : List ℕ) → IsHouse db → numbers ≡ map (λ (w : WatchRow). w.item) (filter (λ w. w.member == member) (sorted_watches db.trees))
    → AllPairs (λ m n. m < n) numbers → AllByRecursion (λ n. n < 2 ^ 64) numbers → flat_map (item_found db.trees) numbers ≡ items_watched (tables_in db.trees) member
unfolding tables_in
watched_found db member numbers house are rise low =
    let rows = items_in db.trees in
    let watches = sorted_watches db.trees in
    let part = λ (row : ItemRow). row.item in
    let same = λ (row : ItemRow). ap (list_any (λ n. number_of row == n)) are ∙ watched_among member (number_of row) watches in
    joined number_of part numbers rows (ascending_pairs numbers rise) low (items_rise db house)
    ∙ ap (map part) (filter_same (among number_of numbers) (λ row. list_any (is_watch member (number_of row)) watches) same rows)
    ∙ sym (filter-map (λ (it : Item). list_any (is_watch member it.terms.item) watches) part rows)

-- the rows of the items that a member watches fit
pub watched_fit_at : (db : Trees) (editions : BandTables) (member : ℕ) (numbers : List ℕ) → numbers ≡ map (λ (w : WatchRow). w.item) (filter (λ w. w.member == member) (sorted_watches db))
    → FitWhere (λ row. is_watched (tables_in db) member row.item.terms.item) (FitsBy editions) (items_in db) → AllByRecursion (RowFitsAt editions db) numbers
unfolding tables_in
watched_fit_at db editions member numbers are fits =
    let watches = sorted_watches db in
    let here = λ (n : ℕ) (is : list_any (is_watch member n) watches ≡ true).
    every_as (λ (row : ItemRow). list_any (is_watch member (number_of row)) watches ≡ true → FitsBy editions row) (λ (row : ItemRow). number_of row ≡ n → FitsBy editions row) (items_in db)
    (λ row fit same. fit (subst (λ (i : ℕ). list_any (is_watch member i) watches ≡ true) (sym same) is)) fits in
    each_among (RowFitsAt editions db) numbers (λ n is. here n (sym (ap (list_any (λ m. n == m)) are ∙ watched_among member n watches) ∙ is))

-- what is so of each of the numbers is so of each item that the member watches
pub watched_kept : (P : ℕ → Type 0) (db : Trees) (member : ℕ) (numbers : List ℕ) → numbers ≡ map (λ (w : WatchRow). w.item) (filter (λ w. w.member == member) (sorted_watches db))
    → AllByRecursion P numbers → (n : ℕ) → is_watched (tables_in db) member n ≡ true → P n
unfolding tables_in
watched_kept P db member numbers are all n is =
    let some = some_has P (λ m. n == m) numbers all (ap (list_any (λ m. n == m)) are ∙ watched_among member n (sorted_watches db) ∙ is) in
    let here = some.2 in
    let same : some.0 ≡ n = grind (arith, nat_tests, here) in
    subst P same some.1

-- in sound tables the rows of a member's watches fit, and those of the items that it watches
pub watches_sound : (member : ℕ) (db : Trees) → AreSound (tables_in db) → WatchesFit member db
watches_sound member db sound = every_as WatchRowFits (λ (w : WatchRow). (w.member == member) ≡ true → WatchRowFits w) (watches_in db) (λ w fit is. fit) (watches_fit db sound)

pub watched_sound : (editions : BandTables) (member : ℕ) (db : Trees) → AreSoundBy editions (tables_in db) → WatchedFit editions member db
watched_sound editions member db sound = record {
  watches = watches_sound member db sound.sound;
  items = every_as (FitsBy editions) (λ (row : ItemRow). is_watched (tables_in db) member row.item.terms.item ≡ true → FitsBy editions row) (items_in db) (λ row fit is. fit) (rows_fit db editions sound);
}
