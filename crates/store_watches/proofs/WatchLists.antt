-- What the list of watched items means and finds.
use Rattle.std.proofs.Common.{◌≡◌, ◌==◌, ◌<◌, ◌^◌, ℕ, pos, true, false, not, List, [], ◌∷◌, map, filter, codes, refl, subst, sym, ◌∙◌, arith, Bool}
use Rattle.std.specs.List.{AllByRecursion, AllPairs}
use Rattle.std.proofs.lemmas.Bool.Decides.{nat_tests}
use Rattle.sqlite_value.specs.declared.value.Value.TheVariants.{Null, Int}
use Rattle.sqlite_value.specs.Keys as keys
use Rattle.sqlite_value.specs.Order.{Row, column}
use Rattle.sqlite_schema.specs.Rules.{clashes}
use Rattle.sqlite_schema.specs.declared.schema.Constraint.TheVariants.{Unique}
use Rattle.sqlite_catalog.specs.Listing.{IsSound}
use Rattle.sqlite_sql.specs.Term.{Term}
use Rattle.sqlite_sql.specs.Program.{overlay}
use Rattle.sqlite_keyed.proofs.ListLemmas.{all-filter, all_both, all_weaker}
use Rattle.sqlite_keyed.proofs.RuleLemmas.{first_of_both}
use Rattle.sqlite.specs.Command.TheVariants.{Select}
use Rattle.sqlite.specs.Effect.{Database}
use Rattle.sqlite.specs.Listing.{understood, reads_listing}
use Rattle.sqlite.specs.State.{State, Shown}
use Rattle.sqlite.proofs.Callers.{IsPlain, command_of, reads_as}
use Rattle.sqlite_tied.specs.Compute.{everything}
use Rattle.house_rows.specs.Fits.{WatchRowFits}
use Rattle.house_rows.specs.History.{is_less}
use Rattle.house_rows.specs.Taken.{FitWhere}
use Rattle.house_rows.specs.Watches.{WatchRow, watch_key}
use Rattle.store_rows.specs.Schema.{house_by}
use Rattle.store_rows.specs.House.{IsHouse}
use Rattle.store_rows.specs.Plain.{plain_query, passes}
use Rattle.store_rows.specs.Rows.{number_in, watch_in, watches_in}
use Rattle.store_watches.proofs.WatchLemmas.{IsWatch, are_watches}
use Rattle.store_watches.proofs.WatchMeaning.{watch_shown}
use Rattle.store_rows.proofs.RowLemmas.{equals_number, alone, passing_fit}
use Rattle.store_rows.proofs.Select.{IsListOf, listed, equals}
use Rattle.store_rows.proofs.Update.{numbered_passes}
use Rattle.store_rows.specs.Sorted.{sorted_watches}
use Rattle.store_rows.proofs.Apart.{keys_apart}
use Rattle.store_rows.proofs.PairKeys.{HasPair, pair_agrees, pair_rises, two_columns}
use Rattle.store_rows.proofs.Shown.{kept_fits, shown_fits, numbers_rise, parts_by_key, parts_in_order}
use Rattle.store_rows.proofs.Sorting.{AreApart}
use Rattle.store_rows.proofs.TextLemmas.{same_number}

abbrev pub watched_text : List ℕ
watched_text = codes "SELECT item FROM watch WHERE member = ?1 ORDER BY member, item"

pub watched_is : (b : Bool) → (command_of (understood (house_by b) watched_text) ≡ Select (record { lets = []; body = plain_query 10 (equals 1 ∷ []) watch_shown two_columns }) (codes "item" ∷ []))
    × (reads_listing (house_by b) watched_text ≡ false) × IsPlain (understood (house_by b) watched_text)
unfolding understood everything
watched_is b = (refl, refl, (refl, refl))

abbrev Pair : Row → Type 0
Pair r = HasPair (watch_key (watch_in r)) r

unique : (db : Database) → IsHouse db → AllByRecursion (λ s. not (clashes keys.plain (1 ∷ 2 ∷ []) (db.trees 10) s) ≡ true) (db.trees 10)
unique db house =
    let rows = db.trees 10 in
    let sound = subst (λ h. IsSound h db.trees) house.schema house.sound in
    all_weaker _ (λ s. not (clashes keys.plain (1 ∷ 2 ∷ []) rows s) ≡ true) (λ s h. first_of_both (not (clashes keys.plain (1 ∷ 2 ∷ []) rows s)) _ h) rows (sound.obeys.rules Unique).1.1.1.1.1.1.0

-- the item of a watch, as it is shown
abbrev pub item_shown : Row → ℕ
item_shown r = number_in (column r 0)

module _ (member : ℕ) (low : member < 2 ^ 32) (old new : State) (answer : List Row) (house : IsHouse old.now) (h : Shown watched_text (Int (pos member) ∷ []) old new answer) where
  abbrev table : List Row
  table = old.now.trees 10

  abbrev test : List Term
  test = equals 1 ∷ []

  abbrev params : Row
  params = Int (pos member) ∷ []

  listing : IsListOf table test watch_shown two_columns params answer
  listing = listed 10 test watch_shown two_columns (overlay old.now.trees []) params answer ((reads_as watched_text params old new _ house.schema _ (watched_is _).0 (watched_is _).2 (watched_is _).1 answer h).answer Null)

  abbrev kept : List Row
  kept = filter (passes test params) table

  tests : (r : Row) → IsWatch r → passes test params r ≡ ((watch_in r).member == member)
  tests r is = rw (equals_number (column r 1) member is.0 low) (alone _)

  small : (w : WatchRow) → WatchRowFits w → w.item < 2 ^ 32
  small w fits = omega (arith, fits.item.1)

  -- where this member's watches fit
  pub watched_here : FitWhere (λ w. w.member == member) WatchRowFits (watches_in old.now.trees) → AllByRecursion (λ n. n < 2 ^ 32) (map item_shown answer)
  watched_here fits =
      shown_fits test watch_shown two_columns params table answer listing item_shown (λ r. (watch_in r).item) (λ r. refl) (λ n. n < 2 ^ 32)
      (all_weaker (λ r. WatchRowFits (watch_in r)) (λ r. (watch_in r).item < 2 ^ 32) (λ r. small (watch_in r)) kept
      (passing_fit watch_in WatchRowFits (λ (w : WatchRow). w.member == member) IsWatch (passes test params) tests table (are_watches old.now house) fits))

  -- the rows that are kept are this member's, and have keys
  kept_members : AllByRecursion (λ r. number_in (column r 1) ≡ member) kept
  kept_members =
      all_both IsWatch (λ r. passes test params r ≡ true) (λ r. number_in (column r 1) ≡ member) (λ r is p. same_number (number_in (column r 1)) member (sym (tests r is) ∙ p)) kept
      (all-filter IsWatch (passes test params) table (are_watches old.now house)) (numbered_passes (passes test params) table)

  kept_pairs : AllByRecursion (λ n. n < 2 ^ 32) (map item_shown answer) → AllByRecursion Pair kept
  kept_pairs fits =
      let items = kept_fits test watch_shown two_columns params table answer listing item_shown (λ r. (watch_in r).item) (λ r. refl) (λ n. n < 2 ^ 32) fits in
      all_both (λ r. (watch_in r).item < 2 ^ 32) (λ r. number_in (column r 1) ≡ member) Pair (λ r item of_member. record { is = refl; first = omega (arith, of_member, low); second = omega (arith, item) }) kept items kept_members

  kept_apart : AllByRecursion Pair kept → AreApart (λ r. watch_key (watch_in r)) kept
  kept_apart pairs = keys_apart watch_key watch_in (1 ∷ 2 ∷ []) Pair (pair_agrees watch_key watch_in) table house.shaped.1.1.1.1.1.1.0 (unique old.now house) (passes test params) pairs

  pub watched_shown : AllByRecursion (λ n. n < 2 ^ 32) (map item_shown answer) → map item_shown answer ≡ map (λ (w : WatchRow). w.item) (filter (λ w. w.member == member) (sorted_watches old.now.trees))
  watched_shown fits =
      let pairs = kept_pairs fits in
      parts_by_key test watch_shown two_columns params table answer listing watch_key watch_in item_shown (λ (w : WatchRow). w.item) (λ w. w.member == member) IsWatch Pair (λ r. refl) tests (are_watches old.now house)
      (pair_rises watch_key watch_in test watch_shown params) pairs (kept_apart pairs)

  -- of one member's watches the items rise
  later : (r s : Row) → number_in (column r 1) ≡ member → number_in (column s 1) ≡ member → is_less (watch_key (watch_in r)) (watch_key (watch_in s)) ≡ true → number_in (column r 2) < number_in (column s 2)
  later r s here there less = grind (arith, nat_tests)

  pub watched_rise : AllByRecursion (λ n. n < 2 ^ 32) (map item_shown answer) → AllPairs (λ m n. m < n) (map item_shown answer)
  watched_rise fits =
      let pairs = kept_pairs fits in
      let apart = kept_apart pairs in
      subst (AllPairs (λ m n. m < n)) (sym (parts_in_order test watch_shown two_columns params table answer listing watch_key watch_in item_shown (λ r. number_in (column r 2)) Pair (λ r. refl) (pair_rises watch_key watch_in test watch_shown params) pairs apart))
      (numbers_rise test watch_shown two_columns params table answer listing watch_key watch_in (λ r. number_in (column r 2)) (λ r. number_in (column r 1) ≡ member) later kept_members apart)
