-- What the look-up of a bid finds.
use Rattle.std.proofs.Common.{◌≡◌, ◌==◌, ◌<◌, ◌^◌, ◌&&◌, ℕ, pos, true, not, List, [], ◌∷◌, length, drop, None, eqb, refl, ap, subst, ◌∙◌}
use Rattle.std.specs.List.{AllByRecursion, list_any}
use Rattle.sqlite_value.specs.declared.value.Value.TheVariants.{Null, Int}
use Rattle.sqlite_value.specs.Order.{Row, column}
use Rattle.sqlite_schema.specs.Rules.{are_present, are_typed, has_computed}
use Rattle.sqlite_schema.specs.declared.schema.Constraint.TheVariants.{Datatype, NotNull}
use Rattle.sqlite_catalog.specs.Listing.{IsSound}
use Rattle.sqlite_sql.specs.Term.{col}
use Rattle.sqlite_sql.specs.Program.{overlay}
use Rattle.sqlite_trees.specs.View.{is_int}
use Rattle.sqlite_keyed.proofs.ListLemmas.{all_both}
use Rattle.sqlite_keyed.proofs.RuleLemmas.{first_of_both}
use Rattle.sqlite.specs.Effect.{Database}
use Rattle.sqlite.specs.State.{State, Shown}
use Rattle.sqlite.proofs.Callers.{reads_as}
use Rattle.house_rows.specs.Bids.{BidRow, bid_key}
use Rattle.store_rows.specs.Schema.{bid_table}
use Rattle.store_rows.specs.House.{IsHouse}
use Rattle.store_rows.specs.Rows.{number_in, bid_in}
use Rattle.store_rows.proofs.ColumnLemmas.{holds_all}
use Rattle.store_rows.proofs.RowLemmas.{int_if, equals_number, alone}
use Rattle.store_rows.proofs.Select.{listed}
use Rattle.store_rows.specs.Sorted.{sorted_bids}
use Rattle.store_rows.proofs.Found.{rows_counted, some_counted}
use Rattle.store_bids.proofs.FindMeaning.{has_bid_is, has_bid_text}
use Rattle.store_rows.proofs.FindMeaning.{of_pair}

-- the columns of the key are numbers
abbrev HasKey : Row → Type 0
HasKey r = (is_int (column r 1) ≡ true) × (is_int (column r 2) ≡ true)

have_keys : (db : Database) → IsHouse db → AllByRecursion HasKey (db.trees 8)
have_keys db house =
    let sound = subst (λ h. IsSound h db.trees) house.schema house.sound in
    all_both _ _ HasKey one (db.trees 8) (sound.obeys.rules Datatype).1.1.1.1.1.0 (sound.obeys.rules NotNull).1.1.1.1.1.0
  where
    one : (r : Row) → (are_typed None 0 bid_table.columns (drop 1 r) && has_computed bid_table r) ≡ true → are_present None 0 bid_table.columns r ≡ true → HasKey r
    one r t p =
        let h = holds_all None bid_table.columns r ((refl, tt), ((refl, tt), ((refl, tt), ((refl, tt), tt)))) (first_of_both (are_typed None 0 bid_table.columns (drop 1 r)) (has_computed bid_table r) t) p in
        let a = h.0 refl refl in
        let b = h.1.0 refl refl in
        (int_if (column r 1) a.0 a.1, int_if (column r 2) b.0 b.1)

pub bid_found : (item number : ℕ) → item < 2 ^ 32 → number < 2 ^ 32 → (old new : State) (answer : List Row) → IsHouse old.now → Shown has_bid_text (Int (pos item) ∷ Int (pos number) ∷ []) old new answer
    → not (length answer == 0) ≡ list_any (λ b. (b.item == item) && (b.bid.no == number)) (sorted_bids old.now.trees)
bid_found item number low small old new answer house h =
    let params : Row = Int (pos item) ∷ Int (pos number) ∷ [] in
    let table = old.now.trees 8 in
    let is_bid = λ (b : BidRow). (b.item == item) && (b.bid.no == number) in
    let read = reads_as has_bid_text params old new _ house.schema _ (has_bid_is _).0 (has_bid_is _).2 (has_bid_is _).1 answer h in
    let listing = listed 8 of_pair (col 1 2 ∷ []) [] (overlay old.now.trees []) params answer (read.answer Null) in
    let many = rows_counted of_pair (col 1 2 ∷ []) [] params table answer listing bid_key bid_in is_bid HasKey
    (λ r is. rw (equals_number (column r 1) item is.0 low, equals_number (column r 2) number is.1 small) (ap (λ b. eqb (number_in (column r 1)) item && b) (alone _))) (have_keys old.now house) in
    ap (λ n. not (n == 0)) many ∙ some_counted is_bid (sorted_bids old.now.trees)
