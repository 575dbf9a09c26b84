-- What the statements on bids find and write.
use Rattle.std.proofs.Common.{◌≡◌, ℕ, ◌^◌, ◌<◌, pos, true, ◌&&◌, [], ◌∷◌, ◌++◌, map, drop, Ok, None, refl, sym, ap, subst, ◌∙◌, true≢false}
use Rattle.std.specs.List.{AllByRecursion}
use Rattle.sqlite_value.specs.declared.value.Value.TheVariants.{Null, Int}
use Rattle.sqlite_value.specs.Order.{Row, column}
use Rattle.sqlite_schema.specs.Rules.{are_typed, are_present, has_computed}
use Rattle.sqlite_schema.specs.declared.schema.Constraint.TheVariants.{Datatype, NotNull}
use Rattle.sqlite_catalog.specs.Listing.{IsSound}
use Rattle.sqlite_trees.specs.View.{is_int}
use Rattle.sqlite_trees.proofs.TreeLemmas.{IsShaped-put_row}
use Rattle.sqlite_keyed.proofs.ListLemmas.{all_both}
use Rattle.sqlite_keyed.proofs.RuleLemmas.{first_of_both, second_of_both}
use Rattle.sqlite.specs.Edit.{next_rowid}
use Rattle.sqlite.specs.Effect.{Database}
use Rattle.sqlite.specs.State.{State, Executes}
use Rattle.house_rows.specs.Bids.{BidRow}
use Rattle.store_rows.specs.Schema.{bid_layout, bid_table}
use Rattle.store_rows.specs.Rows.{bid_in}
use Rattle.store_rows.specs.House.{IsHouse, AddsBid}
use Rattle.store_rows.proofs.RowLemmas.{int_if, small}
use Rattle.store_rows.proofs.Wrote.{still_house, map_more}
use Rattle.store_rows.proofs.Insert.{puts, put_last, cast_int, cast_null}
use Rattle.store_bids.proofs.BidMeaning.{put_bid_text, bid_terms, put_bid_is}

-- ---- the numbers in the rows are numbers

abbrev pub IsBid : Row → Type 0
IsBid r = (is_int (column r 1) ≡ true) × (is_int (column r 3) ≡ true)

pub are_bids : (db : Database) → IsHouse db → AllByRecursion IsBid (db.trees 8)
are_bids db house =
    let sound = subst (λ h. IsSound h db.trees) house.schema house.sound in
    all_both _ _ IsBid one (db.trees 8) (sound.obeys.rules Datatype).1.1.1.1.1.0 (sound.obeys.rules NotNull).1.1.1.1.1.0
  where
    one : (r : Row) → (are_typed None 0 bid_table.columns (drop 1 r) && has_computed bid_table r) ≡ true → are_present None 0 bid_table.columns r ≡ true → IsBid r
    one [] t p = absurd (true≢false (sym p))
    one (id ∷ []) t p = absurd (true≢false (sym p))
    one (id ∷ a ∷ []) t p = absurd (true≢false (sym (second_of_both _ _ p)))
    one (id ∷ a ∷ b ∷ []) t p = absurd (true≢false (sym (second_of_both _ _ (second_of_both _ _ p))))
    one (id ∷ a ∷ b ∷ v ∷ more) t p =
        let typed = first_of_both _ _ t in (
          int_if a (first_of_both _ _ typed) (first_of_both _ _ p),
          int_if v (first_of_both _ _ (second_of_both _ _ (second_of_both _ _ typed))) (first_of_both _ _ (second_of_both _ _ (second_of_both _ _ p))),
        )

-- ---- what is written

-- each number of a bid has 32 bits
pub record IsSmall (row : BidRow) : Type 0 where
  pub item : row.item < 2 ^ 32
  pub number : row.bid.no < 2 ^ 32
  pub member : row.bid.member < 2 ^ 32
  pub maximum : row.bid.maximum < 2 ^ 32

pub adds_bid : (old new : State) (row : BidRow) (count : ℕ) → IsSmall row → IsHouse old.now
    → Executes put_bid_text (Int (pos row.item) ∷ Int (pos row.bid.no) ∷ Int (pos row.bid.member) ∷ Int (pos row.bid.maximum) ∷ []) old new (Ok count) → AddsBid row old.now new.now
adds_bid old new row count low house h =
    let params = Int (pos row.item) ∷ Int (pos row.bid.no) ∷ Int (pos row.bid.member) ∷ Int (pos row.bid.maximum) ∷ [] in
    let rows = old.now.trees 8 in
    let given : Row = Int (next_rowid rows) ∷ Int (pos row.item) ∷ Int (pos row.bid.no) ∷ Int (pos row.bid.member) ∷ Int (pos row.bid.maximum) ∷ [] in
    let shaped = house.shaped.1.1.1.1.1.0 in
    let w = rw (cast_null, cast_int (pos row.item), cast_int (pos row.bid.no), cast_int (pos row.bid.member), cast_int (pos row.bid.maximum)) at
    (puts _ put_bid_text 5 bid_layout bid_terms 5 params (Null ∷ params) refl (put_bid_is _).0 (put_bid_is _).1 refl old new count house.schema h) in
    let back : bid_in given ≡ row = rw (small row.item low.item, small row.bid.no low.number, small row.bid.member low.member, small row.bid.maximum low.maximum) refl in
    record {
      house = still_house 8 _ old.now new.now house w (IsShaped-put_row given rows refl shaped);
      schema = w.schema;
      others = w.others;
      bids = ap (map bid_in) (w.rows_are ∙ put_last given rows shaped refl) ∙ map_more bid_in rows given ∙ ap (λ b. map bid_in rows ++ b ∷ []) back;
    }
