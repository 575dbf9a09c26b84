-- What the statements on items find and write.
use Rattle.proxy.specs.Opening.{Opening}
use Rattle.std.proofs.Common.{◌≡◌, ◌==◌, ◌≤◌, ◌<◌, ◌^◌, ℕ, pos, Bool, true, false, ◌&&◌, cond, List, [], ◌∷◌, ◌++◌, map, filter, find, slice_get, option_map, drop, Ok, Option, Some, None, is_some, eqb, refl, sym, ap, subst, ◌∙◌, arith, IsTrue, true≢false, IsUtf8}
use Rattle.std.specs.List.{AllByRecursion}
use Rattle.std.proofs.lemmas.List.Elements.{recursion_from_All}
use Rattle.sqlite_value.specs.declared.value.Value.TheVariants.{Null, Int, Text}
use Rattle.sqlite_value.specs.Order.{Row, column}
use Rattle.sqlite_schema.specs.Rules.{are_typed, has_computed}
use Rattle.sqlite_schema.specs.declared.schema.Constraint.TheVariants.{Datatype, NotNull}
use Rattle.sqlite_schema.specs.declared.schema.Kind.TheVariants as kind
use Rattle.sqlite_catalog.specs.Listing.{IsSound}
use Rattle.sqlite_sql.specs.Program.{overlay}
use Rattle.sqlite_trees.specs.Tree.{rowid}
use Rattle.sqlite_trees.specs.View.{is_int}
use Rattle.sqlite_trees.proofs.TreeLemmas.{IsShaped-put_row}
use Rattle.sqlite_rules.specs.Cast.{cast, cast_row}
use Rattle.sqlite_rules.proofs.TableLemmas.{int_is}
use Rattle.sqlite_keyed.proofs.ListLemmas.{all_both, all_unmap, all_weaker}
use Rattle.sqlite_keyed.proofs.RuleLemmas.{first_of_both}
use Rattle.sqlite.specs.Effect.{Database}
use Rattle.sqlite.specs.State.{State, Shown, Executes}
use Rattle.sqlite.proofs.Callers.{reads_as}
use Rattle.proxy.specs.Bids.{met_by, standing_of}
use Rattle.proxy.proofs.Placed.{standing-none}
use Rattle.proxy.specs.Kept.{Kept, opening_of}
use Rattle.house_rows.specs.declared.change.NewItem.{NewItem}
use Rattle.house_rows.specs.Changed.{is_item, new_item, with_standing, with_purchase, with_settlement}
use Rattle.house_rows.specs.Found.{auction_of}
use Rattle.house_rows.specs.Limits.{most_cents}
use Rattle.house_rows.specs.Tables.{ItemRow}
use Rattle.house_rows.specs.Text.{same_text}
use Rattle.store_rows.specs.Schema.{item_layout, item_table}
use Rattle.store_rows.specs.Rows.{number_in, maybe_number_in, reserves_in}
use Rattle.store_rows.specs.ItemRows.{amount_of, auction_by, is_state, item_by, kept_from, item_row_in, items_in, met_with, row_by}
use Rattle.store_rows.specs.House.{IsHouse}
use Rattle.store_items.specs.Items.{AddsItem, OfItem, SetsStanding, SetsBought, SetsClosed, SetsSettled, with_end}
use Rattle.store_rows.proofs.RowLemmas.{is_text, int_if, text_if, equals_number, equals_text, first_part, alone, row_key, small, two}
use Rattle.store_rows.proofs.TextLemmas.{text_back}
use Rattle.store_rows.proofs.ColumnLemmas.{Holds, holds_all}
use Rattle.store_items.proofs.Reserves.{kept_reserves, no_amount}
use Rattle.store_items.proofs.MaybeLemmas.{IsSmall, stored_maybe, cast_maybe, maybe_back, present_number}
use Rattle.store_rows.proofs.Select.{listed, in_order, typed_part, by_rowid, equals}
use Rattle.store_rows.proofs.Wrote.{still_house, map_more}
use Rattle.store_rows.proofs.Insert.{puts, put_over, cast_int, cast_null}
use Rattle.store_rows.proofs.Update.{updates, typed_set_on, stays_all, IsStrict}
use Rattle.store_items.proofs.ItemMeaning.{item_at_text, auction_at_text, with_lot_text, all_items_text, item_shown, terms_shown, by_lot, item_at_is, auction_at_is, with_lot_is, all_items_is, put_item_text, set_standing_text, set_bought_text, set_closed_text, set_settled_text, put_terms, standing_set, bought_set, closed_set, settled_set, put_item_is, set_standing_is, set_bought_is, set_closed_is, set_settled_is}

-- ---- what the columns hold

abbrev IsTyped : Row → Type 0
IsTyped r = are_typed (Some 0) 0 item_table.columns (drop 1 r) ≡ true

-- the numbers and the lot by which rows are found, and the end
pub record IsRow (r : Row) : Type 0 where
  pub number : is_int (rowid r) ≡ true
  pub seller : is_int (column r 2) ≡ true
  pub category : is_int (column r 3) ≡ true
  pub lot : is_text (column r 4) ≡ true
  pub ending : is_int (column r 9) ≡ true

all_strict : AllByRecursion IsStrict item_table.columns
all_strict = (
  (refl, tt),
  (
    (refl, tt),
    (
      (refl, tt),
      (
        (refl, tt),
        (
          (refl, tt),
          (
            (refl, tt),
            (
              (refl, tt),
              (
                (refl, tt),
                ((refl, tt), ((refl, tt), ((refl, tt), ((refl, tt), ((refl, tt), ((refl, tt), ((refl, tt), ((refl, tt), tt)))))))),
              ),
            ),
          ),
        ),
      ),
    ),
  ),
)

are_typed_rows : (db : Database) → IsHouse db → AllByRecursion IsTyped (db.trees 6)
are_typed_rows db house =
    let sound = subst (λ h. IsSound h db.trees) house.schema house.sound in
    all_weaker _ IsTyped (λ r. first_of_both (are_typed (Some 0) 0 item_table.columns (drop 1 r)) (has_computed item_table r)) (db.trees 6) (sound.obeys.rules Datatype).1.1.1.1.0

pub are_rows : (db : Database) → IsHouse db → AllByRecursion IsRow (db.trees 6)
are_rows db house =
    let sound = subst (λ h. IsSound h db.trees) house.schema house.sound in
    let held = all_both IsTyped _ (Holds (Some 0) 0 item_table.columns) (λ r typed present. holds_all (Some 0) item_table.columns r all_strict typed present) (db.trees 6) (are_typed_rows db house) (sound.obeys.rules NotNull).1.1.1.1.0 in
    all_both (λ r. IsTrue (is_int (rowid r))) (Holds (Some 0) 0 item_table.columns) IsRow one (db.trees 6) house.shaped.1.1.1.1.0.1 held
  where
    one : (r : Row) → IsTrue (is_int (rowid r)) → Holds (Some 0) 0 item_table.columns r → IsRow r
    one r int h =
        let seller = h.1.0 refl refl in
        let category = h.1.1.0 refl refl in
        let lot = h.1.1.1.0 refl refl in
        let ending = h.1.1.1.1.1.1.1.1.0 refl refl in
        record { number = int; seller = int_if (column r 2) seller.0 seller.1; category = int_if (column r 3) category.0 category.1; lot = text_if (column r 4) lot.0 lot.1; ending = int_if (column r 9) ending.0 ending.1 }

-- ---- what is found

-- a row of the table, by the reserves that were committed with it
abbrev pub row_of : State → Row → ItemRow
row_of s r = item_row_in (reserves_in s.now.trees) r

module _ (old new : State) (answer : List Row) (house : IsHouse old.now) where
  abbrev rows : List Row
  rows = old.now.trees 6

  pub first_item : (n : ℕ) → n < 2 ^ 32 → Shown item_at_text (Int (pos n) ∷ []) old new answer → option_map (item_by (reserves_in old.now.trees)) (slice_get answer 0) ≡ option_map (λ (row : ItemRow). row.item) (find (is_item n) (items_in old.now.trees))
  first_item n low h =
      let params = Int (pos n) ∷ [] in
      let read = reads_as item_at_text params old new _ house.schema _ (item_at_is _).0 (item_at_is _).2 (item_at_is _).1 answer h in
      let order = in_order (equals 0 ∷ []) item_shown params rows answer house.shaped.1.1.1.1.0.0 (listed 6 (equals 0 ∷ []) item_shown by_rowid (overlay old.now.trees []) params answer (read.answer Null)) in
      first_part (item_by (reserves_in old.now.trees)) (λ (row : ItemRow). row.item) (is_item n) answer (items_in old.now.trees)
      (typed_part (item_by (reserves_in old.now.trees)) (row_of old) (λ (row : ItemRow). row.item) (is_item n) IsRow (equals 0 ∷ []) item_shown params rows answer (λ r. refl) (λ r is. rw (equals_number (rowid r) n is.number low) (alone _)) (are_rows old.now house) order)

  -- the whole row
  pub first_whole : (n : ℕ) → n < 2 ^ 32 → Shown item_at_text (Int (pos n) ∷ []) old new answer → option_map (row_by (reserves_in old.now.trees)) (slice_get answer 0) ≡ option_map (λ (row : ItemRow). row) (find (is_item n) (items_in old.now.trees))
  first_whole n low h =
      let params = Int (pos n) ∷ [] in
      let read = reads_as item_at_text params old new _ house.schema _ (item_at_is _).0 (item_at_is _).2 (item_at_is _).1 answer h in
      let order = in_order (equals 0 ∷ []) item_shown params rows answer house.shaped.1.1.1.1.0.0 (listed 6 (equals 0 ∷ []) item_shown by_rowid (overlay old.now.trees []) params answer (read.answer Null)) in
      first_part (row_by (reserves_in old.now.trees)) (λ (row : ItemRow). row) (is_item n) answer (items_in old.now.trees)
      (typed_part (row_by (reserves_in old.now.trees)) (row_of old) (λ (row : ItemRow). row) (is_item n) IsRow (equals 0 ∷ []) item_shown params rows answer (λ r. refl) (λ r is. rw (equals_number (rowid r) n is.number low) (alone _)) (are_rows old.now house) order)

  pub first_auction : (n : ℕ) → n < 2 ^ 32 → Shown auction_at_text (Int (pos n) ∷ []) old new answer → option_map (auction_by (reserves_in old.now.trees)) (slice_get answer 0) ≡ option_map auction_of (find (is_item n) (items_in old.now.trees))
  first_auction n low h =
      let params = Int (pos n) ∷ [] in
      let read = reads_as auction_at_text params old new _ house.schema _ (auction_at_is _).0 (auction_at_is _).2 (auction_at_is _).1 answer h in
      let order = in_order (equals 0 ∷ []) terms_shown params rows answer house.shaped.1.1.1.1.0.0 (listed 6 (equals 0 ∷ []) terms_shown by_rowid (overlay old.now.trees []) params answer (read.answer Null)) in
      first_part (auction_by (reserves_in old.now.trees)) auction_of (is_item n) answer (items_in old.now.trees)
      (typed_part (auction_by (reserves_in old.now.trees)) (row_of old) auction_of (is_item n) IsRow (equals 0 ∷ []) terms_shown params rows answer (λ r. refl) (λ r is. rw (equals_number (rowid r) n is.number low) (alone _)) (are_rows old.now house) order)

  pub first_with_lot : (seller : ℕ) (lot : List ℕ) → IsUtf8 lot → seller < 2 ^ 32 → Shown with_lot_text (Int (pos seller) ∷ Text lot ∷ []) old new answer
      → option_map (λ r. number_in (column r 0)) (slice_get answer 0) ≡ option_map (λ (row : ItemRow). row.item.terms.item) (find (λ row. (row.item.terms.seller == seller) && same_text row.item.lot lot) (items_in old.now.trees))
  first_with_lot seller lot u low h =
      let params = Int (pos seller) ∷ Text lot ∷ [] in
      let keep : ItemRow → Bool = λ row. (row.item.terms.seller == seller) && same_text row.item.lot lot in
      let read = reads_as with_lot_text params old new _ house.schema _ (with_lot_is _).0 (with_lot_is _).2 (with_lot_is _).1 answer h in
      let order = in_order by_lot (Rattle.sqlite.specs.Term.col 1 0 ∷ []) params rows answer house.shaped.1.1.1.1.0.0 (listed 6 by_lot (Rattle.sqlite.specs.Term.col 1 0 ∷ []) by_rowid (overlay old.now.trees []) params answer (read.answer Null)) in
      first_part (λ r. number_in (column r 0)) (λ (row : ItemRow). row.item.terms.item) keep answer (items_in old.now.trees)
      (typed_part (λ r. number_in (column r 0)) (row_of old) (λ (row : ItemRow). row.item.terms.item) keep IsRow by_lot (Rattle.sqlite.specs.Term.col 1 0 ∷ []) params rows answer (λ r. refl)
      (λ r is. rw (equals_number (column r 2) seller is.seller low, equals_text (column r 4) lot u is.lot) (two _ _)) (are_rows old.now house) order)

  pub whole_answer : Shown all_items_text [] old new answer → map (row_by (reserves_in old.now.trees)) answer ≡ map (λ (row : ItemRow). row) (filter (λ _. true) (items_in old.now.trees))
  whole_answer h =
      let read = reads_as all_items_text [] old new _ house.schema _ (all_items_is _).0 (all_items_is _).2 (all_items_is _).1 answer h in
      let order = in_order [] item_shown [] rows answer house.shaped.1.1.1.1.0.0 (listed 6 [] item_shown by_rowid (overlay old.now.trees []) [] answer (read.answer Null)) in
      typed_part (row_by (reserves_in old.now.trees)) (row_of old) (λ (row : ItemRow). row) (λ _. true) IsRow [] item_shown [] rows answer (λ r. refl) (λ r is. refl) (are_rows old.now house) order

  pub items_answer : Shown all_items_text [] old new answer → map (item_by (reserves_in old.now.trees)) answer ≡ map (λ (row : ItemRow). row.item) (items_in old.now.trees)
  items_answer h =
      let read = reads_as all_items_text [] old new _ house.schema _ (all_items_is _).0 (all_items_is _).2 (all_items_is _).1 answer h in
      let order = in_order [] item_shown [] rows answer house.shaped.1.1.1.1.0.0 (listed 6 [] item_shown by_rowid (overlay old.now.trees []) [] answer (read.answer Null)) in
      typed_part (item_by (reserves_in old.now.trees)) (row_of old) (λ (row : ItemRow). row.item) (λ _. true) IsRow [] item_shown [] rows answer (λ r. refl) (λ r is. refl) (are_rows old.now house) order
      ∙ ap (map (λ (row : ItemRow). row.item)) (every (items_in old.now.trees))
    where
      every : {X : Type 0} (xs : List X) → filter (λ _. true) xs ≡ xs
      every [] = refl
      every (x ∷ xs) = ap (λ l. x ∷ l) (every xs)

-- ---- a new item

-- the standing of no bids
pub no_bids : (bands : List (ℕ × ℕ)) (start : ℕ) (reserve : Option ℕ) → record { start = start; reserve = reserve; price = start; leader = None; top = None; second = None; count = 0 } ≡ standing_of bands (record { start = start; reserve = reserve }) []
no_bids bands start reserve = sym (standing-none bands (record { start = start; reserve = reserve }))

-- each number of a new item has 32 bits
pub record IsStorable (number : ℕ) (item : NewItem) : Type 0 where
  pub number_low : number < 2 ^ 32
  pub seller_low : item.seller < 2 ^ 32
  pub category_low : item.category < 2 ^ 32
  pub start_low : item.start < 2 ^ 32
  pub buy_now_low : IsSmall item.buy_now
  pub end_low : item.end < 2 ^ 32

pub adds_item : (old new : State) (number : ℕ) (item : NewItem) (count : ℕ) → IsStorable number item → IsUtf8 item.lot.now → IsUtf8 item.title.now → IsUtf8 item.text.now → IsHouse old.now
    → Executes put_item_text (Int (pos number) ∷ Int (pos item.seller) ∷ Int (pos item.category) ∷ Text item.lot.now ∷ Text item.title.now ∷ Text item.text.now ∷ Int (pos item.start) ∷ stored_maybe item.buy_now ∷ Int (pos item.end) ∷ []) old new (Ok count)
    → AddsItem (new_item number (record item { reserve = None })) old.now new.now
adds_item old new number item count low lot_utf8 title_utf8 text_utf8 house h =
    let params = Int (pos number) ∷ Int (pos item.seller) ∷ Int (pos item.category) ∷ Text item.lot.now ∷ Text item.title.now ∷ Text item.text.now ∷ Int (pos item.start) ∷ stored_maybe item.buy_now ∷ Int (pos item.end) ∷ [] in
    let rows = old.now.trees 6 in
    let given : Row =
    Int (pos number) ∷ Null ∷ Int (pos item.seller) ∷ Int (pos item.category) ∷ Text item.lot.now ∷ Text item.title.now ∷ Text item.text.now ∷ Int (pos item.start) ∷ stored_maybe item.buy_now ∷ Int (pos item.end)
    ∷ Int (pos 0) ∷ Null ∷ Int (pos item.start) ∷ Null ∷ Null ∷ Null ∷ Int (pos 0) ∷ [] in
    let shaped = house.shaped.1.1.1.1.0 in
    let w = rw (cast_int (pos number), cast_null, cast_int (pos item.seller), cast_int (pos item.category), cast_int (pos item.start), cast_maybe item.buy_now, cast_int (pos item.end), cast_int (pos 0)) at
    (puts _ put_item_text 4 item_layout put_terms 17 params given refl (put_item_is _).0 (put_item_is _).1 refl old new count house.schema h) in
    let reserves = reserves_in old.now.trees in
    let make = item_row_in reserves in
    let same : reserves_in new.now.trees ≡ reserves = kept_reserves old.now new.now w.others in
    let back : amount_of reserves number ≡ None → make given ≡ new_item number (record item { reserve = None }) = λ none. rw (small number low.number_low, none, small item.seller low.seller_low, small item.category low.category_low, small item.start low.start_low, small item.end low.end_low, maybe_back item.buy_now low.buy_now_low, sym (no_bids [] item.start None), text_back item.lot.now lot_utf8, text_back item.title.now title_utf8, text_back item.text.now text_utf8) refl in
    record {
      house = still_house 6 _ old.now new.now house w (IsShaped-put_row given rows refl shaped);
      schema = w.schema;
      others = w.others;
      items = λ over free. ap (λ rs. map (item_row_in rs) (new.now.trees 6)) same ∙ ap (map make) (w.rows_are ∙ put_over make (λ (r : ItemRow). r.item.terms.item) (λ r. refl) given number rows shaped refl low.number_low over) ∙ map_more make rows given
          ∙ ap (λ x. map make rows ++ x ∷ []) (back (no_amount reserves number free));
    }

-- ---- a row that is set

-- each row with the number has the fact
of_item : (item : ℕ) (P : ItemRow → Type 0) (db : Database) → OfItem item P db → AllByRecursion (λ r. is_item item (item_row_in (reserves_in db.trees) r) ≡ true → P (item_row_in (reserves_in db.trees) r)) (db.trees 6)
of_item item P db all = all_unmap (λ row. is_item item row ≡ true → P row) (item_row_in (reserves_in db.trees)) (db.trees 6) (recursion_from_All (λ row. is_item item row ≡ true → P row) (items_in db.trees) all)

-- the columns that a cast leaves alone
pub record Leaves (r : Row) : Type 0 where
  pub id : cast kind.Integer (column r 0) ≡ column r 0
  pub seller : cast kind.Integer (column r 2) ≡ column r 2
  pub category : cast kind.Integer (column r 3) ≡ column r 3
  pub lot : cast kind.Text (column r 4) ≡ column r 4
  pub title : cast kind.Text (column r 5) ≡ column r 5
  pub body : cast kind.Text (column r 6) ≡ column r 6
  pub start : cast kind.Integer (column r 7) ≡ column r 7
  pub buy_now : cast kind.Integer (column r 8) ≡ column r 8
  pub ending : cast kind.Integer (column r 9) ≡ column r 9
  pub state : cast kind.Integer (column r 10) ≡ column r 10
  pub closed : cast kind.Integer (column r 11) ≡ column r 11
  pub at_price : cast kind.Integer (column r 12) ≡ column r 12
  pub led : cast kind.Integer (column r 13) ≡ column r 13
  pub top : cast kind.Integer (column r 14) ≡ column r 14
  pub next : cast kind.Integer (column r 15) ≡ column r 15
  pub count : cast kind.Integer (column r 16) ≡ column r 16

leaves : (r : Row) → IsTyped r → IsTrue (is_int (rowid r)) → Leaves r
leaves r typed int =
    let kept = stays_all (Some 0) item_table.columns r all_strict typed in
    record {
      id = rw (int_is (rowid r) int) (cast_int (row_key r));
      seller = kept.1.0;
      category = kept.1.1.0;
      lot = kept.1.1.1.0;
      title = kept.1.1.1.1.0;
      body = kept.1.1.1.1.1.0;
      start = kept.1.1.1.1.1.1.0;
      buy_now = kept.1.1.1.1.1.1.1.0;
      ending = kept.1.1.1.1.1.1.1.1.0;
      state = kept.1.1.1.1.1.1.1.1.1.0;
      closed = kept.1.1.1.1.1.1.1.1.1.1.0;
      at_price = kept.1.1.1.1.1.1.1.1.1.1.1.0;
      led = kept.1.1.1.1.1.1.1.1.1.1.1.1.0;
      top = kept.1.1.1.1.1.1.1.1.1.1.1.1.1.0;
      next = kept.1.1.1.1.1.1.1.1.1.1.1.1.1.1.0;
      count = kept.1.1.1.1.1.1.1.1.1.1.1.1.1.1.1.0;
    }

-- what a standing opens with is stored, the start in its row and the reserve in its own table
pub kept_opening : (start : ℕ) (reserve : Option ℕ) (at : ℕ) (led top next : Option ℕ) (count : ℕ) → opening_of (kept_from start reserve at led top next count) ≡ record { start = start; reserve = reserve }
kept_opening start reserve at None top next count = refl
kept_opening start reserve at (Some l) None next count = refl
kept_opening start reserve at (Some l) (Some t) next count = refl

pub kept_start : (start : ℕ) (reserve : Option ℕ) (at : ℕ) (led top next : Option ℕ) (count : ℕ) → (kept_from start reserve at led top next count).start ≡ start
kept_start start reserve at led top next count = ap (λ (o : Opening). o.start) (kept_opening start reserve at led top next count)

-- a standing whose leader has a top is stored as it is
report : (start : ℕ) (reserve : Option ℕ) (at : ℕ) (led top next : Option ℕ) (count : ℕ) → is_some top ≡ is_some led → kept_from start reserve at led top next count ≡ record { start = start; reserve = reserve; price = at; leader = led; top = top; second = next; count = count }
report start reserve at None top next count h = refl
report start reserve at (Some l) None next count h = absurd (true≢false (sym h))
report start reserve at (Some l) (Some t) next count h = refl

-- and its reserve is met as its bids meet it
met_reported : (reserve led top : Option ℕ) → is_some top ≡ is_some led → met_with reserve led top ≡ met_by reserve top
met_reported reserve None top h = refl
met_reported reserve (Some l) None h = absurd (true≢false (sym h))
met_reported reserve (Some l) (Some t) h = refl

-- a purchase meets the reserve, whatever was so before
met_bought : (reserve led top : Option ℕ) (buyer : ℕ) → top ≡ None → met_with reserve (Some buyer) top ≡ option_map (λ m. true) (met_with reserve led top)
met_bought None led None buyer none = all_none led where
  all_none : (led : Option ℕ) → None ≡ option_map (λ m. true) (met_with None led None)
  all_none None = refl
  all_none (Some l) = refl
met_bought (Some r) None None buyer none = refl
met_bought (Some r) (Some l) None buyer none = refl
met_bought reserve led (Some t) buyer none = absurd cc

-- the state of a row that fits is one
pub fits_state : (b : Bool) (start : ℕ) → cond b start (2 ^ 64) ≤ most_cents → b ≡ true
fits_state true start h = refl
fits_state false start h = absurd (omega (arith, h))

-- a purchase leaves the standing of no bids
bought : (start : ℕ) (reserve : Option ℕ) (at : ℕ) (led top next : Option ℕ) (count at_now buyer : ℕ) → (kept_from start reserve at led top next count).price ≡ (kept_from start reserve at led top next count).start
    → (kept_from start reserve at led top next count).leader ≡ None → (kept_from start reserve at led top next count).top ≡ None → kept_from start reserve at_now (Some buyer) top next count ≡ kept_from start reserve at led top next count
bought start reserve at None None next count at_now buyer same none no_top = rw same refl
bought start reserve at None (Some t) next count at_now buyer same none no_top = absurd (let e = no_top in cc)
bought start reserve at (Some l) None next count at_now buyer same none no_top = refl
bought start reserve at (Some l) (Some t) next count at_now buyer same none no_top = absurd (let e = none in cc)

-- the top of such a row is none
no_top_stored : (start : ℕ) (reserve : Option ℕ) (at : ℕ) (led top next : Option ℕ) (count : ℕ) → (kept_from start reserve at led top next count).leader ≡ None → (kept_from start reserve at led top next count).top ≡ None → top ≡ None
no_top_stored start reserve at None top next count none no_top = no_top
no_top_stored start reserve at (Some l) None next count none no_top = refl
no_top_stored start reserve at (Some l) (Some t) next count none no_top = absurd (let e = none in cc)

-- ---- the standing

abbrev stood : Kept → Row → Row
stood k r =
    column r 0 ∷ Null ∷ column r 2 ∷ column r 3 ∷ column r 4 ∷ column r 5 ∷ column r 6 ∷ column r 7 ∷ column r 8 ∷ column r 9 ∷ column r 10 ∷ column r 11
    ∷ Int (pos k.price) ∷ stored_maybe k.leader ∷ stored_maybe k.top ∷ stored_maybe k.second ∷ Int (pos k.count) ∷ []

stood_stays : (k : Kept) (r : Row) → IsTyped r → IsTrue (is_int (rowid r)) → cast_row item_table (stood k r) ≡ stood k r
stood_stays k r typed int =
    let l = leaves r typed int in
    rw (l.id, cast_null, l.seller, l.category, l.lot, l.title, l.body, l.start, l.buy_now, l.ending, l.state, l.closed, cast_int (pos k.price), cast_maybe k.leader, cast_maybe k.top, cast_maybe k.second, cast_int (pos k.count)) refl

-- each number that is kept of bids has 32 bits
pub record IsSmallKept (k : Kept) : Type 0 where
  pub price_low : k.price < 2 ^ 32
  pub leader_low : IsSmall k.leader
  pub top_low : IsSmall k.top
  pub second_low : IsSmall k.second
  pub count_low : k.count < 2 ^ 32

pub sets_standing : (old new : State) (item : ℕ) (k : Kept) (count : ℕ) → IsHouse old.now → item < 2 ^ 32 → IsSmallKept k
    → Executes set_standing_text (Int (pos item) ∷ Int (pos k.price) ∷ stored_maybe k.leader ∷ stored_maybe k.top ∷ stored_maybe k.second ∷ Int (pos k.count) ∷ []) old new (Ok count) → SetsStanding item k old.now new.now
sets_standing old new item k count house low kept_low h =
    let rows = old.now.trees 6 in
    let w = updates _ set_standing_text 4 item_layout standing_set item (Int (pos k.price) ∷ stored_maybe k.leader ∷ stored_maybe k.top ∷ stored_maybe k.second ∷ Int (pos k.count) ∷ []) low refl (λ db. refl)
    (set_standing_is _).0 (set_standing_is _).1 (stood k) (λ r. refl) (λ r. refl) IsTyped (stood_stays k) old new count house.schema house.shaped.1.1.1.1.0 (are_typed_rows old.now house) h in
    record {
      house = still_house 6 _ old.now new.now house w.0 w.1;
      schema = w.0.schema;
      others = w.0.others;
      items = λ led start. ap (λ rs. map (item_row_in rs) (new.now.trees 6)) (kept_reserves old.now new.now w.0.others) ∙ ap (map (row_of old)) w.0.rows_are ∙ typed_set_on (row_of old) (with_standing item k) item (stood k) (λ r. is_item item (row_of old r) ≡ true → opening_of (row_of old r).standing ≡ opening_of k) rows house.shaped.1.1.1.1.0.1
          (of_item item (λ row. opening_of row.standing ≡ opening_of k) old.now start) (here led) (λ r e. rw e refl);
    }
  where
    here : is_some k.top ≡ is_some k.leader → (r : Row) → (is_item item (row_of old r) ≡ true → opening_of (row_of old r).standing ≡ opening_of k) → eqb (number_in (rowid r)) item ≡ true → row_of old (stood k r) ≡ with_standing item k (row_of old r)
    here led r start e =
        let reserve = amount_of (reserves_in old.now.trees) (number_in (column r 0)) in
        let same : record { start = number_in (column r 7); reserve = reserve } ≡ opening_of k = sym (kept_opening (number_in (column r 7)) reserve (number_in (column r 12)) (maybe_number_in (column r 13)) (maybe_number_in (column r 14)) (maybe_number_in (column r 15)) (number_in (column r 16))) ∙ start e in
        let standing : kept_from (number_in (column r 7)) reserve k.price k.leader k.top k.second k.count ≡ k = report (number_in (column r 7)) reserve k.price k.leader k.top k.second k.count led ∙ ap (λ (o : Opening). record k { start = o.start; reserve = o.reserve }) same in
        let met : met_with reserve k.leader k.top ≡ met_by k.reserve k.top = met_reported reserve k.leader k.top led ∙ ap (λ (o : Opening). met_by o.reserve k.top) same in
        rw (e, small k.price kept_low.price_low, small k.count kept_low.count_low, maybe_back k.leader kept_low.leader_low, maybe_back k.top kept_low.top_low, maybe_back k.second kept_low.second_low, standing, met) refl

-- ---- the purchase

abbrev sold_at_once : ℕ → ℕ → ℕ → Row → Row
sold_at_once buyer at moment r =
    column r 0 ∷ Null ∷ column r 2 ∷ column r 3 ∷ column r 4 ∷ column r 5 ∷ column r 6 ∷ column r 7 ∷ column r 8 ∷ column r 9 ∷ Int (pos 1) ∷ Int (pos moment)
    ∷ Int (pos at) ∷ Int (pos buyer) ∷ column r 14 ∷ column r 15 ∷ column r 16 ∷ []

sold_stays : (buyer at moment : ℕ) (r : Row) → IsTyped r → IsTrue (is_int (rowid r)) → cast_row item_table (sold_at_once buyer at moment r) ≡ sold_at_once buyer at moment r
sold_stays buyer at moment r typed int =
    let l = leaves r typed int in
    rw (l.id, cast_null, l.seller, l.category, l.lot, l.title, l.body, l.start, l.buy_now, l.ending, cast_int (pos 1), cast_int (pos moment), cast_int (pos at), cast_int (pos buyer), l.top, l.next, l.count) refl

abbrev IsUnsold : ItemRow → Type 0
IsUnsold row = (row.item.terms.start ≤ most_cents) × (row.standing.price ≡ row.standing.start) × (row.standing.leader ≡ None) × (row.standing.top ≡ None)

pub sets_bought : (old new : State) (item buyer at moment count : ℕ) → IsHouse old.now → item < 2 ^ 32 → buyer < 2 ^ 32 → at < 2 ^ 32 → moment < 2 ^ 32
    → Executes set_bought_text (Int (pos item) ∷ Int (pos moment) ∷ Int (pos at) ∷ Int (pos buyer) ∷ []) old new (Ok count) → SetsBought item buyer at moment old.now new.now
sets_bought old new item buyer at moment count house low buyer_low at_low moment_low h =
    let rows = old.now.trees 6 in
    let w = updates _ set_bought_text 4 item_layout bought_set item (Int (pos moment) ∷ Int (pos at) ∷ Int (pos buyer) ∷ []) low refl (λ db. refl)
    (set_bought_is _).0 (set_bought_is _).1 (sold_at_once buyer at moment) (λ r. refl) (λ r. refl) IsTyped (sold_stays buyer at moment) old new count house.schema house.shaped.1.1.1.1.0 (are_typed_rows old.now house) h in
    record {
      house = still_house 6 _ old.now new.now house w.0 w.1;
      schema = w.0.schema;
      others = w.0.others;
      items = λ fits. ap (λ rs. map (item_row_in rs) (new.now.trees 6)) (kept_reserves old.now new.now w.0.others) ∙ ap (map (row_of old)) w.0.rows_are ∙ typed_set_on (row_of old) (with_purchase item buyer at moment) item (sold_at_once buyer at moment) (λ r. is_item item (row_of old r) ≡ true → IsUnsold (row_of old r)) rows house.shaped.1.1.1.1.0.1
          (of_item item IsUnsold old.now fits) here (λ r e. rw e refl);
    }
  where
    here : (r : Row) → (is_item item (row_of old r) ≡ true → IsUnsold (row_of old r)) → eqb (number_in (rowid r)) item ≡ true → row_of old (sold_at_once buyer at moment r) ≡ with_purchase item buyer at moment (row_of old r)
    here r fits e =
        let fit = fits e in
        let state = fits_state (is_state (column r 10)) (number_in (column r 7)) fit.0 in
        let reserve = amount_of (reserves_in old.now.trees) (number_in (column r 0)) in
        let led = maybe_number_in (column r 13) in
        let top = maybe_number_in (column r 14) in
        let standing = bought (number_in (column r 7)) reserve (number_in (column r 12)) led top (maybe_number_in (column r 15)) (number_in (column r 16)) at buyer fit.1 fit.2 fit.3 in
        let met = met_bought reserve led top buyer (no_top_stored (number_in (column r 7)) reserve (number_in (column r 12)) led top (maybe_number_in (column r 15)) (number_in (column r 16)) fit.2 fit.3) in
        rw (e, small buyer buyer_low, small at at_low, small moment moment_low, state, standing, met) refl

-- ---- the close

abbrev ended : ℕ → Row → Row
ended state r =
    column r 0 ∷ Null ∷ column r 2 ∷ column r 3 ∷ column r 4 ∷ column r 5 ∷ column r 6 ∷ column r 7 ∷ column r 8 ∷ column r 9 ∷ Int (pos state) ∷ column r 9
    ∷ column r 12 ∷ column r 13 ∷ column r 14 ∷ column r 15 ∷ column r 16 ∷ []

ended_stays : (state : ℕ) (r : Row) → IsTyped r → IsTrue (is_int (rowid r)) → cast_row item_table (ended state r) ≡ ended state r
ended_stays state r typed int =
    let l = leaves r typed int in
    rw (l.id, cast_null, l.seller, l.category, l.lot, l.title, l.body, l.start, l.buy_now, l.ending, cast_int (pos state), l.at_price, l.led, l.top, l.next, l.count) refl

abbrev IsOurs : ItemRow → Type 0
IsOurs row = row.item.terms.start ≤ most_cents

-- sold is stored as 1, unsold as 2
abbrev pub closed_state : Bool → ℕ
closed_state is_sold = cond is_sold 1 2

pub sets_closed : (old new : State) (item : ℕ) (is_sold : Bool) (count : ℕ) → IsHouse old.now → item < 2 ^ 32
    → Executes set_closed_text (Int (pos item) ∷ Int (pos (closed_state is_sold)) ∷ []) old new (Ok count) → SetsClosed item is_sold old.now new.now
sets_closed old new item is_sold count house low h =
    let rows = old.now.trees 6 in
    let w = updates _ set_closed_text 4 item_layout closed_set item (Int (pos (closed_state is_sold)) ∷ []) low refl (λ db. refl)
    (set_closed_is _).0 (set_closed_is _).1 (ended (closed_state is_sold)) (λ r. refl) (λ r. refl) IsTyped (ended_stays (closed_state is_sold)) old new count house.schema house.shaped.1.1.1.1.0 (are_typed_rows old.now house) h in
    record {
      house = still_house 6 _ old.now new.now house w.0 w.1;
      schema = w.0.schema;
      others = w.0.others;
      items = λ fits. ap (λ rs. map (item_row_in rs) (new.now.trees 6)) (kept_reserves old.now new.now w.0.others) ∙ ap (map (row_of old)) w.0.rows_are ∙ typed_set_on (row_of old) (with_end item is_sold) item (ended (closed_state is_sold)) Both rows house.shaped.1.1.1.1.0.1
          (all_both (λ r. is_item item (row_of old r) ≡ true → IsOurs (row_of old r)) IsRow Both (λ r ours is. (ours, is.ending)) rows (of_item item IsOurs old.now fits) (are_rows old.now house)) (here is_sold) (λ r e. rw e refl);
    }
  where
    Both : Row → Type 0
    Both r = (is_item item (row_of old r) ≡ true → IsOurs (row_of old r)) × (is_int (column r 9) ≡ true)

    here : (is_sold : Bool) (r : Row) → (is_item item (row_of old r) ≡ true → IsOurs (row_of old r)) × (is_int (column r 9) ≡ true) → eqb (number_in (rowid r)) item ≡ true
        → row_of old (ended (closed_state is_sold) r) ≡ with_end item is_sold (row_of old r)
    here true r both e = rw (e, fits_state (is_state (column r 10)) (number_in (column r 7)) (both.0 e), present_number (column r 9) both.1) refl
    here false r both e = rw (e, fits_state (is_state (column r 10)) (number_in (column r 7)) (both.0 e), present_number (column r 9) both.1) refl

-- ---- the settlement

abbrev settled : Row → Row
settled r =
    column r 0 ∷ Null ∷ column r 2 ∷ column r 3 ∷ column r 4 ∷ column r 5 ∷ column r 6 ∷ column r 7 ∷ column r 8 ∷ column r 9 ∷ Int (pos 3) ∷ column r 11
    ∷ column r 12 ∷ column r 13 ∷ column r 14 ∷ column r 15 ∷ column r 16 ∷ []

settled_stays : (r : Row) → IsTyped r → IsTrue (is_int (rowid r)) → cast_row item_table (settled r) ≡ settled r
settled_stays r typed int =
    let l = leaves r typed int in
    rw (l.id, cast_null, l.seller, l.category, l.lot, l.title, l.body, l.start, l.buy_now, l.ending, cast_int (pos 3), l.closed, l.at_price, l.led, l.top, l.next, l.count) refl

pub sets_settled : (old new : State) (item count : ℕ) → IsHouse old.now → item < 2 ^ 32 → Executes set_settled_text (Int (pos item) ∷ []) old new (Ok count) → SetsSettled item old.now new.now
sets_settled old new item count house low h =
    let rows = old.now.trees 6 in
    let w = updates _ set_settled_text 4 item_layout settled_set item [] low refl (λ db. refl)
    (set_settled_is _).0 (set_settled_is _).1 settled (λ r. refl) (λ r. refl) IsTyped settled_stays old new count house.schema house.shaped.1.1.1.1.0 (are_typed_rows old.now house) h in
    record {
      house = still_house 6 _ old.now new.now house w.0 w.1;
      schema = w.0.schema;
      others = w.0.others;
      items = λ fits. ap (λ rs. map (item_row_in rs) (new.now.trees 6)) (kept_reserves old.now new.now w.0.others) ∙ ap (map (row_of old)) w.0.rows_are ∙ typed_set_on (row_of old) (with_settlement item) item settled (λ r. is_item item (row_of old r) ≡ true → IsOurs (row_of old r)) rows house.shaped.1.1.1.1.0.1
          (of_item item IsOurs old.now fits) (λ r fits e. rw (e, fits_state (is_state (column r 10)) (number_in (column r 7)) (fits e)) refl) (λ r e. rw e refl);
    }
