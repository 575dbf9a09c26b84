-- What the lists of items without their texts find.
use Rattle.std.proofs.Common.{◌≡◌, ◌==◌, ◌<◌, ◌^◌, ◌&&◌, ℕ, pos, Bool, true, List, [], ◌∷◌, map, filter, drop, take, Some, eqb, refl, ap, sym, subst, ◌∙◌, inl, inr, arith, nat_le}
use Rattle.std.specs.List.{AllByRecursion}
use Rattle.std.proofs.lemmas.List.{take-map}
use Rattle.sqlite_value.specs.declared.value.Value.{Value}
use Rattle.sqlite_value.specs.declared.value.Value.TheVariants.{Null, Int}
use Rattle.sqlite_value.specs.declared.keys.Collation.TheVariants.{Binary}
use Rattle.sqlite_value.specs.Order.{Row, column}
use Rattle.sqlite_schema.specs.Rules.{are_present, are_typed, has_computed, is_of}
use Rattle.sqlite_schema.specs.declared.schema.Constraint.TheVariants.{Datatype, NotNull}
use Rattle.sqlite_schema.specs.declared.schema.Kind.TheVariants as kind
use Rattle.sqlite_catalog.specs.Listing.{IsSound}
use Rattle.sqlite_sql.specs.declared.ops.BinaryOp.TheVariants.{Compare}
use Rattle.sqlite_sql.specs.declared.ops.CompareOp.TheVariants.{Ge, Le}
use Rattle.sqlite_sql.specs.Ops.{binary, is_true}
use Rattle.sqlite_sql.specs.Program.{overlay}
use Rattle.sqlite_sql.specs.Term.{Term}
use Rattle.sqlite_trees.specs.View.{is_int}
use Rattle.sqlite_keyed.proofs.ListLemmas.{all_both, all-filter, all_map, all_unmap, all_weaker, filter-map}
use Rattle.sqlite_keyed.proofs.RuleLemmas.{first_of_both}
use Rattle.sqlite.specs.Effect.{Database}
use Rattle.sqlite.specs.State.{State, Shown}
use Rattle.sqlite.proofs.Callers.{reads_as}
use Rattle.proxy.specs.Bids.{is_leader}
use Rattle.house_rows.specs.Keeping.{FitsBy, IsKeptRowBy}
use Rattle.house_rows.specs.Taken.{FitWhere, up_to}
use Rattle.house_rows.specs.Items.{is_due, is_open}
use Rattle.house_rows.specs.Tables.{ItemRow}
use Rattle.house_rows.specs.Editions.{BandTables}
use Rattle.house_rows.proofs.Put.{by_test}
use Rattle.store_rows.specs.Schema.{item_table}
use Rattle.store_rows.specs.House.{IsHouse}
use Rattle.store_rows.specs.declared.reserve.ReserveRow.{ReserveRow}
use Rattle.store_rows.specs.ItemRows.{item_row_in, items_in, state_in, terms_by}
use Rattle.store_rows.specs.Plain.{passes, shown_by}
use Rattle.store_rows.specs.Rows.{number_in, reserves_in}
use Rattle.store_rows.proofs.ColumnLemmas.{holds_all}
use Rattle.store_rows.proofs.RowLemmas.{int_if, equals_number, alone, filter_same_on, passing_fit}
use Rattle.store_rows.proofs.Select.{by_rowid, equals, in_order, listed, typed_part}
use Rattle.store_rows.proofs.Tested.{filter_both}
use Rattle.store_rows.proofs.Update.{IsStrict, numbered_passes}
use Rattle.store_items.specs.Standing.{IsShownKept, TermsHold}
use Rattle.store_items.proofs.Holding.{terms_row}
use Rattle.store_items.proofs.ItemMeaning.{terms_shown}
use Rattle.store_rows.proofs.ColumnKinds.{kinds_of}
use Rattle.store_rows.proofs.Ordered.{equals_maybe, within}
use Rattle.store_items.proofs.TermMeaning.{AsksTerms, ended_by}
use Rattle.store_items.proofs.UpTo.{up_to-map, up_to-same}

-- the columns by which rows are found
pub record IsRow (r : Row) : Type 0 where
  pub seller : is_int (column r 2) ≡ true
  pub ending : is_int (column r 9) ≡ true
  pub state : is_int (column r 10) ≡ true
  pub leader : is_of kind.Integer (column r 13) ≡ true

all_strict : AllByRecursion IsStrict item_table.columns
all_strict = ((refl, tt), ((refl, tt), ((refl, tt), ((refl, tt), ((refl, tt), ((refl, tt), ((refl, tt), ((refl, tt), ((refl, tt), ((refl, tt), ((refl, tt), ((refl, tt), ((refl, tt), ((refl, tt), ((refl, tt), ((refl, tt), tt))))))))))))))))

are_rows : (db : Database) → IsHouse db → AllByRecursion IsRow (db.trees 6)
are_rows db house =
    let sound = subst (λ h. IsSound h db.trees) house.schema house.sound in
    all_both _ _ IsRow one (db.trees 6) (sound.obeys.rules Datatype).1.1.1.1.0 (sound.obeys.rules NotNull).1.1.1.1.0
  where
    one : (r : Row) → (are_typed (Some 0) 0 item_table.columns (drop 1 r) && has_computed item_table r) ≡ true → are_present (Some 0) 0 item_table.columns r ≡ true → IsRow r
    one r t p =
        let typed = first_of_both (are_typed (Some 0) 0 item_table.columns (drop 1 r)) (has_computed item_table r) t in
        let h = holds_all (Some 0) item_table.columns r all_strict typed p in
        let kinds = kinds_of (Some 0) item_table.columns r all_strict typed in
        let seller = h.1.0 refl refl in
        let rest = h.1.1.1.1.1.1.1.1 in
        let ending = rest.0 refl refl in
        let state = rest.1.0 refl refl in
        record {
          seller = int_if (column r 2) seller.0 seller.1;
          ending = int_if (column r 9) ending.0 ending.1;
          state = int_if (column r 10) state.0 state.1;
          leader = kinds.1.1.1.1.1.1.1.1.1.1.1.1.0 refl;
        }

module _ (sql : List ℕ) (test : List Term) (is : AsksTerms sql test) (params : Row) (old new : State) (answer : List Row) (house : IsHouse old.now) (h : Shown sql params old new answer) where
  abbrev R : List ReserveRow
  R = reserves_in old.now.trees

  abbrev make : Row → ItemRow
  make r = item_row_in R r

  -- a query that keeps some of the items
  pub terms_found : (keep : ItemRow → Bool) → ((r : Row) → IsRow r → passes test params r ≡ keep (make r))
      → map (terms_by R) answer ≡ map (λ (row : ItemRow). row.item.terms) (filter keep (items_in old.now.trees))
  terms_found keep tests =
      let rows = old.now.trees 6 in
      let read = reads_as sql params old new _ house.schema _ (is _).0 (is _).2 (is _).1 answer h in
      let order = in_order test terms_shown params rows answer house.shaped.1.1.1.1.0.0 (listed 6 test terms_shown by_rowid (overlay old.now.trees []) params answer (read.answer Null)) in
      typed_part (terms_by R) make (λ (row : ItemRow). row.item.terms) keep IsRow test terms_shown params rows answer (λ r. refl) tests (are_rows old.now house) order

  -- where the items that the query keeps fit
  pub terms_kept : (keep : ItemRow → Bool) → ((r : Row) → IsRow r → passes test params r ≡ keep (make r)) → (editions : BandTables) → FitWhere keep (FitsBy editions) (items_in old.now.trees)
      → AllByRecursion (TermsHold editions R) answer
  terms_kept keep tests editions fit =
      let rows = old.now.trees 6 in
      let kept = filter (passes test params) rows in
      let show = shown_by terms_shown params in
      let read = reads_as sql params old new _ house.schema _ (is _).0 (is _).2 (is _).1 answer h in
      let order = in_order test terms_shown params rows answer house.shaped.1.1.1.1.0.0 (listed 6 test terms_shown by_rowid (overlay old.now.trees []) params answer (read.answer Null)) in
      let each = passing_fit make (FitsBy editions) keep IsRow (passes test params) tests rows (are_rows old.now house) fit in
      subst (AllByRecursion (TermsHold editions R)) (sym order) (all_map (TermsHold editions R) show kept (all_weaker (λ r. FitsBy editions (make r)) (λ r. TermsHold editions R (show r)) (terms_row editions R params) kept each))

  -- and where what is sealed goes with what is shown of all that it shows, it does so of the items that the query keeps
  pub terms_back : (keep : ItemRow → Bool) → ((r : Row) → IsRow r → passes test params r ≡ keep (make r)) → (editions : BandTables)
      → AllByRecursion (IsShownKept editions R) answer → AllByRecursion (IsKeptRowBy editions) (filter keep (items_in old.now.trees))
  terms_back keep tests editions held =
      let rows = old.now.trees 6 in
      let kept = filter (passes test params) rows in
      let show = shown_by terms_shown params in
      let read = reads_as sql params old new _ house.schema _ (is _).0 (is _).2 (is _).1 answer h in
      let order = in_order test terms_shown params rows answer house.shaped.1.1.1.1.0.0 (listed 6 test terms_shown by_rowid (overlay old.now.trees []) params answer (read.answer Null)) in
      let typed : filter keep (map make rows) ≡ map make kept = filter-map keep make rows ∙ ap (map make) (sym (filter_same_on IsRow (passes test params) (λ r. keep (make r)) tests rows (are_rows old.now house))) in
      let front = all_unmap (IsShownKept editions R) show kept (subst (AllByRecursion (IsShownKept editions R)) order held) in
      subst (AllByRecursion (IsKeptRowBy editions)) (sym typed)
      (all_map (IsKeptRowBy editions) make kept (all_weaker (λ r. IsShownKept editions R (show r)) (λ r. IsKeptRowBy editions (make r)) (λ r goes. goes) kept front))

  -- where the items that the query keeps have numbers of ours, up to the one with which so many pass a further test, it shows such
  pub terms_numbered : (keep shows : ItemRow → Bool) (further : Row → Bool) → ((r : Row) → IsRow r → passes test params r ≡ keep (make r))
      → ((r : Row) → IsRow r → (passes test params r && further (shown_by terms_shown params r)) ≡ shows (make r)) → (many : ℕ)
      → AllByRecursion (λ row. row.item.terms.item < 2 ^ 32) (up_to many shows (filter keep (items_in old.now.trees)))
      → AllByRecursion (λ r. number_in (column r 0) < 2 ^ 32) (up_to many further answer)
  terms_numbered keep shows further keeps tests many low =
      let rows = old.now.trees 6 in
      let passing = passes test params in
      let kept = filter passing rows in
      let show = shown_by terms_shown params in
      let Low = λ (row : ItemRow). row.item.terms.item < 2 ^ 32 in
      let Small = λ (r : Row). number_in (column r 0) < 2 ^ 32 in
      let read = reads_as sql params old new _ house.schema _ (is _).0 (is _).2 (is _).1 answer h in
      let order = in_order test terms_shown params rows answer house.shaped.1.1.1.1.0.0 (listed 6 test terms_shown by_rowid (overlay old.now.trees []) params answer (read.answer Null)) in
      let typed : filter keep (map make rows) ≡ map make kept = filter-map keep make rows ∙ ap (map make) (sym (filter_same_on IsRow passing (λ r. keep (make r)) keeps rows (are_rows old.now house))) in
      let are : AllByRecursion (λ r. IsRow r × (passing r ≡ true)) kept =
      all_both IsRow (λ r. passing r ≡ true) (λ r. IsRow r × (passing r ≡ true)) (λ r is_row passed. (is_row, passed)) kept (all-filter IsRow passing rows (are_rows old.now house)) (numbered_passes passing rows) in
      let same : up_to many (λ r. shows (make r)) kept ≡ up_to many (λ r. further (show r)) kept =
      up_to-same (λ r. IsRow r × (passing r ≡ true)) (λ r. shows (make r)) (λ r. further (show r)) (λ r both. sym (tests r both.0) ∙ ap (λ b. b && further (show r)) both.1) many kept are in
      let front = all_unmap Low make (up_to many (λ r. shows (make r)) kept) (subst (AllByRecursion Low) (ap (up_to many shows) typed ∙ up_to-map make shows many kept) low) in
      let held = all_map Small show (up_to many (λ r. further (show r)) kept) (all_weaker (λ r. Low (make r)) (λ r. Small (show r)) (λ r small. small) (up_to many (λ r. further (show r)) kept) (subst (AllByRecursion (λ r. Low (make r))) same front)) in
      subst (AllByRecursion Small) (sym (ap (up_to many further) order ∙ up_to-map show further many kept)) held

  -- where the first items that the query keeps and that pass a further test fit
  pub first_kept : (keep : ItemRow → Bool) (further : Row → Bool) → ((r : Row) → IsRow r → (passes test params r && further (shown_by terms_shown params r)) ≡ keep (make r)) → (editions : BandTables) (many : ℕ)
      → AllByRecursion (FitsBy editions) (take many (filter keep (items_in old.now.trees))) → AllByRecursion (TermsHold editions R) (take many (filter further answer))
  first_kept keep further tests editions many fit =
      let rows = old.now.trees 6 in
      let show = shown_by terms_shown params in
      let both = λ (r : Row). passes test params r && further (show r) in
      let kept = filter both rows in
      let read = reads_as sql params old new _ house.schema _ (is _).0 (is _).2 (is _).1 answer h in
      let order = in_order test terms_shown params rows answer house.shaped.1.1.1.1.0.0 (listed 6 test terms_shown by_rowid (overlay old.now.trees []) params answer (read.answer Null)) in
      let typed : filter keep (map make rows) ≡ map make kept = filter-map keep make rows ∙ ap (map make) (sym (filter_same_on IsRow both (λ r. keep (make r)) tests rows (are_rows old.now house))) in
      let front = all_unmap (FitsBy editions) make (take many kept) (subst (AllByRecursion (FitsBy editions)) (ap (take many) typed ∙ take-map make many kept) fit) in
      let held = all_map (TermsHold editions R) show (take many kept) (all_weaker (λ r. FitsBy editions (make r)) (λ r. TermsHold editions R (show r)) (terms_row editions R params) (take many kept) front) in
      let shown : filter further answer ≡ map show kept =
      ap (filter further) order ∙ filter-map further show (filter (passes test params) rows) ∙ ap (map show) (filter_both (passes test params) (λ r. further (show r)) rows) in
      subst (AllByRecursion (TermsHold editions R)) (sym (ap (take many) shown ∙ take-map show many kept)) held

  -- and where what is sealed goes with what is shown of the first that it shows, it does so of these items
  pub first_back : (keep : ItemRow → Bool) (further : Row → Bool) → ((r : Row) → IsRow r → (passes test params r && further (shown_by terms_shown params r)) ≡ keep (make r)) → (editions : BandTables) (many : ℕ)
      → AllByRecursion (IsShownKept editions R) (take many (filter further answer)) → AllByRecursion (IsKeptRowBy editions) (take many (filter keep (items_in old.now.trees)))
  first_back keep further tests editions many held =
      let rows = old.now.trees 6 in
      let show = shown_by terms_shown params in
      let both = λ (r : Row). passes test params r && further (show r) in
      let kept = filter both rows in
      let read = reads_as sql params old new _ house.schema _ (is _).0 (is _).2 (is _).1 answer h in
      let order = in_order test terms_shown params rows answer house.shaped.1.1.1.1.0.0 (listed 6 test terms_shown by_rowid (overlay old.now.trees []) params answer (read.answer Null)) in
      let typed : filter keep (map make rows) ≡ map make kept = filter-map keep make rows ∙ ap (map make) (sym (filter_same_on IsRow both (λ r. keep (make r)) tests rows (are_rows old.now house))) in
      let shown : filter further answer ≡ map show kept =
      ap (filter further) order ∙ filter-map further show (filter (passes test params) rows) ∙ ap (map show) (filter_both (passes test params) (λ r. further (show r)) rows) in
      let front = all_unmap (IsShownKept editions R) show (take many kept) (subst (AllByRecursion (IsShownKept editions R)) (ap (take many) shown ∙ take-map show many kept) held) in
      subst (AllByRecursion (IsKeptRowBy editions)) (sym (ap (take many) typed ∙ take-map make many kept))
      (all_map (IsKeptRowBy editions) make (take many kept) (all_weaker (λ r. IsShownKept editions R (show r)) (λ r. IsKeptRowBy editions (make r)) (λ r goes. goes) (take many kept) front))

-- ---- the tests

pub seller_test : (reserves : List ReserveRow) (seller : ℕ) → seller < 2 ^ 32 → (r : Row) → IsRow r → passes (equals 2 ∷ []) (Int (pos seller) ∷ []) r ≡ ((item_row_in reserves r).item.terms.seller == seller)
seller_test reserves seller low r is = rw (equals_number (column r 2) seller is.seller low) (alone _)

pub leader_test : (reserves : List ReserveRow) (member : ℕ) → member < 2 ^ 32 → (r : Row) → IsRow r → passes (equals 13 ∷ []) (Int (pos member) ∷ []) r ≡ is_leader (item_row_in reserves r).item.terms.leader member
leader_test reserves member low r is = rw (equals_maybe (column r 13) member is.leader low) (alone _)

open_state : (v : Value) → eqb (number_in v) 0 ≡ is_open (state_in v)
open_state v =
    elim (by_test (number_in v == 0)) [
      | inl is ↦ rw is refl
      | inr not ↦ rw not (elim (by_test (number_in v == 1)) [
        | inl one ↦ rw one refl
        | inr other ↦ rw other (elim (by_test (number_in v == 2)) [ inl two ↦ rw two refl | inr more ↦ rw more refl ])
      ])
    ]

pub due_test : (reserves : List ReserveRow) (moment : ℕ) → moment < 2 ^ 32 → (r : Row) → IsRow r → passes ended_by (Int (pos moment) ∷ []) r ≡ is_due moment (item_row_in reserves r).item.terms
due_test reserves moment low r is =
    rw (equals_number (column r 10) 0 is.state (omega arith))
    (ap (λ b. eqb (number_in (column r 10)) 0 && b) (ap (λ b. is_true (binary (Compare Ge Binary) (column r 9) (Int (pos 0))) && b) (alone (is_true (binary (Compare Le Binary) (column r 9) (Int (pos moment))))) ∙ within (column r 9) moment is.ending low)
    ∙ ap (λ b. b && nat_le (number_in (column r 9)) moment) (open_state (column r 10)))
