-- What a query shows of items whose rows fit holds items that are consistent.
use Rattle.std.proofs.Common.{◌≡◌, ◌≤◌, ◌<◌, ◌^◌, ◌∙◌, ℕ, pos, Bool, true, false, ◌&&◌, ◌||◌, List, [], ◌∷◌, map, filter, slice_get, Option, Some, None, IfSome, refl, sym, ap, subst, arith, ◌⊎◌, inl, inr, true≢false}
use Rattle.std.specs.Prelude.{is_none, is_some, nat_lt}
use Rattle.std.specs.List.{AllByRecursion}
use Rattle.std.proofs.lemmas.Bool.Decides.{nat_tests}
use Rattle.sqlite_value.specs.declared.value.Value.TheVariants.{Null, Int}
use Rattle.sqlite_value.specs.Order.{Row, column}
use Rattle.sqlite_sql.specs.Program.{overlay}
use Rattle.sqlite_sql.specs.Term.{Term}
use Rattle.sqlite_keyed.proofs.ListLemmas.{all-filter, all_both, all_map, all_unmap, all_weaker}
use Rattle.sqlite.specs.State.{State, Shown}
use Rattle.sqlite.proofs.Callers.{reads_as}
use Rattle.proxy.specs.Opening.{Opening}
use Rattle.proxy.specs.Rows.{is_standing}
use Rattle.house_rows.specs.declared.item.Terms.{Terms}
use Rattle.house_rows.specs.Editions.{BandTables, bands_in}
use Rattle.house_rows.specs.Fits.{ReserveFits}
use Rattle.house_rows.specs.Keeping.{FitsBy, IsPurchase, ItemRowFits}
use Rattle.house_rows.specs.Tables.{ItemRow}
use Rattle.store_rows.specs.House.{IsHouse}
use Rattle.store_rows.specs.declared.reserve.ReserveRow.{ReserveRow}
use Rattle.store_rows.specs.ItemRows.{amount_of, item_columns, item_of, item_row_in, items_in, kept_from, terms_of}
use Rattle.store_rows.specs.Plain.{passes, shown_by}
use Rattle.store_rows.specs.Rows.{maybe_number_in, number_in, reserves_in}
use Rattle.store_rows.proofs.Select.{by_rowid, equals, in_order, listed}
use Rattle.store_rows.proofs.Update.{numbered_passes}
use Rattle.store_items.specs.Standing.{ItemHolds, TermsHold, is_at_most, is_bought, is_price, is_reserve, is_reported, is_consistent}
use Rattle.store_items.proofs.After.{kept_number}
use Rattle.store_items.proofs.ItemLemmas.{IsRow, are_rows, kept_opening, kept_start}
use Rattle.store_items.proofs.ItemMeaning.{all_items_is, all_items_text, auction_at_is, auction_at_text, item_at_is, item_at_text, item_shown, terms_shown}
use Rattle.store_items.proofs.StandingLemmas.{counts, first, is_sealed}
use Rattle.store_items.proofs.IsConsistent.{item_out, met_out}

or_right : (a b : Bool) → b ≡ true → (a || b) ≡ true
or_right true b e = refl
or_right false b e = e

same_price : (price : ℕ) → is_price (Some price) price ≡ true
same_price price = grind (arith, nat_tests)

bought : (bands : List (ℕ × ℕ)) (t : Terms) (reserve : Option ℕ) → is_some t.leader ≡ true → IsPurchase t → is_reported bands t reserve None None ≡ true
bought bands t reserve led is = let price : is_price t.buy_now t.price ≡ true = rw is.price (same_price t.price) in rw (is.sold, led, is.no_bid, price) refl

-- what is reported of a standing or of a purchase is consistent
report : (bands : List (ℕ × ℕ)) (t : Terms) (start : ℕ) (reserve led top next : Option ℕ) → start ≡ t.start → led ≡ t.leader → is_standing bands (kept_from start reserve t.price led top next t.count) ≡ true
    → (t.leader ≡ (kept_from start reserve t.price led top next t.count).leader) ⊎ IsPurchase t → is_reported bands t reserve top next ≡ true
report bands t start reserve None top next begins same shape by = or_right (is_none top && is_none next && is_bought t) _ (rw (← begins, ← same) shape)
report bands t start reserve (Some l) (Some u) next begins same shape by = or_right false _ (rw (← begins, ← same) shape)
report bands t start reserve (Some l) None None begins same shape (inl by) = absurd (let e : Some l ≡ None = same ∙ by in cc)
report bands t start reserve (Some l) None None begins same shape (inr by) = bought bands t reserve (ap is_some (sym same)) by
report bands t start reserve (Some l) None (Some s) begins same shape by = absurd (true≢false (sym shape))

-- a reserve that fits passes its test
under : (most : Option ℕ) (amount : ℕ) → IfSome most (λ m. amount ≤ m) → is_at_most most amount ≡ true
under None amount fits = refl
under (Some most) amount fits = grind (arith, nat_tests, fits)

reserved : (t : Terms) (reserve : Option ℕ) → ReserveFits t.start t.buy_now reserve → is_reserve t reserve ≡ true
reserved t None fits = refl
reserved t (Some amount) fits = let over : nat_lt t.start amount ≡ true = grind (arith, nat_tests, fits.0) in rw over (under t.buy_now amount fits.2)

-- terms without what is said of a reserve
abbrev bare : Row → Terms
bare r = terms_of (item_columns r)

row_sealed : (bands : List (ℕ × ℕ)) (reserves : List ReserveRow) (r : Row) → ItemRowFits bands (item_row_in reserves r)
    → is_consistent bands (bare r) (amount_of reserves (number_in (column r 0))) (maybe_number_in (column r 14)) (maybe_number_in (column r 15)) ≡ true
row_sealed bands reserves r h =
    let t : Terms = bare r in
    let start = number_in (column r 7) in
    let reserve = amount_of reserves (number_in (column r 0)) in
    let led = maybe_number_in (column r 13) in
    let top = maybe_number_in (column r 14) in
    let next = maybe_number_in (column r 15) in
    let begins : start ≡ t.start = sym (kept_start start reserve t.price led top next t.count) ∙ ap (λ k. k.start) h.is_consistent in
    let by : (t.leader ≡ (kept_from start reserve t.price led top next t.count).leader) ⊎ IsPurchase t = elim h.report [
      | inl bids ↦ inl bids.leader
      | inr buy ↦ inr (record { sold = buy.sold; no_bid = sym (counts start reserve t.price led top next t.count) ∙ buy.no_bid; price = buy.price; met = λ e. cc })
    ] in
    let kept : (item_row_in reserves r).standing.reserve ≡ reserve = ap (λ (o : Opening). o.reserve) (kept_opening start reserve t.price led top next t.count) in
    let fits : is_reserve t reserve ≡ true = reserved t reserve (subst (ReserveFits t.start t.buy_now) kept h.reserve) in
    rw fits (report bands t start reserve led top next begins refl (is_sealed bands reserves r h).is_consistent by)

-- what a query shows of a row that fits by its own band table holds an item that is consistent with
-- it
pub terms_row : (editions : BandTables) (reserves : List ReserveRow) (params r : Row) → FitsBy editions (item_row_in reserves r) → TermsHold editions reserves (shown_by terms_shown params r)
terms_row editions reserves params r h =
    let bands : List (ℕ × ℕ) = bands_in editions (item_row_in reserves r).item.terms.item in
    let are = is_sealed bands reserves r h in
    (met_out (amount_of reserves (number_in (column r 0))) (maybe_number_in (column r 14)) (bare r) h.item.terms, record { wide = omega arith; top = are.top; second = are.second; is_consistent = row_sealed bands reserves r h })

pub item_row : (editions : BandTables) (reserves : List ReserveRow) (params r : Row) → FitsBy editions (item_row_in reserves r) → ItemHolds editions reserves (shown_by item_shown params r)
item_row editions reserves params r h =
    let bands : List (ℕ × ℕ) = bands_in editions (item_row_in reserves r).item.terms.item in
    let are = is_sealed bands reserves r h in
    (item_out (amount_of reserves (number_in (column r 0))) (maybe_number_in (column r 14)) (item_of (item_columns r)) h.item, record { wide = omega arith; top = are.top; second = are.second; is_consistent = row_sealed bands reserves r h })

-- each row that a query shows, of a table whose rows fit
pub rows_hold : (editions : BandTables) (reserves : List ReserveRow) (Hold : Row → Type 0) (shown test : List Term) (params : Row) (rows answer : List Row) → ((r : Row) → FitsBy editions (item_row_in reserves r) → Hold (shown_by shown params r))
    → answer ≡ map (shown_by shown params) (filter (passes test params) rows) → AllByRecursion (FitsBy editions) (map (item_row_in reserves) rows) → AllByRecursion Hold answer
rows_hold editions reserves Hold shown test params rows answer each order fit =
    let held = all_weaker _ (λ r. Hold (shown_by shown params r)) each rows (all_unmap (FitsBy editions) (item_row_in reserves) rows fit) in
    subst (AllByRecursion Hold) (sym order) (all_map Hold (shown_by shown params) (filter (passes test params) rows) (all-filter (λ r. Hold (shown_by shown params r)) (passes test params) rows held))

pub items_hold : (old new : State) (answer : List Row) → IsHouse old.now → (editions : BandTables) → AllByRecursion (FitsBy editions) (items_in old.now.trees) → Shown all_items_text [] old new answer
    → AllByRecursion (ItemHolds editions (reserves_in old.now.trees)) answer
items_hold old new answer house editions fit h =
    let reserves : List ReserveRow = reserves_in old.now.trees in
    let read = reads_as all_items_text [] old new _ house.schema _ (all_items_is _).0 (all_items_is _).2 (all_items_is _).1 answer h in
    let order = in_order [] item_shown [] (old.now.trees 6) answer house.shaped.1.1.1.1.0.0 (listed 6 [] item_shown by_rowid (overlay old.now.trees []) [] answer (read.answer Null)) in
    rows_hold editions reserves (ItemHolds editions reserves) item_shown [] [] (old.now.trees 6) answer (item_row editions reserves []) order fit

-- the row of an item, where it fits
module _ (reserves : List ReserveRow) (Fits : ItemRow → Type 0) (n : ℕ) (low : n < 2 ^ 32) (rows : List Row) where
  abbrev IsHere : Row → Type 0
  IsHere r = (item_row_in reserves r).item.terms.item ≡ n → Fits (item_row_in reserves r)

  here_fits : (r : Row) → IsRow r × IsHere r → passes (equals 0 ∷ []) (Int (pos n) ∷ []) r ≡ true → Fits (item_row_in reserves r)
  here_fits r is p = is.1 (kept_number 0 n low [] [] r is.0.number p)

  kept_fit : AllByRecursion IsRow rows → AllByRecursion IsHere rows → AllByRecursion (λ r. Fits (item_row_in reserves r)) (filter (passes (equals 0 ∷ []) (Int (pos n) ∷ [])) rows)
  kept_fit are here =
      let passing = passes (equals 0 ∷ []) (Int (pos n) ∷ []) in
      all_both (λ r. IsRow r × IsHere r) (λ r. passing r ≡ true) (λ r. Fits (item_row_in reserves r)) here_fits (filter passing rows)
      (all-filter (λ r. IsRow r × IsHere r) passing rows (all_both IsRow IsHere (λ r. IsRow r × IsHere r) (λ r is also. (is, also)) rows are here)) (numbered_passes passing rows)

-- each of the rows of a number fits
abbrev AreHere : ℕ → (ItemRow → Type 0) → List ItemRow → Type 0
AreHere n Fits rows = AllByRecursion (λ (row : ItemRow). row.item.terms.item ≡ n → Fits row) rows

pub terms_here : (old new : State) (answer : List Row) → IsHouse old.now → (editions : BandTables) (n : ℕ) → n < 2 ^ 32 → Shown auction_at_text (Int (pos n) ∷ []) old new answer
    → AreHere n (FitsBy editions) (items_in old.now.trees) → IfSome (slice_get answer 0) (TermsHold editions (reserves_in old.now.trees))
terms_here old new answer house editions n low h fit =
    let params = Int (pos n) ∷ [] in
    let reserves : List ReserveRow = reserves_in old.now.trees in
    let make : Row → ItemRow = item_row_in reserves in
    let table = old.now.trees 6 in
    let kept = filter (passes (equals 0 ∷ []) params) table in
    let read = reads_as auction_at_text params old new _ house.schema _ (auction_at_is _).0 (auction_at_is _).2 (auction_at_is _).1 answer h in
    let order = in_order (equals 0 ∷ []) terms_shown params table answer house.shaped.1.1.1.1.0.0 (listed 6 (equals 0 ∷ []) terms_shown by_rowid (overlay old.now.trees []) params answer (read.answer Null)) in
    let fits = kept_fit reserves (FitsBy editions) n low table (are_rows old.now house) (all_unmap (λ (row : ItemRow). row.item.terms.item ≡ n → FitsBy editions row) make table fit) in
    let hold = all_map (TermsHold editions reserves) (shown_by terms_shown params) kept (all_weaker (λ r. FitsBy editions (make r)) (λ r. TermsHold editions reserves (shown_by terms_shown params r)) (terms_row editions reserves params) kept fits) in
    first (TermsHold editions reserves) answer (subst (AllByRecursion (TermsHold editions reserves)) (sym order) hold)

pub item_here : (old new : State) (answer : List Row) → IsHouse old.now → (editions : BandTables) (n : ℕ) → n < 2 ^ 32 → Shown item_at_text (Int (pos n) ∷ []) old new answer
    → AreHere n (FitsBy editions) (items_in old.now.trees) → IfSome (slice_get answer 0) (ItemHolds editions (reserves_in old.now.trees))
item_here old new answer house editions n low h fit =
    let params = Int (pos n) ∷ [] in
    let reserves : List ReserveRow = reserves_in old.now.trees in
    let make : Row → ItemRow = item_row_in reserves in
    let table = old.now.trees 6 in
    let kept = filter (passes (equals 0 ∷ []) params) table in
    let read = reads_as item_at_text params old new _ house.schema _ (item_at_is _).0 (item_at_is _).2 (item_at_is _).1 answer h in
    let order = in_order (equals 0 ∷ []) item_shown params table answer house.shaped.1.1.1.1.0.0 (listed 6 (equals 0 ∷ []) item_shown by_rowid (overlay old.now.trees []) params answer (read.answer Null)) in
    let fits = kept_fit reserves (FitsBy editions) n low table (are_rows old.now house) (all_unmap (λ (row : ItemRow). row.item.terms.item ≡ n → FitsBy editions row) make table fit) in
    let hold = all_map (ItemHolds editions reserves) (shown_by item_shown params) kept (all_weaker (λ r. FitsBy editions (make r)) (λ r. ItemHolds editions reserves (shown_by item_shown params r)) (item_row editions reserves params) kept fits) in
    first (ItemHolds editions reserves) answer (subst (AllByRecursion (ItemHolds editions reserves)) (sym order) hold)
