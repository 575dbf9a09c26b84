-- What a listing makes of the tables.
use Rattle.std.proofs.Common.{◌≡◌, ◌+◌, ◌<◌, ◌≤◌, ℕ, true, List, [], ◌∷◌, ◌++◌, length, map, Option, Some, None, refl, ap, sym, subst, ◌∙◌, arith}
use Rattle.std.specs.Prelude.{◌==◌, All}
use Rattle.std.proofs.lemmas.Bool.Decides.{nat_tests}
use Rattle.std.proofs.lemmas.List.{map-append}
use Rattle.std.proofs.lemmas.List.Elements.{All-push, All-weaker}
use Rattle.sqlite.specs.Effect.{Database}
use Rattle.proxy.specs.Kept.{Kept}
use Rattle.proxy.specs.Opening.{Opening}
use Rattle.proxy.proofs.Placed.{standing-none}
use Rattle.house_rows.specs.Changed.{changed, new_item}
use Rattle.house_rows.specs.Tables.{ItemRow, Tables}
use Rattle.house_rows.specs.declared.change.NewItem.{NewItem}
use Rattle.house_rows.specs.declared.change.Change.TheVariants.{List as Listed}
use Rattle.store_rows.specs.declared.reserve.ReserveRow.{ReserveRow}
use Rattle.store_rows.specs.House.{SetsClock}
use Rattle.store_rows.specs.Rows.{later_bands_in, reserves_in}
use Rattle.store_items.specs.Items.{AddsItem}
use Rattle.store_selling.specs.Listed.{AddsListing}
use Rattle.store_rows.specs.Reserves.{AddsReserve}
use Rattle.store_rows.specs.ItemRows.{item_row_in, items_in}
use Rattle.store_rows.specs.Tables.{IsNumbered, Changes, house_row_in, other_houses_in, settings_in, tables_in, version_in, with_reserve}
use Rattle.store_rows.proofs.Clock.{clock_others, clock_version}
use Rattle.store_rows.proofs.Made.{Makes, makes_both, other, all_below, still_numbered, same_houses, same_later_bands, same_reserves, same_version, sets_clock}
use Rattle.store_items.proofs.Reserves.{kept_reserves, no_amount}
use Rattle.store_selling.proofs.Sealed.{all_sealed, none_sealed, seal}

-- no reserve has the next number
free : (number : ℕ) (old : Database) → IsNumbered old.trees → number ≡ length (items_in old.trees) + 1 → All (λ (r : ReserveRow). r.item < number) (reserves_in old.trees)
free number old was next = All-weaker (λ (r : ReserveRow). r.item ≤ length (items_in old.trees)) (λ (r : ReserveRow). r.item < number) (λ r le. omega (arith, le, next)) (reserves_in old.trees) was.reserves

-- an item without a reserve
pub adds_item : (row : ItemRow) (old new : Database) → IsNumbered old.trees → row.item.terms.item ≡ length (items_in old.trees) + 1 → row.standing.reserve ≡ None → AddsItem row old new → AddsListing row old new
unfolding house_row_in settings_in tables_in
adds_item row old new was next none w =
    let h = w.others.0 (other 0 6 refl) in
    let b = w.others.1.0 (other 1 6 refl) in
    let m = w.others.1.1.0 (other 2 6 refl) in
    let k = w.others.1.1.1.0 (other 4 6 refl) in
    let d = w.others.1.1.1.1.1.0 (other 8 6 refl) in
    let v = w.others.1.1.1.1.1.1.0 (other 10 6 refl) in
    let q = w.others.1.1.1.1.1.1.1.0 (other 12 6 refl) in
    let f = w.others.1.1.1.1.1.1.1.1.0 (other 14 6 refl) in
    let es = w.others.1.1.1.1.1.1.1.1.1.1.0 (other 24 6 refl) in
    let ls = w.others.1.1.1.1.1.1.1.1.1.1.1.0 (other 25 6 refl) in
    let same : reserves_in new.trees ≡ reserves_in old.trees = kept_reserves old new w.others in
    let rows = w.items (all_below (λ r. r.item.terms.item) (items_in old.trees) row next was.items) (free row.item.terms.item old was next) in
    let all = still_numbered (λ r. r.item.terms.item) (items_in old.trees) row next was.items in
    let long : length (items_in old.trees ++ row ∷ []) ≡ length (items_in old.trees) + 1 = longer (items_in old.trees) row in
    record {
      house = w.house;
      schema = w.schema;
      numbered = record {
        house = rw h was.house;
        members = rw m was.members;
        categories = rw k was.categories;
        items = subst (λ (l : List ItemRow). All (λ (r : ItemRow). r.item.terms.item ≤ length l) l) (sym rows) all;
        reserves = subst (λ (l : List ItemRow). All (λ (r : ReserveRow). r.item ≤ length l) (reserves_in new.trees)) (sym rows)
            (subst (λ (rs : List ReserveRow). All (λ (r : ReserveRow). r.item ≤ length (items_in old.trees ++ row ∷ [])) rs) (sym same)
            (All-weaker (λ (r : ReserveRow). r.item ≤ length (items_in old.trees)) (λ (r : ReserveRow). r.item ≤ length (items_in old.trees ++ row ∷ [])) (λ r le. omega (arith, le, long)) (reserves_in old.trees) was.reserves));
        editions = rw es was.editions;
        later_bands = rw (es, ls) was.later_bands;
      };
      version = same_version 6 old new (omega arith) w.others;
      other_houses = same_houses 6 old new (omega arith) w.others;
      tables = rw (h, b, m, k, d, v, q, f, es, ls, rows) refl;
      reserves = same ∙ ap (λ (o : Option ℕ). with_reserve row.item.terms.item o (reserves_in old.trees)) (sym none);
      later_bands = same_later_bands 6 old new (omega arith) w.others;
    }
  where
    longer : {X : Type 0} (xs : List X) (x : X) → length (xs ++ x ∷ []) ≡ length xs + 1
    longer [] x = refl
    longer (y ∷ xs) x = let more = longer xs x in omega (arith, more)

-- a new item with a reserve is one without, and the reserve
new_sealed : (number amount : ℕ) (item : NewItem) → seal (record { item = number; amount = amount }) (new_item number (record item { reserve = None })) ≡ new_item number (record item { reserve = Some amount })
new_sealed number amount item =
    let x : ReserveRow = record { item = number; amount = amount } in
    let here : (number == number) ≡ true = grind (arith, nat_tests) in
    let opens : Option ℕ → Opening = λ r. record { start = item.start; reserve = r } in
    let unbid : Option ℕ → Kept = λ r. record { start = item.start; reserve = r; price = item.start; leader = None; top = None; second = None; count = 0 } in
    let row : Option ℕ → Kept → ItemRow = λ r k. record { item = (new_item number (record item { reserve = r })).item; standing = k } in
    let sealed : seal x (row None (unbid None)) ≡ row (Some amount) (unbid (Some amount)) = rw here refl in
    ap (λ (k : Kept). seal x (row None k)) (standing-none [] (opens None)) ∙ sealed ∙ ap (row (Some amount)) (sym (standing-none [] (opens (Some amount))))

-- an item with one
pub adds_reserved : (number amount : ℕ) (item : NewItem) (old mid new : Database) → IsNumbered old.trees → number ≡ length (items_in old.trees) + 1
    → AddsItem (new_item number (record item { reserve = None })) old mid → AddsReserve number amount mid new → AddsListing (new_item number (record item { reserve = Some amount })) old new
unfolding house_row_in settings_in tables_in
adds_reserved number amount item old mid new was next one two =
    let x : ReserveRow = record { item = number; amount = amount } in
    let bare : ItemRow = new_item number (record item { reserve = None }) in
    let put = adds_item bare old mid was next refl one in
    let rs : List ReserveRow = reserves_in mid.trees in
    let h = two.others.0 (other 0 23 refl) in
    let b = two.others.1.0 (other 1 23 refl) in
    let m = two.others.1.1.0 (other 2 23 refl) in
    let k = two.others.1.1.1.0 (other 4 23 refl) in
    let i = two.others.1.1.1.1.0 (other 6 23 refl) in
    let d = two.others.1.1.1.1.1.0 (other 8 23 refl) in
    let v = two.others.1.1.1.1.1.1.0 (other 10 23 refl) in
    let q = two.others.1.1.1.1.1.1.1.0 (other 12 23 refl) in
    let f = two.others.1.1.1.1.1.1.1.1.0 (other 14 23 refl) in
    let es = two.others.1.1.1.1.1.1.1.1.1.1.0 (other 24 23 refl) in
    let ls = two.others.1.1.1.1.1.1.1.1.1.1.1.0 (other 25 23 refl) in
    let same : rs ≡ reserves_in old.trees = kept_reserves old mid one.others in
    let below : All (λ (r : ReserveRow). r.item < number) rs = subst (λ (l : List ReserveRow). All (λ (r : ReserveRow). r.item < number) l) (sym same) (free number old was next) in
    let more : reserves_in new.trees ≡ rs ++ x ∷ [] = two.reserves below in
    let rows : items_in mid.trees ≡ items_in old.trees ++ bare ∷ [] = one.items (all_below (λ r. r.item.terms.item) (items_in old.trees) bare next was.items) (free number old was next) in
    let first : items_in new.trees ≡ map (item_row_in (rs ++ x ∷ [])) (mid.trees 6) = rw (i, more) refl in
    let items : items_in new.trees ≡ items_in old.trees ++ new_item number (record item { reserve = Some amount }) ∷ [] =
    first ∙ all_sealed rs x (mid.trees 6) (no_amount rs number below) ∙ ap (map (seal x)) rows ∙ map-append (seal x) (items_in old.trees) (bare ∷ [])
    ∙ ap (λ (l : List ItemRow). l ++ seal x bare ∷ []) (none_sealed x (items_in old.trees) (all_below (λ r. r.item.terms.item) (items_in old.trees) bare next was.items))
    ∙ ap (λ (r : ItemRow). items_in old.trees ++ r ∷ []) (new_sealed number amount item) in
    let long : length (items_in new.trees) ≡ length (items_in old.trees) + 1 = ap length items ∙ longer (items_in old.trees) (new_item number (record item { reserve = Some amount })) in
    record {
      house = two.house;
      schema = two.schema ∙ one.schema;
      numbered = record {
        house = rw h put.numbered.house;
        members = rw m put.numbered.members;
        categories = rw k put.numbered.categories;
        items = subst (λ (l : List ItemRow). All (λ (r : ItemRow). r.item.terms.item ≤ length l) l) (sym items)
            (still_numbered (λ r. r.item.terms.item) (items_in old.trees) (new_item number (record item { reserve = Some amount })) next was.items);
        reserves = subst (λ (l : List ReserveRow). All (λ (r : ReserveRow). r.item ≤ length (items_in new.trees)) l) (sym more)
            (All-push (λ (r : ReserveRow). r.item ≤ length (items_in new.trees)) rs x
            (All-weaker (λ (r : ReserveRow). r.item < number) (λ (r : ReserveRow). r.item ≤ length (items_in new.trees)) (λ r less. omega (arith, less, next, long)) rs below)
            (omega (arith, next, long)));
        editions = rw es put.numbered.editions;
        later_bands = rw (es, ls) put.numbered.later_bands;
      };
      version = same_version 23 mid new (omega arith) two.others ∙ put.version;
      other_houses = same_houses 23 mid new (omega arith) two.others ∙ put.other_houses;
      tables = rw (h, b, m, k, d, v, q, f, es, ls, items) (ap (λ (t : Tables). record t { items = items_in old.trees ++ new_item number (record item { reserve = Some amount }) ∷ [] }) put.tables);
      reserves = more ∙ ap (λ (l : List ReserveRow). l ++ x ∷ []) same;
      later_bands = same_later_bands 23 mid new (omega arith) two.others ∙ put.later_bands;
    }
  where
    longer : {X : Type 0} (xs : List X) (x : X) → length (xs ++ x ∷ []) ≡ length xs + 1
    longer [] x = refl
    longer (y ∷ xs) x = let more = longer xs x in omega (arith, more)

-- the new item has the number that comes next
module _ (number moment : ℕ) (item : NewItem) (old mid new : Database) where
  same_items : length (items_in old.trees) ≡ length (tables_in old.trees).items
  unfolding tables_in
  same_items = refl

  with_next : number ≡ length (tables_in old.trees).items + 1
      → Makes (λ t. record t { clock = moment; items = t.items ++ new_item number item ∷ [] }) old new
      → version_in new.trees ≡ version_in old.trees
      → other_houses_in new.trees ≡ other_houses_in old.trees
      → reserves_in new.trees ≡ with_reserve number item.reserve (reserves_in old.trees)
      → later_bands_in new.trees ≡ later_bands_in old.trees
      → Changes (Listed moment item) old new
  unfolding changed
  with_next next it version others sealed bands = record {
    house = it.house;
    schema = it.schema;
    numbered = it.numbered;
    version = version;
    other_houses = others;
    tables = subst (λ (n : ℕ). tables_in new.trees ≡ record (tables_in old.trees) {
      clock = moment;
      items = (tables_in old.trees).items ++ new_item n item ∷ [];
    }) next it.tables;
    reserves = sealed ∙ ap (λ (n : ℕ). with_reserve n item.reserve (reserves_in old.trees)) (next ∙ ap (λ n. n + 1) (sym same_items));
    later_bands = bands;
  }

  pub lists : number ≡ length (items_in old.trees) + 1
      → AddsListing (new_item number item) old mid → SetsClock moment mid new
      → Changes (Listed moment item) old new
  lists next one two =
      let put : Makes (λ t. record t { items = t.items ++ new_item number item ∷ [] }) old mid = record { house = one.house; schema = one.schema; numbered = one.numbered; tables = one.tables } in
      let it = makes_both _ _ old mid new put (sets_clock moment mid new put.numbered two) in
      with_next (next ∙ ap (λ n. n + 1) same_items) (record { house = it.house; schema = it.schema; numbered = it.numbered; tables = it.tables })
      (clock_version moment mid new two ∙ one.version) (clock_others moment mid new two ∙ one.other_houses) (same_reserves 0 mid new (omega arith) two.others ∙ one.reserves)
      (same_later_bands 0 mid new (omega arith) two.others ∙ one.later_bands)
