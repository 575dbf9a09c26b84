-- What the rows of a new house make of the tables in which they are written.
use Rattle.std.proofs.Common.{◌≡◌, ◌≢◌, ℕ, suc, zero, ◌+◌, ◌<◌, ◌≤◌, ◌^◌, ◌==◌, true, List, [], ◌∷◌, ◌++◌, map, find, is_some, IfSome, length, get_or, take, All, inl, inr, refl, sym, ap, ap₂, subst, ◌∙◌, arith, Bool}
use Rattle.std.specs.List.{AllByRecursion}
use Rattle.std.proofs.lemmas.List.{map_more}
use Rattle.std.proofs.lemmas.List.Elements.{All-from_recursion, All-nil}
use Rattle.sqlite_trees.specs.Objects.{catalog_tree}
use Rattle.sqlite_trees.specs.Tree.{Trees}
use Rattle.sqlite_trees.specs.View.{IsShaped}
use Rattle.sqlite_trees.specs.declared.store.Shape.TheVariants as shape
use Rattle.sqlite_catalog.specs.Listing.{AreListed}
use Rattle.sqlite_schema.specs.declared.schema.Table.{Table}
use Rattle.sqlite.specs.Effect.{Database}
use Rattle.steps.specs.Table.{IsBandTable, RisesFrom, RisesFromZero}
use Rattle.house_rows.specs.Fits.{IsWithin}
use Rattle.house_rows.specs.Questions.{questions}
use Rattle.house_rows.specs.Tables.{tables_of}
use Rattle.house_rows.specs.Text.{is_plain}
use Rattle.house_rows.specs.declared.settings.Settings.{Settings}
use Rattle.store_rows.specs.declared.band.BandRow.{BandRow}
use Rattle.store_rows.specs.declared.house.HouseRow.{HouseRow}
use Rattle.store_rows.specs.declared.reserve.ReserveRow.{ReserveRow}
use Rattle.store_rows.specs.Fitting.{HouseRowFits, ReserveRowFits}
use Rattle.store_rows.specs.House.{IsHouse}
use Rattle.store_rows.specs.ItemRows.{item_row_in, items_by}
use Rattle.store_rows.specs.Rows.{band_in, bands_in, category_in, house_in, houses_in, later_band_in, member_in, reserve_in, reserves_in}
use Rattle.store_rows.specs.Schema.{band_table, bid_table, category_table, feedback_table, house_table, item_table, member_table, question_table, watch_table}
use Rattle.store_rows.specs.Schema.{edition_table, house_by, later_band_table, reserve_table}
use Rattle.store_rows.specs.Sorted.{sorted_by}
use Rattle.store_rows.specs.Tables.{house_row_in, settings_in, tables_in}
use Rattle.store_house.proofs.ArrangedLemmas.{table_by_name}
use Rattle.store_house.proofs.NoEdition.{none_set_yet}
use Rattle.store_house.specs.Named.{IsReordered, house_names}
use Rattle.store_house.specs.Opening.{IsSoundHouse}
use Rattle.store_house.specs.Places.{by_names}
use Rattle.tree_order.specs.Rows.{renumbered_rows}
use Rattle.store_making.specs.Made.{band_row, new_house, HasBands, IsMadeHouse, IsMadeWith, PutsBand, PutsHouse, edition_made, later_band_made, made_schema, reserve_made}
use Rattle.store_making.proofs.ListedLemmas.{table_found}

-- ---- the bands

above : (last : ℕ × ℕ) (bands : List (ℕ × ℕ)) (i : ℕ) (d : ℕ × ℕ) → RisesFrom last bands → i < length bands → last.0 < (get_or bands i d).0
above last [] i d rises low = absurd (omega (arith, low))
above last (b ∷ bands) zero d rises low = rises.0
above last (b ∷ bands) (suc i) d rises low = let first = rises.0 in let more = above b bands i d rises.2 (omega (arith, low)) in omega arith

abbrev Below : List (ℕ × ℕ) → ℕ → List (ℕ × ℕ) → Type 0
Below bands i front = AllByRecursion (λ (b : BandRow). b.from < (get_or bands i (0, 0)).0) (map band_row front)

below : (last : ℕ × ℕ) (bands : List (ℕ × ℕ)) (i : ℕ) → RisesFrom last bands → i < length bands → Below bands i (take i bands)
below last [] i rises low = absurd (omega (arith, low))
below last (b ∷ bands) zero rises low = tt
below last (b ∷ bands) (suc i) rises low = (above b bands i (0, 0) rises.2 (omega (arith, low)), below b bands i rises.2 (omega (arith, low)))

below_all : (bands : List (ℕ × ℕ)) (i : ℕ) → RisesFromZero bands → i < length bands → Below bands i (take i bands)
below_all [] i rises low = absurd rises
below_all (b ∷ bands) zero rises low = tt
below_all (b ∷ bands) (suc i) rises low = (above b bands i (0, 0) rises.1 (omega (arith, low)), below b bands i rises.1 (omega (arith, low)))

still_empty : (tree : ℕ) (old new : Trees) (tables : List Table) → AllByRecursion (λ t. t.tree ≢ tree → new t.tree ≡ old t.tree) tables
    → AllByRecursion (λ t. t.tree ≢ tree → old t.tree ≡ []) tables → AllByRecursion (λ t. t.tree ≢ tree → new t.tree ≡ []) tables
still_empty tree old new [] others was = tt
still_empty tree old new (t ∷ tables) others was = ((λ apart. others.0 apart ∙ was.0 apart), still_empty tree old new tables others.1 was.1)

pub band_more : (bands : List (ℕ × ℕ)) (i from step : ℕ) (old new : Database) → IsBandTable bands → i < length bands → (from, step) ≡ get_or bands i (0, 0)
    → HasBands (take i bands) old → PutsBand from step old new → HasBands (take (i + 1) bands) new
band_more bands i from step old new valid low same was added =
    let lower = All-from_recursion (λ (b : BandRow). b.from < (get_or bands i (0, 0)).0) (map band_row (take i bands)) (below_all bands i valid.rising low) in
    let first : from ≡ (get_or bands i (0, 0)).0 = ap (λ (b : ℕ × ℕ). b.0) same in
    let over : All (λ (b : BandRow). b.from < from) (bands_in old.trees) =
    subst (λ n. All (λ (b : BandRow). b.from < n) (bands_in old.trees)) (sym first) (subst (All (λ (b : BandRow). b.from < (get_or bands i (0, 0)).0)) (sym was.bands_are) lower) in
    record {
      laid = added.laid;
      bands_are = added.bands over ∙ ap₂ (λ l (r : BandRow). l ++ r ∷ []) was.bands_are (ap band_row same) ∙ sym (map_more band_row bands i (0, 0) low);
      empty = still_empty 1 old.trees new.trees made_schema.tables added.others was.empty;
    }

-- the tables that were made have no band
pub none_laid : (db : Database) → IsMadeWith 11 db → HasBands [] db
none_laid db made = record {
  laid = record { schema = made.schema; shaped = each made_schema.tables made.empty; sound = made.sound };
  bands_are = ap (map band_in) made.empty.1.0;
  empty = apart made_schema.tables made.empty;
}
  where
    each : (tables : List Table) → AllByRecursion (λ t. db.trees t.tree ≡ []) tables → AllByRecursion (λ t. IsShaped shape.Table (db.trees t.tree)) tables
    each [] empty = tt
    each (t ∷ tables) empty = (subst (IsShaped shape.Table) (sym empty.0) (tt, tt), each tables empty.1)

    apart : (tables : List Table) → AllByRecursion (λ t. db.trees t.tree ≡ []) tables → AllByRecursion (λ t. t.tree ≢ 1 → db.trees t.tree ≡ []) tables
    apart [] empty = tt
    apart (t ∷ tables) empty = ((λ other. empty.0), apart tables empty.1)

-- ---- the tables

same_bands : (bands : List (ℕ × ℕ)) → map (λ (b : BandRow). (b.from, b.step)) (map band_row bands) ≡ bands
same_bands [] = refl
same_bands (b ∷ bands) = ap (λ l. b ∷ l) (same_bands bands)

-- trees in the order of a house that have the rows of a new one
record HasNewRows (settings : Settings) (db : Trees) : Type 0 where
  houses : houses_in db ≡ new_house settings.rate settings.zone ∷ []
  bands : bands_in db ≡ map band_row settings.bands
  members : db 2 ≡ []
  categories : db 4 ≡ []
  items : db 6 ≡ []
  bids : db 8 ≡ []
  watches : db 10 ≡ []
  asked : db 12 ≡ []
  given : db 14 ≡ []
  sealed : db 23 ≡ []
  editions : db 24 ≡ []
  later : db 25 ≡ []

tables_new : (settings : Settings) (db : Trees) → HasNewRows settings db → tables_in db ≡ tables_of settings []
unfolding tables_in settings_in house_row_in tables_of questions sorted_by
tables_new settings db h =
    rw (h.houses, h.bands, h.members, h.categories, h.items, h.bids, h.watches, h.asked, h.given, h.editions)
    (ap (λ (bands : List (ℕ × ℕ)). record (tables_of settings []) { settings = record settings { bands = bands } }) (same_bands settings.bands))

-- such a house is one that an opening takes
sound_new : (settings : Settings) (new : Database) → IsHouse new → IsBandTable settings.bands → settings.rate ≤ 2000 → HasNewRows settings new.trees → is_plain settings.zone ≡ true → IsSoundHouse new
sound_new settings new house valid rate h plain =
    let db = new.trees in
    let sealed : reserves_in db ≡ [] = ap (map reserve_in) h.sealed in
    record {
      house = house;
      readable = record {
        set_up = record {
          house = subst (λ (l : List HouseRow). is_some (find (λ h. h.id == 1) l) ≡ true) (sym h.houses) refl;
          fits = subst (λ (l : List HouseRow). IfSome (find (λ h. h.id == 1) l) HouseRowFits) (sym h.houses) (record { id = refl; version = refl; clock = omega arith; rate = rate; zone = plain });
          bands = subst IsBandTable (sym (ap (map (λ (b : BandRow). (b.from, b.step))) h.bands ∙ same_bands settings.bands)) valid;
        };
        numbered = record {
          few_members = subst (λ rows. length (map member_in rows) < 2 ^ 32) (sym h.members) (omega arith);
          members = subst (λ rows. AllByRecursion (λ (m : _). IsWithin 1 (length (map member_in rows)) m.member) (map member_in rows)) (sym h.members) tt;
          few_categories = subst (λ rows. length (map category_in rows) < 2 ^ 32) (sym h.categories) (omega arith);
          categories = subst (λ rows. AllByRecursion (λ (k : _). IsWithin 1 (length (map category_in rows)) k.category) (map category_in rows)) (sym h.categories) tt;
          few_items = subst (λ rows. length (map (item_row_in []) rows) < 2 ^ 32) (sym h.items) (omega arith);
          items = subst (λ rows. AllByRecursion (λ (row : _). IsWithin 1 (length (map (item_row_in []) rows)) row.item.terms.item) (map (item_row_in []) rows)) (sym h.items) tt;
        };
        reserved = record {
          fit = subst (AllByRecursion ReserveRowFits) (sym sealed) tt;
          within = subst (AllByRecursion (λ (r : ReserveRow). r.item ≤ length (items_by [] db))) (sym sealed) tt;
        };
        set = none_set_yet db h.editions (ap (map later_band_in) h.later);
      };
    }

-- each of these trees has the rows of that table of the made ones
record ShowsMade (made db : Trees) : Type 0 where
  house : db 0 ≡ made 0
  band : db 1 ≡ made 1
  member : db 2 ≡ made 2
  category : db 4 ≡ made 4
  item : db 6 ≡ made 6
  bid : db 8 ≡ made 8
  watch : db 10 ≡ made 10
  question : db 12 ≡ made 12
  feedback : db 14 ≡ made 14
  reserve : db 23 ≡ made 16
  edition : db 24 ≡ made 17
  later_band : db 25 ≡ made 18

-- so do those that the names find
named_made : (made : Trees) → AreListed (made catalog_tree) made_schema → ShowsMade made (by_names house_names made)
unfolding house_names
named_made made are =
    let at = table_found (made catalog_tree) made_schema are in
    record {
      house = ap made (at house_table (inl refl) 0);
      band = ap made (at band_table (inr (inl refl)) 1);
      member = ap made (at member_table (inr (inr (inl refl))) 2);
      category = ap made (at category_table (inr (inr (inr (inl refl)))) 4);
      item = ap made (at item_table (inr (inr (inr (inr (inl refl))))) 6);
      bid = ap made (at bid_table (inr (inr (inr (inr (inr (inl refl)))))) 8);
      watch = ap made (at watch_table (inr (inr (inr (inr (inr (inr (inl refl))))))) 10);
      question = ap made (at question_table (inr (inr (inr (inr (inr (inr (inr (inl refl)))))))) 12);
      feedback = ap made (at feedback_table (inr (inr (inr (inr (inr (inr (inr (inr (inl refl))))))))) 14);
      reserve = ap made (at reserve_made (inr (inr (inr (inr (inr (inr (inr (inr (inr (inl refl)))))))))) 23);
      edition = ap made (at edition_made (inr (inr (inr (inr (inr (inr (inr (inr (inr (inr (inl refl))))))))))) 24);
      later_band = ap made (at later_band_made (inr (inr (inr (inr (inr (inr (inr (inr (inr (inr (inr (inl refl)))))))))))) 25);
    }

-- and so do trees that are a house, in whatever order they are shown
shown_made : (made db : Trees) (b : Bool) → AreListed (made catalog_tree) made_schema → IsShaped shape.Table (made catalog_tree) → (order : IsReordered made db) → AreListed (db catalog_tree) (house_by b)
    → ShowsMade made db
shown_made made db b are table order whole =
    let rows = made catalog_tree in
    let inner = order.inner in
    let from = table_found rows made_schema are in
    let listed : AreListed (renumbered_rows order.outer rows) (house_by b) = subst (λ (d : Trees). AreListed (d catalog_tree) (house_by b)) order.shown whole in
    let to = table_by_name inner order.outer order.inverse rows table (house_by b) listed in
    let is = λ (n : ℕ). ap (λ (d : Trees). d n) order.shown in
    record {
      house = is 0 ∙ ap made (sym (to house_table (inl refl) 0) ∙ from house_table (inl refl) 0);
      band = is 1 ∙ ap made (sym (to band_table (inr (inl refl)) 1) ∙ from band_table (inr (inl refl)) 1);
      member = is 2 ∙ ap made (sym (to member_table (inr (inr (inl refl))) 2) ∙ from member_table (inr (inr (inl refl))) 2);
      category = is 4 ∙ ap made (sym (to category_table (inr (inr (inr (inl refl)))) 4) ∙ from category_table (inr (inr (inr (inl refl)))) 4);
      item = is 6 ∙ ap made (sym (to item_table (inr (inr (inr (inr (inl refl))))) 6) ∙ from item_table (inr (inr (inr (inr (inl refl))))) 6);
      bid = is 8 ∙ ap made (sym (to bid_table (inr (inr (inr (inr (inr (inl refl)))))) 8) ∙ from bid_table (inr (inr (inr (inr (inr (inl refl)))))) 8);
      watch = is 10 ∙ ap made (sym (to watch_table (inr (inr (inr (inr (inr (inr (inl refl))))))) 10) ∙ from watch_table (inr (inr (inr (inr (inr (inr (inl refl))))))) 10);
      question = is 12 ∙ ap made (sym (to question_table (inr (inr (inr (inr (inr (inr (inr (inl refl)))))))) 12) ∙ from question_table (inr (inr (inr (inr (inr (inr (inr (inl refl)))))))) 12);
      feedback = is 14 ∙ ap made (sym (to feedback_table (inr (inr (inr (inr (inr (inr (inr (inr (inl refl))))))))) 14) ∙ from feedback_table (inr (inr (inr (inr (inr (inr (inr (inr (inl refl))))))))) 14);
      reserve = is 23 ∙ ap made (sym (to reserve_table (inr (inr (inr (inr (inr (inr (inr (inr (inr (inl refl)))))))))) 23) ∙ from reserve_made (inr (inr (inr (inr (inr (inr (inr (inr (inr (inl refl)))))))))) 23);
      edition = is 24 ∙ ap made (sym (to edition_table (inr (inr (inr (inr (inr (inr (inr (inr (inr (inr (inl refl))))))))))) 24) ∙ from edition_made (inr (inr (inr (inr (inr (inr (inr (inr (inr (inr (inl refl))))))))))) 24);
      later_band = is 25 ∙ ap made (sym (to later_band_table (inr (inr (inr (inr (inr (inr (inr (inr (inr (inr (inr (inl refl)))))))))))) 25) ∙ from later_band_made (inr (inr (inr (inr (inr (inr (inr (inr (inr (inr (inr (inl refl)))))))))))) 25);
    }

-- ---- a house that was made

-- a table that is neither of the two has no row
none_written : (old new : Trees) (tables : List Table) → AllByRecursion (λ t. t.tree ≢ 0 → new t.tree ≡ old t.tree) tables → AllByRecursion (λ t. t.tree ≢ 1 → old t.tree ≡ []) tables
    → AllByRecursion (λ t. t.tree ≢ 0 → t.tree ≢ 1 → new t.tree ≡ []) tables
none_written old new [] others was = tt
none_written old new (t ∷ tables) others was = ((λ house band. others.0 house ∙ was.0 band), none_written old new tables others.1 was.1)

new_rows : (settings : Settings) (made db : Trees) → houses_in made ≡ new_house settings.rate settings.zone ∷ [] → bands_in made ≡ map band_row settings.bands
    → AllByRecursion (λ t. t.tree ≢ 0 → t.tree ≢ 1 → made t.tree ≡ []) made_schema.tables → ShowsMade made db → HasNewRows settings db
new_rows settings made db houses bands empty at =
    let members = empty.1.1 in
    let categories = members.1 in
    let items = categories.1 in
    let bids = items.1 in
    let watches = bids.1 in
    let asked = watches.1 in
    let given = asked.1 in
    let sealed = given.1 in
    let editions = sealed.1 in
    let later = editions.1 in
    record {
      houses = ap (map house_in) at.house ∙ houses;
      bands = ap (map band_in) at.band ∙ bands;
      members = at.member ∙ members.0 (λ e. absurd (omega (arith, e))) (λ e. absurd (omega (arith, e)));
      categories = at.category ∙ categories.0 (λ e. absurd (omega (arith, e))) (λ e. absurd (omega (arith, e)));
      items = at.item ∙ items.0 (λ e. absurd (omega (arith, e))) (λ e. absurd (omega (arith, e)));
      bids = at.bid ∙ bids.0 (λ e. absurd (omega (arith, e))) (λ e. absurd (omega (arith, e)));
      watches = at.watch ∙ watches.0 (λ e. absurd (omega (arith, e))) (λ e. absurd (omega (arith, e)));
      asked = at.question ∙ asked.0 (λ e. absurd (omega (arith, e))) (λ e. absurd (omega (arith, e)));
      given = at.feedback ∙ given.0 (λ e. absurd (omega (arith, e))) (λ e. absurd (omega (arith, e)));
      sealed = at.reserve ∙ sealed.0 (λ e. absurd (omega (arith, e))) (λ e. absurd (omega (arith, e)));
      editions = at.edition ∙ editions.0 (λ e. absurd (omega (arith, e))) (λ e. absurd (omega (arith, e)));
      later = at.later_band ∙ later.0 (λ e. absurd (omega (arith, e))) (λ e. absurd (omega (arith, e)));
    }

pub house_made : (settings : Settings) (old new : Database) → IsBandTable settings.bands → settings.rate ≤ 2000 → HasBands settings.bands old → PutsHouse settings.rate settings.zone old new
    → IsMadeHouse settings new
house_made settings old new valid rate was added =
    let db = new.trees in
    let none : houses_in old.trees ≡ [] = ap (map house_in) (was.empty.0 (λ e. absurd (omega (arith, e)))) in
    let houses : houses_in db ≡ new_house settings.rate settings.zone ∷ [] =
    added.houses (subst (All (λ (h : HouseRow). h.id < 1)) (sym none) (All-nil (λ (h : HouseRow). h.id < 1))) ∙ ap (λ l. l ++ new_house settings.rate settings.zone ∷ []) none in
    let bands : bands_in db ≡ map band_row settings.bands = ap (map band_in) (added.others.1.0 (λ e. absurd (omega (arith, e)))) ∙ was.bands_are in
    let empty = none_written old.trees db made_schema.tables added.others was.empty in
    let at = named_made db (subst (AreListed (db catalog_tree)) added.laid.schema added.laid.sound.lists.listed) in
    let rows = new_rows settings db (by_names house_names db) houses bands empty at in
    record {
      laid = added.laid;
      valid = valid;
      rate = rate;
      houses = houses;
      bands = bands;
      empty = empty;
      tables = tables_new settings (by_names house_names db) rows;
      reserves = ap (map reserve_in) rows.sealed;
    }

module _ (settings : Settings) (made shown : Database) (house : IsMadeHouse settings made) (table : IsShaped shape.Table (made.trees catalog_tree)) (order : IsReordered made.trees shown.trees) (whole : IsHouse shown) where
  shown_rows : HasNewRows settings shown.trees
  shown_rows =
      new_rows settings made.trees shown.trees house.houses house.bands house.empty
      (shown_made made.trees shown.trees whole.is_indexed (subst (AreListed (made.trees catalog_tree)) house.laid.schema house.laid.sound.lists.listed) table order
      (subst (AreListed (shown.trees catalog_tree)) whole.schema whole.sound.lists.listed))

  pub shown_tables : tables_in shown.trees ≡ tables_of settings []
  shown_tables = tables_new settings shown.trees shown_rows

  pub shown_reserves : reserves_in shown.trees ≡ []
  shown_reserves = ap (map reserve_in) shown_rows.sealed

  pub shown_sound : is_plain settings.zone ≡ true → IsSoundHouse shown
  shown_sound = sound_new settings shown whole house.valid house.rate shown_rows
