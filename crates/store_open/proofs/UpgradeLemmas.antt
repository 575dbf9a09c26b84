-- What an upgrade makes of a house of version 1.
use Rattle.std.proofs.Common.{◌≡◌, ◌≢◌, ◌≤◌, ◌==◌, true, List, [], ◌∷◌, ◌++◌, drop, map, find, is_some, length, option_map, IfSome, IsTrue, Option, Some, None, unwrap_or, refl, sym, ap, subst, ◌∙◌, inl, inr, arith, Bool}
use Rattle.std.specs.List.{AllByRecursion}
use Rattle.sqlite_trees.specs.Tree.{Trees}
use Rattle.sqlite_trees.specs.View.{IsClean, IsQuiet, IsRolledBack as IsUndone}
use Rattle.sqlite_schema.specs.declared.schema.Table.{Table}
use Rattle.sqlite_trees.specs.declared.store.Store.{Ghosts}
use Rattle.sqlite.specs.Effect.{Database}
use Rattle.sqlite.specs.Held.{Held, state}
use Rattle.sqlite.specs.State.{HasCleanDisk, State, Survives}
use Rattle.sqlite.proofs.StateLemmas.{survives_then, survives_weaker}
use Rattle.sqlite_schema.specs.declared.schema.Schema.{Schema}
use Rattle.store_house.proofs.NoEdition.{none_set_yet}
use Rattle.store_house.proofs.OpenLemmas.{one_schema}
use Rattle.steps.specs.Table.{IsBandTable}
use Rattle.house_rows.proofs.Put.{by_test}
use Rattle.store_rows.specs.Fitting.{FirstRowFits, HouseRowFits, ReserveRowFits}
use Rattle.store_rows.specs.House.{AddsTables, IsFirstHouse, IsHouse, SetsVersion, with_version}
use Rattle.store_rows.specs.Rows.{band_in, house_in, houses_in, later_band_in, reserve_in, reserves_in}
use Rattle.store_rows.specs.ItemRows.{items_by}
use Rattle.store_rows.specs.declared.reserve.ReserveRow.{ReserveRow}
use Rattle.store_rows.specs.Schema.{first_schema, house_schema, house_by}
use Rattle.store_rows.specs.Tables.{house_row_in, settings_in, tables_in, version_in}
use Rattle.store_rows.specs.declared.house.HouseRow.{HouseRow}
use Rattle.store_house.specs.Opening.{AreNumbered, AreReserved, AreSet, Follows, FollowsOrGrows, IsFirstSetUp, IsReadable, IsSetUp, IsSoundFirst, IsSoundHouse, Upgraded, Upgrades, first_tables_in}

-- ---- the two writes

front : (P : Table → Type 0) (xs ys : List Table) → AllByRecursion P (xs ++ ys) → AllByRecursion P xs
front P [] ys all = tt
front P (x ∷ xs) ys all = (all.0, front P xs ys all.1)

both_kept : (old mid new : Trees) (tables : List Table) → AllByRecursion (λ t. mid t.tree ≡ old t.tree) tables → AllByRecursion (λ t. t.tree ≢ 0 → new t.tree ≡ mid t.tree) tables → AllByRecursion (λ t. t.tree ≢ 0 → new t.tree ≡ old t.tree) tables
both_kept old mid new [] kept others = tt
both_kept old mid new (t ∷ tables) kept others = ((λ apart. others.0 apart ∙ kept.0), both_kept old mid new tables kept.1 others.1)

pub upgrades : (old mid new : Database) → IsFirstHouse old → AddsTables old mid → version_in mid.trees ≡ Some 1 → SetsVersion 2 mid new → Upgrades old.trees new
upgrades old mid new first adds version sets =
    let rows : mid.trees 0 ≡ old.trees 0 = adds.kept.0 in
    let others = sets.others in
    record {
      was = (old, first, refl);
      house = sets.house;
      indexed = sets.schema ∙ adds.indexed;
      version = subst (λ rows. option_map (λ (h : HouseRow). h.version) (find (λ (h : HouseRow). h.id == 1) (map house_in rows)) ≡ Some 1) rows version;
      houses = sets.houses ∙ ap (λ rows. map (with_version 2) (map house_in rows)) rows;
      others = both_kept old.trees mid.trees new.trees first_schema.tables adds.kept (front (λ t. t.tree ≢ 0 → new.trees t.tree ≡ mid.trees t.tree) first_schema.tables (drop 9 house_schema.tables) others);
      reserves = others.1.1.1.1.1.1.1.1.1.0 (λ e. absurd (omega (arith, e))) ∙ adds.reserves;
      editions = others.1.1.1.1.1.1.1.1.1.1.0 (λ e. absurd (omega (arith, e))) ∙ adds.editions;
      later_bands = others.1.1.1.1.1.1.1.1.1.1.1.0 (λ e. absurd (omega (arith, e))) ∙ adds.later_bands;
    }

-- the version that was reported before the tables were added
pub version_before : (old mid : Database) → AddsTables old mid → version_in old.trees ≡ Some 1 → version_in mid.trees ≡ Some 1
version_before old mid adds version = subst (λ rows. option_map (λ (h : HouseRow). h.version) (find (λ (h : HouseRow). h.id == 1) (map house_in rows)) ≡ Some 1) (sym adds.kept.0) version

-- ---- the tables

abbrev of_version : HouseRow → HouseRow
of_version h = record h { version = 2 }

found_with_version : (rows : List HouseRow) → find (λ h. h.id == 1) (map (with_version 2) rows) ≡ option_map of_version (find (λ h. h.id == 1) rows)
found_with_version [] = refl
found_with_version (h ∷ rows) = elim (by_test (h.id == 1)) [ inl is ↦ rw (is, is) refl | inr not ↦ rw (not, not) (found_with_version rows) ]

unwrapped : (found : Option HouseRow) (none : HouseRow) → option_map (λ (h : HouseRow). h.version) found ≡ Some 1 → unwrap_or (option_map of_version found) none ≡ of_version (unwrap_or found none)
unwrapped None none h = absurd (let e = h in cc)
unwrapped (Some row) none h = refl

still_some : (found : Option HouseRow) → is_some found ≡ true → is_some (option_map of_version found) ≡ true
still_some None h = h
still_some (Some row) h = h

row_fits : (found : Option HouseRow) → IfSome found FirstRowFits → IfSome (option_map of_version found) HouseRowFits
row_fits None h = h
row_fits (Some row) h = h.others

module _ (old : Trees) (new : Database) (w : Upgrades old new) where
  pub upgraded_tables : tables_in new.trees ≡ first_tables_in old
  unfolding house_row_in settings_in tables_in
  upgraded_tables =
      let found = ap (find (λ (h : HouseRow). h.id == 1)) w.houses ∙ found_with_version (houses_in old) in
      let row = ap (λ o. unwrap_or o (record { id = 0; version = 0; clock = 0; rate = 0; zone = [] })) found ∙ unwrapped (find (λ h. h.id == 1) (houses_in old)) _ w.version in
      let b : new.trees 1 ≡ old 1 = w.others.1.0 (λ e. absurd (omega (arith, e))) in
      let m : new.trees 2 ≡ old 2 = w.others.1.1.0 (λ e. absurd (omega (arith, e))) in
      let k : new.trees 4 ≡ old 4 = w.others.1.1.1.0 (λ e. absurd (omega (arith, e))) in
      let i : new.trees 6 ≡ old 6 = w.others.1.1.1.1.0 (λ e. absurd (omega (arith, e))) in
      let d : new.trees 8 ≡ old 8 = w.others.1.1.1.1.1.0 (λ e. absurd (omega (arith, e))) in
      let v : new.trees 10 ≡ old 10 = w.others.1.1.1.1.1.1.0 (λ e. absurd (omega (arith, e))) in
      let q : new.trees 12 ≡ old 12 = w.others.1.1.1.1.1.1.1.0 (λ e. absurd (omega (arith, e))) in
      let f : new.trees 14 ≡ old 14 = w.others.1.1.1.1.1.1.1.1.0 (λ e. absurd (omega (arith, e))) in
      let r = w.reserves in
      let s = w.editions in
      rw (b, m, k, i, r, d, v, q, f, s, row) refl

  pub upgraded_set_up : IsFirstSetUp old → IsSetUp new.trees
  upgraded_set_up was =
      let found = ap (find (λ (h : HouseRow). h.id == 1)) w.houses ∙ found_with_version (houses_in old) in
      let b : new.trees 1 ≡ old 1 = w.others.1.0 (λ e. absurd (omega (arith, e))) in
      record {
        house = ap is_some found ∙ still_some (find (λ h. h.id == 1) (houses_in old)) was.house;
        fits = subst (λ (o : Option HouseRow). IfSome o HouseRowFits) (sym found) (row_fits (find (λ h. h.id == 1) (houses_in old)) was.fits);
        bands = subst (λ rows. IsBandTable (map (λ b. (b.from, b.step)) (map band_in rows))) (sym b) was.bands;
      }

  pub upgraded_numbered : AreNumbered old → AreNumbered new.trees
  upgraded_numbered was =
      let m : new.trees 2 ≡ old 2 = w.others.1.1.0 (λ e. absurd (omega (arith, e))) in
      let k : new.trees 4 ≡ old 4 = w.others.1.1.1.0 (λ e. absurd (omega (arith, e))) in
      let i : new.trees 6 ≡ old 6 = w.others.1.1.1.1.0 (λ e. absurd (omega (arith, e))) in
      record {
        few_members = rw m was.few_members;
        members = rw m was.members;
        few_categories = rw k was.few_categories;
        categories = rw k was.categories;
        few_items = rw i was.few_items;
        items = rw i was.items;
      }

  -- no item has a reserve
  pub upgraded_reserved : AreReserved new.trees
  upgraded_reserved =
      let none : reserves_in new.trees ≡ [] = ap (map reserve_in) w.reserves in
      record {
        fit = subst (AllByRecursion ReserveRowFits) (sym none) tt;
        within = subst (AllByRecursion (λ (r : ReserveRow). r.item ≤ length (items_by [] new.trees))) (sym none) tt;
      }

  -- no band table was set
  pub upgraded_set : AreSet new.trees
  upgraded_set = none_set_yet new.trees w.editions (ap (map later_band_in) w.later_bands)

-- the version that a house to be upgraded has
version_of_found : (found : Option HouseRow) → is_some found ≡ true → IfSome found FirstRowFits → option_map (λ (h : HouseRow). h.version) found ≡ Some 1
version_of_found None some fits = absurd (let e = some in cc)
version_of_found (Some h) some fits = ap Some fits.version

pub set_up_version : (db : Trees) → IsFirstSetUp db → version_in db ≡ Some 1
set_up_version db was = version_of_found (find (λ h. h.id == 1) (houses_in db)) was.house was.fits

-- ---- a crash

pub survives_two : (a b c : State) → Survives a b (λ _. ⊥) → Survives b c (λ _. ⊥) → Survives a c (λ _. ⊥)
survives_two a b c one two = survives_then a b c (λ _. ⊥) (λ _. ⊥) (λ _. ⊥) (λ _ _ none. none) (λ _ _ none. none) one two

pub survives_none : (a b : State) (P : Trees → Type 0) → Survives a b (λ _. ⊥) → Survives a b P
survives_none a b P one = survives_weaker a b (λ _. ⊥) P (λ _ db none. absurd none) one

-- what is committed at the end of a transaction
pub survives_end : (a b c : State) (P : Trees → Type 0) → Survives a b (λ _. ⊥) → Survives b c (λ db. db ≡ b.now.trees) → (HasCleanDisk b → P b.now.trees) → Survives a c P
survives_end a b c P one two made = survives_then a b c (λ _. ⊥) (λ db. db ≡ b.now.trees) P (λ _ db none. absurd none) (λ clean db at. subst P (sym at) (made (omega (arith, two.clean, clean)))) one two

-- while a store is open, a crash leaves what was committed last, and nothing else
abbrev pub Settled : {S : Type 0} → Ghosts S → Type 0
Settled {S} g = (s : S) (db : Trees) → IsTrue (g.view s).is_open → g.recovers s db → db ≡ (g.view s).committed

abbrev pub Stays : {S : Type 0} → Ghosts S → Type 0
Stays {S} g = (s : S) → IsTrue (g.view s).is_open → g.recovers s (g.view s).committed

module _ {S : Type 0} (g : Ghosts S) (settled : Settled g) (stays : Stays g) where
  -- so where a crash finds nothing new, nothing was committed
  pub nothing_committed : (old new : Held S) → (HasCleanDisk (state g old) → IsTrue (state g old).is_open) → Survives (state g old) (state g new) (λ _. ⊥)
      → HasCleanDisk (state g new) → IsTrue (state g new).is_open → (state g new).committed.trees ≡ (state g old).committed.trees
  nothing_committed old new was survives clean is_open = elim (survives.crash clean _ (stays new.store is_open)) [
    | inl may ↦ settled old.store _ (was (omega (arith, survives.clean, clean))) may
    | inr none ↦ absurd none
  ]

  module _ (conn last : Held S) (store : S) (P : Trees → Type 0) (was : HasCleanDisk (state g conn) → IsTrue (state g conn).is_open) (survives : Survives (state g conn) (state g last) P)
      (same : HasCleanDisk (state g last) → IsTrue (state g last).is_open → (state g last).committed.trees ≡ (state g conn).committed.trees)
      (undone : IsUndone (g.view last.store) (g.view store)) (quiet : IsQuiet g.view g.faults g.recovers g.is_shielded last.store store) where
    still : IsClean (g.view store) → HasCleanDisk (state g last)
    still clean = omega (arith, quiet.clean, clean)

    shows : IsClean (g.view store) → IsTrue (g.view store).is_open → (g.view store).trees ≡ (state g conn).committed.trees
    shows clean is_open = (undone.undone is_open).0 ∙ same (still clean) ((undone.kept clean).was_open is_open)

    -- the store of a connection that failed is as it was, if it serves still
    pub gives_back_open : (IsClean (g.view store) → IsTrue (g.view store).is_open) → Follows g conn store
    gives_back_open works = record {
      clean = omega (arith, survives.clean, quiet.clean);
      shield = λ h. quiet.shield (survives.shield h);
      shown = shows;
      crash = λ clean db left.
          let is_open = (undone.kept clean).was_open (works clean) in
          let at = settled last.store db is_open (quiet.outcomes db left) ∙ same (still clean) is_open in
          subst (g.recovers conn.store) (sym at) (stays conn.store (was (omega (arith, survives.clean, still clean))));
    }

    -- or a crash finds what was being committed
    pub gives_back_grown : ((db : Trees) → HasCleanDisk (state g conn) → P db → Upgraded (state g conn).committed.trees db) → FollowsOrGrows g conn store
    gives_back_grown made = record {
      clean = omega (arith, survives.clean, quiet.clean);
      shield = λ h. quiet.shield (survives.shield h);
      shown = shows;
      crash = λ clean db left. elim (survives.crash (still clean) db (quiet.outcomes db left)) [
        | inl may ↦ inl may
        | inr grown ↦ inr (made db (omega (arith, survives.clean, still clean)) grown)
      ];
    }

-- ---- what is sound of one version

two_schemas : (b : Bool) → first_schema ≡ house_by b → ⊥
two_schemas b e = absurd (omega (arith, ap (λ (s : Schema). length s.tables) e))

-- a house of version 1 is none of version 2
pub not_both : (db held : Database) → IsFirstHouse db → db.trees ≡ held.trees → ¬ IsSoundHouse held
not_both db held first trees sound = two_schemas _ (sym first.schema ∙ one_schema db held first.sound trees sound.house.sound ∙ sound.house.schema)

pub not_first : (db held : Database) → IsHouse db → db.trees ≡ held.trees → ¬ IsSoundFirst held
not_first db held house trees sound = two_schemas _ (sym (sym house.schema ∙ one_schema db held house.sound trees sound.house.sound ∙ sound.house.schema))

pub sound_first_at : (db held : Database) → IsFirstHouse db → db.trees ≡ held.trees → IsSoundFirst held → IsSoundFirst db
sound_first_at db held first trees sound = record { house = first; set_up = subst IsFirstSetUp (sym trees) sound.set_up; numbered = subst AreNumbered (sym trees) sound.numbered }
