-- What a write makes of the tables in the order of their keys, and that the house stays numbered.
use Rattle.std.proofs.Common.{◌≡◌, ◌≤◌, ◌<◌, ◌+◌, ℕ, eqb, false, not, List, [], ◌∷◌, ◌++◌, filter, find, length, map, refl, ap, ◌∙◌, arith, length-append}
use Rattle.std.specs.Prelude.{All, ◌==◌, option_map}
use Rattle.std.proofs.lemmas.List.Elements.{All-push, All-weaker}
use Rattle.sqlite.specs.Effect.{Database}
use Rattle.house_rows.specs.Tables.{Tables}
use Rattle.store_rows.specs.declared.house.HouseRow.{HouseRow}
use Rattle.store_rows.specs.House.{IsHouse, KeepsOthers, SetsClock}
use Rattle.store_rows.specs.Rows.{house_in, later_band_in, later_bands_in, reserve_in, reserves_in}
use Rattle.store_rows.specs.Tables.{IsNumbered, editions_in, house_row_in, other_houses_in, settings_in, tables_in, version_in}
use Rattle.store_rows.specs.Sorted.{sorted_bids, sorted_feedback, sorted_questions, sorted_watches}
use Rattle.store_rows.proofs.Clock.{clock_others, clock_set, clock_version}

-- the house that a write leaves, and its tables
pub record Makes (make : Tables → Tables) (old new : Database) : Type 0 where
  pub house : IsHouse new
  pub schema : new.schema ≡ old.schema
  pub numbered : IsNumbered new.trees
  pub tables : tables_in new.trees ≡ make (tables_in old.trees)

-- one write after another
pub makes_both : (f g : Tables → Tables) (old mid new : Database) → Makes f old mid → Makes g mid new → Makes (λ t. g (f t)) old new
makes_both f g old mid new one two = record {
  house = two.house;
  schema = two.schema ∙ one.schema;
  numbered = two.numbered;
  tables = two.tables ∙ ap g one.tables;
}

pub other : (a b : ℕ) → eqb a b ≡ false → a ≡ b → ⊥
other a b h e = absurd (grind arith)

-- ---- rows in number

-- rows with the next number
module _ {A : Type 0} (number : A → ℕ) (xs : List A) (x : A) (next : number x ≡ length xs + 1) (all : All (λ a. number a ≤ length xs) xs) where
  pub all_below : All (λ a. number a < number x) xs
  all_below = All-weaker (λ a. number a ≤ length xs) (λ a. number a < number x) (λ a h. omega arith) xs all

  pub still_numbered : All (λ a. number a ≤ length (xs ++ x ∷ [])) (xs ++ x ∷ [])
  still_numbered =
      let more = length-append xs (x ∷ []) in
      let old = All-weaker (λ a. number a ≤ length xs) (λ a. number a ≤ length (xs ++ x ∷ [])) (λ a h. omega arith) xs all in
      All-push (λ a. number a ≤ length (xs ++ x ∷ [])) xs x old (omega arith)

-- ---- the clock

pub sets_clock : (moment : ℕ) (old new : Database) → IsNumbered old.trees → SetsClock moment old new → Makes (λ t. record t { clock = moment }) old new
sets_clock moment old new was w = let it = clock_set moment old new was w in record { house = w.house; schema = w.schema; numbered = it.numbered; tables = it.tables }

-- ---- the reserves

-- a write of a table before theirs leaves them
pub same_reserves : (tree : ℕ) (old new : Database) → tree < 23 → KeepsOthers tree old new → reserves_in new.trees ≡ reserves_in old.trees
same_reserves tree old new under others = ap (map reserve_in) (others.1.1.1.1.1.1.1.1.1.0 (λ e. absurd (omega (arith, under, e))))

-- ---- the version

-- a write of a table after the house's leaves it
pub same_version : (tree : ℕ) (old new : Database) → 0 < tree → KeepsOthers tree old new → version_in new.trees ≡ version_in old.trees
same_version tree old new over others =
    ap (λ rows. option_map (λ (h : HouseRow). h.version) (find (λ (h : HouseRow). h.id == 1) (map house_in rows))) (others.0 (λ e. absurd (omega (arith, over, e))))

-- and so does the clock after it
pub version_then_clock : (tree moment : ℕ) (old mid new : Database) → 0 < tree → KeepsOthers tree old mid → SetsClock moment mid new → version_in new.trees ≡ version_in old.trees
version_then_clock tree moment old mid new over others clock = clock_version moment mid new clock ∙ same_version tree old mid over others

-- ---- the other rows of the house's table

-- a write of a table after the house's leaves them
pub same_houses : (tree : ℕ) (old new : Database) → 0 < tree → KeepsOthers tree old new → other_houses_in new.trees ≡ other_houses_in old.trees
same_houses tree old new over others =
    ap (λ rows. filter (λ (h : HouseRow). not (h.id == 1)) (map house_in rows)) (others.0 (λ e. absurd (omega (arith, over, e))))

-- and so does the clock after it
pub houses_then_clock : (tree moment : ℕ) (old mid new : Database) → 0 < tree → KeepsOthers tree old mid → SetsClock moment mid new → other_houses_in new.trees ≡ other_houses_in old.trees
houses_then_clock tree moment old mid new over others clock = clock_others moment mid new clock ∙ same_houses tree old mid over others

-- ---- the editions

-- a write of a table before theirs leaves them
pub same_editions : (tree : ℕ) (old new : Database) → tree < 24 → KeepsOthers tree old new → editions_in new.trees ≡ editions_in old.trees
same_editions tree old new under others =
    let s : new.trees 24 ≡ old.trees 24 = others.1.1.1.1.1.1.1.1.1.1.0 (λ e. absurd (omega (arith, under, e))) in
    let l : new.trees 25 ≡ old.trees 25 = others.1.1.1.1.1.1.1.1.1.1.1.0 (λ e. absurd (omega (arith, under, e))) in
    rw (s, l) refl

-- a write of a table before that of their bands leaves these
pub same_later_bands : (tree : ℕ) (old new : Database) → tree < 25 → KeepsOthers tree old new → later_bands_in new.trees ≡ later_bands_in old.trees
same_later_bands tree old new under others = ap (map later_band_in) (others.1.1.1.1.1.1.1.1.1.1.1.0 (λ e. absurd (omega (arith, under, e))))

-- ---- the tables of what members do, which no number counts

module _ (tree : ℕ) (old new : Database) (apart : (6 < tree) × (tree < 23)) (was : IsNumbered old.trees) (others : KeepsOthers tree old new) where
  pub stays_numbered : IsNumbered new.trees
  stays_numbered =
      let over = apart.0 in
      let under = apart.1 in
      let h = others.0 (λ e. absurd (omega arith)) in
      let m = others.1.1.0 (λ e. absurd (omega arith)) in
      let k = others.1.1.1.0 (λ e. absurd (omega arith)) in
      let i = others.1.1.1.1.0 (λ e. absurd (omega arith)) in
      let r = others.1.1.1.1.1.1.1.1.1.0 (λ e. absurd (omega arith)) in
      let s = others.1.1.1.1.1.1.1.1.1.1.0 (λ e. absurd (omega arith)) in
      let l = others.1.1.1.1.1.1.1.1.1.1.1.0 (λ e. absurd (omega arith)) in
      record {
        house = rw h was.house;
        members = rw m was.members;
        categories = rw k was.categories;
        items = rw (i, r) was.items;
        reserves = rw (i, r) was.reserves;
        editions = rw s was.editions;
        later_bands = rw (s, l) was.later_bands;
      }

  pub same_people : tables_in new.trees ≡ record (tables_in old.trees) { bids = sorted_bids new.trees; watches = sorted_watches new.trees; questions = sorted_questions new.trees; feedback = sorted_feedback new.trees }
  unfolding house_row_in settings_in tables_in
  same_people =
      let over = apart.0 in
      let under = apart.1 in
      let h = others.0 (λ e. absurd (omega arith)) in
      let b = others.1.0 (λ e. absurd (omega arith)) in
      let m = others.1.1.0 (λ e. absurd (omega arith)) in
      let k = others.1.1.1.0 (λ e. absurd (omega arith)) in
      let i = others.1.1.1.1.0 (λ e. absurd (omega arith)) in
      let r = others.1.1.1.1.1.1.1.1.1.0 (λ e. absurd (omega arith)) in
      let s = others.1.1.1.1.1.1.1.1.1.1.0 (λ e. absurd (omega arith)) in
      let l = others.1.1.1.1.1.1.1.1.1.1.1.0 (λ e. absurd (omega arith)) in
      rw (h, b, m, k, i, r, s, l) refl
