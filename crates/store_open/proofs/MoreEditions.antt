-- One edition more, with its bands, among the editions.
use Rattle.std.proofs.Common.{◌≡◌, ◌≢◌, ◌≤◌, ◌<◌, ◌+◌, ◌==◌, ℕ, Bool, true, false, cond, List, [], ◌∷◌, ◌++◌, map, filter, length, get_or, take, refl, sym, ap, ap₂, ◌∙◌, arith}
use Rattle.std.specs.Prelude.{All}
use Rattle.std.specs.List.{AllByRecursion}
use Rattle.std.proofs.lemmas.Bool.Decides.{nat_tests}
use Rattle.std.proofs.lemmas.List.{map_more as map_taken}
use Rattle.std.proofs.lemmas.List.Elements.{All-from_recursion, recursion_from_All}
use Rattle.sqlite.specs.Effect.{Database}
use Rattle.sqlite_schema.specs.declared.schema.Table.{Table}
use Rattle.sqlite_trees.specs.Tree.{Trees}
use Rattle.house_rows.specs.declared.edition.Edition.{Edition}
use Rattle.store_rows.specs.declared.edition.EditionRow.{EditionRow}
use Rattle.store_rows.specs.declared.edition.LaterBandRow.{LaterBandRow}
use Rattle.store_rows.specs.House.{IsHouse}
use Rattle.store_rows.specs.Rows.{later_bands_in}
use Rattle.store_rows.specs.Schema.{house_schema}
use Rattle.store_rows.specs.Tables.{bands_at, editions_by}
use Rattle.store_open.specs.Setting.{AddsLaterBand, AddsLaterBands, later_band}

-- ---- one band after another

append_nil : {X : Type 0} (xs : List X) → xs ++ [] ≡ xs
append_nil [] = refl
append_nil (x ∷ xs) = ap (λ l. x ∷ l) (append_nil xs)

joined : {X : Type 0} (xs ys zs : List X) → (xs ++ ys) ++ zs ≡ xs ++ (ys ++ zs)
joined [] ys zs = refl
joined (x ∷ xs) ys zs = ap (λ l. x ∷ l) (joined xs ys zs)

kept_twice : (tree : ℕ) (old mid new : Trees) (tables : List Table) → AllByRecursion (λ t. t.tree ≢ tree → mid t.tree ≡ old t.tree) tables → AllByRecursion (λ t. t.tree ≢ tree → new t.tree ≡ mid t.tree) tables
    → AllByRecursion (λ t. t.tree ≢ tree → new t.tree ≡ old t.tree) tables
kept_twice tree old mid new [] one two = tt
kept_twice tree old mid new (t ∷ tables) one two = ((λ apart. two.0 apart ∙ one.0 apart), kept_twice tree old mid new tables one.1 two.1)

kept_all : (tree : ℕ) (old : Trees) (tables : List Table) → AllByRecursion (λ t. t.tree ≢ tree → old t.tree ≡ old t.tree) tables
kept_all tree old [] = tt
kept_all tree old (t ∷ tables) = ((λ apart. refl), kept_all tree old tables)

-- none are added at first
pub no_bands : (edition : ℕ) (old : Database) → IsHouse old → AddsLaterBands edition [] old old
no_bands edition old house = record { house = house; schema = refl; others = kept_all 25 old.trees house_schema.tables; later_bands = sym (append_nil (later_bands_in old.trees)) }

pub band_more : (edition : ℕ) (bands : List (ℕ × ℕ)) (i from step : ℕ) (old mid new : Database) → i < length bands → (from, step) ≡ get_or bands i (0, 0)
    → AddsLaterBands edition (take i bands) old mid → AddsLaterBand edition from step mid new → AddsLaterBands edition (take (i + 1) bands) old new
band_more edition bands i from step old mid new low same was added = record {
  house = added.house;
  schema = added.schema ∙ was.schema;
  others = kept_twice 25 old.trees mid.trees new.trees house_schema.tables was.others added.others;
  later_bands = added.bands ∙ ap₂ (λ l (b : LaterBandRow). l ++ b ∷ []) was.later_bands (ap (later_band edition) same) ∙ joined (later_bands_in old.trees) (map (later_band edition) (take i bands)) (later_band edition (get_or bands i (0, 0)) ∷ [])
      ∙ ap (λ l. later_bands_in old.trees ++ l) (sym (map_taken (later_band edition) bands i (0, 0) low));
}

-- ---- the bands of each edition

abbrev pairs : List LaterBandRow → List (ℕ × ℕ)
pairs = map (λ b. (b.from, b.step))

-- those of an edition before it are as they were
others_stay : (edition other : ℕ) (bands : List (ℕ × ℕ)) (rows : List LaterBandRow) → other < edition → bands_at other (rows ++ map (later_band edition) bands) ≡ bands_at other rows
others_stay edition other [] [] less = refl
others_stay edition other (b ∷ bands) [] less = let apart : (edition == other) ≡ false = grind (arith, nat_tests, less) in rw apart (others_stay edition other bands [] less)
others_stay edition other bands (r ∷ rows) less = go (r.edition == other) (others_stay edition other bands rows less)
  where
    go : (is : Bool) → bands_at other (rows ++ map (later_band edition) bands) ≡ bands_at other rows
        → pairs (cond is (r ∷ filter (λ b. b.edition == other) (rows ++ map (later_band edition) bands)) (filter (λ b. b.edition == other) (rows ++ map (later_band edition) bands))) ≡ pairs (cond is (r ∷ filter (λ b. b.edition == other) rows) (filter (λ b. b.edition == other) rows))
    go true e = ap (λ l. (r.from, r.step) ∷ l) e
    go false e = e

-- and its own are those that were added
own_bands : (edition : ℕ) (bands : List (ℕ × ℕ)) (rows : List LaterBandRow) → AllByRecursion (λ b. b.edition < edition) rows → bands_at edition (rows ++ map (later_band edition) bands) ≡ bands
own_bands edition [] [] below = refl
own_bands edition (b ∷ bands) [] below = let same : (edition == edition) ≡ true = grind (arith, nat_tests) in rw same (ap (λ l. b ∷ l) (own_bands edition bands [] tt))
own_bands edition bands (r ∷ rows) below =
    let less = below.0 in
    let apart : (r.edition == edition) ≡ false = grind (arith, nat_tests, less) in
    rw apart (own_bands edition bands rows below.1)

each_stays : (edition : ℕ) (bands : List (ℕ × ℕ)) (later : List LaterBandRow) (rows : List EditionRow) → AllByRecursion (λ r. r.edition < edition) rows → editions_by (later ++ map (later_band edition) bands) rows ≡ editions_by later rows
each_stays edition bands later [] below = refl
each_stays edition bands later (r ∷ rows) below =
    ap₂ (λ (bs : List (ℕ × ℕ)) (es : List Edition). record { edition = r.edition; first = r.first; bands = bs } ∷ es) (others_stay edition r.edition bands later below.0) (each_stays edition bands later rows below.1)

appended : (later : List LaterBandRow) (rows : List EditionRow) (x : EditionRow) → editions_by later (rows ++ x ∷ []) ≡ editions_by later rows ++ record { edition = x.edition; first = x.first; bands = bands_at x.edition later } ∷ []
appended later [] x = refl
appended later (r ∷ rows) x = ap (λ (es : List Edition). record { edition = r.edition; first = r.first; bands = bands_at r.edition later } ∷ es) (appended later rows x)

-- one edition more
pub edition_more : (edition first : ℕ) (bands : List (ℕ × ℕ)) (later : List LaterBandRow) (rows : List EditionRow) → AllByRecursion (λ b. b.edition < edition) later → AllByRecursion (λ r. r.edition < edition) rows
    → editions_by (later ++ map (later_band edition) bands) (rows ++ record { edition = edition; first = first } ∷ []) ≡ editions_by later rows ++ record { edition = edition; first = first; bands = bands } ∷ []
edition_more edition first bands later rows below under =
    appended (later ++ map (later_band edition) bands) rows (record { edition = edition; first = first })
    ∙ ap₂ (λ (es : List Edition) (bs : List (ℕ × ℕ)). es ++ record { edition = edition; first = first; bands = bs } ∷ []) (each_stays edition bands later rows under) (own_bands edition bands later below)

-- ---- numbers

each_weaker : {X : Type 0} (number : X → ℕ) (m n : ℕ) → m < n → (xs : List X) → AllByRecursion (λ x. number x ≤ m) xs → AllByRecursion (λ x. number x < n) xs
each_weaker number m n less [] all = tt
each_weaker number m n less (x ∷ xs) all = (omega (arith, less, all.0), each_weaker number m n less xs all.1)

-- numbers up to one are under a greater one
pub below : {X : Type 0} (number : X → ℕ) (m n : ℕ) → m < n → (xs : List X) → All (λ x. number x ≤ m) xs → AllByRecursion (λ x. number x < n) xs
below number m n less xs all = each_weaker number m n less xs (recursion_from_All (λ x. number x ≤ m) xs all)

pub under_all : {X : Type 0} (number : X → ℕ) (n : ℕ) (xs : List X) → AllByRecursion (λ x. number x < n) xs → All (λ x. number x < n) xs
under_all number n xs all = All-from_recursion (λ x. number x < n) xs all

each_within : {X : Type 0} (number : X → ℕ) (n most : ℕ) → n ≤ most → (xs ys : List X) → AllByRecursion (λ x. number x < n) xs → AllByRecursion (λ y. number y ≡ n) ys → AllByRecursion (λ x. number x ≤ most) (xs ++ ys)
each_within number n most low [] [] under are = tt
each_within number n most low [] (y ∷ ys) under are = (omega (arith, low, are.0), each_within number n most low [] ys tt are.1)
each_within number n most low (x ∷ xs) ys under are = (omega (arith, low, under.0), each_within number n most low xs ys under.1 are)

pub all_within : {X : Type 0} (number : X → ℕ) (n most : ℕ) → n ≤ most → (xs ys : List X) → AllByRecursion (λ x. number x < n) xs → AllByRecursion (λ y. number y ≡ n) ys → All (λ x. number x ≤ most) (xs ++ ys)
all_within number n most low xs ys under are = All-from_recursion (λ x. number x ≤ most) (xs ++ ys) (each_within number n most low xs ys under are)

pub of_edition : (edition : ℕ) (bands : List (ℕ × ℕ)) → AllByRecursion (λ (b : LaterBandRow). b.edition ≡ edition) (map (later_band edition) bands)
of_edition edition [] = tt
of_edition edition (b ∷ bands) = (refl, of_edition edition bands)

pub longer : {X : Type 0} (xs : List X) (x : X) → length (xs ++ x ∷ []) ≡ length xs + 1
longer [] x = refl
longer (y ∷ xs) x = let more = longer xs x in omega (arith, more)
