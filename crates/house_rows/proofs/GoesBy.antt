-- An item goes by the edition of its listing, whatever is set later; and the editions of a history fit.
use Rattle.std.proofs.Common.{◌≡◌, ℕ, ◌+◌, ◌≤◌, ◌<◌, List, [], ◌∷◌, ◌++◌, map, length, Bool, true, false, not, refl, ◌∙◌, ap, sym, subst, arith, inl, inr, Some, None}
use Rattle.std.specs.Prelude.{◌==◌, if◌then◌else◌, nat_le}
use Rattle.std.specs.List.{AllByRecursion}
use Rattle.std.proofs.lemmas.Bool.Decides.{nat_tests}
use Rattle.std.proofs.lemmas.List.{append-nil, length-append, length-map, map-append}
use Rattle.steps.specs.Table.{IsBandTable}
use Rattle.steps.specs.Valid.{is_band_table}
use Rattle.steps.proofs.Tested.{table_is}
use Rattle.proxy.specs.Rules.{first_failing}
use Rattle.house_rows.specs.declared.command.Command.{Command}
use Rattle.house_rows.specs.declared.command.Command.TheVariants.{List as Listed, SetBands}
use Rattle.house_rows.specs.declared.edition.Edition.{Edition}
use Rattle.house_rows.specs.declared.refusal.Refusal.TheVariants.{Limit, Range}
use Rattle.house_rows.specs.declared.settings.Settings.{Settings}
use Rattle.house_rows.specs.Editions.{bands_among, edition_among, editions, with_edition}
use Rattle.house_rows.specs.Fits.{EditionFits}
use Rattle.house_rows.specs.History.{History}
use Rattle.house_rows.specs.Keeping.{AreInTurn}
use Rattle.house_rows.specs.Limits.{most_editions}
use Rattle.house_rows.specs.Listings.{Listing, bands_by, edition_by, listing_at, listing_in, listings, newest_of, tables_set, with_table}
use Rattle.house_rows.specs.Runs.{entry}
use Rattle.house_rows.specs.Tables.{bands_for, edition_for, tables_of}
use Rattle.house_rows.specs.Verdict.{IsHistory, verdict}
use Rattle.house_rows.proofs.Every.{every_as, every_both, every_more, found_has}
use Rattle.house_rows.proofs.InTurn.{editions_in_turn}
use Rattle.house_rows.proofs.Numbered.{numbered}
use Rattle.house_rows.proofs.Passed.{own_pass}
use Rattle.house_rows.proofs.Put.{by_test}

-- an edition that begins after an item leaves its table and its number
pub bands_more : (before : List (ℕ × ℕ)) (es : List Edition) (e : Edition) (i : ℕ) → i < e.first → bands_among before (es ++ e ∷ []) i ≡ bands_among before es i
bands_more before [] e i lt = let not_yet : nat_le e.first i ≡ false = grind (arith, nat_tests) in rw not_yet refl
bands_more before (x ∷ es) e i lt = bands_more (if nat_le x.first i then x.bands else before) es e i lt

pub edition_more : (before : ℕ) (es : List Edition) (e : Edition) (i : ℕ) → i < e.first → edition_among before (es ++ e ∷ []) i ≡ edition_among before es i
edition_more before [] e i lt = let not_yet : nat_le e.first i ≡ false = grind (arith, nat_tests) in rw not_yet refl
edition_more before (x ∷ es) e i lt = edition_more (if nat_le x.first i then x.edition else before) es e i lt

-- where all have begun, the last counts
newest_bands : (before : List (ℕ × ℕ)) (es : List Edition) (i : ℕ) → AllByRecursion (λ e. e.first ≤ i) es → bands_among before es i ≡ newest_of before (map (λ (e : Edition). e.bands) es)
newest_bands before [] i all = refl
newest_bands before (x ∷ es) i all =
    let le = all.0 in
    let begun : nat_le x.first i ≡ true = grind (arith, nat_tests, le) in
    rw begun (newest_bands x.bands es i all.1)

newest_edition : (before next : ℕ) (es : List Edition) (i : ℕ) → AllByRecursion (λ e. e.first ≤ i) es → AreInTurn (λ (e : Edition). e.edition) next es → before + 1 ≡ next → edition_among before es i ≡ length es + before
newest_edition before next [] i all turn is = let e : 0 + before ≡ before = omega arith in sym e
newest_edition before next (x ∷ es) i all turn is =
    let le = all.0 in
    let begun : nat_le x.first i ≡ true = grind (arith, nat_tests, le) in
    let here = turn.0 in
    rw begun (newest_edition x.edition (next + 1) es i all.1 turn.1 (omega arith) ∙ (omega arith))

-- the tables of the editions are those that were set
sets_step : (es : List Edition) (set : List (List (ℕ × ℕ))) (next : ℕ) (command : Command) → map (λ (e : Edition). e.bands) es ≡ set
    → map (λ (e : Edition). e.bands) (with_edition es next command) ≡ with_table set command
sets_step es set next (SetBands bands) same = map-append (λ (e : Edition). e.bands) es _ ∙ ap (λ (s : List (List (ℕ × ℕ))). s ++ bands ∷ []) same
sets_step es set next command same = same

pub sets_are : (h : History) → map (λ (e : Edition). e.bands) (editions h) ≡ tables_set h
sets_are [] = refl
sets_are (e ∷ h) = sets_step (editions h) (tables_set h) (length (listings h) + 1) e.command (sets_are h)

pub set_count : (h : History) → length (tables_set h) ≡ length (editions h)
set_count h = sym (ap (λ (s : List (List (ℕ × ℕ))). length s) (sets_are h)) ∙ length-map (editions h) (λ (e : Edition). e.bands)

-- no edition begins after the next item
begun_step : (es : List Edition) (ls : List Listing) (set : List (List (ℕ × ℕ))) (caller : ℕ) (command : Command) → AllByRecursion (λ e. e.first ≤ length ls + 1) es
    → AllByRecursion (λ e. e.first ≤ length (ls ++ listing_in (length ls + 1) set caller command) + 1) (with_edition es (length ls + 1) command)
begun_step es ls set caller (SetBands bands) all =
    simp append-nil (every_more (λ (e : Edition). e.first ≤ length ls + 1) es (record { edition = length es + 2; first = length ls + 1; bands = bands }) all (omega arith))
begun_step es ls set caller (Listed category lot title text start buy_now end reserve) all =
    every_as (λ (e : Edition). e.first ≤ length ls + 1) (λ (e : Edition). e.first ≤ length (ls ++ listing_in (length ls + 1) set caller (Listed category lot title text start buy_now end reserve)) + 1) es
    (λ e le. simp length-append (omega arith)) all
begun_step es ls set caller command all = simp append-nil all

begun : (h : History) → AllByRecursion (λ e. e.first ≤ length (listings h) + 1) (editions h)
begun [] = tt
begun (e ∷ h) = begun_step (editions h) (listings h) (tables_set h) e.caller e.command (begun h)

-- by the editions an item has the table and the number of its listing
pub record GoesBy (settings : Settings) (es : List Edition) (l : Listing) : Type 0 where
  pub bands : bands_among settings.bands es l.item ≡ bands_by settings l
  pub edition : edition_among 1 es l.item ≡ edition_by l

still_by : (settings : Settings) (es : List Edition) (e : Edition) (l : Listing) → l.item < e.first → GoesBy settings es l → GoesBy settings (es ++ e ∷ []) l
still_by settings es e l lt by = record { bands = bands_more settings.bands es e l.item lt ∙ by.bands; edition = edition_more 1 es e l.item lt ∙ by.edition }

goes_step : (settings : Settings) (h : History) (t c : ℕ) (command : Command) → AllByRecursion (GoesBy settings (editions h)) (listings h)
    → AllByRecursion (GoesBy settings (editions (entry t c command ∷ h))) (listings (entry t c command ∷ h))
goes_step settings h t c (SetBands bands) all =
    let e : Edition = record { edition = length (editions h) + 2; first = length (listings h) + 1; bands = bands } in
    simp append-nil (every_both (λ (l : Listing). l.item ≤ length (listings h)) (GoesBy settings (editions h)) (GoesBy settings (editions h ++ e ∷ [])) (listings h)
    (λ l small by. still_by settings (editions h) e l (omega arith) by) (numbered h).small all)
goes_step settings h t c (Listed category lot title text start buy_now end reserve) all =
    every_more (GoesBy settings (editions h)) (listings h) _ all (record {
      bands = newest_bands settings.bands (editions h) (length (listings h) + 1) (begun h) ∙ ap (λ (s : List (List (ℕ × ℕ))). newest_of settings.bands s) (sets_are h);
      edition = newest_edition 1 2 (editions h) (length (listings h) + 1) (begun h) (editions_in_turn h) refl ∙ ap (λ (n : ℕ). n + 1) (sym (set_count h));
    })
goes_step settings h t c command all = simp append-nil all

goes : (settings : Settings) (h : History) → AllByRecursion (GoesBy settings (editions h)) (listings h)
goes settings [] = tt
goes settings (e ∷ h) = goes_step settings h e.moment e.caller e.command (goes settings h)

pub goes_by : (settings : Settings) (h : History) (i : ℕ) (l : Listing) → listing_at (listings h) i ≡ Some l → GoesBy settings (editions h) l
goes_by settings h i l listed = found_has (GoesBy settings (editions h)) (λ (a : Listing). a.item == i) (listings h) l (goes settings h) listed

-- and so by the tables
pub bands_kept : (settings : Settings) (h : History) (i : ℕ) (l : Listing) → listing_at (listings h) i ≡ Some l → bands_for (tables_of settings h) l.item ≡ bands_by settings l
unfolding tables_of
bands_kept settings h i l listed = (goes_by settings h i l listed).bands

pub edition_kept : (settings : Settings) (h : History) (i : ℕ) (l : Listing) → listing_at (listings h) i ≡ Some l → edition_for (tables_of settings h) l.item ≡ edition_by l
unfolding tables_of
edition_kept settings h i l listed = (goes_by settings h i l listed).edition

-- the editions fit
pub record EditionsFit (es : List Edition) : Type 0 where
  pub all : AllByRecursion EditionFits es
  pub room : length es < most_editions

table_pass : (valid full : Bool) → first_failing ((not valid, Range) ∷ (full, Limit) ∷ []) ≡ None → (valid ≡ true) × (full ≡ false)
table_pass true false none = (refl, refl)
table_pass true true none = cc
table_pass false full none = cc

editions_step : (settings : Settings) (h : History) (t c : ℕ) (command : Command) → verdict settings h t c command ≡ None → EditionsFit (editions h) → EditionsFit (editions (entry t c command ∷ h))
editions_step settings h t c (SetBands bands) none fits =
    let own = own_pass settings h t c (SetBands bands) none in
    let pass = table_pass (is_band_table bands) (nat_le most_editions (length (tables_set h) + 1)) own in
    let room = pass.1 in
    let count = set_count h in
    let more : length (editions h) + 1 < most_editions = grind (arith, nat_tests, room, count) in
    record {
      all = every_more EditionFits (editions h) (record { edition = length (editions h) + 2; first = length (listings h) + 1; bands = bands }) fits.all
          (record { edition = (omega arith, omega arith); bands = table_is bands pass.0 });
      room = simp length-append more;
    }
editions_step settings h t c command none fits = fits

pub editions_fit : (settings : Settings) (h : History) → IsHistory settings h → EditionsFit (editions h)
editions_fit settings [] is = record { all = tt; room = omega arith }
editions_fit settings (e ∷ h) is = editions_step settings h e.moment e.caller e.command is.0 (editions_fit settings h is.1)

-- the band table of an item is valid
among_valid : (before : List (ℕ × ℕ)) (es : List Edition) (i : ℕ) → IsBandTable before → AllByRecursion EditionFits es → IsBandTable (bands_among before es i)
among_valid before [] i valid all = valid
among_valid before (e ∷ es) i valid all =
    elim (by_test (nat_le e.first i)) [ inl begun ↦ rw begun (among_valid e.bands es i all.0.bands all.1) | inr later ↦ rw later (among_valid before es i valid all.1) ]

pub bands_valid : (settings : Settings) (h : History) (l : Listing) → IsBandTable settings.bands → IsHistory settings h → listing_at (listings h) l.item ≡ Some l → IsBandTable (bands_by settings l)
bands_valid settings h l valid is listed =
    subst IsBandTable (goes_by settings h l.item l listed).bands (among_valid settings.bands (editions h) l.item valid (editions_fit settings h is).all)
