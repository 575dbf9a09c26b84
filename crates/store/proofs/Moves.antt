-- What a keep knows of the tables after a change.
use Rattle.std.proofs.Common.{◌≡◌, ◌⊎◌, ◌+◌, ℕ, List, length, Bool, true, false, true≢false, Result, Ok, Err, Option, None, refl, ap, ap₂, sym, subst, ◌∙◌, inl, inr, arith}
use Rattle.std.specs.Prelude.{◌<◌, ◌≤◌, All, IsTrue, OnOk, is_err}
use Rattle.house_rows.specs.Limits.{most_editions, most_items}
use Rattle.std.proofs.lemmas.List.{length-append, length-map}
use Rattle.sqlite_trees.specs.Tree.{Trees}
use Rattle.sqlite.specs.Effect.{Database}
use Rattle.sqlite.specs.State.{State}
use Rattle.house_rows.specs.Changed.{changed, with_close, with_purchase, with_settlement, with_standing}
use Rattle.house_rows.specs.Asks.{ChangeFits}
use Rattle.house_rows.specs.Fits.{IsMoment}
use Rattle.house_rows.specs.Found.{counts_of}
use Rattle.house_rows.specs.Making.{ChangeRowsFit}
use Rattle.house_rows.specs.Tables.{Tables, band_tables}
use Rattle.house_rows.specs.declared.auction.Auction.{Auction}
use Rattle.house_rows.specs.declared.change.Change.{Change}
use Rattle.house_rows.specs.declared.change.Change.TheVariants.{Register, AddCategory, List as Listed, Bid, Buy, Close, Settle, Watch, Unwatch, Ask, Answer, Feedback, SetBands}
use Rattle.house_rows.specs.declared.people.Counts.{Counts}
use Rattle.house_rows.specs.Editions.{BandTables}
use Rattle.store_rows.specs.ItemRows.{items_in}
use Rattle.store_rows.specs.Rows.{edition_rows_in, later_bands_in, reserves_in}
use Rattle.store_rows.specs.Tables.{Changes, IsNumbered, bands_at, reserves_after, tables_in}
use Rattle.store_rows.specs.declared.edition.EditionRow.{EditionRow}
use Rattle.store_rows.specs.declared.reserve.ReserveRow.{ReserveRow}
use Rattle.store_rows.specs.declared.rules.Rules.{Rules}
use Rattle.store.specs.After.{CanAdd, bands_set, clock_after, counts_after, with_table}
use Rattle.store.specs.Kept.{IsKnown}

editions_move : (t : Tables) (change : Change) → band_tables (changed t change) ≡ with_table (band_tables t) (counts_after (counts_of t) change).items (bands_set change)
unfolding changed
editions_move t (Register moment name) = refl
editions_move t (AddCategory moment name) = refl
editions_move t (Listed moment item) = refl
editions_move t (Bid moment item placed standing) = refl
editions_move t (Buy moment item buyer price) = refl
editions_move t (Close moment) = refl
editions_move t (Settle moment item) = refl
editions_move t (Watch member item) = refl
editions_move t (Unwatch member item) = refl
editions_move t (Ask item asker number text) = refl
editions_move t (Answer moment item asker number text) = refl
editions_move t (Feedback moment item from to rating text) = refl
editions_move t (SetBands moment bands) = refl

clock_moves : (t : Tables) (change : Change) → (changed t change).clock ≡ clock_after t.clock change
unfolding changed
clock_moves t (Register moment name) = refl
clock_moves t (AddCategory moment name) = refl
clock_moves t (Listed moment item) = refl
clock_moves t (Bid moment item placed standing) = refl
clock_moves t (Buy moment item buyer price) = refl
clock_moves t (Close moment) = refl
clock_moves t (Settle moment item) = refl
clock_moves t (Watch member item) = refl
clock_moves t (Unwatch member item) = refl
clock_moves t (Ask item asker number text) = refl
clock_moves t (Answer moment item asker number text) = refl
clock_moves t (Feedback moment item from to rating text) = refl
clock_moves t (SetBands moment bands) = refl

counts_move : (t : Tables) (change : Change) → counts_of (changed t change) ≡ counts_after (counts_of t) change
unfolding changed
counts_move t (Register moment name) = rw (length-append t.members) refl
counts_move t (AddCategory moment name) = rw (length-append t.categories) refl
counts_move t (Listed moment item) = rw (length-append t.items) refl
counts_move t (Bid moment item placed standing) = rw (length-map t.items (with_standing item standing)) refl
counts_move t (Buy moment item buyer price) = rw (length-map t.items (with_purchase item buyer price moment)) refl
counts_move t (Close moment) = rw (length-map t.items (with_close moment)) refl
counts_move t (Settle moment item) = rw (length-map t.items (with_settlement item)) refl
counts_move t (Watch member item) = refl
counts_move t (Unwatch member item) = refl
counts_move t (Ask item asker number text) = refl
counts_move t (Answer moment item asker number text) = refl
counts_move t (Feedback moment item from to rating text) = refl
counts_move t (SetBands moment bands) = refl

so_many : (db : Trees) → (counts_of (tables_in db)).items ≡ length (items_in db)
unfolding tables_in
so_many db = refl

-- the band tables after the first are as many as the rows of editions
pub editions_long : (db : Trees) → length (band_tables (tables_in db)).later ≡ length (edition_rows_in db)
unfolding tables_in
editions_long db =
    length-map (edition_rows_in db) (λ (r : EditionRow). record { edition = r.edition; first = r.first; bands = bands_at r.edition (later_bands_in db) })

-- a listing has the number that the counts after it give
next_number : (change : Change) (reserves : List ReserveRow) (counts : Counts) (many : ℕ) → counts.items ≡ many
    → reserves_after reserves (counts_after counts change).items change ≡ reserves_after reserves (many + 1) change
next_number (Register moment name) reserves counts many same = refl
next_number (AddCategory moment name) reserves counts many same = refl
next_number (Listed moment item) reserves counts many same = ap (λ (n : ℕ). reserves_after reserves (n + 1) (Listed moment item)) same
next_number (Bid moment item placed standing) reserves counts many same = refl
next_number (Buy moment item buyer price) reserves counts many same = refl
next_number (Close moment) reserves counts many same = refl
next_number (Settle moment item) reserves counts many same = refl
next_number (Watch member item) reserves counts many same = refl
next_number (Unwatch member item) reserves counts many same = refl
next_number (Ask item asker number text) reserves counts many same = refl
next_number (Answer moment item asker number text) reserves counts many same = refl
next_number (Feedback moment item from to rating text) reserves counts many same = refl
next_number (SetBands moment bands) reserves counts many same = refl

-- what was known is known of the tables after the change
pub known_after : {seen : Option Auction} (editions : BandTables) (reserves : List ReserveRow) (counts : Counts) (clock : ℕ) (change : Change) (old new : Database)
    → IsKnown editions reserves counts clock seen old.trees → Changes change old new → IsKnown (with_table editions (counts_after counts change).items (bands_set change)) (reserves_after reserves (counts_after counts change).items change) (counts_after counts change) (clock_after clock change) None new.trees
known_after editions reserves counts clock change old new known made = let is = made.tables in record {
  editions_are = ap band_tables is ∙ editions_move (tables_in old.trees) change
      ∙ ap₂ (λ (b : BandTables) (k : Counts). with_table b (counts_after k change).items (bands_set change)) known.editions_are known.counts_are;
  reserves_are = ap (λ (l : List ReserveRow). reserves_after l (counts_after counts change).items change) known.reserves_are
      ∙ next_number change (reserves_in old.trees) counts (length (items_in old.trees)) (sym (ap (λ (c : Counts). c.items) known.counts_are) ∙ so_many old.trees)
      ∙ sym made.reserves;
  counts_are = ap counts_of is ∙ (counts_move (tables_in old.trees) change ∙ ap (λ c. counts_after c change) known.counts_are);
  clock_is = ap (λ t. t.clock) is ∙ (clock_moves (tables_in old.trees) change ∙ ap (λ c. clock_after c change) known.clock_is);
  seen_is = tt;
}

-- the moment of a change that fits is one
pub fits_moment : (t : Tables) (change : Change) (clock : ℕ) → IsMoment clock → ChangeFits t change → IsMoment (clock_after clock change)
fits_moment t (Register moment name) clock is fits = fits.moment_fits
fits_moment t (AddCategory moment name) clock is fits = fits.moment_fits
fits_moment t (Listed moment item) clock is fits = fits.moment_fits
fits_moment t (Bid moment item placed standing) clock is fits = fits.moment_fits
fits_moment t (Buy moment item buyer price) clock is fits = fits.moment_fits
fits_moment t (Close moment) clock is fits = fits
fits_moment t (Settle moment item) clock is fits = fits.moment_fits
fits_moment t (Watch member item) clock is fits = is
fits_moment t (Unwatch member item) clock is fits = is
fits_moment t (Ask item asker number text) clock is fits = is
fits_moment t (Answer moment item asker number text) clock is fits = fits.moment_fits
fits_moment t (Feedback moment item from to rating text) clock is fits = fits.moment_fits
fits_moment t (SetBands moment bands) clock is fits = fits.moment_fits

-- what a change adds can be added to rules that are known
pub can_add : {seen : Option Auction} (db : Trees) (rules : Rules) (counts : Counts) (clock : ℕ) (change : Change)
    → IsKnown rules.editions rules.reserves counts clock seen db → IsNumbered db
    → ChangeFits (tables_in db) change → ChangeRowsFit (tables_in db) change
    → CanAdd rules (counts_after counts change).items change
can_add db rules counts clock (Register moment name) known numbered fits rows = tt
can_add db rules counts clock (AddCategory moment name) known numbered fits rows = tt
can_add db rules counts clock (Listed moment item) known numbered fits rows = λ k d lt.
    let within = subst (All (λ (r : ReserveRow). r.item ≤ length (items_in db))) (sym known.reserves_are) numbered.reserves in
    let low = within k d lt in
    let many : length (items_in db) ≡ counts.items = sym (so_many db) ∙ ap (λ (c : Counts). c.items) known.counts_are in
    omega (arith, low, many)
can_add db rules counts clock (Bid moment item placed standing) known numbered fits rows = tt
can_add db rules counts clock (Buy moment item buyer price) known numbered fits rows = tt
can_add db rules counts clock (Close moment) known numbered fits rows = tt
can_add db rules counts clock (Settle moment item) known numbered fits rows = tt
can_add db rules counts clock (Watch member item) known numbered fits rows = tt
can_add db rules counts clock (Unwatch member item) known numbered fits rows = tt
can_add db rules counts clock (Ask item asker number text) known numbered fits rows = tt
can_add db rules counts clock (Answer moment item asker number text) known numbered fits rows = tt
can_add db rules counts clock (Feedback moment item from to rating text) known numbered fits rows = tt
can_add db rules counts clock (SetBands moment bands) known numbered fits rows = (
  fits.valid,
  subst (λ (b : BandTables). length b.later + 1 < most_editions) known.editions_are fits.room,
  subst (λ (c : Counts). c.items ≤ most_items) known.counts_are rows,
)

-- what a crash may leave after a change that failed: what it could leave before, or the new tables where the keep failed
pub left_after : (old mid : State) (change : Change) (failed : Bool) (db : Trees) → old.may_leave old.committed.trees → (IsTrue mid.is_open → db ≡ mid.committed.trees)
    → (failed ≡ false → IsTrue mid.is_open × (mid.committed ≡ old.committed)) → old.may_leave db ⊎ ((after : Database) × Changes change old.now after × (db ≡ after.trees))
    → old.may_leave db ⊎ ((failed ≡ true) × (tables_in db ≡ changed (tables_in old.now.trees) change))
left_after old mid change failed db stays settled report (inl may) = inl may
left_after old mid change true db stays settled report (inr made) = inr (refl, ap tables_in made.2 ∙ made.1.tables)
left_after old mid change false db stays settled report (inr made) =
    let is_open = report refl in inl (subst old.may_leave (sym (settled is_open.0 ∙ ap (λ (d : Database). d.trees) is_open.1)) stays)

-- what is so after Ok
pub not_err : {A E : Type 0} {P : Type 0} (r : Result A E) → is_err r ≡ false → OnOk r P → P
not_err (Ok a) none so = so
not_err (Err e) none so = absurd (true≢false none)
