-- What a keep knows of its house: its band tables are those of the tables. And what it reports of a
-- call that failed.
use Rattle.std.proofs.Common.{◌≡◌, ◌∙◌, ℕ, List, Bool, true, false, ap, refl, subst, sym, arith, Option, Some, None, find, option_map}
use Rattle.house_rows.specs.Answered.{IsAnswered}
use Rattle.std.specs.Prelude.{◌==◌, ◌&&◌, ◌↔◌, Err, IfSome, IsErrOf, option_and_then}
use Rattle.std.proofs.lemmas.Bool.Decides.{nat_tests}
use Rattle.std.specs.List.{AllByRecursion}
use Rattle.sqlite_trees.specs.Tree.{Trees}
use Rattle.house_rows.specs.Keeping.{AllConsistent, AllKept, AreSound, AreSoundBy, Faults, FitsBy, RowFits, IsConsistentAt, IsConsistentBy, IsConsistentIn, IsKeptItemBy, IsKeptRow, IsKeptRowAt, IsKeptRowBy, IsRead}
use Rattle.house_rows.specs.Taken.{FitWhere}
use Rattle.house_rows.specs.Editions.{BandTables}
use Rattle.proxy.specs.Kept.{Kept}
use Rattle.house_rows.specs.Bids.{BidRow}
use Rattle.house_rows.specs.Found.{auction_at, auction_of, reserve_at, row_at, standing_at, terms_at}
use Rattle.house_rows.specs.Changed.{is_item}
use Rattle.house_rows.specs.Fits.{BidRowFits, StandingFits, TermsFit}
use Rattle.house_rows.specs.Reached.{FitsSoFar}
use Rattle.house_rows.specs.Tables.{ItemRow, Tables, band_tables}
use Rattle.house_rows.proofs.Every.{every_as}
use Rattle.house_rows.specs.declared.fault.KeepFault.{KeepFault}
use Rattle.house_rows.specs.declared.fault.KeepFault.TheVariants.{Store, Damaged}
use Rattle.house_rows.specs.declared.auction.Auction.{Auction}
use Rattle.house_rows.specs.declared.item.Item.{Item}
use Rattle.house_rows.specs.declared.item.Terms.{Terms}
use Rattle.house_rows.specs.declared.people.Counts.{Counts}
use Rattle.store_rows.specs.ItemRows.{items_in}
use Rattle.store_rows.specs.Tables.{tables_in}
use Rattle.store_items.specs.Seen.{IsThere}
use Rattle.store.proofs.Remembered.{seen_there}
use Rattle.store_items.specs.ConsistentRows.{ItemIsConsistent, ItemStands, RowFitsAt, RowsAreConsistent, RowsAreKept}
use Rattle.store_rows.proofs.Sound.{rows_fit}
use Rattle.store_items.proofs.Auctions.{terms_none as no_terms, terms_some as auction_terms}
use Rattle.sqlite_trees.specs.declared.store.Store.{Ghosts}
use Rattle.sqlite.specs.Held.{state}
use Rattle.store_rows.specs.House.{ServesBy}
use Rattle.store_rows.specs.declared.reserve.ReserveRow.{ReserveRow}
use Rattle.store.specs.Kept.{House, IsKeptSeen, IsKnown, is_failed}

-- rows that fit in the tables fit by band tables that are those of the tables
module _ (db : Trees) (editions : BandTables) (same : band_tables (tables_in db) ≡ editions) where
  pub where_by : (test : ItemRow → Bool) → FitWhere test (RowFits (tables_in db)) (tables_in db).items → FitWhere test (FitsBy editions) (items_in db)
  unfolding tables_in
  where_by test = subst (λ (b : BandTables). FitWhere test (FitsBy b) (items_in db)) same

  pub row_by : (item : ℕ) → FitWhere (is_item item) (RowFits (tables_in db)) (tables_in db).items → RowFitsAt editions db item
  row_by item fits =
      every_as (λ (row : ItemRow). is_item item row ≡ true → FitsBy editions row) (λ (row : ItemRow). row.item.terms.item ≡ item → FitsBy editions row) (items_in db)
      (λ row fit at. fit (grind (arith, nat_tests, at))) (where_by (is_item item) fits)

module _ {seen : Option Auction} (db : Trees) (editions : BandTables) (reserves : List ReserveRow) (counts : Counts) (clock : ℕ) (known : IsKnown editions reserves counts clock seen db) where
  pub known_sound : AreSound (tables_in db) → AreSoundBy editions (tables_in db)
  known_sound sound = record { sound = sound; same = sym known.editions_are }

  pub known_rows : AreSound (tables_in db) → AllByRecursion (FitsBy editions) (items_in db)
  known_rows sound = rows_fit db editions (known_sound sound)

  -- rows that fit in the tables fit by the band tables that are known
  pub known_list : (rows : List ItemRow) → AllByRecursion (RowFits (tables_in db)) rows → AllByRecursion (FitsBy editions) rows
  known_list rows = subst (λ (b : BandTables). AllByRecursion (FitsBy b) rows) known.editions_are

  pub known_where : (test : ItemRow → Bool) → FitWhere test (RowFits (tables_in db)) (tables_in db).items → FitWhere test (FitsBy editions) (items_in db)
  known_where = where_by db editions known.editions_are

  pub known_row : (item : ℕ) → FitWhere (is_item item) (RowFits (tables_in db)) (tables_in db).items → RowFitsAt editions db item
  known_row = row_by db editions known.editions_are

  pub known_so_far : (member from : ℕ) → FitsSoFar (band_tables (tables_in db)) (tables_in db) member from → FitsSoFar editions (tables_in db) member from
  known_so_far member from = subst (λ (b : BandTables). FitsSoFar b (tables_in db) member from) known.editions_are

  -- what was seen is what the tables have
  pub seen_in : IfSome seen (λ a. IsThere (band_tables (tables_in db)) a.terms.item a db)
  seen_in = subst (λ (b : BandTables). IfSome seen (λ a. IsThere b a.terms.item a db)) (sym known.editions_are) known.seen_is

  seen_there_still : (a : Auction) → seen ≡ Some a → IsThere editions a.terms.item a db
  seen_there_still a is = subst (λ (o : Option Auction). IfSome o (λ a. IsThere editions a.terms.item a db)) is known.seen_is

  pub seen_auction : (a : Auction) (item : ℕ) → seen ≡ Some a → a.terms.item ≡ item → Some a ≡ auction_at (tables_in db) item
  unfolding tables_in
  seen_auction a item is same = sym (subst (λ (n : ℕ). option_map auction_of (find (is_item n) (items_in db)) ≡ Some a) same (seen_there_still a is).found)

  pub seen_is_consistent : (a : Auction) → seen ≡ Some a → IsConsistentIn (tables_in db) a.terms
  seen_is_consistent a is = subst (λ (b : BandTables). IsConsistentBy b a.terms) (sym known.editions_are) (seen_there_still a is).is_consistent

  -- what is sealed goes with what is shown by the band tables of the tables, where it does by those that are known
  pub row_is_kept : (item : ℕ) → IfSome (find (is_item item) (items_in db)) (IsKeptRowBy editions) → IfSome (row_at (tables_in db) item) (IsKeptRow (tables_in db))
  unfolding tables_in
  row_is_kept item = subst (λ (b : BandTables). IfSome (find (is_item item) (items_in db)) (IsKeptRowBy b)) (sym known.editions_are)

  pub rows_are_kept : (rows : List ItemRow) → AllByRecursion (IsKeptRowBy editions) rows → AllByRecursion (IsKeptRow (tables_in db)) rows
  rows_are_kept rows = subst (λ (b : BandTables). AllByRecursion (IsKeptRowBy b) rows) (sym known.editions_are)

  -- so of an auction that was found
  pub found_is_kept : (item : ℕ) (found : Option Auction) → found ≡ option_map auction_of (find (is_item item) (items_in db)) → IfSome found (λ a. IsKeptItemBy editions a.terms a.standing)
      → IfSome (row_at (tables_in db) item) (IsKeptRow (tables_in db))
  found_is_kept item found are kept =
      row_is_kept item (of_row (find (is_item item) (items_in db)) (subst (λ (o : Option Auction). IfSome o (λ a. IsKeptItemBy editions a.terms a.standing)) are kept))
    where
      of_row : (o : Option ItemRow) → IfSome (option_map auction_of o) (λ a. IsKeptItemBy editions a.terms a.standing) → IfSome o (IsKeptRowBy editions)
      of_row None so = tt
      of_row (Some row) so = so

  pub seen_is_kept : (a : Auction) (item : ℕ) → seen ≡ Some a → a.terms.item ≡ item → IfSome (row_at (tables_in db) item) (IsKeptRow (tables_in db))
  seen_is_kept a item is same =
      let there = seen_there_still a is in
      found_is_kept item (Some a) (subst (λ (n : ℕ). Some a ≡ option_map auction_of (find (is_item n) (items_in db))) same (sym there.found)) there.kept

  -- what is consistent with the band tables that are known is consistent in the tables
  pub one_is_consistent : (item : Option Item) → IfSome item (λ it. IsConsistentBy editions it.terms) → IfSome item (λ it. IsConsistentIn (tables_in db) it.terms)
  one_is_consistent item = subst (λ (b : BandTables). IfSome item (λ it. IsConsistentBy b it.terms)) (sym known.editions_are)

  pub terms_are_consistent : (terms : Option Terms) → IfSome terms (λ t. IsConsistentBy editions t) → IfSome terms (λ t. IsConsistentIn (tables_in db) t)
  terms_are_consistent terms = subst (λ (b : BandTables). IfSome terms (λ t. IsConsistentBy b t)) (sym known.editions_are)

  pub auction_is_consistent : (found : Option Auction) → IfSome found (λ a. IsConsistentBy editions a.terms) → IfSome found (λ a. IsConsistentIn (tables_in db) a.terms)
  auction_is_consistent found = subst (λ (b : BandTables). IfSome found (λ a. IsConsistentBy b a.terms)) (sym known.editions_are)

  pub items_are_consistent : (items : List Item) → AllByRecursion (λ it. IsConsistentBy editions it.terms) items → AllByRecursion (λ it. IsConsistentIn (tables_in db) it.terms) items
  items_are_consistent items = subst (λ (b : BandTables). AllByRecursion (λ (it : Item). IsConsistentBy b it.terms) items) (sym known.editions_are)

  pub all_are_consistent : (test : ItemRow → Bool) → RowsAreConsistent editions test db → AllConsistent test (tables_in db)
  unfolding tables_in
  all_are_consistent test = subst (λ (b : BandTables). RowsAreConsistent b test db) (sym known.editions_are)

  pub all_are_kept : (test : ItemRow → Bool) → RowsAreKept editions test db → AllKept test (tables_in db)
  unfolding tables_in
  all_are_kept test = subst (λ (b : BandTables). RowsAreKept b test db) (sym known.editions_are)

  -- so of what names an item
  pub each_is_consistent : {A : Type 0} (item : A → ℕ) (xs : List A) → AllByRecursion (λ x. ItemIsConsistent editions db (item x)) xs → AllByRecursion (λ x. IsConsistentAt (tables_in db) (item x)) xs
  each_is_consistent {A} item xs = subst (λ (b : BandTables). AllByRecursion (λ (x : A). ItemIsConsistent b db (item x)) xs) (sym known.editions_are)

  -- and of what names an item that is consistent also with what is sealed
  pub each_stands : {A : Type 0} (item : A → ℕ) (xs : List A) → AllByRecursion (λ x. ItemStands editions db (item x)) xs → AllByRecursion (λ x. IsConsistentAt (tables_in db) (item x)) xs
  each_stands {A} item xs all =
      each_is_consistent item xs (every_as (λ (x : A). ItemStands editions db (item x)) (λ (x : A). ItemIsConsistent editions db (item x)) xs (λ x stands. stands.is_consistent) all)

  pub each_is_kept : {A : Type 0} (item : A → ℕ) (xs : List A) → AllByRecursion (λ x. ItemStands editions db (item x)) xs → AllByRecursion (λ x. IsKeptRowAt (tables_in db) (item x)) xs
  each_is_kept {A} item xs all =
      every_as (λ (x : A). ItemStands editions db (item x)) (λ (x : A). IsKeptRowAt (tables_in db) (item x)) xs (λ x stands. row_is_kept (item x) stands.kept) all

-- what was seen is so by band tables that are those of the tables
pub seen_by : (db : Trees) (editions : BandTables) (seen : Option Auction) → editions ≡ band_tables (tables_in db)
    → IfSome seen (λ a. IsThere (band_tables (tables_in db)) a.terms.item a db) → IfSome seen (λ a. IsThere editions a.terms.item a db)
seen_by db editions seen same = subst (λ (b : BandTables). IfSome seen (λ a. IsThere b a.terms.item a db)) (sym same)

-- what was seen is forgotten
pub forgotten : {seen : Option Auction} (editions : BandTables) (reserves : List ReserveRow) (counts : Counts) (clock : ℕ) (db : Trees)
    → IsKnown editions reserves counts clock seen db → IsKnown editions reserves counts clock None db
forgotten editions reserves counts clock db known = record {
  editions_are = known.editions_are;
  reserves_are = known.reserves_are;
  counts_are = known.counts_are;
  clock_is = known.clock_is;
  seen_is = tt;
}

-- and an item that was looked up is seen
pub item_seen : {seen : Option Auction} (editions : BandTables) (reserves : List ReserveRow) (counts : Counts) (clock : ℕ) (item : ℕ) (found : Option Auction) (db : Trees)
    → IsKnown editions reserves counts clock seen db → found ≡ option_map auction_of (find (is_item item) (items_in db))
    → IfSome found (λ a. TermsFit a.terms × StandingFits a.standing) → IfSome found (λ a. IsConsistentBy editions a.terms)
    → IfSome found (λ a. IsKeptItemBy editions a.terms a.standing) → IsKnown editions reserves counts clock found db
item_seen editions reserves counts clock item found db known is fits consistent kept = record {
  editions_are = known.editions_are;
  reserves_are = known.reserves_are;
  counts_are = known.counts_are;
  clock_is = known.clock_is;
  seen_is = seen_there db editions item found is fits consistent kept;
}

-- a fault that is no damage is reported as none
no_damage : (fault report : KeepFault) (failed : Bool) → (failed ≡ false → report ≡ fault) → ((report ≡ Store) ↔ (failed ≡ true))
    → ¬ (fault ≡ Damaged) → ¬ (report ≡ Damaged)
no_damage fault report true same store none is = let e : Store ≡ Damaged = sym (store.1 refl) ∙ is in cc
no_damage fault report false same store none is = none (sym (same refl) ∙ is)

pub the_fault : {A : Type 0} {a b : KeepFault} → IsErrOf {T = A} {E = KeepFault} (Err a) b → a ≡ b
the_fault is = cc

pub report_sound : {A : Type 0} (fault report : KeepFault) (failed : Bool) (honest : Type 0) (t : Tables)
    → (failed ≡ false → report ≡ fault) → ((report ≡ Store) ↔ (failed ≡ true))
    → (honest → AreSound t → ¬ (fault ≡ Damaged)) → Faults {A = A} (Err report) honest failed t
report_sound fault report failed honest t same store none = record {
  store = (λ is. store.0 (the_fault is), λ down. ap Err (store.1 down));
  damaged = λ h sound is. no_damage fault report failed same store (none h sound) (the_fault is);
}

-- what a look-up answers that failed, where the rows that it takes fit in sound tables, and the fault below is no damage
-- where they do
pub failed_look : {K A : Type 0} {content : K → Tables} {is_failed : K → Bool} {is_honest : K → Type 0} {may_leave : K → Tables → Type 0} {old new : K} {IsAnswer : Tables → A → Type 0} {Fit : Tables → Type 0} (fault report : KeepFault)
    → (is_failed new ≡ false → report ≡ fault) → ((report ≡ Store) ↔ (is_failed new ≡ true))
    → (AreSound (content old) → Fit (content old)) → (is_honest new → Fit (content old) → ¬ (fault ≡ Damaged))
    → IsRead content is_failed is_honest may_leave old new
    → IsAnswered content is_failed is_honest may_leave old new (Err report) IsAnswer Fit
failed_look {content = content} {is_failed = is_failed} {is_honest = is_honest} {old = old} {new = new} fault report same store takes none read = record {
  value = λ honest. tt;
  faults = report_sound fault report (is_failed new) (is_honest new) (content old) same store (λ honest sound. none honest (takes sound));
  damaged = λ honest fits is. no_damage fault report (is_failed new) same store (none honest fits) (the_fault is);
  read = read;
}

-- a keep that has not failed serves by the reserves that it knows
pub known_serves : {S : Type 0} {seen : Option Auction} (g : Ghosts S) (k : House S) → IsKeptSeen g seen k → k.failed ≡ false → ServesBy k.reserves (state g k.conn)
known_serves g k kept going clean = let rest = kept.rests going clean in (rest.is_open, rest.house, (kept.known going clean).reserves_are)

-- a keep that is seen not to have failed has not failed inside
pub works : {S : Type 0} (inside seen : House S) → inside ≡ seen → is_failed seen ≡ false → inside.failed ≡ false
works inside seen same going = ap is_failed same ∙ going

-- a fault that is no damage is reported as none, in a result
pub not_reported : {A : Type 0} (fault report : KeepFault) (failed : Bool) → (failed ≡ false → report ≡ fault) → ((report ≡ Store) ↔ (failed ≡ true)) → ¬ (fault ≡ Damaged) → ¬ (IsErrOf {T = A} {E = KeepFault} (Err report) Damaged)
not_reported fault report failed same store none is = no_damage fault report failed same store none (the_fault is)

-- a member's bids on an item fit
pub own_fit : (t : Tables) (member item : ℕ) → FitWhere (λ b. (b.bid.member == member) && (b.item == item)) BidRowFits t.bids → AllByRecursion (λ b. b.bid.member ≡ member → b.item ≡ item → BidRowFits b) t.bids
own_fit t member item fits =
    every_as (λ (b : BidRow). ((b.bid.member == member) && (b.item == item)) ≡ true → BidRowFits b) (λ (b : BidRow). b.bid.member ≡ member → b.item ≡ item → BidRowFits b) t.bids
    (λ b fit mine on. fit (grind (arith, nat_tests, mine, on))) fits

-- the standing of an item is that of its auction
standing_same : (row : Option ItemRow) (found : Option Auction) → found ≡ option_map auction_of row → option_map (λ (a : Auction). a.standing) found ≡ option_map (λ (r : ItemRow). r.standing) row
standing_same None found report = ap (option_map (λ (a : Auction). a.standing)) report
standing_same (Some row) found report = ap (option_map (λ (a : Auction). a.standing)) report

pub standing_some : (t : Tables) (item : ℕ) (a : Auction) → Some a ≡ auction_at t item → Some a.standing ≡ standing_at t item
standing_some t item a report = standing_same (row_at t item) (Some a) report

pub standing_none : (t : Tables) (item : ℕ) → None ≡ auction_at t item → None ≡ standing_at t item
standing_none t item report = standing_same (row_at t item) None report

-- the terms of an item are those of its auction
pub terms_some : (t : Tables) (item : ℕ) (a : Auction) → Some a ≡ auction_at t item → Some a.terms ≡ terms_at t item
terms_some t item a report = auction_terms (row_at t item) a report

pub terms_none : (t : Tables) (item : ℕ) → None ≡ auction_at t item → None ≡ terms_at t item
terms_none t item report = no_terms (row_at t item) report

-- the reserve of an item is that of its standing
pub reserve_some : (t : Tables) (item : ℕ) (s : Kept) → Some s ≡ standing_at t item → s.reserve ≡ reserve_at t item
reserve_some t item s report = one (row_at t item) report
  where
    one : (row : Option ItemRow) → Some s ≡ option_map (λ (r : ItemRow). r.standing) row → s.reserve ≡ option_and_then (λ (r : ItemRow). r.standing.reserve) row
    one None report = absurd cc
    one (Some row) report = (let same : s ≡ row.standing = cc in ap (λ (k : Kept). k.reserve) same)

pub reserve_none : (t : Tables) (item : ℕ) → None ≡ standing_at t item → None ≡ reserve_at t item
reserve_none t item report = none (row_at t item) report
  where
    none : (row : Option ItemRow) → None ≡ option_map (λ (r : ItemRow). r.standing) row → None ≡ option_and_then (λ (r : ItemRow). r.standing.reserve) row
    none None report = refl
    none (Some row) report = absurd cc
