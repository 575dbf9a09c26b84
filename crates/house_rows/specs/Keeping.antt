-- What every call of a keep promises beside its answer. A keep that rests on a disk promises of its rows only while the disk
-- has returned what was written: while it is honest.
use Rattle.std.specs.Prelude.{◌≡◌, ◌≤◌, ◌<◌, ◌+◌, ◌⊎◌, length, ◌↔◌, ℕ, List, [], ◌∷◌, Bool, true, false, Option, Some, IfSome, Result, OnOk, IsErrOf, ◌==◌, filter, ◌≢◌, option_map}
use Rattle.steps.specs.Table.{Band}
use Rattle.std.specs.List.{AllByRecursion}
use Rattle.proxy.specs.Accepted.{AreAccepted}
use Rattle.proxy.specs.Bids.{met_by, standing_of}
use Rattle.proxy.specs.declared.bid.Bid.{Bid}
use Rattle.proxy.specs.Kept.{Kept}
use Rattle.proxy.specs.Rows.{is_shape, is_standing}
use Rattle.house_rows.specs.declared.change.Change.{Change}
use Rattle.house_rows.specs.declared.item.Terms.{Terms}
use Rattle.house_rows.specs.declared.fault.KeepFault.{KeepFault}
use Rattle.house_rows.specs.declared.fault.KeepFault.TheVariants.{Store, Damaged}
use Rattle.house_rows.specs.Asks.{IsFree}
use Rattle.house_rows.specs.Fits.{BidRowFits, CategoryFits, EditionFits, FeedbackFits, IsMoment, ItemFits, MemberFits, QuestionFits, WatchRowFits, ReserveFits}
use Rattle.house_rows.specs.Editions.{BandTables, bands_in}
use Rattle.house_rows.specs.Changed.{kept_met}
use Rattle.house_rows.specs.Found.{is_watched, row_at, terms_at}
use Rattle.house_rows.specs.History.{counted}
use Rattle.house_rows.specs.Limits.{most_bids, most_categories, most_cents, most_editions, most_items, most_members, most_watches}
use Rattle.house_rows.specs.Tables.{ItemRow, Tables, band_tables, row_opening}
use Rattle.house_rows.specs.Verdict.{was_sold}

-- price and leader are those of the bids
pub record IsByBids (row : ItemRow) : Type 0 where
  pub price : row.item.terms.price ≡ row.standing.price
  pub leader : row.item.terms.leader ≡ row.standing.leader
  pub met : row.item.terms.met ≡ kept_met row.standing

-- or the item was bought at once: then nobody has bid, and the price is the buy-now price
pub record IsBought (row : ItemRow) : Type 0 where
  pub sold : was_sold row.item.terms.state ≡ true
  pub no_bid : row.standing.count ≡ 0
  pub price : row.item.terms.buy_now ≡ Some row.item.terms.price
  pub met : row.item.terms.met ≡ option_map (λ r. true) row.standing.reserve

-- terms show the standing of an item's bids
pub record ShowsBids (t : Terms) (k : Kept) : Type 0 where
  pub price : t.price ≡ k.price
  pub leader : t.leader ≡ k.leader
  pub met : t.met ≡ kept_met k

-- or that nobody has bid, and the item was bought at once at the buy-now price
pub record ShowsPurchase (t : Terms) (k : Kept) : Type 0 where
  pub sold : was_sold t.state ≡ true
  pub no_bid : k.count ≡ 0
  pub price : t.buy_now ≡ Some t.price
  pub met : t.met ≡ option_map (λ r. true) k.reserve

-- a reserve, if there is one, is over the start and at most the buy-now price
abbrev pub IsReserve : ℕ → Option ℕ → Option ℕ → Type 0
IsReserve start buy_now reserve = IfSome reserve (λ amount. (start < amount) × IfSome buy_now (λ most. amount ≤ most))

-- what is sealed of an item goes with what its row shows: its reserve with the prices, its maxima with one another and with
-- these bands, and the standing that they give with the terms, whose start and number of bids it has
pub record IsKeptItem (bands : List Band) (t : Terms) (k : Kept) : Type 0 where
  pub reserve : IsReserve t.start t.buy_now k.reserve
  pub start : t.start ≡ k.start
  pub count : t.count ≡ k.count
  pub standing : is_standing bands k ≡ true
  pub report : ShowsBids t k ⊎ ShowsPurchase t k

-- what an item's row shows of its bids is what a standing shows by these bands, whatever is sealed of it
pub record IsByStanding (bands : List Band) (t : Terms) : Type 0 where
  -- what is sealed: the reserve, and the maxima, the greatest and the second
  pub reserve : Option ℕ
  pub top : Option ℕ
  pub second : Option ℕ
  pub shape : is_shape bands (record { start = t.start; reserve = reserve }) t.price t.count t.leader top second ≡ true
  pub met : t.met ≡ met_by reserve top

-- or it was bought at once: nobody has bid, and the price is the buy-now price
pub record IsPurchase (t : Terms) : Type 0 where
  pub sold : was_sold t.state ≡ true
  pub no_bid : t.count ≡ 0
  pub price : t.buy_now ≡ Some t.price
  pub met : t.met ≢ Some false

-- an item's row shows the standing of some bids, or that it was bought at once
abbrev pub IsConsistent : List Band → Terms → Type 0
IsConsistent bands t = IsByStanding bands t ⊎ IsPurchase t

-- by its own band table
abbrev pub IsConsistentBy : BandTables → Terms → Type 0
IsConsistentBy editions terms = IsConsistent (bands_in editions terms.item) terms

abbrev pub IsConsistentIn : Tables → Terms → Type 0
IsConsistentIn t terms = IsConsistentBy (band_tables t) terms

-- what is sealed goes with what is shown, by the item's own band table
abbrev pub IsKeptItemBy : BandTables → Terms → Kept → Type 0
IsKeptItemBy editions t k = IsKeptItem (bands_in editions t.item) t k

abbrev pub IsKeptRowBy : BandTables → ItemRow → Type 0
IsKeptRowBy editions row = IsKeptItemBy editions row.item.terms row.standing

abbrev pub IsKeptRow : Tables → ItemRow → Type 0
IsKeptRow t row = IsKeptRowBy (band_tables t) row

-- so of the row of an item, if there is one
abbrev pub IsKeptRowAt : Tables → ℕ → Type 0
IsKeptRowAt t item = IfSome (row_at t item) (IsKeptRow t)

-- so of every item's row that passes a test
abbrev pub AllKept : (ItemRow → Bool) → Tables → Type 0
AllKept test t = AllByRecursion (IsKeptRow t) (filter test t.items)

-- so of each item that a member watches
abbrev pub AreKeptWatched : ℕ → Tables → Type 0
AreKeptWatched member t = (item : ℕ) → is_watched t member item ≡ true → IfSome (row_at t item) (IsKeptRow t)

-- every item's row that passes a test is consistent, each by its own band table
abbrev pub AllConsistent : (ItemRow → Bool) → Tables → Type 0
AllConsistent test t = AllByRecursion (λ row. IsConsistentIn t row.item.terms) (filter test t.items)

-- the item of a number is consistent, if there is one
abbrev pub IsConsistentAt : Tables → ℕ → Type 0
IsConsistentAt t item = IfSome (terms_at t item) (IsConsistentIn t)

-- the rows of an item fit: the item itself, and its standing, which is that of some accepted bids in range
pub record ItemRowFits (bands : List Band) (row : ItemRow) : Type 0 where
  pub item : ItemFits row.item
  -- some bids of which the row keeps the standing, whichever they are
  pub bids : List Bid
  pub accepted : AreAccepted bands (row_opening row) bids
  pub few : length bids ≤ most_bids
  pub is_consistent : row.standing ≡ standing_of bands (row_opening row) bids
  pub top : IfSome row.standing.top (λ amount. amount ≤ most_cents)
  pub reserve : ReserveFits row.item.terms.start row.item.terms.buy_now row.standing.reserve
  pub count : row.item.terms.count ≡ length bids
  -- what everybody sees of the row
  pub report : IsByBids row ⊎ IsBought row

-- by the item's own band table
abbrev pub FitsBy : BandTables → ItemRow → Type 0
FitsBy editions row = ItemRowFits (bands_in editions row.item.terms.item) row

abbrev pub RowFits : Tables → ItemRow → Type 0
RowFits t row = FitsBy (band_tables t) row

-- each has the next number
abbrev pub AreInTurn : {A : Type 0} → (A → ℕ) → ℕ → List A → Type 0
AreInTurn number next [] = Unit {0}
AreInTurn number next (x ∷ xs) = (number x ≡ next) × AreInTurn number (next + 1) xs

-- every row fits, numbers run from 1 on, and there are no more rows than there may be. That a row names rows which are there
-- isn't asked: look-ups are defined without it
pub record AreSound (t : Tables) : Type 0 where
  pub clock : IsMoment t.clock
  pub members : AllByRecursion MemberFits t.members
  pub members_in_turn : AreInTurn (λ m. m.member) 1 t.members
  pub few_members : length t.members ≤ most_members
  pub categories : AllByRecursion CategoryFits t.categories
  pub categories_in_turn : AreInTurn (λ k. k.category) 1 t.categories
  pub few_categories : length t.categories ≤ most_categories
  pub items : AllByRecursion (RowFits t) t.items
  pub items_in_turn : AreInTurn (λ row. row.item.terms.item) 1 t.items
  pub few_items : length t.items ≤ most_items
  pub bids : AllByRecursion BidRowFits t.bids
  pub watches : AllByRecursion WatchRowFits t.watches
  pub few_watches : (m : ℕ) → counted (λ w. w.member == m) t.watches ≤ most_watches
  pub questions : AllByRecursion QuestionFits t.questions
  pub feedback : AllByRecursion FeedbackFits t.feedback
  pub editions : AllByRecursion EditionFits t.editions
  pub editions_in_turn : AreInTurn (λ e. e.edition) 2 t.editions
  pub few_editions : length t.editions < most_editions

-- the tables are sound, and these are their band tables
pub record AreSoundBy (editions : BandTables) (t : Tables) : Type 0 where
  pub sound : AreSound t
  pub same : editions ≡ band_tables t

-- Store comes exactly where the keep is failed as the call ends, and Damaged only where a row doesn't fit
pub record Faults {A : Type 0} (result : Result A KeepFault) (is_honest : Type 0) (is_failed : Bool) (content : Tables) : Type 0 where
  pub store : IsErrOf result Store ↔ (is_failed ≡ true)
  pub damaged : is_honest → AreSound content → ¬ (IsErrOf result Damaged)

-- a call that only reads leaves the tables, and a crash leaves what it could have left before. Failed stays, and what is
-- honest after a call was so before
pub record IsRead {K : Type 0} (content : K → Tables) (is_failed : K → Bool) (is_honest : K → Type 0) (may_leave : K → Tables → Type 0) (old new : K) : Type 0 where
  pub same : is_honest new → is_failed new ≡ false → content new ≡ content old
  pub honest : is_honest new → is_honest old
  pub stays : is_failed old ≡ true → is_failed new ≡ true
  pub crash : is_honest new → (t : Tables) → may_leave new t → may_leave old t
