-- What the list of a member's bids means and finds.
use Rattle.std.proofs.Common.{◌≡◌, ◌==◌, ◌<◌, ◌^◌, ◌&&◌, ℕ, pos, true, false, not, List, [], ◌∷◌, map, filter, codes, eqb, refl, ap, subst, sym, ◌∙◌, arith, Bool}
use Rattle.std.specs.List.{AllByRecursion}
use Rattle.sqlite_value.specs.declared.value.Value.TheVariants.{Null, Int}
use Rattle.sqlite_value.specs.Keys as keys
use Rattle.sqlite_value.specs.Order.{Row, column}
use Rattle.sqlite_schema.specs.Rules.{clashes}
use Rattle.sqlite_schema.specs.declared.schema.Constraint.TheVariants.{Unique}
use Rattle.sqlite_catalog.specs.Listing.{IsSound}
use Rattle.sqlite_sql.specs.Program.{overlay}
use Rattle.sqlite_keyed.proofs.ListLemmas.{all-filter, all_both, all_unmap, all_weaker}
use Rattle.sqlite_keyed.proofs.RuleLemmas.{first_of_both, second_of_both}
use Rattle.sqlite.specs.Command.TheVariants.{Select}
use Rattle.sqlite.specs.Effect.{Database}
use Rattle.sqlite.specs.Listing.{understood, reads_listing}
use Rattle.sqlite.specs.State.{State, Shown}
use Rattle.sqlite.proofs.Callers.{IsPlain, command_of, reads_as}
use Rattle.sqlite_tied.specs.Compute.{everything}
use Rattle.proxy.specs.declared.bid.Bid.{Bid}
use Rattle.house_rows.specs.Bids.{BidRow, bid_key}
use Rattle.house_rows.specs.Fits.{BidRowFits}
use Rattle.store_rows.specs.Fitting.{BidFits}
use Rattle.store_rows.specs.Schema.{house_by}
use Rattle.store_rows.specs.House.{IsHouse}
use Rattle.store_rows.specs.Plain.{plain_query, passes}
use Rattle.store_rows.specs.Rows.{number_in, bid_in, bid_of, bids_in}
use Rattle.store_bids.proofs.BidLemmas.{IsBid, are_bids}
use Rattle.store_bids.proofs.BidMeaning.{bid_shown, by_member_on_item}
use Rattle.store_rows.proofs.RowLemmas.{equals_number, alone}
use Rattle.store_rows.proofs.Select.{IsListOf, listed}
use Rattle.store_rows.proofs.Update.{numbered_passes}
use Rattle.store_rows.specs.Sorted.{sorted_bids}
use Rattle.store_rows.proofs.Apart.{keys_apart}
use Rattle.store_rows.proofs.PairKeys.{HasPair, pair_agrees, pair_rises, two_columns}
use Rattle.store_rows.proofs.Shown.{kept_fits, shown_fits, parts_by_key}
use Rattle.store_rows.proofs.TextLemmas.{same_number}

abbrev pub bids_text : List ℕ
bids_text = codes "SELECT item, no, member, maximum FROM bid WHERE member = ?1 AND item = ?2 ORDER BY item, no"

pub bids_is : (b : Bool) → (command_of (understood (house_by b) bids_text)
    ≡ Select (record { lets = []; body = plain_query 8 by_member_on_item bid_shown two_columns }) (codes "item" ∷ codes "no" ∷ codes "member" ∷ codes "maximum" ∷ []))
    × (reads_listing (house_by b) bids_text ≡ false) × IsPlain (understood (house_by b) bids_text)
unfolding understood everything
bids_is b = (refl, refl, (refl, refl))

abbrev Pair : Row → Type 0
Pair r = HasPair (bid_key (bid_in r)) r

pub unique : (db : Database) → IsHouse db → AllByRecursion (λ s. not (clashes keys.plain (1 ∷ 2 ∷ []) (db.trees 8) s) ≡ true) (db.trees 8)
unique db house =
    let rows = db.trees 8 in
    let sound = subst (λ h. IsSound h db.trees) house.schema house.sound in
    all_weaker _ (λ s. not (clashes keys.plain (1 ∷ 2 ∷ []) rows s) ≡ true) (λ s h. first_of_both (not (clashes keys.plain (1 ∷ 2 ∷ []) rows s)) _ h) rows (sound.obeys.rules Unique).1.1.1.1.1.0

-- a bid without its item, as it is shown
abbrev pub bid_alone : Row → Bid
bid_alone r = (bid_of r).bid

module _ (member item : ℕ) (low : member < 2 ^ 32) (small : item < 2 ^ 32) (old new : State) (answer : List Row) (house : IsHouse old.now) (h : Shown bids_text (Int (pos member) ∷ Int (pos item) ∷ []) old new answer) where
  abbrev table : List Row
  table = old.now.trees 8

  abbrev params : Row
  params = Int (pos member) ∷ Int (pos item) ∷ []

  listing : IsListOf table by_member_on_item bid_shown two_columns params answer
  listing = listed 8 by_member_on_item bid_shown two_columns (overlay old.now.trees []) params answer ((reads_as bids_text params old new _ house.schema _ (bids_is _).0 (bids_is _).2 (bids_is _).1 answer h).answer Null)

  tests : (r : Row) → IsBid r → passes by_member_on_item params r ≡ ((bid_in r).bid.member == member) && ((bid_in r).item == item)
  tests r is = rw (equals_number (column r 3) member is.1 low, equals_number (column r 1) item is.0 small) (ap (λ b. eqb (number_in (column r 3)) member && b) (alone _))

  fits_alone : (b : BidRow) → BidRowFits b → BidFits b.bid
  fits_alone b fits = record { member = fits.member; maximum = fits.maximum; number = fits.number }

  abbrev IsHere : BidRow → Type 0
  IsHere b = b.bid.member ≡ member → b.item ≡ item → BidRowFits b

  abbrev IsHereBid : Row → Type 0
  IsHereBid r = IsBid r × IsHere (bid_in r)

  one_fits : (r : Row) → IsHereBid r → passes by_member_on_item params r ≡ true → BidFits (bid_in r).bid
  one_fits r is p =
      let both = sym (tests r is.0) ∙ p in
      let mine = same_number (number_in (column r 3)) member (first_of_both (eqb (number_in (column r 3)) member) (eqb (number_in (column r 1)) item) both) in
      let here = same_number (number_in (column r 1)) item (second_of_both (eqb (number_in (column r 3)) member) (eqb (number_in (column r 1)) item) both) in
      fits_alone (bid_in r) (is.1 mine here)

  pub bids_fit : AllByRecursion IsHere (bids_in old.now.trees) → AllByRecursion BidFits (map bid_alone answer)
  bids_fit fits =
      let passing = passes by_member_on_item params in
      let here = all_both IsBid (λ r. IsHere (bid_in r)) IsHereBid (λ r is fit. (is, fit)) table (are_bids old.now house) (all_unmap IsHere bid_in table fits) in
      shown_fits by_member_on_item bid_shown two_columns params table answer listing bid_alone (λ r. (bid_in r).bid) (λ r. refl) BidFits
      (all_both IsHereBid (λ r. passing r ≡ true) (λ r. BidFits (bid_in r).bid) one_fits (filter passing table) (all-filter IsHereBid passing table here) (numbered_passes passing table))

  item_low : (r : Row) → IsBid r → passes by_member_on_item params r ≡ true → number_in (column r 1) < 2 ^ 32
  item_low r is p =
      let e = same_number (number_in (column r 1)) item (second_of_both (eqb (number_in (column r 3)) member) (eqb (number_in (column r 1)) item) (sym (tests r is) ∙ p)) in
      omega (arith, e, small)

  has_pair : (r : Row) → BidFits (bid_in r).bid → number_in (column r 1) < 2 ^ 32 → Pair r
  has_pair r fits first = record { is = refl; first = first; second = omega (arith, fits.number.1) }

  pub bids_shown : AllByRecursion BidFits (map bid_alone answer)
      → map bid_alone answer ≡ map (λ (b : BidRow). b.bid) (filter (λ b. (b.bid.member == member) && (b.item == item)) (sorted_bids old.now.trees))
  bids_shown fits =
      let passing = passes by_member_on_item params in
      let kept = filter passing table in
      let bids = kept_fits by_member_on_item bid_shown two_columns params table answer listing bid_alone (λ r. (bid_in r).bid) (λ r. refl) BidFits fits in
      let items = all_both IsBid (λ r. passing r ≡ true) (λ r. number_in (column r 1) < 2 ^ 32) item_low kept (all-filter IsBid passing table (are_bids old.now house)) (numbered_passes passing table) in
      let pairs = all_both (λ r. BidFits (bid_in r).bid) (λ r. number_in (column r 1) < 2 ^ 32) Pair has_pair kept bids items in
      parts_by_key by_member_on_item bid_shown two_columns params table answer listing bid_key bid_in bid_alone (λ (b : BidRow). b.bid) (λ b. (b.bid.member == member) && (b.item == item)) IsBid Pair (λ r. refl) tests
      (are_bids old.now house) (pair_rises bid_key bid_in by_member_on_item bid_shown params) pairs
      (keys_apart bid_key bid_in (1 ∷ 2 ∷ []) Pair (pair_agrees bid_key bid_in) table house.shaped.1.1.1.1.1.0 (unique old.now house) passing pairs)
