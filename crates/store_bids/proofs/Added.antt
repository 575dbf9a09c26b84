-- What the tables of a house are after a new bid.
use Rattle.std.proofs.Common.{◌≡◌, refl, arith}
use Rattle.sqlite.specs.Effect.{Database}
use Rattle.house_rows.specs.Bids.{BidRow, bid_key}
use Rattle.house_rows.specs.History.{put_by}
use Rattle.store_rows.specs.House.{AddsBid}
use Rattle.store_rows.specs.Tables.{IsNumbered, house_row_in, settings_in, tables_in}
use Rattle.store_rows.proofs.Clock.{Holds}
use Rattle.store_bids.proofs.SortedBids.{adds_bid_sorted}

pub bid_added : (bid : BidRow) (old new : Database) → IsNumbered old.trees → AddsBid bid old new → Holds (record (tables_in old.trees) { bids = put_by bid_key bid (tables_in old.trees).bids }) new
unfolding tables_in settings_in house_row_in
bid_added bid old new numbered w =
    let house : new.trees 0 ≡ old.trees 0 = w.others.0 (λ e. omega (arith, e)) in
    let bands : new.trees 1 ≡ old.trees 1 = w.others.1.0 (λ e. omega (arith, e)) in
    let members : new.trees 2 ≡ old.trees 2 = w.others.1.1.0 (λ e. omega (arith, e)) in
    let categories : new.trees 4 ≡ old.trees 4 = w.others.1.1.1.0 (λ e. omega (arith, e)) in
    let items : new.trees 6 ≡ old.trees 6 = w.others.1.1.1.1.0 (λ e. omega (arith, e)) in
    let watches : new.trees 10 ≡ old.trees 10 = w.others.1.1.1.1.1.1.0 (λ e. omega (arith, e)) in
    let questions : new.trees 12 ≡ old.trees 12 = w.others.1.1.1.1.1.1.1.0 (λ e. omega (arith, e)) in
    let feedback : new.trees 14 ≡ old.trees 14 = w.others.1.1.1.1.1.1.1.1.0 (λ e. omega (arith, e)) in
    let reserves : new.trees 23 ≡ old.trees 23 = w.others.1.1.1.1.1.1.1.1.1.0 (λ e. omega (arith, e)) in
    let editions : new.trees 24 ≡ old.trees 24 = w.others.1.1.1.1.1.1.1.1.1.1.0 (λ e. omega (arith, e)) in
    let later_bands : new.trees 25 ≡ old.trees 25 = w.others.1.1.1.1.1.1.1.1.1.1.1.0 (λ e. omega (arith, e)) in
    record {
      tables = rw (house, bands, members, categories, items, reserves, adds_bid_sorted bid old new w, watches, questions, feedback, editions, later_bands) refl;
      numbered = record {
        house = rw house numbered.house;
        members = rw members numbered.members;
        categories = rw categories numbered.categories;
        items = rw (items, reserves) numbered.items;
        reserves = rw (items, reserves) numbered.reserves;
        editions = rw editions numbered.editions;
        later_bands = rw (editions, later_bands) numbered.later_bands;
      };
    }
