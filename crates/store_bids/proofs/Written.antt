-- The writes of a bid, put together.
use Rattle.std.proofs.Common.{◌≡◌, ℕ, List, map, ap, sym, subst₂, ◌∙◌, arith}
use Rattle.std.specs.Prelude.{All, is_some, true}
use Rattle.sqlite_value.specs.Order.{Row}
use Rattle.sqlite.specs.Effect.{Database}
use Rattle.proxy.specs.Kept.{Kept, opening_of}
use Rattle.proxy.specs.declared.bid.Bid.{Bid}
use Rattle.house_rows.specs.Changed.{changed, is_item, with_standing}
use Rattle.house_rows.specs.declared.change.Change.TheVariants as change
use Rattle.house_rows.specs.Tables.{ItemRow, Tables}
use Rattle.house_rows.proofs.ChangedRows.{standing_number}
use Rattle.store_rows.specs.House.{AddsBid, SetsClock}
use Rattle.store_rows.specs.ItemRows.{item_row_in}
use Rattle.store_rows.specs.Rows.{reserve_in}
use Rattle.store_items.specs.Items.{OfItem, SetsStanding, StartsAt}
use Rattle.store_rows.specs.Tables.{Changes, IsNumbered}
use Rattle.store_rows.proofs.Made.{houses_then_clock, same_houses, same_later_bands, same_reserves, same_version, version_then_clock}
use Rattle.store_bids.proofs.Added.{bid_added}
use Rattle.store_items.proofs.ItemsSet.{items_then_clock}

-- a bid leaves the items and the reserves
still_of_item : (item : ℕ) (P : ItemRow → Type 0) (old new : Database) → new.trees 6 ≡ old.trees 6 → new.trees 23 ≡ old.trees 23 → OfItem item P old → OfItem item P new
still_of_item item P old new same sealed all = subst₂ (λ (rows sealed : List Row). All (λ row. is_item item row ≡ true → P row) (map (item_row_in (map reserve_in sealed)) rows)) (sym same) (sym sealed) all

pub bids : (moment item : ℕ) (placed : Bid) (kept : Kept) (old mid last new : Database) → IsNumbered old.trees → is_some kept.top ≡ is_some kept.leader → OfItem item (StartsAt (opening_of kept)) old
    → AddsBid (record { item = item; bid = placed }) old mid → SetsStanding item kept mid last → SetsClock moment last new → Changes (change.Bid moment item placed kept) old new
unfolding changed
bids moment item placed kept old mid last new numbered led starts adds sets clock =
    let begin = still_of_item item (StartsAt (opening_of kept)) old mid (adds.others.1.1.1.1.0 (λ e. omega (arith, e))) (adds.others.1.1.1.1.1.1.1.1.1.0 (λ e. omega (arith, e))) starts in
    let one = bid_added (record { item = item; bid = placed }) old mid numbered adds in
    let two = items_then_clock (with_standing item kept) moment mid last new (standing_number item kept) one.numbered (record { house = sets.house; schema = sets.schema; others = sets.others; items = sets.items led begin }) clock in
    record { house = clock.house; schema = clock.schema ∙ sets.schema ∙ adds.schema; numbered = two.numbered; version = version_then_clock 6 moment mid last new (omega arith) sets.others clock ∙ same_version 8 old mid (omega arith) adds.others; other_houses = houses_then_clock 6 moment mid last new (omega arith) sets.others clock ∙ same_houses 8 old mid (omega arith) adds.others; tables = two.tables ∙ ap (λ (t : Tables). record t { clock = moment; items = map (with_standing item kept) t.items }) one.tables; reserves = same_reserves 0 last new (omega arith) clock.others ∙ same_reserves 6 mid last (omega arith) sets.others ∙ same_reserves 8 old mid (omega arith) adds.others; later_bands = same_later_bands 0 last new (omega arith) clock.others ∙ same_later_bands 6 mid last (omega arith) sets.others ∙ same_later_bands 8 old mid (omega arith) adds.others }
