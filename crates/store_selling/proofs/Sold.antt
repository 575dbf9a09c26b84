-- The writes of a change, put together.
use Rattle.std.proofs.Common.{ℕ, List, ◌∙◌, arith}
use Rattle.sqlite.specs.Effect.{Database}
use Rattle.house_rows.specs.Changed.{changed, with_close, with_purchase, with_settlement}
use Rattle.house_rows.specs.declared.item.Terms.{Terms}
use Rattle.house_rows.specs.declared.change.Change.TheVariants as change
use Rattle.house_rows.proofs.ChangedRows.{close_number, purchase_number, settlement_number}
use Rattle.store_rows.specs.House.{IsHouse, SetsClock}
use Rattle.store_items.specs.Items.{OfItem, SetsBought, SetsSettled, SetsItems}
use Rattle.store_rows.specs.Tables.{Changes, IsNumbered}
use Rattle.store_selling.specs.Sales.{IsDue, with_ends, IsUnbid, StartFits}
use Rattle.store_selling.proofs.Closed.{closes_all}
use Rattle.store_rows.proofs.Made.{houses_then_clock, same_later_bands, same_reserves, version_then_clock}
use Rattle.store_items.proofs.ItemsSet.{items_then_clock}

pub settles : (moment item : ℕ) (old mid new : Database) → IsNumbered old.trees → OfItem item StartFits old → SetsSettled item old mid → SetsClock moment mid new → Changes (change.Settle moment item) old new
unfolding changed
settles moment item old mid new numbered fits sets clock =
    let all = items_then_clock (with_settlement item) moment old mid new (settlement_number item) numbered (record { house = sets.house; schema = sets.schema; others = sets.others; items = sets.items fits }) clock in
    record { house = clock.house; schema = clock.schema ∙ sets.schema; numbered = all.numbered; version = version_then_clock 6 moment old mid new (omega arith) sets.others clock; other_houses = houses_then_clock 6 moment old mid new (omega arith) sets.others clock; tables = all.tables; reserves = same_reserves 0 mid new (omega arith) clock.others ∙ same_reserves 6 old mid (omega arith) sets.others; later_bands = same_later_bands 0 mid new (omega arith) clock.others ∙ same_later_bands 6 old mid (omega arith) sets.others }

pub buys : (moment item buyer price : ℕ) (old mid new : Database) → IsNumbered old.trees → OfItem item IsUnbid old → SetsBought item buyer price moment old mid → SetsClock moment mid new → Changes (change.Buy moment item buyer price) old new
unfolding changed
buys moment item buyer price old mid new numbered fits sets clock =
    let all = items_then_clock (with_purchase item buyer price moment) moment old mid new (purchase_number item buyer price moment) numbered (record { house = sets.house; schema = sets.schema; others = sets.others; items = sets.items fits }) clock in
    record { house = clock.house; schema = clock.schema ∙ sets.schema; numbered = all.numbered; version = version_then_clock 6 moment old mid new (omega arith) sets.others clock; other_houses = houses_then_clock 6 moment old mid new (omega arith) sets.others clock; tables = all.tables; reserves = same_reserves 0 mid new (omega arith) clock.others ∙ same_reserves 6 old mid (omega arith) sets.others; later_bands = same_later_bands 0 mid new (omega arith) clock.others ∙ same_later_bands 6 old mid (omega arith) sets.others }

pub closes : (moment : ℕ) (due : List Terms) (old mid new : Database) → IsHouse old → IsNumbered old.trees → IsDue moment due old.trees → SetsItems (with_ends due) old mid → SetsClock moment mid new → Changes (change.Close moment) old new
unfolding changed
closes moment due old mid new house numbered is sets clock =
    let all = items_then_clock (with_close moment) moment old mid new (close_number moment) numbered (record { house = sets.house; schema = sets.schema; others = sets.others; items = sets.items ∙ closes_all moment due old house is }) clock in
    record { house = clock.house; schema = clock.schema ∙ sets.schema; numbered = all.numbered; version = version_then_clock 6 moment old mid new (omega arith) sets.others clock; other_houses = houses_then_clock 6 moment old mid new (omega arith) sets.others clock; tables = all.tables; reserves = same_reserves 0 mid new (omega arith) clock.others ∙ same_reserves 6 old mid (omega arith) sets.others; later_bands = same_later_bands 0 mid new (omega arith) clock.others ∙ same_later_bands 6 old mid (omega arith) sets.others }
