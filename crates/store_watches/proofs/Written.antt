-- What the changes of watches make of the tables.
use Rattle.std.proofs.Common.{ℕ, refl, ◌∙◌, arith}
use Rattle.sqlite.specs.Effect.{Database}
use Rattle.house_rows.specs.Changed.{changed}
use Rattle.house_rows.specs.History.{put_by}
use Rattle.house_rows.specs.Watches.{WatchRow, unwatched, watch_key}
use Rattle.house_rows.specs.declared.change.Change.TheVariants.{Unwatch, Watch}
use Rattle.store_rows.specs.House.{AddsWatch, RemovesWatch}
use Rattle.store_rows.specs.Tables.{IsNumbered, Changes, tables_in}
use Rattle.store_watches.proofs.SortedWatches.{adds_watch_sorted, removes_watch_sorted}
use Rattle.store_rows.proofs.Made.{Makes, makes_both, other, same_houses, same_later_bands, same_reserves, same_version, stays_numbered, same_people}

pub cuts_watch : (member item : ℕ) (old new : Database) → IsNumbered old.trees → RemovesWatch member item old new → Makes (λ t. record t { watches = unwatched member item t.watches }) old new
unfolding tables_in
cuts_watch member item old new was w =
    let d = w.others.1.1.1.1.1.0 (other 8 10 refl) in
    let q = w.others.1.1.1.1.1.1.1.0 (other 12 10 refl) in
    let f = w.others.1.1.1.1.1.1.1.1.0 (other 14 10 refl) in
    record {
      house = w.house;
      schema = w.schema;
      numbered = stays_numbered 10 old new (omega arith, omega arith) was w.others;
      tables = same_people 10 old new (omega arith, omega arith) was w.others ∙ rw (d, q, f, removes_watch_sorted member item old new w) refl;
    }

pub adds_watch : (watch : WatchRow) (old new : Database) → IsNumbered old.trees → AddsWatch watch old new → Makes (λ t. record t { watches = put_by watch_key watch t.watches }) old new
unfolding tables_in
adds_watch watch old new was w =
    let d = w.others.1.1.1.1.1.0 (other 8 10 refl) in
    let q = w.others.1.1.1.1.1.1.1.0 (other 12 10 refl) in
    let f = w.others.1.1.1.1.1.1.1.1.0 (other 14 10 refl) in
    record {
      house = w.house;
      schema = w.schema;
      numbered = stays_numbered 10 old new (omega arith, omega arith) was w.others;
      tables = same_people 10 old new (omega arith, omega arith) was w.others ∙ rw (d, q, f, adds_watch_sorted watch old new w) refl;
    }

pub unwatches : (member item : ℕ) (old new : Database) → IsNumbered old.trees → RemovesWatch member item old new → Changes (Unwatch member item) old new
unfolding changed
unwatches member item old new was w = let it = cuts_watch member item old new was w in record { house = it.house; schema = it.schema; numbered = it.numbered; version = same_version 10 old new (omega arith) w.others; other_houses = same_houses 10 old new (omega arith) w.others; tables = it.tables; reserves = same_reserves 10 old new (omega arith) w.others; later_bands = same_later_bands 10 old new (omega arith) w.others }

pub watches : (member item : ℕ) (old mid new : Database) → IsNumbered old.trees → RemovesWatch member item old mid → AddsWatch (record { member = member; item = item }) mid new → Changes (Watch member item) old new
unfolding changed
watches member item old mid new was one two =
    let cut = cuts_watch member item old mid was one in
    let put = adds_watch (record { member = member; item = item }) mid new cut.numbered two in
    let it = makes_both _ _ old mid new cut put in
    record { house = it.house; schema = it.schema; numbered = it.numbered; version = same_version 10 mid new (omega arith) two.others ∙ same_version 10 old mid (omega arith) one.others; other_houses = same_houses 10 mid new (omega arith) two.others ∙ same_houses 10 old mid (omega arith) one.others; tables = it.tables; reserves = same_reserves 10 mid new (omega arith) two.others ∙ same_reserves 10 old mid (omega arith) one.others; later_bands = same_later_bands 10 mid new (omega arith) two.others ∙ same_later_bands 10 old mid (omega arith) one.others }
