-- The best of a member in rows of the database is that in its tables.
use Rattle.std.proofs.Common.{◌≡◌, ℕ, List, map, filter, length, ap, ◌∙◌}
use Rattle.std.specs.Prelude.{◌==◌, ◌&&◌}
use Rattle.std.proofs.lemmas.List.{length-map}
use Rattle.sqlite_trees.specs.Tree.{Trees}
use Rattle.sqlite_keyed.proofs.ListLemmas.{map-map}
use Rattle.proxy.specs.Bids.{greatest_of, maxima}
use Rattle.proxy.specs.declared.bid.Bid.{Bid}
use Rattle.house_rows.specs.Bids.{BidRow}
use Rattle.house_rows.specs.Found.{best_of}
use Rattle.house_rows.specs.declared.item.OwnBest.{OwnBest}
use Rattle.store_rows.specs.Sorted.{sorted_bids}
use Rattle.store_rows.specs.Tables.{tables_in}

pub best_is : (db : Trees) (member item : ℕ) (bids : List Bid) → bids ≡ map (λ (b : BidRow). b.bid) (filter (λ b. (b.bid.member == member) && (b.item == item)) (sorted_bids db))
    → (maximum mine : ℕ) → maximum ≡ greatest_of (maxima bids) → mine ≡ length bids → ◌≡◌ {A = OwnBest} (record { maximum = maximum; mine = mine }) (best_of (tables_in db) member item)
unfolding tables_in
best_is db member item bids is maximum mine most many =
    let rows : List BidRow = filter (λ b. (b.bid.member == member) && (b.item == item)) (sorted_bids db) in
    let greatest = most ∙ ap (λ l. greatest_of (maxima l)) is ∙ ap greatest_of (map-map (λ (b : Bid). b.maximum) (λ (b : BidRow). b.bid) rows) in
    let number = many ∙ ap length is ∙ length-map rows (λ (b : BidRow). b.bid) in
    λ i. record { maximum = greatest i; mine = number i }
