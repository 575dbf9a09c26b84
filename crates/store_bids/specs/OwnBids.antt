-- What a member has bid, item by item.
use Rattle.std.specs.Prelude.{if◌then◌else◌, ℕ, ◌+◌, ◌^◌, List, [], ◌∷◌, ◌==◌, ◌&&◌, filter, flat_map, map, nat_le, nat_lt, option_map}
use Rattle.sqlite_trees.specs.Tree.{Trees}
use Rattle.proxy.specs.Bids.{is_leader}
use Rattle.house_rows.specs.Bids.{BidRow}
use Rattle.house_rows.specs.Found.{own_bid, row_at}
use Rattle.house_rows.specs.Tables.{ItemRow, Tables}
use Rattle.house_rows.specs.declared.item.OwnBest.{OwnBest}
use Rattle.house_rows.specs.declared.item.OwnBid.{OwnBid}
use Rattle.house_rows.specs.declared.item.Terms.{Terms}
use Rattle.store_rows.specs.Joined.{found_of}
use Rattle.store_rows.specs.Sorted.{sorted_bids}
use Rattle.store_rows.specs.Tables.{tables_in}

-- the items of a member's bids, as often as it has bid on each; what is no number of ours is left out
abbrev pub items_bid_on : List BidRow → ℕ → List ℕ
items_bid_on bids member = map (λ (b : BidRow). b.item) (filter (λ b. (b.bid.member == member) && nat_lt b.item (2 ^ 32)) bids)

-- of some numbers those that are at least one, and each greater than the one before
abbrev pub numbers_from : ℕ → List ℕ → List ℕ
numbers_from least [] = []
numbers_from least (n ∷ ns) = if nat_le least n then n ∷ numbers_from (n + 1) ns else numbers_from least ns

-- the number after the last of some
abbrev pub rest_after : ℕ → List ℕ → ℕ
rest_after least [] = least
rest_after least (n ∷ ns) = rest_after (n + 1) ns

-- what the terms of an item and a member's best bid there say
abbrev pub bid_reported : ℕ → OwnBest → Terms → OwnBid
bid_reported member best t = record {
  item = t.item;
  leading = is_leader t.leader member;
  maximum = best.maximum;
  mine = best.mine;
  price = t.price;
  state = t.state;
}

-- what a member has bid on the item of a number, if it has
abbrev pub own_found : Tables → ℕ → ℕ → List OwnBid
own_found t member item = filter (λ b. nat_lt 0 b.mine)
    (found_of (option_map (λ (row : ItemRow). own_bid t member row.item) (row_at t item)))

-- the items on which a member has bid, from a number on
abbrev pub own_items : Trees → ℕ → ℕ → List ℕ
own_items db member from = numbers_from from (items_bid_on (sorted_bids db) member)

-- what it has bid on each of them that is there
abbrev pub found_from : Trees → ℕ → ℕ → List OwnBid
found_from db member from = flat_map (own_found (tables_in db) member) (own_items db member from)
