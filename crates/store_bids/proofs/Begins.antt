-- What look-ups say of an item that is bid on.
use Rattle.proxy.specs.Opening.{Opening}
use Rattle.std.proofs.Common.{◌≡◌, ◌≤◌, ◌+◌, ℕ, Bool, true, ◌&&◌, List, [], find, length, option_map, Option, Some, None, IfSome, refl, sym, ap, ◌∙◌, arith, true≢false}
use Rattle.std.specs.Prelude.{◌==◌, is_some}
use Rattle.std.specs.List.{list_any}
use Rattle.std.specs.Option.{option_eq}
use Rattle.std.proofs.lemmas.List.{length-append}
use Rattle.sqlite_trees.specs.Tree.{Trees}
use Rattle.proxy.specs.Bids.{one_more}
use Rattle.proxy.specs.Kept.{Kept, opening_of}
use Rattle.proxy.specs.Rows.{is_shape, is_standing}
use Rattle.proxy.specs.declared.bid.Bid.{Bid}
use Rattle.proxy.proofs.Shapes.{accepted_shape}
use Rattle.house_rows.specs.Asks.{BidFits}
use Rattle.house_rows.specs.Changed.{is_item}
use Rattle.house_rows.specs.declared.item.Terms.{Terms}
use Rattle.house_rows.specs.Editions.{BandTables, bands_in}
use Rattle.house_rows.specs.Tables.{ItemRow, band_tables, bands_for, row_opening}
use Rattle.house_rows.proofs.ChangedRows.{room_for}
use Rattle.store_rows.specs.ItemRows.{amount_of, items_in}
use Rattle.store_rows.specs.Rows.{reserves_in}
use Rattle.store_rows.specs.Sorted.{sorted_bids}
use Rattle.store_rows.specs.Tables.{tables_in}
use Rattle.store_items.proofs.Rows.{item_there, reserved}

-- a standing after an accepted bid is one, from the start on
pub bid_is_consistent : (db : Trees) (editions : BandTables) (moment item : ℕ) (placed : Bid) (kept : Kept) → editions ≡ band_tables (tables_in db) → BidFits (tables_in db) moment item placed kept
    → is_standing (bands_in editions item) kept ≡ true
bid_is_consistent db editions moment item placed kept same b =
    let bands : List (ℕ × ℕ) = bands_for (tables_in db) item in
    let opening : Opening = row_opening b.row in
    let last = b.accepted b.bids (record { member = placed.member; maximum = placed.maximum; no = length b.bids + 1 }) [] refl in
    let room = room_for bands opening b.bids placed.member placed.maximum last.accepted in
    let few : length (one_more b.bids placed.member placed.maximum) ≤ 10000 = simp length-append (omega (arith, room)) in
    rw (same, b.is_consistent_after) (accepted_shape bands opening (one_more b.bids placed.member placed.maximum) b.accepted few)

pub bid_begins : (db : Trees) (moment item : ℕ) (placed : Bid) (kept : Kept) (t : Terms) → BidFits (tables_in db) moment item placed kept → option_map (λ (row : ItemRow). row.item.terms) (find (is_item item) (items_in db)) ≡ Some t
    → opening_of kept ≡ record { start = t.start; reserve = amount_of (reserves_in db) t.item }
bid_begins db moment item placed kept t b found =
    let there = item_there db item b.row b.row_there in
    let terms : Some b.row.item.terms ≡ Some t = ap (option_map (λ (row : ItemRow). row.item.terms)) (sym there) ∙ found in
    let same : b.row.item.terms ≡ t = cc in
    let sealed : b.row.standing.reserve ≡ amount_of (reserves_in db) b.row.item.terms.item = reserved db item b.row there in
    ap opening_of b.is_consistent_after ∙ ap (λ (r : Option ℕ). record { start = b.row.item.terms.start; reserve = r }) sealed ∙ ap (λ (x : Terms). record { start = x.start; reserve = amount_of (reserves_in db) x.item }) same

-- where a standing begins as a row of its values does, the row gives it
pub row_begun : (bands : List (ℕ × ℕ)) (start : ℕ) (reserve : Option ℕ) (k : Kept) (row : Option Kept) → is_some row ≡ is_shape bands (record { start = start; reserve = reserve }) k.price k.count k.leader k.top k.second
    → IfSome row (λ s. s ≡ record { start = start; reserve = reserve; price = k.price; leader = k.leader; top = k.top; second = k.second; count = k.count })
    → opening_of k ≡ record { start = start; reserve = reserve } → is_standing bands k ≡ true → row ≡ Some k
row_begun bands start reserve k None fits value begins is =
    absurd (true≢false (sym is ∙ ap (λ (o : Opening). is_shape bands o k.price k.count k.leader k.top k.second) begins ∙ sym fits))
row_begun bands start reserve k (Some s) fits value begins is =
    ap Some (value ∙ ap (λ (o : Opening). record { start = o.start; reserve = o.reserve; price = k.price; leader = k.leader; top = k.top; second = k.second; count = k.count }) (sym begins))

-- an optional value is the same as itself
pub same_option : {A : Type 0} (same : A → A → Bool) → ((a : A) → same a a ≡ true) → (o : Option A) → option_eq same o o ≡ true
same_option same all None = refl
same_option same all (Some a) = all a

pub both : {a b : Bool} → a ≡ true → b ≡ true → (a && b) ≡ true
both is that = rw (is, that) refl

pub bids_sorted : (db : Trees) (item number : ℕ) → list_any (λ b. (b.item == item) && (b.bid.no == number)) (sorted_bids db) ≡ list_any (λ b. (b.item == item) && (b.bid.no == number)) (tables_in db).bids
unfolding tables_in
bids_sorted db item number = refl
