-- What the statements on items mean.
use Rattle.std.proofs.Common.{◌≡◌, refl, List, [], ◌∷◌, ℕ, pos, codes, false, Bool}
use Rattle.sqlite_value.specs.declared.value.Value.TheVariants.{Null, Int}
use Rattle.sqlite.specs.Term.{Term, lit, col, op2}
use Rattle.sqlite.specs.Source.TheVariants.{Values}
use Rattle.sqlite.specs.Command.TheVariants.{Insert, Select, Update}
use Rattle.sqlite.specs.Listing.{understood, reads_listing}
use Rattle.sqlite.proofs.Callers.{IsPlain, command_of}
use Rattle.sqlite_tied.specs.Compute.{everything}
use Rattle.sqlite_value.specs.declared.keys.Collation.TheVariants.{Binary}
use Rattle.sqlite_sql.specs.declared.ops.BinaryOp.TheVariants.{Compare}
use Rattle.sqlite_sql.specs.declared.ops.CompareOp.TheVariants.{Eq}
use Rattle.store_rows.specs.Schema.{house_by}
use Rattle.store_rows.specs.Plain.{plain_query}
use Rattle.store_rows.proofs.Select.{by_rowid, equals}

-- ---- reads

abbrev pub item_at_text : List ℕ
item_at_text = codes "SELECT id, seller, category, start, buy_now, ending, state, closed, price, leader, count, lot, title, body, top, second FROM item WHERE id = ?1 ORDER BY id"

abbrev pub auction_at_text : List ℕ
auction_at_text = codes "SELECT id, seller, category, start, buy_now, ending, state, closed, price, leader, count, top, second FROM item WHERE id = ?1 ORDER BY id"

abbrev pub with_lot_text : List ℕ
with_lot_text = codes "SELECT id FROM item WHERE seller = ?1 AND lot = ?2 ORDER BY id"

abbrev pub all_items_text : List ℕ
all_items_text = codes "SELECT id, seller, category, start, buy_now, ending, state, closed, price, leader, count, lot, title, body, top, second FROM item ORDER BY id"

abbrev pub item_shown : List Term
item_shown =
    col 1 0 ∷ col 1 2 ∷ col 1 3 ∷ col 1 7 ∷ col 1 8 ∷ col 1 9 ∷ col 1 10 ∷ col 1 11 ∷ col 1 12 ∷ col 1 13 ∷ col 1 16 ∷ col 1 4 ∷ col 1 5 ∷ col 1 6 ∷ col 1 14 ∷ col 1 15 ∷ []

abbrev pub terms_shown : List Term
terms_shown = col 1 0 ∷ col 1 2 ∷ col 1 3 ∷ col 1 7 ∷ col 1 8 ∷ col 1 9 ∷ col 1 10 ∷ col 1 11 ∷ col 1 12 ∷ col 1 13 ∷ col 1 16 ∷ col 1 14 ∷ col 1 15 ∷ []

-- of this seller and with this lot
abbrev pub by_lot : List Term
by_lot = equals 2 ∷ op2 (Compare Eq Binary) (col 1 4) (col 0 1) ∷ []

abbrev terms_names : List (List ℕ)
terms_names =
    codes "id" ∷ codes "seller" ∷ codes "category" ∷ codes "start" ∷ codes "buy_now" ∷ codes "ending" ∷ codes "state" ∷ codes "closed" ∷ codes "price" ∷ codes "leader" ∷ codes "count"
    ∷ codes "top" ∷ codes "second" ∷ []

abbrev item_names : List (List ℕ)
item_names =
    codes "id" ∷ codes "seller" ∷ codes "category" ∷ codes "start" ∷ codes "buy_now" ∷ codes "ending" ∷ codes "state" ∷ codes "closed" ∷ codes "price" ∷ codes "leader" ∷ codes "count"
    ∷ codes "lot" ∷ codes "title" ∷ codes "body" ∷ codes "top" ∷ codes "second" ∷ []

pub item_at_is : (b : Bool) → (command_of (understood (house_by b) item_at_text) ≡ Select (record { lets = []; body = plain_query 6 (equals 0 ∷ []) item_shown by_rowid }) item_names)
    × (reads_listing (house_by b) item_at_text ≡ false) × IsPlain (understood (house_by b) item_at_text)
unfolding understood everything
item_at_is b = (refl, refl, (refl, refl))

pub auction_at_is : (b : Bool) → (command_of (understood (house_by b) auction_at_text) ≡ Select (record { lets = []; body = plain_query 6 (equals 0 ∷ []) terms_shown by_rowid }) terms_names)
    × (reads_listing (house_by b) auction_at_text ≡ false) × IsPlain (understood (house_by b) auction_at_text)
unfolding understood everything
auction_at_is b = (refl, refl, (refl, refl))

pub with_lot_is : (b : Bool) → (command_of (understood (house_by b) with_lot_text) ≡ Select (record { lets = []; body = plain_query 6 by_lot (col 1 0 ∷ []) by_rowid }) (codes "id" ∷ []))
    × (reads_listing (house_by b) with_lot_text ≡ false) × IsPlain (understood (house_by b) with_lot_text)
unfolding understood everything
with_lot_is b = (refl, refl, (refl, refl))

pub all_items_is : (b : Bool) → (command_of (understood (house_by b) all_items_text) ≡ Select (record { lets = []; body = plain_query 6 [] item_shown by_rowid }) item_names)
    × (reads_listing (house_by b) all_items_text ≡ false) × IsPlain (understood (house_by b) all_items_text)
unfolding understood everything
all_items_is b = (refl, refl, (refl, refl))

-- ---- writes

abbrev pub put_item_text : List ℕ
put_item_text = codes "INSERT INTO item (id, seller, category, lot, title, body, start, buy_now, ending, state, closed, price, leader, top, second, count) VALUES (?1, ?2, ?3, ?4, ?5, ?6, ?7, ?8, ?9, 0, NULL, ?7, NULL, NULL, NULL, 0)"

abbrev pub set_standing_text : List ℕ
set_standing_text = codes "UPDATE item SET price = ?2, leader = ?3, top = ?4, second = ?5, count = ?6 WHERE id = ?1"

abbrev pub set_bought_text : List ℕ
set_bought_text = codes "UPDATE item SET state = 1, closed = ?2, price = ?3, leader = ?4 WHERE id = ?1"

abbrev pub set_closed_text : List ℕ
set_closed_text = codes "UPDATE item SET state = ?2, closed = ending WHERE id = ?1"

abbrev pub set_settled_text : List ℕ
set_settled_text = codes "UPDATE item SET state = 3 WHERE id = ?1"

abbrev pub put_terms : List Term
put_terms =
    col 0 0 ∷ lit Null ∷ col 0 1 ∷ col 0 2 ∷ col 0 3 ∷ col 0 4 ∷ col 0 5 ∷ col 0 6 ∷ col 0 7 ∷ col 0 8 ∷ lit (Int (pos 0)) ∷ lit Null ∷ col 0 6 ∷ lit Null ∷ lit Null ∷ lit Null ∷ lit (Int (pos 0)) ∷ []

-- the whole new rows
abbrev pub standing_set : List Term
standing_set =
    col 1 0 ∷ lit Null ∷ col 1 2 ∷ col 1 3 ∷ col 1 4 ∷ col 1 5 ∷ col 1 6 ∷ col 1 7 ∷ col 1 8 ∷ col 1 9 ∷ col 1 10 ∷ col 1 11 ∷ col 0 1 ∷ col 0 2 ∷ col 0 3 ∷ col 0 4 ∷ col 0 5 ∷ []

abbrev pub bought_set : List Term
bought_set =
    col 1 0 ∷ lit Null ∷ col 1 2 ∷ col 1 3 ∷ col 1 4 ∷ col 1 5 ∷ col 1 6 ∷ col 1 7 ∷ col 1 8 ∷ col 1 9 ∷ lit (Int (pos 1)) ∷ col 0 1 ∷ col 0 2 ∷ col 0 3 ∷ col 1 14 ∷ col 1 15 ∷ col 1 16 ∷ []

abbrev pub closed_set : List Term
closed_set =
    col 1 0 ∷ lit Null ∷ col 1 2 ∷ col 1 3 ∷ col 1 4 ∷ col 1 5 ∷ col 1 6 ∷ col 1 7 ∷ col 1 8 ∷ col 1 9 ∷ col 0 1 ∷ col 1 9 ∷ col 1 12 ∷ col 1 13 ∷ col 1 14 ∷ col 1 15 ∷ col 1 16 ∷ []

abbrev pub settled_set : List Term
settled_set =
    col 1 0 ∷ lit Null ∷ col 1 2 ∷ col 1 3 ∷ col 1 4 ∷ col 1 5 ∷ col 1 6 ∷ col 1 7 ∷ col 1 8 ∷ col 1 9 ∷ lit (Int (pos 3)) ∷ col 1 11 ∷ col 1 12 ∷ col 1 13 ∷ col 1 14 ∷ col 1 15 ∷ col 1 16 ∷ []

pub put_item_is : (b : Bool) → (command_of (understood (house_by b) put_item_text) ≡ Insert 4 (Values put_terms 17)) × IsPlain (understood (house_by b) put_item_text)
unfolding understood everything
put_item_is b = (refl, (refl, refl))

pub set_standing_is : (b : Bool) → (command_of (understood (house_by b) set_standing_text) ≡ Update 4 (record { lets = []; body = plain_query 6 (equals 0 ∷ []) (col 1 0 ∷ standing_set) [] })) × IsPlain (understood (house_by b) set_standing_text)
unfolding understood everything
set_standing_is b = (refl, (refl, refl))

pub set_bought_is : (b : Bool) → (command_of (understood (house_by b) set_bought_text) ≡ Update 4 (record { lets = []; body = plain_query 6 (equals 0 ∷ []) (col 1 0 ∷ bought_set) [] })) × IsPlain (understood (house_by b) set_bought_text)
unfolding understood everything
set_bought_is b = (refl, (refl, refl))

pub set_closed_is : (b : Bool) → (command_of (understood (house_by b) set_closed_text) ≡ Update 4 (record { lets = []; body = plain_query 6 (equals 0 ∷ []) (col 1 0 ∷ closed_set) [] })) × IsPlain (understood (house_by b) set_closed_text)
unfolding understood everything
set_closed_is b = (refl, (refl, refl))

pub set_settled_is : (b : Bool) → (command_of (understood (house_by b) set_settled_text) ≡ Update 4 (record { lets = []; body = plain_query 6 (equals 0 ∷ []) (col 1 0 ∷ settled_set) [] })) × IsPlain (understood (house_by b) set_settled_text)
unfolding understood everything
set_settled_is b = (refl, (refl, refl))
