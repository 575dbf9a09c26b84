-- What the lists of items without their texts mean.
use Rattle.std.proofs.Common.{◌≡◌, refl, List, [], ◌∷◌, ℕ, pos, codes, false, Bool}
use Rattle.sqlite_value.specs.declared.value.Value.TheVariants.{Int}
use Rattle.sqlite_value.specs.declared.keys.Collation.TheVariants.{Binary}
use Rattle.sqlite_sql.specs.Term.{Term, lit, col, op2}
use Rattle.sqlite_sql.specs.declared.ops.BinaryOp.TheVariants.{Compare}
use Rattle.sqlite_sql.specs.declared.ops.CompareOp.TheVariants.{Eq, Ge, Le}
use Rattle.sqlite.specs.Command.TheVariants.{Select}
use Rattle.sqlite.specs.Listing.{understood, reads_listing}
use Rattle.sqlite.proofs.Callers.{IsPlain, command_of}
use Rattle.sqlite_tied.specs.Compute.{everything}
use Rattle.store_rows.specs.Schema.{house_by}
use Rattle.store_rows.specs.Plain.{plain_query}
use Rattle.store_rows.proofs.Select.{by_rowid, equals}
use Rattle.store_items.proofs.ItemMeaning.{terms_shown}

abbrev terms_names : List (List ℕ)
terms_names =
    codes "id" ∷ codes "seller" ∷ codes "category" ∷ codes "start" ∷ codes "buy_now" ∷ codes "ending" ∷ codes "state" ∷ codes "closed" ∷ codes "price" ∷ codes "leader" ∷ codes "count"
    ∷ codes "top" ∷ codes "second" ∷ []

-- a query over the items without their texts, by number
abbrev pub AsksTerms : List ℕ → List Term → Type 0
AsksTerms sql test = (b : Bool) → (command_of (understood (house_by b) sql) ≡ Select (record { lets = []; body = plain_query 6 test terms_shown by_rowid }) terms_names)
    × (reads_listing (house_by b) sql ≡ false) × IsPlain (understood (house_by b) sql)

-- open, with an end from 0 to a moment
abbrev pub ended_by : List Term
ended_by = op2 (Compare Eq Binary) (col 1 10) (lit (Int (pos 0))) ∷ op2 (Compare Ge Binary) (col 1 9) (lit (Int (pos 0))) ∷ op2 (Compare Le Binary) (col 1 9) (col 0 0) ∷ []

abbrev pub terms_of_seller_text : List ℕ
terms_of_seller_text = codes "SELECT id, seller, category, start, buy_now, ending, state, closed, price, leader, count, top, second FROM item WHERE seller = ?1 ORDER BY id"

abbrev pub terms_led_by_text : List ℕ
terms_led_by_text = codes "SELECT id, seller, category, start, buy_now, ending, state, closed, price, leader, count, top, second FROM item WHERE leader = ?1 ORDER BY id"

abbrev pub due_terms_text : List ℕ
due_terms_text = codes "SELECT id, seller, category, start, buy_now, ending, state, closed, price, leader, count, top, second FROM item WHERE state = 0 AND ending >= 0 AND ending <= ?1 ORDER BY id"

pub terms_of_seller_is : AsksTerms terms_of_seller_text (equals 2 ∷ [])
unfolding understood everything
terms_of_seller_is b = (refl, refl, (refl, refl))

pub terms_led_by_is : AsksTerms terms_led_by_text (equals 13 ∷ [])
unfolding understood everything
terms_led_by_is b = (refl, refl, (refl, refl))

pub due_terms_is : AsksTerms due_terms_text ended_by
unfolding understood everything
due_terms_is b = (refl, refl, (refl, refl))
