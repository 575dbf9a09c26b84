-- What the statements on questions and feedback mean.
use Rattle.std.proofs.Common.{◌≡◌, refl, List, [], ◌∷◌, ℕ, codes, false, Bool}
use Rattle.sqlite_value.specs.declared.value.Value.TheVariants.{Null}
use Rattle.sqlite.specs.Term.{Term, lit, col, op2}
use Rattle.sqlite.specs.Source.TheVariants.{Values}
use Rattle.sqlite.specs.Command.TheVariants.{Insert, Select}
use Rattle.sqlite.specs.Listing.{understood, reads_listing}
use Rattle.sqlite.proofs.Callers.{IsPlain, command_of}
use Rattle.sqlite_tied.specs.Compute.{everything}
use Rattle.sqlite_value.specs.declared.keys.Collation.TheVariants.{Binary}
use Rattle.sqlite_sql.specs.declared.ops.BinaryOp.TheVariants.{Compare}
use Rattle.sqlite_sql.specs.declared.ops.CompareOp.TheVariants.{Eq}
use Rattle.store_rows.specs.Schema.{house_by}
use Rattle.store_rows.specs.Plain.{plain_query}
use Rattle.store_rows.proofs.Select.{by_rowid, equals}

abbrev pub put_question_text : List ℕ
put_question_text = codes "INSERT INTO question (item, asker, n, body, answer) VALUES (?1, ?2, ?3, ?4, NULL)"

abbrev pub put_feedback_text : List ℕ
put_feedback_text = codes "INSERT INTO feedback (item, giver, receiver, rating, body) VALUES (?1, ?2, ?3, ?4, ?5)"

abbrev pub question_terms : List Term
question_terms = lit Null ∷ col 0 0 ∷ col 0 1 ∷ col 0 2 ∷ col 0 3 ∷ lit Null ∷ []

abbrev pub feedback_terms : List Term
feedback_terms = lit Null ∷ col 0 0 ∷ col 0 1 ∷ col 0 2 ∷ col 0 3 ∷ col 0 4 ∷ []

pub put_question_is : (b : Bool) → (command_of (understood (house_by b) put_question_text) ≡ Insert 7 (Values question_terms 6)) × IsPlain (understood (house_by b) put_question_text)
unfolding understood everything
put_question_is b = (refl, (refl, refl))

pub put_feedback_is : (b : Bool) → (command_of (understood (house_by b) put_feedback_text) ≡ Insert 8 (Values feedback_terms 6)) × IsPlain (understood (house_by b) put_feedback_text)
unfolding understood everything
put_feedback_is b = (refl, (refl, refl))

-- ---- reads

abbrev pub feedback_to_text : List ℕ
feedback_to_text = codes "SELECT item, giver, receiver, rating, body FROM feedback WHERE receiver = ?1 ORDER BY rowid"

abbrev pub is_given_text : List ℕ
is_given_text = codes "SELECT item, giver, receiver, rating, body FROM feedback WHERE item = ?1 AND giver = ?2 ORDER BY rowid"

abbrev pub question_at_text : List ℕ
question_at_text = codes "SELECT item, asker, n, answer, body FROM question WHERE item = ?1 AND asker = ?2 AND n = ?3 ORDER BY rowid"

abbrev pub talk_shown : List Term
talk_shown = col 1 1 ∷ col 1 2 ∷ col 1 3 ∷ col 1 4 ∷ col 1 5 ∷ []

abbrev pub question_shown : List Term
question_shown = col 1 1 ∷ col 1 2 ∷ col 1 3 ∷ col 1 5 ∷ col 1 4 ∷ []

-- of this item by this giver
abbrev pub given_by : List Term
given_by = equals 1 ∷ op2 (Compare Eq Binary) (col 1 2) (col 0 1) ∷ []

-- of this key
abbrev pub by_question : List Term
by_question = equals 1 ∷ op2 (Compare Eq Binary) (col 1 2) (col 0 1) ∷ op2 (Compare Eq Binary) (col 1 3) (col 0 2) ∷ []

abbrev feedback_names : List (List ℕ)
feedback_names = codes "item" ∷ codes "giver" ∷ codes "receiver" ∷ codes "rating" ∷ codes "body" ∷ []

abbrev question_names : List (List ℕ)
question_names = codes "item" ∷ codes "asker" ∷ codes "n" ∷ codes "answer" ∷ codes "body" ∷ []

pub feedback_to_is : (b : Bool) → (command_of (understood (house_by b) feedback_to_text) ≡ Select (record { lets = []; body = plain_query 14 (equals 3 ∷ []) talk_shown by_rowid }) feedback_names)
    × (reads_listing (house_by b) feedback_to_text ≡ false) × IsPlain (understood (house_by b) feedback_to_text)
unfolding understood everything
feedback_to_is b = (refl, refl, (refl, refl))

pub is_given_is : (b : Bool) → (command_of (understood (house_by b) is_given_text) ≡ Select (record { lets = []; body = plain_query 14 given_by talk_shown by_rowid }) feedback_names)
    × (reads_listing (house_by b) is_given_text ≡ false) × IsPlain (understood (house_by b) is_given_text)
unfolding understood everything
is_given_is b = (refl, refl, (refl, refl))

pub question_at_is : (b : Bool) → (command_of (understood (house_by b) question_at_text) ≡ Select (record { lets = []; body = plain_query 12 by_question question_shown by_rowid }) question_names)
    × (reads_listing (house_by b) question_at_text ≡ false) × IsPlain (understood (house_by b) question_at_text)
unfolding understood everything
question_at_is b = (refl, refl, (refl, refl))
