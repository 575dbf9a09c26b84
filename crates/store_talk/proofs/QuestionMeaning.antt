-- What the lists of questions mean.
use Rattle.std.proofs.Common.{◌≡◌, refl, List, [], ◌∷◌, ℕ, codes, false, Bool}
use Rattle.sqlite_value.specs.declared.value.Value.TheVariants.{Null}
use Rattle.sqlite_value.specs.declared.keys.Collation.TheVariants.{Binary}
use Rattle.sqlite_value.specs.declared.keys.Key.{Key as Sorting}
use Rattle.sqlite_sql.specs.Term.{Term, lit, col, op1, op2}
use Rattle.sqlite.specs.Command.TheVariants.{Select}
use Rattle.sqlite.specs.Listing.{understood, reads_listing}
use Rattle.sqlite.proofs.Callers.{IsPlain, command_of}
use Rattle.sqlite_tied.specs.Compute.{everything}
use Rattle.sqlite_sql.specs.declared.ops.BinaryOp.TheVariants.{Is}
use Rattle.sqlite_sql.specs.declared.ops.UnaryOp.TheVariants.{Not}
use Rattle.store_rows.specs.Schema.{house_by}
use Rattle.store_rows.specs.Plain.{plain_query}
use Rattle.store_rows.proofs.Select.{equals}
use Rattle.store_talk.proofs.TalkMeaning.{question_shown}
use Rattle.store_rows.proofs.ByKey.{by_columns}

-- ORDER BY item, asker, n
abbrev pub question_order : List (Term × Sorting)
question_order = by_columns (1 ∷ 2 ∷ 3 ∷ [])

abbrev question_names : List (List ℕ)
question_names = codes "item" ∷ codes "asker" ∷ codes "n" ∷ codes "answer" ∷ codes "body" ∷ []

-- a query over the questions
abbrev pub AsksQuestions : List ℕ → List Term → Type 0
AsksQuestions sql test = (b : Bool) → (command_of (understood (house_by b) sql) ≡ Select (record { lets = []; body = plain_query 12 test question_shown question_order }) question_names)
    × (reads_listing (house_by b) sql ≡ false) × IsPlain (understood (house_by b) sql)

abbrev pub waits : Term
waits = op2 (Is Binary) (col 1 5) (lit Null)

abbrev pub was_answered : Term
was_answered = op1 Not waits

abbrev pub all_published_text : List ℕ
all_published_text = codes "SELECT item, asker, n, answer, body FROM question WHERE answer IS NOT NULL ORDER BY item, asker, n"

abbrev pub waiting_on_text : List ℕ
waiting_on_text = codes "SELECT item, asker, n, answer, body FROM question WHERE item = ?1 AND answer IS NULL ORDER BY item, asker, n"

pub all_published_is : AsksQuestions all_published_text (was_answered ∷ [])
unfolding understood everything
all_published_is b = (refl, refl, (refl, refl))

pub waiting_on_is : AsksQuestions waiting_on_text (equals 1 ∷ waits ∷ [])
unfolding understood everything
waiting_on_is b = (refl, refl, (refl, refl))
