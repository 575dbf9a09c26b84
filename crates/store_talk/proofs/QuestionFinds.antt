-- What the count of questions finds.
use Rattle.std.proofs.Common.{◌≡◌, ◌==◌, ◌<◌, ◌^◌, ◌&&◌, ℕ, pos, List, [], ◌∷◌, length, eqb, ap}
use Rattle.sqlite_value.specs.declared.value.Value.TheVariants.{Null, Int}
use Rattle.sqlite_value.specs.Order.{Row, column}
use Rattle.sqlite_sql.specs.Term.{col}
use Rattle.sqlite_sql.specs.Program.{overlay}
use Rattle.sqlite.specs.State.{State, Shown}
use Rattle.sqlite.proofs.Callers.{reads_as}
use Rattle.house_rows.specs.Changed.{question_key}
use Rattle.house_rows.specs.History.{counted}
use Rattle.store_rows.specs.House.{IsHouse}
use Rattle.store_rows.specs.Rows.{number_in, question_in}
use Rattle.store_rows.proofs.RowLemmas.{equals_number, alone}
use Rattle.store_rows.proofs.Select.{listed}
use Rattle.store_talk.proofs.TalkReads.{IsTalk, are_questions}
use Rattle.store_rows.specs.Sorted.{sorted_questions}
use Rattle.store_rows.proofs.Found.{rows_counted}
use Rattle.store_talk.proofs.FindMeaning.{ask_count_is, ask_count_text, asked_by}

pub questions_counted : (asker item : ℕ) → asker < 2 ^ 32 → item < 2 ^ 32 → (old new : State) (answer : List Row) → IsHouse old.now → Shown ask_count_text (Int (pos asker) ∷ Int (pos item) ∷ []) old new answer
    → length answer ≡ counted (λ q. (q.asker == asker) && (q.item == item)) (sorted_questions old.now.trees)
questions_counted asker item low small old new answer house h =
    let params : Row = Int (pos asker) ∷ Int (pos item) ∷ [] in
    let read = reads_as ask_count_text params old new _ house.schema _ (ask_count_is _).0 (ask_count_is _).2 (ask_count_is _).1 answer h in
    let listing = listed 12 asked_by (col 1 3 ∷ []) [] (overlay old.now.trees []) params answer (read.answer Null) in
    rows_counted asked_by (col 1 3 ∷ []) [] params (old.now.trees 12) answer listing question_key question_in (λ q. (q.asker == asker) && (q.item == item)) IsTalk
    (λ r is. rw (equals_number (column r 2) asker is.second low, equals_number (column r 1) item is.first small) (ap (λ b. eqb (number_in (column r 2)) asker && b) (alone _))) (are_questions old.now house)
