-- What the statements on questions and feedback write.
use Rattle.std.proofs.Common.{◌≡◌, ℕ, ◌<◌, ◌^◌, ℤ, pos, List, [], ◌∷◌, ◌++◌, map, Ok, None, refl, ap, ◌∙◌, IsUtf8}
use Rattle.sqlite_value.specs.declared.value.Value.TheVariants.{Null, Int, Text}
use Rattle.sqlite_value.specs.Order.{Row}
use Rattle.sqlite_trees.proofs.TreeLemmas.{IsShaped-put_row}
use Rattle.sqlite.specs.Edit.{next_rowid}
use Rattle.sqlite.specs.State.{State, Executes}
use Rattle.house_rows.specs.declared.rating.Rating.{Rating}
use Rattle.house_rows.specs.declared.rating.Rating.TheVariants.{Minus, Zero, Plus}
use Rattle.house_rows.specs.declared.talk.Feedback.{Feedback}
use Rattle.store_rows.specs.Schema.{feedback_layout, question_layout}
use Rattle.store_rows.specs.Rows.{question_in, one_feedback_in, stored_rating}
use Rattle.store_rows.specs.House.{IsHouse, AddsQuestion, AddsFeedback}
use Rattle.store_rows.proofs.RowLemmas.{small}
use Rattle.store_rows.proofs.TextLemmas.{text_back}
use Rattle.store_rows.proofs.Wrote.{still_house, map_more}
use Rattle.store_rows.proofs.Insert.{puts, put_last, cast_int, cast_null}
use Rattle.store_talk.proofs.TalkMeaning.{put_question_text, put_feedback_text, question_terms, feedback_terms, put_question_is, put_feedback_is}

pub adds_question : (old new : State) (item asker number : ℕ) (text : List ℕ) (count : ℕ) → item < 2 ^ 32 → asker < 2 ^ 32 → number < 2 ^ 32 → IsUtf8 text → IsHouse old.now
    → Executes put_question_text (Int (pos item) ∷ Int (pos asker) ∷ Int (pos number) ∷ Text text ∷ []) old new (Ok count)
    → AddsQuestion (record { item = item; asker = asker; number = number; text = text; answer = None }) old.now new.now
adds_question old new item asker number text count item_low asker_low number_low u house h =
    let params = Int (pos item) ∷ Int (pos asker) ∷ Int (pos number) ∷ Text text ∷ [] in
    let rows = old.now.trees 12 in
    let given : Row = Int (next_rowid rows) ∷ Int (pos item) ∷ Int (pos asker) ∷ Int (pos number) ∷ Text text ∷ Null ∷ [] in
    let source : Row = Null ∷ Int (pos item) ∷ Int (pos asker) ∷ Int (pos number) ∷ Text text ∷ Null ∷ [] in
    let shaped = house.shaped.1.1.1.1.1.1.1.0 in
    let w = rw (cast_null, cast_int (pos item), cast_int (pos asker), cast_int (pos number)) at
    (puts _ put_question_text 7 question_layout question_terms 6 params source refl (put_question_is _).0 (put_question_is _).1 refl old new count house.schema h) in
    let back : question_in given ≡ record { item = item; asker = asker; number = number; text = text; answer = None } = rw (small item item_low, small asker asker_low, small number number_low, text_back text u) refl in
    record {
      house = still_house 12 _ old.now new.now house w (IsShaped-put_row given rows refl shaped);
      schema = w.schema;
      others = w.others;
      questions = ap (map question_in) (w.rows_are ∙ put_last given rows shaped refl) ∙ map_more question_in rows given
          ∙ ap (λ q. map question_in rows ++ q ∷ []) back;
    }

-- a feedback as its row
abbrev row_for : ℤ → Feedback → Row
row_for id f = Int id ∷ Int (pos f.item) ∷ Int (pos f.from) ∷ Int (pos f.to) ∷ Int (stored_rating f.rating) ∷ Text f.text ∷ []

read_back : (id : ℤ) (item from to : ℕ) (rating : Rating) (text : List ℕ) → item < 2 ^ 32 → from < 2 ^ 32 → to < 2 ^ 32 → IsUtf8 text
    → one_feedback_in (row_for id (record { item = item; from = from; to = to; rating = rating; text = text })) ≡ record { item = item; from = from; to = to; rating = rating; text = text }
read_back id item from to Minus text il fl tl u = rw (small item il, small from fl, small to tl, text_back text u) refl
read_back id item from to Zero text il fl tl u = rw (small item il, small from fl, small to tl, text_back text u) refl
read_back id item from to Plus text il fl tl u = rw (small item il, small from fl, small to tl, text_back text u) refl

pub adds_feedback : (old new : State) (f : Feedback) (count : ℕ) → f.item < 2 ^ 32 → f.from < 2 ^ 32 → f.to < 2 ^ 32 → IsUtf8 f.text → IsHouse old.now
    → Executes put_feedback_text (Int (pos f.item) ∷ Int (pos f.from) ∷ Int (pos f.to) ∷ Int (stored_rating f.rating) ∷ Text f.text ∷ []) old new (Ok count) → AddsFeedback f old.now new.now
adds_feedback old new f count item_low from_low to_low u house h =
    let params = Int (pos f.item) ∷ Int (pos f.from) ∷ Int (pos f.to) ∷ Int (stored_rating f.rating) ∷ Text f.text ∷ [] in
    let rows = old.now.trees 14 in
    let given : Row = row_for (next_rowid rows) f in
    let shaped = house.shaped.1.1.1.1.1.1.1.1.0 in
    let w = rw (cast_null, cast_int (pos f.item), cast_int (pos f.from), cast_int (pos f.to), cast_int (stored_rating f.rating)) at
    (puts _ put_feedback_text 8 feedback_layout feedback_terms 6 params (Null ∷ params) refl (put_feedback_is _).0 (put_feedback_is _).1 refl old new count house.schema h) in
    record {
      house = still_house 14 _ old.now new.now house w (IsShaped-put_row given rows refl shaped);
      schema = w.schema;
      others = w.others;
      feedback_is = ap (map one_feedback_in) (w.rows_are ∙ put_last given rows shaped refl) ∙ map_more one_feedback_in rows given ∙ ap (λ x. map one_feedback_in rows ++ x ∷ []) (read_back (next_rowid rows) f.item f.from f.to f.rating f.text item_low from_low to_low u);
    }
