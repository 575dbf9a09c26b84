-- What a question, an answer and feedback make of the tables.
use Rattle.std.proofs.Common.{Bor, ℕ, List, map, None, refl, ◌∙◌, arith}
use Rattle.sqlite.specs.Effect.{Database}
use Rattle.house_rows.specs.Changed.{changed, question_key, with_answer}
use Rattle.house_rows.specs.History.{put_by}
use Rattle.house_rows.specs.Ratings.{feedback_key}
use Rattle.house_rows.specs.declared.change.Change.TheVariants.{Answer, Ask, Feedback as Rated}
use Rattle.house_rows.specs.declared.rating.Rating.{Rating}
use Rattle.house_rows.specs.declared.talk.Feedback.{Feedback}
use Rattle.house_rows.specs.declared.talk.Question.{Question}
use Rattle.store_talk.specs.Answers.{SetsAnswer}
use Rattle.store_rows.specs.House.{AddsFeedback, AddsQuestion, SetsClock}
use Rattle.store_rows.specs.Tables.{IsNumbered, Changes, tables_in}
use Rattle.store_talk.proofs.SortedTalk.{adds_feedback_sorted, adds_question_sorted, sets_answer_sorted}
use Rattle.store_rows.proofs.Made.{Makes, houses_then_clock, makes_both, other, same_houses, same_later_bands, same_reserves, same_version, sets_clock, stays_numbered, same_people, version_then_clock}

pub adds_question : (question : Question) (old new : Database) → IsNumbered old.trees → AddsQuestion question old new → Makes (λ t. record t { questions = put_by question_key question t.questions }) old new
unfolding tables_in
adds_question question old new was w =
    let d = w.others.1.1.1.1.1.0 (other 8 12 refl) in
    let v = w.others.1.1.1.1.1.1.0 (other 10 12 refl) in
    let f = w.others.1.1.1.1.1.1.1.1.0 (other 14 12 refl) in
    record {
      house = w.house;
      schema = w.schema;
      numbered = stays_numbered 12 old new (omega arith, omega arith) was w.others;
      tables = same_people 12 old new (omega arith, omega arith) was w.others ∙ rw (d, v, f, adds_question_sorted question old new w) refl;
    }

pub sets_answer : (item asker number : ℕ) (text : List ℕ) (old new : Database) → IsNumbered old.trees → SetsAnswer item asker number text old new → Makes (λ t. record t { questions = map (with_answer item asker number text) t.questions }) old new
unfolding tables_in
sets_answer item asker number text old new was w =
    let d = w.others.1.1.1.1.1.0 (other 8 12 refl) in
    let v = w.others.1.1.1.1.1.1.0 (other 10 12 refl) in
    let f = w.others.1.1.1.1.1.1.1.1.0 (other 14 12 refl) in
    record {
      house = w.house;
      schema = w.schema;
      numbered = stays_numbered 12 old new (omega arith, omega arith) was w.others;
      tables = same_people 12 old new (omega arith, omega arith) was w.others ∙ rw (d, v, f, sets_answer_sorted item asker number text old new w) refl;
    }

pub adds_feedback : (feedback : Feedback) (old new : Database) → IsNumbered old.trees → AddsFeedback feedback old new → Makes (λ t. record t { feedback = put_by feedback_key feedback t.feedback }) old new
unfolding tables_in
adds_feedback feedback old new was w =
    let d = w.others.1.1.1.1.1.0 (other 8 14 refl) in
    let v = w.others.1.1.1.1.1.1.0 (other 10 14 refl) in
    let q = w.others.1.1.1.1.1.1.1.0 (other 12 14 refl) in
    record {
      house = w.house;
      schema = w.schema;
      numbered = stays_numbered 14 old new (omega arith, omega arith) was w.others;
      tables = same_people 14 old new (omega arith, omega arith) was w.others ∙ rw (d, v, q, adds_feedback_sorted feedback old new w) refl;
    }

pub answers : (moment item asker number : ℕ) (text : Bor (List ℕ)) (old mid new : Database) → IsNumbered old.trees → SetsAnswer item asker number text.now old mid → SetsClock moment mid new → Changes (Answer moment item asker number text) old new
unfolding changed
answers moment item asker number text old mid new was one two =
    let put = sets_answer item asker number text.now old mid was one in
    let it = makes_both _ _ old mid new put (sets_clock moment mid new put.numbered two) in
    record { house = it.house; schema = it.schema; numbered = it.numbered; version = version_then_clock 12 moment old mid new (omega arith) one.others two; other_houses = houses_then_clock 12 moment old mid new (omega arith) one.others two; tables = it.tables; reserves = same_reserves 0 mid new (omega arith) two.others ∙ same_reserves 12 old mid (omega arith) one.others; later_bands = same_later_bands 0 mid new (omega arith) two.others ∙ same_later_bands 12 old mid (omega arith) one.others }

pub asks : (item asker number : ℕ) (text : Bor (List ℕ)) (old new : Database) → IsNumbered old.trees → AddsQuestion (record { item = item; asker = asker; number = number; text = text.now; answer = None }) old new
    → Changes (Ask item asker number text) old new
unfolding changed
asks item asker number text old new was w =
    let it = adds_question (record { item = item; asker = asker; number = number; text = text.now; answer = None }) old new was w in
    record { house = it.house; schema = it.schema; numbered = it.numbered; version = same_version 12 old new (omega arith) w.others; other_houses = same_houses 12 old new (omega arith) w.others; tables = it.tables; reserves = same_reserves 12 old new (omega arith) w.others; later_bands = same_later_bands 12 old new (omega arith) w.others }

pub gives : (moment item from to : ℕ) (rating : Rating) (text : Bor (List ℕ)) (old mid new : Database) → IsNumbered old.trees → AddsFeedback (record { item = item; from = from; to = to; rating = rating; text = text.now }) old mid → SetsClock moment mid new
    → Changes (Rated moment item from to rating text) old new
unfolding changed
gives moment item from to rating text old mid new was one two =
    let put = adds_feedback (record { item = item; from = from; to = to; rating = rating; text = text.now }) old mid was one in
    let it = makes_both _ _ old mid new put (sets_clock moment mid new put.numbered two) in
    record { house = it.house; schema = it.schema; numbered = it.numbered; version = version_then_clock 14 moment old mid new (omega arith) one.others two; other_houses = houses_then_clock 14 moment old mid new (omega arith) one.others two; tables = it.tables; reserves = same_reserves 0 mid new (omega arith) two.others ∙ same_reserves 14 old mid (omega arith) one.others; later_bands = same_later_bands 0 mid new (omega arith) two.others ∙ same_later_bands 14 old mid (omega arith) one.others }
