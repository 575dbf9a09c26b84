-- Questions as they are asked and answered.
use Rattle.std.proofs.Common.{◌≡◌, ℕ, List, [], ◌∷◌, map, true, false, refl, inl, inr, Some, None, Result, Ok, Err}
use Rattle.std.specs.Prelude.{find, OnOk}
use Rattle.std.specs.List.{AllByRecursion, list_any}
use Rattle.house_rows.specs.declared.fault.KeepFault.{KeepFault}
use Rattle.house_rows.specs.declared.talk.Question.{Question}
use Rattle.house_rows.specs.Changed.{question_key, with_answer}
use Rattle.house_rows.specs.History.{Key, put_by}
use Rattle.house_rows.specs.Questions.{is_question}
use Rattle.house_rows.proofs.Every.{every_as, every_put}
use Rattle.house_rows.proofs.Put.{by_test}
use Rattle.list_rows.specs.Blocks.{same_key}
use Rattle.list_rows.specs.Makes.{Makes}
use Rattle.list_talk.specs.declared.concerns.Concern.{Concern}
use Rattle.list_talk.specs.Index.{IsNoted}

abbrev key_of : ℕ → ℕ → ℕ → Key
key_of item asker number = record { first = item; second = asker; third = number }

abbrev question_of : ℕ → ℕ → ℕ → List ℕ → Question
question_of item asker number text = record { item = item; asker = asker; number = number; text = text; answer = None }

-- what is found is not nothing
something : {A : Type 0} (x : A) → Some x ≡ None → ⊥
something x e = cc

-- none is found where none has the key
free_found : (item asker number : ℕ) (rows : List Question) → list_any (λ q. same_key (question_key q) (key_of item asker number)) rows ≡ false → find (is_question item asker number) rows ≡ None
free_found item asker number [] free = refl
free_found item asker number (q ∷ rows) free =
    elim (by_test (is_question item asker number q)) [
      | inl is ↦ absurd (let e : true ≡ false = rw is at free in cc)
      | inr other ↦ rw other (free_found item asker number rows (rw other at free))
    ]

-- and its key is free where none is found
found_free : (item asker number : ℕ) (rows : List Question) → find (is_question item asker number) rows ≡ None → list_any (λ q. same_key (question_key q) (key_of item asker number)) rows ≡ false
found_free item asker number [] none = refl
found_free item asker number (q ∷ rows) none =
    elim (by_test (is_question item asker number q)) [
      | inl is ↦ absurd (something q (rw is at none))
      | inr other ↦ rw other (found_free item asker number rows (rw other at none))
    ]

-- a promise of what is done may say less
only_ok : {A E P Q : Type 0} (r : Result A E) → (P → Q) → OnOk r P → OnOk r Q
only_ok (Ok a) to known = to known
only_ok (Err e) to known = tt

-- a question is asked where none has its key
pub asked_as : (r : Result (Unit {0}) KeepFault) (item asker number : ℕ) (text : List ℕ) (old new : List Question)
    → Makes r old new (put_by question_key (question_of item asker number text) old) (list_any (λ q. same_key (question_key q) (key_of item asker number)) old ≡ false)
    → Makes r old new (put_by question_key (question_of item asker number text) old) (find (is_question item asker number) old ≡ None)
asked_as r item asker number text old new makes = record {
  ok = makes.ok;
  err = makes.err;
  free = only_ok r (free_found item asker number old) makes.free;
  damaged = λ e none. makes.damaged e (found_free item asker number old none);
  taken = λ not_free. makes.taken (λ free. not_free (free_found item asker number old free));
  store = makes.store;
}

-- one more question, whose item was noted
pub noted_put : (r : Result (Unit {0}) KeepFault) (item asker number : ℕ) (text : List ℕ) (rows new : List Question) (old cs : List Concern) (free : Type 0)
    → Makes r rows new (put_by question_key (question_of item asker number text) rows) free
    → AllByRecursion (λ q. IsNoted old q.asker q.item) rows → ((m : ℕ) (i : ℕ) → IsNoted old m i → IsNoted cs m i) → IsNoted cs asker item → AllByRecursion (λ q. IsNoted cs q.asker q.item) new
noted_put (Ok a) item asker number text rows new old cs free makes noted stays here =
    rw makes.ok (every_put question_key (λ q. IsNoted cs q.asker q.item) (question_of item asker number text) rows
    (every_as (λ q. IsNoted old q.asker q.item) (λ q. IsNoted cs q.asker q.item) rows (λ q known. stays q.asker q.item known) noted) here)
noted_put (Err e) item asker number text rows new old cs free makes noted stays here =
    rw makes.err (every_as (λ q. IsNoted old q.asker q.item) (λ q. IsNoted cs q.asker q.item) rows (λ q known. stays q.asker q.item known) noted)

-- items that were noted stay so while the questions do
pub noted_still : (rows : List Question) (old cs : List Concern) → AllByRecursion (λ q. IsNoted old q.asker q.item) rows → ((m : ℕ) (i : ℕ) → IsNoted old m i → IsNoted cs m i) → AllByRecursion (λ q. IsNoted cs q.asker q.item) rows
noted_still rows old cs noted stays = every_as (λ q. IsNoted old q.asker q.item) (λ q. IsNoted cs q.asker q.item) rows (λ q known. stays q.asker q.item known) noted

-- an answer leaves who asked, and where
pub noted_answered : (cs : List Concern) (item asker number : ℕ) (text : List ℕ) (rows : List Question) → AllByRecursion (λ q. IsNoted cs q.asker q.item) rows
    → AllByRecursion (λ q. IsNoted cs q.asker q.item) (map (with_answer item asker number text) rows)
noted_answered cs item asker number text [] noted = tt
noted_answered cs item asker number text (q ∷ rows) noted =
    elim (by_test (is_question item asker number q)) [
      | inl is ↦ rw is (noted.0, noted_answered cs item asker number text rows noted.1)
      | inr other ↦ rw other (noted.0, noted_answered cs item asker number text rows noted.1)
    ]
