-- Questions on items, and their answers.
use Rattle.std.specs.Prelude.{if◌then◌else◌, ℕ, ◌+◌, List, [], ◌∷◌, ◌++◌, Bool, not, ◌==◌, ◌&&◌, map, filter, Option, Some, None, is_some}
use Rattle.house_rows.specs.declared.command.Command.{Command}
use Rattle.house_rows.specs.declared.command.Command.TheVariants.{Ask, Answer}
use Rattle.house_rows.specs.declared.talk.Question.{Question}
use Rattle.house_rows.specs.History.{History, Key, counted, put_by}
use Rattle.house_rows.specs.Listings.{is_seller, listing_at, listings}

-- a question without its answer, or an answer with the question that it names
pub record Asked : Type 0 where
  pub item : ℕ
  pub asker : ℕ
  pub number : ℕ
  pub text : List ℕ

-- questions go by item, asker and number
abbrev pub asked_key : Asked → Key
asked_key q = record { first = q.item; second = q.asker; third = q.number }

-- how many of the questions are an asker's on an item
abbrev pub ask_count : List Asked → ℕ → ℕ → ℕ
ask_count asked asker i = counted (λ q. (q.asker == asker) && (q.item == i)) asked

-- a question is numbered by its asker on its item
abbrev pub with_question : List Asked → ℕ → Command → List Asked
with_question asked caller (Ask i text) =
    put_by asked_key (record { item = i; asker = caller; number = ask_count asked caller i + 1; text = text }) asked
with_question asked caller _ = asked

-- all questions without their answers, by item, asker and number
abbrev pub asked : History → List Asked
asked [] = []
asked (e ∷ h) = with_question (asked h) e.caller e.command

-- the answer that a command gives, if it gives one
abbrev pub answer_in : Command → List Asked
answer_in (Answer i asker number text) = record { item = i; asker = asker; number = number; text = text } ∷ []
answer_in _ = []

-- the answers, in order
abbrev pub answers : History → List Asked
answers [] = []
answers (e ∷ h) = answers h ++ answer_in e.command

-- whether an answer names a question: item, asker and number are the same
abbrev pub names : Asked → Asked → Bool
names answer q = (answer.item == q.item) && ((answer.asker == q.asker) && (answer.number == q.number))

-- the answer to a question, if it has one
abbrev pub answer_to : List Asked → Asked → Option (List ℕ)
answer_to [] q = None
answer_to (a ∷ answers) q = if names a q then Some a.text else answer_to answers q

-- a question with its answer, if it has one among these
abbrev pub answered : List Asked → Asked → Question
answered answers q = record { item = q.item; asker = q.asker; number = q.number; text = q.text; answer = answer_to answers q }

-- all questions, by item, asker and number
unfoldable pub questions : History → List Question
questions h = map (answered (answers h)) (asked h)

-- the published questions: those that were answered
unfoldable pub published : History → List Question
published h = filter (λ q. is_some q.answer) (questions h)

-- the questions that wait for a member's answer: those on its items without one
unfoldable pub waiting : History → ℕ → List Question
waiting h c = filter (λ q. not (is_some q.answer) && is_seller (listing_at (listings h) q.item) c) (questions h)

-- whether it is the question of that item, asker and number
abbrev pub is_question : ℕ → ℕ → ℕ → Question → Bool
is_question i asker number q = (q.item == i) && ((q.asker == asker) && (q.number == number))
