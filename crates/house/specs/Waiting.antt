-- What the seller's answer to a question is judged by: the question that was found.
use Rattle.std.specs.Prelude.{List, ℕ, [], ◌∷◌, Bool, false, not, Option, Some, None, is_none, is_some}
use Rattle.house_rows.specs.declared.refusal.Refusal.TheVariants.{AlreadyAnswered, Range, Unknown}
use Rattle.house_rows.specs.declared.talk.Question.{Question}
use Rattle.house_rows.specs.Text.{is_text}
use Rattle.house_rows.specs.Verdict.{Rule}

abbrev pub is_answered : Option Question → Bool
is_answered None = false
is_answered (Some question) = is_some question.answer

abbrev pub waiting_rules : Option Question → List ℕ → List Rule
waiting_rules question text =
    (is_none question, Unknown)
    ∷ (is_answered question, AlreadyAnswered)
    ∷ (not (is_text 1 500 text), Range) ∷ []
