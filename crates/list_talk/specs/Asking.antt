-- What is true of a table of questions.
use Rattle.std.specs.Prelude.{List, Vec}
use Rattle.std.specs.List.{AllByRecursion}
use Rattle.house_rows.specs.declared.talk.Question.{Question}
use Rattle.house_rows.specs.Changed.{question_key}
use Rattle.list_rows.specs.Blocks.{IsBlocked, rows_of}
use Rattle.list_talk.specs.declared.concerns.Concern.{Concern}
use Rattle.list_talk.specs.Index.{IsNoted}

-- rows in blocks by item, whose items are noted for who asked
pub record IsQuestionTable {Z : Type 0} (blocks : List (Vec Question Z)) (concerns : List Concern) : Type 0 where
  pub blocked : IsBlocked question_key blocks
  pub noted : AllByRecursion (λ q. IsNoted concerns q.asker q.item) (rows_of blocks)
