-- What the answer of a question makes of the house.
use Rattle.std.specs.Prelude.{◌≡◌, ℕ, List, map}
use Rattle.sqlite.specs.Effect.{Database}
use Rattle.house_rows.specs.Changed.{with_answer}
use Rattle.store_rows.specs.House.{IsHouse, KeepsOthers}
use Rattle.store_rows.specs.Rows.{questions_in}

-- the question of the key is answered
pub record SetsAnswer (item asker number : ℕ) (text : List ℕ) (old new : Database) : Type 0 where
  pub house : IsHouse new
  pub schema : new.schema ≡ old.schema
  pub others : KeepsOthers 12 old new
  pub questions : questions_in new.trees ≡ map (with_answer item asker number text) (questions_in old.trees)
