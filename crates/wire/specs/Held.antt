-- What an inbox has.
use Rattle.std.specs.Prelude.{ℕ, List}

-- the bytes of the stream that are held, and the bytes of the free room after them
pub record Held : Type 0 where
  pub held : List ℕ
  pub room : List ℕ
