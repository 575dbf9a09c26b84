-- What a message says.
use Rattle.std.specs.Prelude.{ℕ, List}
use Rattle.wire.specs.Fields.{Pair}

-- method, target, the version's minor number, fields, body, and the length of head and body in bytes
pub record Message : Type 0 where
  pub method : List ℕ
  pub target : List ℕ
  pub minor : ℕ
  pub fields : List Pair
  pub body : List ℕ
  pub length : ℕ
