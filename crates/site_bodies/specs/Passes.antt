-- What was read off the front of bytes.
use Rattle.std.specs.Prelude.{◌≡◌, ◌<◌, ◌^◌, ℕ, List, [], ◌∷◌, ◌++◌, IsUtf8, decimal, true}
use Rattle.json.specs.Word.{ends_word}
use Rattle.json.specs.Lex.{Lexeme, token, lex, between}
use Rattle.site_bodies.specs.declared.slots.Plain.{Plain}
use Rattle.site_bodies.specs.declared.slots.Slot.{Slot}
use Rattle.site_bodies.specs.Slots.{IsMeant, slot_lexemes, token_of}

-- the bytes before begin with these lexemes, and go on with the bytes after
pub record Passes (before : List ℕ) (ls : List Lexeme) (after : List ℕ) : Type 0 where
  pub lexed : lex between before ≡ ls ++ lex between after
  pub utf8 : IsUtf8 after → IsUtf8 before

-- a value was read off
pub record IsValue (before : List ℕ) (value : Plain) (after : List ℕ) : Type 0 where
  pub passes : Passes before (token (token_of value) ∷ []) after
  pub meant : IsMeant value

-- a member was read off
pub record IsMember (before : List ℕ) (slot : Slot) (after : List ℕ) : Type 0 where
  pub passes : Passes before (slot_lexemes slot) after
  pub meant : IsMeant slot.value

-- the digits of a number were read off, and the number ends there
pub record IsSize (before : List ℕ) (n : ℕ) (after : List ℕ) : Type 0 where
  pub same : before ≡ decimal n ++ after
  pub small : n < 2 ^ 64
  pub ended : ends_word after ≡ true
