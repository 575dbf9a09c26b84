-- A body that is one text under a name.
use Rattle.std.specs.Prelude.{◌≡◌, ℕ, List, Some}
use Rattle.std.specs.Str.{IsUtf8}
use Rattle.json.specs.Print.{escape}
use Rattle.serde_json.specs.Data.{no_members, put, string}
use Rattle.site_bodies.specs.Members.{body_of}

-- the bytes are this text, and each byte stands for itself in a string of JSON
pub record IsPlain (bytes text : List ℕ) : Type 0 where
  pub same : text ≡ bytes
  pub plain : escape bytes ≡ bytes
  pub utf8 : IsUtf8 bytes

-- the body is an object of this text under this name, and of nothing else
abbrev pub IsLoneText : List ℕ → List ℕ → List ℕ → Type 0
IsLoneText body name text = body_of body ≡ Some (put name (string text) no_members)
