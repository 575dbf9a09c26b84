-- A body that is one number under a name.
use Rattle.std.specs.Prelude.{◌≡◌, ℕ, List, Some}
use Rattle.serde_json.specs.Data.{no_members, number, put, unsigned}
use Rattle.site_bodies.specs.Members.{body_of}

-- the body is an object of this number under this name, and of nothing else
abbrev pub IsLone : List ℕ → List ℕ → ℕ → Type 0
IsLone body name n = body_of body ≡ Some (put name (number (unsigned n)) no_members)
