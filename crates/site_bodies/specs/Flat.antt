-- The members of an object that was read in one walk.
use Rattle.std.specs.Prelude.{◌≡◌, ℕ, List, Some, take}
use Rattle.serde_json.specs.Data.{Members, no_members}
use Rattle.site_bodies.specs.declared.slots.Flat.{Flat}
use Rattle.site_bodies.specs.Members.{body_of}
use Rattle.site_bodies.specs.Slots.{put_all}

abbrev pub flat_fields : Flat → Members
flat_fields flat = put_all (take flat.count flat.slots) no_members

-- the body is this object
abbrev pub IsFlat : List ℕ → Flat → Type 0
IsFlat body flat = body_of body ≡ Some (flat_fields flat)
