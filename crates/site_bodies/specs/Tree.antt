-- The members of an object that was read as a tree.
use Rattle.std.specs.Prelude.{◌≡◌, ℕ, List, Some, None, unwrap_or, Result, Ok, Err, ⊤}
use Rattle.json.specs.Value.{value_view}
use Rattle.serde_json.specs.Data.{Members, no_members}
use Rattle.site_bodies.specs.declared.fault.BodyFault.{BodyFault}
use Rattle.site_bodies.specs.declared.fault.BodyFault.TheVariants as fault
use Rattle.site_bodies.specs.declared.tree.Tree.{Tree}
use Rattle.site_bodies.specs.Members.{body_of, members_in}

abbrev pub tree_fields : Tree → Members
tree_fields tree = unwrap_or (members_in (value_view tree.value)) no_members

-- what reading a body as a tree gives
abbrev pub IsTreeOf : List ℕ → Result Tree BodyFault → Type 0
IsTreeOf bytes (Ok tree) = body_of bytes ≡ Some (tree_fields tree)
IsTreeOf bytes (Err fault.NoObject) = body_of bytes ≡ None
IsTreeOf bytes (Err fault.Memory) = ⊤
