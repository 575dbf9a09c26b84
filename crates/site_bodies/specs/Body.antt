-- What a body that was read is.
use Rattle.std.specs.Prelude.{◌≡◌, ℕ, List, Some, None, Result, Ok, Err, ⊤}
use Rattle.serde_json.specs.Data.{Members}
use Rattle.site_bodies.specs.declared.body.Body.{Body}
use Rattle.site_bodies.specs.declared.body.Form.{Form}
use Rattle.site_bodies.specs.declared.body.Form.TheVariants as form
use Rattle.site_bodies.specs.declared.fault.BodyFault.{BodyFault}
use Rattle.site_bodies.specs.declared.fault.BodyFault.TheVariants as fault
use Rattle.site_bodies.specs.Flat.{flat_fields}
use Rattle.site_bodies.specs.Members.{body_of}
use Rattle.site_bodies.specs.Tree.{tree_fields}

abbrev pub form_fields : Form → Members
form_fields (form.Flat flat) = flat_fields flat
form_fields (form.Tree tree) = tree_fields tree

-- the members of a body that was read
unfoldable pub fields_of : Body → Members
fields_of body = form_fields body.form

-- what reading a body gives
abbrev pub IsBody : List ℕ → Result Body BodyFault → Type 0
IsBody bytes (Ok body) = body_of bytes ≡ Some (fields_of body)
IsBody bytes (Err fault.NoObject) = body_of bytes ≡ None
IsBody bytes (Err fault.Memory) = ⊤
