-- What a message is answered that asks for nothing.
use Rattle.std.specs.Prelude.{List, ℕ, ◌++◌, codes, Bool, true, false, Option, Some, None, Result, Ok, Err}
use Rattle.site_request.specs.Fields.{name_of}
use Rattle.site_request.specs.declared.field.Field.{Field}
use Rattle.status.specs.declared.Status.{Status}
use Rattle.status.specs.declared.Status.TheVariants.{BadRequest, MethodNotAllowed, NotFound}
use Rattle.wire.specs.Response.{error_body}
use Rattle.wire.specs.Fault as frame
use Rattle.wire.specs.declared.fault.WireFault.{WireFault}
use Rattle.wire.specs.declared.methods.Methods.{Methods}
use Rattle.site_request.specs.declared.fault.RequestFault.{RequestFault}
use Rattle.site_request.specs.declared.fault.RequestFault.TheVariants as fault

-- the status
abbrev pub status_of : RequestFault → Status
status_of (fault.Frame f) = frame.status_of f
status_of fault.Path = NotFound
status_of (fault.Method methods) = MethodNotAllowed
status_of fault.Member = BadRequest
status_of fault.Moment = BadRequest
status_of fault.Json = BadRequest
status_of (fault.Field f) = BadRequest
status_of fault.Date = BadRequest
status_of fault.Order = BadRequest

-- the methods that are allowed
abbrev pub allow_of : RequestFault → Option Methods
allow_of (fault.Method methods) = Some methods
allow_of _ = None

abbrev pub frame_body : WireFault → List ℕ
frame_body f = error_body (frame.word_of f)

abbrev pub field_body : Field → List ℕ
field_body f = codes "{\"error\":\"field\",\"field\":\"" ++ name_of f ++ codes "\"}"

-- the body
abbrev pub body_of : RequestFault → List ℕ
body_of (fault.Frame f) = frame_body f
body_of fault.Path = error_body (codes "path")
body_of (fault.Method methods) = error_body (codes "method")
body_of fault.Member = error_body (codes "member")
body_of fault.Moment = error_body (codes "moment")
body_of fault.Json = error_body (codes "json")
body_of (fault.Field f) = field_body f
body_of fault.Date = error_body (codes "date")
body_of fault.Order = error_body (codes "order")

-- whether it is a fault of the body, which is judged after path, method, caller and moment
abbrev pub is_of_body : RequestFault → Bool
is_of_body fault.Json = true
is_of_body (fault.Field f) = true
is_of_body _ = false

abbrev pub or_fault : {A : Type 0} → RequestFault → Option A → Result A RequestFault
or_fault f None = Err f
or_fault f (Some x) = Ok x
