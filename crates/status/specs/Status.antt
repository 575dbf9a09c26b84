-- The number and the phrase of a status.
use Rattle.std.specs.Prelude.{ℕ, List, [], codes, unwrap_or, if◌then◌else◌, ◌==◌}
use Rattle.http.specs.StatusCode.{reason_phrase}
use Rattle.status.specs.declared.Status.{Status}
use Rattle.status.specs.declared.Status.TheVariants.{Success, Created, BadRequest, Forbidden, NotFound, MethodNotAllowed, Conflict, ContentTooLarge, InternalServerError, NotImplemented, ServiceUnavailable}

-- the number of a status
abbrev pub code_of : Status → ℕ
code_of Success = 200
code_of Created = 201
code_of BadRequest = 400
code_of Forbidden = 403
code_of NotFound = 404
code_of MethodNotAllowed = 405
code_of Conflict = 409
code_of ContentTooLarge = 413
code_of InternalServerError = 500
code_of NotImplemented = 501
code_of ServiceUnavailable = 503

-- the phrase of a number: that of RFC 9110 for 413, and else the one that `http` gives
unfoldable pub phrase_of : ℕ → List ℕ
phrase_of code = if code == 413 then codes "Content Too Large" else unwrap_or (reason_phrase code) []
