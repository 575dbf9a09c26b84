-- Each text computes.
use Rattle.std.proofs.Common.{refl}
use Rattle.status.specs.Status.{phrase_of}
use Rattle.wire.specs.Response.{head_start, status_line}
use Rattle.wire.proofs.response.head_start.Goals as goal

pub returns-in-Success : goal.returns-in-Success
unfolding head_start status_line phrase_of
returns-in-Success c = rw c.in-Success.is refl

pub returns-in-Created : goal.returns-in-Created
unfolding head_start status_line phrase_of
returns-in-Created c = rw c.in-Created.is refl

pub returns-in-BadRequest : goal.returns-in-BadRequest
unfolding head_start status_line phrase_of
returns-in-BadRequest c = rw c.in-BadRequest.is refl

pub returns-in-Forbidden : goal.returns-in-Forbidden
unfolding head_start status_line phrase_of
returns-in-Forbidden c = rw c.in-Forbidden.is refl

pub returns-in-NotFound : goal.returns-in-NotFound
unfolding head_start status_line phrase_of
returns-in-NotFound c = rw c.in-NotFound.is refl

pub returns-in-MethodNotAllowed : goal.returns-in-MethodNotAllowed
unfolding head_start status_line phrase_of
returns-in-MethodNotAllowed c = rw c.in-MethodNotAllowed.is refl

pub returns-in-Conflict : goal.returns-in-Conflict
unfolding head_start status_line phrase_of
returns-in-Conflict c = rw c.in-Conflict.is refl

pub returns-in-ContentTooLarge : goal.returns-in-ContentTooLarge
unfolding head_start status_line phrase_of
returns-in-ContentTooLarge c = rw c.in-ContentTooLarge.is refl

pub returns-in-InternalServerError : goal.returns-in-InternalServerError
unfolding head_start status_line phrase_of
returns-in-InternalServerError c = rw c.in-InternalServerError.is refl

pub returns-in-NotImplemented : goal.returns-in-NotImplemented
unfolding head_start status_line phrase_of
returns-in-NotImplemented c = rw c.in-NotImplemented.is refl

pub returns-in-ServiceUnavailable : goal.returns-in-ServiceUnavailable
unfolding head_start status_line phrase_of
returns-in-ServiceUnavailable c = rw c.in-ServiceUnavailable.is refl
