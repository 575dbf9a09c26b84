-- Each text computes.
use Rattle.std.proofs.Common.{refl}
use Rattle.std.specs.Fmt.{digits}
use Rattle.status.specs.Status.{phrase_of}
use Rattle.wire.specs.Response.{allow_field, closing_field, head_end, head_start, response_bytes, status_line}
use Rattle.wire.proofs.fixed.no_memory.Goals as goal

pub returns-then-closes : goal.returns-then-closes
unfolding response_bytes head_start status_line phrase_of head_end allow_field closing_field digits
returns-then-closes c = rw c.if-closes.true refl

pub returns-else-closes : goal.returns-else-closes
unfolding response_bytes head_start status_line phrase_of head_end allow_field closing_field digits
returns-else-closes c = rw c.if-closes.false refl
