-- Each text computes.
use Rattle.std.proofs.Common.{refl}
use Rattle.std.specs.Fmt.{digits}
use Rattle.status.specs.Status.{phrase_of}
use Rattle.wire.specs.Response.{allow_field, closing_field, head_end, head_start, response_bytes, status_line}
use Rattle.wire.proofs.fixed.broken_frame.Goals as goal

pub returns-in-Head : goal.returns-in-Head
unfolding response_bytes head_start status_line phrase_of head_end allow_field closing_field digits
returns-in-Head c = rw c.in-Head.is refl

pub returns-in-Host : goal.returns-in-Host
unfolding response_bytes head_start status_line phrase_of head_end allow_field closing_field digits
returns-in-Host c = rw c.in-Host.is refl

pub returns-in-Transfer : goal.returns-in-Transfer
unfolding response_bytes head_start status_line phrase_of head_end allow_field closing_field digits
returns-in-Transfer c = rw c.in-Transfer.is refl

pub returns-in-Length : goal.returns-in-Length
unfolding response_bytes head_start status_line phrase_of head_end allow_field closing_field digits
returns-in-Length c = rw c.in-Length.is refl

pub returns-in-Size : goal.returns-in-Size
unfolding response_bytes head_start status_line phrase_of head_end allow_field closing_field digits
returns-in-Size c = rw c.in-Size.is refl

pub returns-in-End : goal.returns-in-End
unfolding response_bytes head_start status_line phrase_of head_end allow_field closing_field digits
returns-in-End c = rw c.in-End.is refl

pub returns-in-Excess : goal.returns-in-Excess
unfolding response_bytes head_start status_line phrase_of head_end allow_field closing_field digits
returns-in-Excess c = rw c.in-Excess.is refl
