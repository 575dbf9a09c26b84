use Rattle.std.proofs.Common.{◌∙◌, Err, refl}
use Rattle.wire.specs.declared.fault.WireFault.TheVariants as fault
use Rattle.wire.proofs.Fronts.{ends_in_head, excess, known_now}
use Rattle.wire.proofs.frame.whole.Goals as goal

pub returns-else-length-text : goal.returns-else-length-text
returns-else-length-text c =
    (_, c.in-Ok.ensures.0, excess c.args.text.now c.in-Ok.request c.in-Ok.ensures.1 (λ e. c.if-length-text.false (c.length.ensures ∙ e)))

pub returns-in-Err-Head : goal.returns-in-Err-Head
returns-in-Err-Head c = (Err fault.Head, ends_in_head c.args.text.now (rw c.in-Err-Head.field-0-is at c.in-Err-Head.ensures), refl)

pub returns-in-Err-Fault : goal.returns-in-Err-Fault
returns-in-Err-Fault c = (
  Err c.in-Err-Fault.fault,
  known_now c.args.text.now c.in-Err-Fault.fault
      (rw c.in-Err-Fault.field-0-is at c.in-Err-Fault.ensures),
  refl,
)
