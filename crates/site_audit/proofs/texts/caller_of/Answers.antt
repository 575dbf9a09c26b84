use Rattle.std.proofs.Common.{◌∙◌}
use Rattle.site_audit.proofs.Callers.{broken_is_of, whole_is_of}
use Rattle.site_audit.proofs.texts.caller_of.Goals as goal

pub returns-in-Ok : goal.returns-in-Ok
returns-in-Ok c = λ asked is.
    c.number_in.ensures ∙ whole_is_of c.args.text.now c.in-Ok.request c.in-Ok.ensures asked is

pub returns-in-Err : goal.returns-in-Err
returns-in-Err c = λ asked is.
    broken_is_of c.args.text.now c.in-Err.field-0 c.in-Err.ensures asked is
