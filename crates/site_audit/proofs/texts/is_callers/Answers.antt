use Rattle.std.proofs.Common.{Some, None}
use Rattle.site_audit.proofs.Callers.{from_caller}
use Rattle.site_audit.proofs.texts.is_callers.Goals as goal

pub returns-in-Some : goal.returns-in-Some
returns-in-Some c = λ asked is.
    from_caller c.args.caller (Some c.in-Some.number) asked (c.in-Some.ensures asked is)

pub returns-in-None : goal.returns-in-None
returns-in-None c = λ asked is. from_caller c.args.caller None asked (c.in-None.ensures asked is)
