use Rattle.std.proofs.Common.{rules}
use Rattle.pages.proofs.Undamaged.{by_allowed}
use Rattle.pages.proofs.reading.read_tables.Goals as goal

pub returns-clause-damaged : goal.returns-clause-damaged
returns-clause-damaged g c = λ honest fit.
    by_allowed g.K.Keep _ _ _ c.in_ok-members.field-0 c.args.caller c.args.query.now c.may_read.result
    c.is_own.result c.page_allowed.result c.in_ok-members.ensures.read (search rules)
    c.page_allowed.ensures.read honest c.page_allowed.ensures.damaged c.in_ok-members.ensures.value
    c.may_read.ensures.report c.is_own.ensures c.if-not-may_read.false fit
