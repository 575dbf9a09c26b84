use Rattle.auction_runs.proofs.Stated.{handed_on}
use Rattle.auction_runs.proofs.statement.read_statement.Goals as goal

pub returns-in_err-statement-clause-fault : goal.returns-in_err-statement-clause-fault
returns-in_err-statement-clause-fault g c =
    let said = c.statement.ensures in
    handed_on g.K.Keep.content g.K.Keep.is_failed g.K.Keep.is_honest c.args.asked c.args.keep.now
    c.statement.new.keep c.statement.result c.in_err-statement.field-0.0
    c.from_residual.result c.from_residual.ensures
    c.in_err-statement.was said.unknown said.order said.zone said.last said.damaged said.undamaged
    said.store
