use Rattle.std.proofs.Common.{true}
use Rattle.auction_runs.proofs.Outcomes.{finding_told, of_value}
use Rattle.auction_runs.proofs.audit.audit_run.Goals as goal

pub returns-clause-equal : goal.returns-clause-equal
returns-clause-equal g c =
    λ e. of_value _ c.report_comparison.result true (c.status.ensures.equal.0 e)
    c.report_comparison.ensures.report

pub returns-clause-told : goal.returns-clause-told
returns-clause-told g c =
    let run = c.status.ensures in
    finding_told g.E.Sink _ _ _ _ _ c.report_comparison.result run.equal run.quiet run.told
    c.report_comparison.ensures.report c.report_comparison.ensures.fault
