use Rattle.settle.proofs.BalanceLemmas.{balanced}
use Rattle.settle.proofs.TotalLemmas.{totals_balanced}
use Rattle.settle.proofs.statement.lines.Goals as goal

pub returns-then-lt-clause-balance : goal.returns-then-lt-clause-balance
returns-then-lt-clause-balance c = balanced c.args.sales.now c.args.from c.args.to c.args.zone.now c.args.rate c.requires.rate c.requires.sales

pub returns-in-Ok-clause-net : goal.returns-in-Ok-clause-net
returns-in-Ok-clause-net c = totals_balanced c.in-Ok.rows.items c.in-Ok.ensures.split

pub returns-in-Ok-clause-balance : goal.returns-in-Ok-clause-balance
returns-in-Ok-clause-balance c = balanced c.args.sales.now c.args.from c.args.to c.args.zone.now c.args.rate c.requires.rate c.requires.sales

pub returns-in-Err-clause-balance : goal.returns-in-Err-clause-balance
returns-in-Err-clause-balance c = balanced c.args.sales.now c.args.from c.args.to c.args.zone.now c.args.rate c.requires.rate c.requires.sales
