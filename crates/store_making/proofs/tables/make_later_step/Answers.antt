use Rattle.std.proofs.Common.{arith}
use Rattle.store_making.proofs.MadeSteps.{makes_later}
use Rattle.store_making.proofs.tables.make_later_step.Goals as goal

pub returns-in-Ok-clause-ok : goal.returns-in-Ok-clause-ok
returns-in-Ok-clause-ok g c clean =
    let ran = c.in-Ok.ensures.runs clean (c.requires.begun (omega (arith, c.execute.ensures.survives.clean))) in
    makes_later c.args.step c.requires.step _ _ _ (c.requires.before (omega (arith, c.execute.ensures.survives.clean))).1 (rw c.later_text.ensures at ran).0
