use Rattle.std.proofs.Common.{inr}
use Rattle.auction.proofs.program.start_over.Goals as goal
use Rattle.auction.specs.Remains.{left_of}

pub returns-in-Ok-Some-clause-done : goal.returns-in-Ok-Some-clause-done
returns-in-Ok-Some-clause-done g c = λ e.
    let asked = rw c.in-Ok-Some.field-0-is at c.in-Ok-Some.ensures.asked in
    inr (c.in-Ok-Some.task, left_of c.do_task-status.result.1, asked, (c.do_task-status.ensures.done e, c.do_task-status.ensures.made e))
