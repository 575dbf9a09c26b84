use Rattle.lives.proofs.Runs.{upgrades_leave_the_tables}
use Rattle.lives.proofs.upgrades_leave_the_tables.Goals as goal

pub returns : goal.returns
returns g c image left name files clean outcome run db holds =
    upgrades_leave_the_tables image left name files clean outcome run db holds
