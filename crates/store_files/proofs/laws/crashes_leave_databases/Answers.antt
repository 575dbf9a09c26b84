use Rattle.store_files.proofs.Crashed.{holds_left}
use Rattle.store_files.proofs.laws.crashes_leave_databases.Goals as goal

pub returns : goal.returns
returns g c before left crashed = holds_left before left crashed
