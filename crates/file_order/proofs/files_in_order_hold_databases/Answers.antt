use Rattle.file_order.proofs.RecoveredLemmas.{are_databases}
use Rattle.file_order.proofs.files_in_order_hold_databases.Goals as goal

pub returns : goal.returns
returns g c inner outer it h numbered shown = are_databases inner outer it h numbered shown
