use Rattle.file_order.proofs.RecoveredLemmas.{list_ordered, list_shaped}
use Rattle.file_order.proofs.recovered_lists_are_in_order.Goals as goal

pub returns-clause-shape : goal.returns-clause-shape
returns-clause-shape g c it below left = list_shaped it below left

pub returns-clause-order : goal.returns-clause-order
returns-clause-order g c it below numbered left = list_ordered it below left numbered
