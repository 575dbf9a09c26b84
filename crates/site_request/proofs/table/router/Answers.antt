use Rattle.site_request.specs.Table.{rows, table}
use Rattle.site_request.proofs.table.router.Goals as goal

pub returns : goal.returns
unfolding rows table
returns c = rw c.new-router.ensures at c.in_ok-add_all.ensures
