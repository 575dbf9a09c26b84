use Rattle.store_files.proofs.Opened.{refused}
use Rattle.store_files.proofs.openings.connect.Goals as goal

pub returns-in-Err-clause-damaged : goal.returns-in-Err-clause-damaged
returns-in-Err-clause-damaged g c is clean = refused g.D.Disk c.args.files c.in-Err.left c.in-Err.error (c.file_fault.ensures is) (c.in-Err.ensures.cause clean)
