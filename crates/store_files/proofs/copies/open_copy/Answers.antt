use Rattle.store_files.proofs.Copied.{has_found, has_tables}
use Rattle.store_files.proofs.Opened.{finds_house}
use Rattle.store_files.proofs.copies.open_copy.Goals as goal

pub returns-in-Ok-open_files-clause-holds : goal.returns-in-Ok-open_files-clause-holds
returns-in-Ok-open_files-clause-holds g c =
    has_tables g.D.Disk c.in-Ok.copy c.args.files.now c.copy_files.new.files
    c.in-Ok-open_files.keep c.in-Ok-open_files.ensures.holds c.in-Ok.ensures.log
    c.in-Ok.ensures.db

pub returns-in-Ok-open_files-clause-there : goal.returns-in-Ok-open_files-clause-there
returns-in-Ok-open_files-clause-there g c =
    let over = c.in-Ok-open_files.ensures in
    has_found g.D.Disk c.in-Ok.copy c.args.files.now c.copy_files.new.files
    c.in-Ok-open_files.keep
    (λ honest.
    let found = over.there honest in
    finds_house _ _ found.0 _ found.1 (over.house honest) found.2 found.3)
    c.in-Ok.ensures.log c.in-Ok.ensures.db
