use Rattle.std.proofs.Common.{◌∙◌, subst}
use Rattle.std.proofs.lemmas.Result.{err_from_is_err_and}
use Rattle.store_files.proofs.Copied.{read_clean, read_image, read_twice}
use Rattle.store_files.specs.InOrder.{HasFoundHouse, HasTablesHeld}
use Rattle.store_files.proofs.copies.open_copies.Goals as goal

pub returns-in-Ok-clause-left : goal.returns-in-Ok-clause-left
returns-in-Ok-clause-left g c clean =
    let mid = c.open_copy.new.files in
    c.in_ok-left.ensures.holds (read_clean g.D.Disk mid c.open_copy-2.new.files
    c.in-Ok.ensures.reads_log c.in-Ok.ensures.reads_db clean)

pub returns-in-Ok-clause-right : goal.returns-in-Ok-clause-right
returns-in-Ok-clause-right g c clean =
    subst (λ image. HasTablesHeld image c.in-Ok.right)
    (read_image g.D.Disk c.args.files.now c.open_copy.new.files c.in_ok-left.ensures.reads_log
    c.in_ok-left.ensures.reads_db) (c.in-Ok.ensures.holds clean)

pub returns-in-Ok-clause-left_there : goal.returns-in-Ok-clause-left_there
returns-in-Ok-clause-left_there g c clean =
    let mid = c.open_copy.new.files in
    c.in_ok-left.ensures.there (read_clean g.D.Disk mid c.open_copy-2.new.files
    c.in-Ok.ensures.reads_log c.in-Ok.ensures.reads_db clean)

pub returns-in-Ok-clause-right_there : goal.returns-in-Ok-clause-right_there
returns-in-Ok-clause-right_there g c clean =
    subst (λ image. HasFoundHouse image c.in-Ok.right)
    (read_image g.D.Disk c.args.files.now c.open_copy.new.files c.in_ok-left.ensures.reads_log
    c.in_ok-left.ensures.reads_db) (c.in-Ok.ensures.there clean)

pub returns-in-Ok-clause-reads_log : goal.returns-in-Ok-clause-reads_log
returns-in-Ok-clause-reads_log g c =
    read_twice g.D.Disk c.args.files.now.log c.open_copy.new.files.log
    c.open_copy-2.new.files.log c.in_ok-left.ensures.reads_log c.in-Ok.ensures.reads_log

pub returns-in-Ok-clause-reads_db : goal.returns-in-Ok-clause-reads_db
returns-in-Ok-clause-reads_db g c =
    read_twice g.D.Disk c.args.files.now.db c.open_copy.new.files.db c.open_copy-2.new.files.db
    c.in_ok-left.ensures.reads_db c.in-Ok.ensures.reads_db

-- no call to the files failed where there are two copies, or one that can't be opened

pub returns-in-Ok-clause-unfailed : goal.returns-in-Ok-clause-unfailed
returns-in-Ok-clause-unfailed g c =
    c.in-Ok.ensures.unfailed ∙ c.in_ok-left.ensures.unfailed

pub returns-in_err-left-clause-damaged : goal.returns-in_err-left-clause-damaged
returns-in_err-left-clause-damaged g c =
    let p = err_from_is_err_and c.from_residual.result c.from_residual.ensures.1 in
    rw (p.1, p.2) (λ is. c.in_err-left.ensures.damaged is)

pub returns-in-Err-clause-damaged : goal.returns-in-Err-clause-damaged
returns-in-Err-clause-damaged g c is =
    c.in-Err.ensures.damaged is ∙ c.in_ok-left.ensures.unfailed
