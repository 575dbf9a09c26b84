use Rattle.auction.proofs.Opened.{opened_of}
use Rattle.store_files.proofs.Opened.{finds_house}
use Rattle.auction.proofs.stores.FileStoreStoreBelow.open_below.Goals as goal

pub returns-in-Ok-open_files-clause-opened : goal.returns-in-Ok-open_files-clause-opened
returns-in-Ok-open_files-clause-opened g c =
    let over = c.in-Ok-open_files.ensures in
    opened_of _ _ _ _ _ c.args.path.now _ _ c.in-Ok-find_files.ensures.shown
    c.in-Ok-open_files.keep over.only over.works over.holds
    (λ honest.
    let found = over.there honest in
    finds_house _ _ found.0 _ found.1 (over.house honest) found.2 found.3)

pub returns-in-Err-open_files-clause-left : goal.returns-in-Err-open_files-clause-left
returns-in-Err-open_files-clause-left g c = λ at.
    (c.in-Ok-find_files.files, c.in-Ok-find_files.ensures.fresh at, c.in-Err-open_files.ensures.left)
