use Rattle.auction.proofs.Opened.{upgraded_of}
use Rattle.auction.proofs.stores.FileStoreStoreBelow.upgrade_below.Goals as goal

pub returns-in-Ok-upgrade_files-clause-upgraded : goal.returns-in-Ok-upgrade_files-clause-upgraded
returns-in-Ok-upgrade_files-clause-upgraded g c =
    let over = c.in-Ok-upgrade_files.ensures in
    upgraded_of _ _ _ _ _ c.args.path.now _ _ c.in-Ok-find_files.ensures.shown
    c.in-Ok-upgrade_files.upgraded.0 over.only over.works _ c.in-Ok-upgrade_files.upgraded.1 over.holds
    over.house over.first over.kept over.there

pub returns-in-Err-upgrade_files-clause-left : goal.returns-in-Err-upgrade_files-clause-left
returns-in-Err-upgrade_files-clause-left g c = λ at.
    (c.in-Ok-find_files.files, c.in-Ok-find_files.ensures.fresh at, c.in-Err-upgrade_files.ensures.left)
