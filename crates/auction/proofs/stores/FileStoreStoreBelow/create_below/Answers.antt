use Rattle.auction.proofs.Opened.{made_of}
use Rattle.auction.proofs.stores.FileStoreStoreBelow.create_below.Goals as goal

pub returns-in-Ok-create_files-clause-made : goal.returns-in-Ok-create_files-clause-made
returns-in-Ok-create_files-clause-made g c =
    let over = c.in-Ok-create_files.ensures in
    made_of _ _ _ _ _ c.args.path.now _ _ c.in-Ok-make_files.ensures.shown
    c.in-Ok-create_files.keep over.only over.works c.args.settings.now over.blank over.there over.empty

pub returns-in-Err-create_files-clause-left : goal.returns-in-Err-create_files-clause-left
returns-in-Err-create_files-clause-left g c = λ at.
    (c.in-Ok-make_files.files, c.in-Ok-make_files.ensures.fresh at, c.in-Err-create_files.ensures.left, c.in-Err-create_files.ensures.spared)
