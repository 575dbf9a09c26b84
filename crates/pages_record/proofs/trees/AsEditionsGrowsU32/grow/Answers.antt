use Rattle.pages_record.proofs.trees.AsEditionsGrowsU32.grow.Goals as goal

pub returns : goal.returns
returns c =
    rw (c.rows_of-rows.ensures, c.bands_of.ensures, c.from-number.ensures) at c.grow_object_around.ensures
