use Rattle.std.proofs.Common.{◌≡◌, refl}
use Rattle.std.specs.Prelude.{⊤}
use Rattle.list_rows.proofs.Making.{makes_ok}
use Rattle.store_list.proofs.tables.set_table.Goals as goal

pub returns : goal.returns
returns c =
    let judged = c.in-Ok.ensures (λ e. cc) in
    let same : c.in-Ok.bands ≡ c.args.rows.now = ((judged.ok c.in-Ok.bands).0 refl).0 in
    let made = c.in_ok-set.ensures.ok in
    makes_ok _ _ _ ⊤ tt (rw same at made)
