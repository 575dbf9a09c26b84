use Rattle.std.proofs.Common.{◌≡◌, sym, refl, ◌∙◌}
use Rattle.list_rows.proofs.Making.{makes_memory, makes_ok}
use Rattle.list_items.specs.Indexed.{lot_in}
use Rattle.list_items.proofs.items.Items.list.Goals as goal

pub returns-in-None-clause-whole : goal.returns-in-None-clause-whole
returns-in-None-clause-whole c =
    let found : c.number_with_lot.result ≡ lot_in c.args.self.now c.args.item.now.seller c.args.item.now.lot.now =
    rw (c.in_default.ensures.err, c.from.ensures, c.as_str.ensures) at c.number_with_lot.ensures in
    makes_memory _ _ _ _ (sym found ∙ c.in-None.is) c.in_default.ensures.err

pub returns-clause-whole : goal.returns-clause-whole
returns-clause-whole c = makes_ok _ _ _ _ c.in-Ok.ensures.free refl
