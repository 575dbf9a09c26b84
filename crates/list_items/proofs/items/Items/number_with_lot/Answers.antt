use Rattle.std.proofs.Common.{◌∙◌, ap}
use Rattle.list_items.specs.Indexed.{lot_in}
use Rattle.list_items.proofs.items.Items.number_with_lot.Goals as goal

pub returns : goal.returns
returns c = c.number_at.ensures ∙ c.self.invariant.lots c.args.seller c.args.lot.now ∙ ap (λ rows. lot_in rows c.args.seller c.args.lot.now) c.self.view_is
