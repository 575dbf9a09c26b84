use Rattle.std.proofs.Common.{◌≡◌, drop}
use Rattle.store_items.specs.Rising.{rise_from}
use Rattle.store_items.proofs.sales.rise.Given as goal

abbrev pub invariant-loop-terms : goal.invariant-loop-terms
invariant-loop-terms l = rise_from l.least (drop l.terms-index l.items) ≡ rise_from 0 l.items
