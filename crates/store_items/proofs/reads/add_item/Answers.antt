use Rattle.house_rows.specs.declared.item.Item.{Item}
use Rattle.house_rows.specs.Keeping.{IsConsistentBy}
use Rattle.store_items.proofs.ConsistentRows.{ok_so, pushed}
use Rattle.store_items.proofs.reads.add_item.Goals as goal

pub returns-clause-is_consistent : goal.returns-clause-is_consistent
returns-clause-is_consistent c = pushed (λ (it : Item). IsConsistentBy c.args.rules.now.editions it.terms) c.push.result c.args.all.now.items _ c.in_ok-item.item c.push.ensures.ok c.in_ok-item.ensures.is_consistent

pub returns-clause-kept : goal.returns-clause-kept
returns-clause-kept c = ok_so c.push.result c.in_ok-item.ensures.kept
