use Rattle.house_rows.specs.declared.people.Category.{Category}
use Rattle.list_people.proofs.Finding.{number_found}
use Rattle.list_people.proofs.categories.Categories.category.Goals as goal

pub returns : goal.returns
returns c = number_found (λ (k : Category). k.category) _ _ c.args.self.now c.args.number _ c.row_at.ensures c.deref.ensures.value c.self.view_is c.self.invariant.in_turn
