use Rattle.std.proofs.Common.{sym}
use Rattle.house_rows.specs.declared.people.Category.{Category}
use Rattle.list_people.proofs.Finding.{item_at, name_found, name_unknown}
use Rattle.list_people.proofs.categories.Categories.by_name.Goals as goal

pub returns-in_err-place : goal.returns-in_err-place
returns-in_err-place c = rw c.from_residual.ensures (sym (name_unknown (λ (k : Category). k.category) (λ (k : Category). k.name) _ c.args.self.now _ c.args.name.now _ c.self.invariant c.place.ensures c.in_err-place.was c.self.view_is))

pub returns : goal.returns
returns c = name_found (λ (k : Category). k.category) (λ (k : Category). k.name) _ _ c.args.self.now _ c.args.name.now _ _ _ c.self.invariant c.place.ensures c.in_ok-place.was (item_at _ _ _ c.get.ensures.lookup) c.deref.ensures.value c.self.view_is
