use Rattle.std.proofs.Common.{◌≡◌, ◌∙◌, Some, length, rules}
use Rattle.std.specs.HashMap.Entry.{map_with_value}
use Rattle.std.specs.Rc.{rc_str_bytes}
use Rattle.std.specs.Vec.{vec_len}
use Rattle.list_rows.specs.Shared.{get_by_shared}
use Rattle.list_rows.proofs.Shared.{shared_again, shared_updates}
use Rattle.list_people.proofs.names.Names.push.Goals as goal

-- the place that was there is put again
pub returns-in-Ok-Occupied-clause-places_left : goal.returns-in-Ok-Occupied-clause-places_left
returns-in-Ok-Occupied-clause-places_left g c = λ other.
    let entry = c.in-Ok-Occupied.field-0 in
    let place = c.into_mut.result.now in
    let there : get_by_shared c.args.self.now.places (rc_str_bytes c.in-Ok-to_shared.key) ≡ Some place = search rules in
    let left : get_by_shared (map_with_value entry place) other ≡ get_by_shared c.args.self.now.places other =
    shared_again (rc_str_bytes c.in-Ok-to_shared.key) c.args.self.now.places (map_with_value entry place) (Some place) (c.in-Ok-Occupied.ensures.update.0 place) there other in
    search rules

-- the index is the old one but for the new name
pub returns-clause-place : goal.returns-clause-place
returns-clause-place g c = λ other.
    let many : vec_len c.args.rows.now ≡ length c.args.rows.now.items = c.args.rows.now.ok.0 in
    let same : c.self-in-Ok-Vacant-1.given.0 ≡ map_with_value c.in-Ok-Vacant.field-0 c.len-place.result = search rules in
    let updates = shared_updates (rc_str_bytes c.in-Ok-to_shared.key) c.args.self.now.places (map_with_value c.in-Ok-Vacant.field-0 c.len-place.result) (Some c.len-place.result) (c.in-Ok-Vacant.ensures.update.0 c.len-place.result) other in
    rw (same, ← c.in-Ok-to_shared.ensures, ← many, ← c.len-place.ensures) updates
