use Rattle.std.proofs.Common.{◌≡◌, Some, rules}
use Rattle.std.specs.HashMap.Entry.{map_with_value}
use Rattle.std.specs.Rc.{rc_str_bytes}
use Rattle.list_rows.specs.Shared.{get_by_shared}
use Rattle.list_rows.proofs.Shared.{shared_again, shared_updates}
use Rattle.list_items.proofs.lots.insert_lot.Goals as goal

pub returns-in-Ok-Vacant-clause-ok : goal.returns-in-Ok-Vacant-clause-ok
returns-in-Ok-Vacant-clause-ok c = λ l.
    let same : c.lots-in-Ok-Vacant-1.given.0 ≡ map_with_value c.in-Ok-Vacant.field-0 c.args.number = search rules in
    let updates = shared_updates (rc_str_bytes c.in-Ok.key) c.args.lots.now (map_with_value c.in-Ok-Vacant.field-0 c.args.number) (Some c.args.number) (c.in-Ok-Vacant.ensures.update.0 c.args.number) l in
    rw (same, ← c.in-Ok.ensures) updates

-- the number that was there is put again
pub returns-in-Ok-Occupied-clause-err : goal.returns-in-Ok-Occupied-clause-err
returns-in-Ok-Occupied-clause-err c = λ l.
    let entry = c.in-Ok-Occupied.field-0 in
    let number = c.into_mut.result.now in
    let there : get_by_shared c.args.lots.now (rc_str_bytes c.in-Ok.key) ≡ Some number = search rules in
    let left : get_by_shared (map_with_value entry number) l ≡ get_by_shared c.args.lots.now l =
    shared_again (rc_str_bytes c.in-Ok.key) c.args.lots.now (map_with_value entry number) (Some number) (c.in-Ok-Occupied.ensures.update.0 number) there l in
    search rules
