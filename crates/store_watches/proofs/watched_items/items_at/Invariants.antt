use Rattle.std.proofs.Common.{◌≡◌, ◌++◌, drop, false, flat_map, take}
use Rattle.std.specs.List.{AllByRecursion}
use Rattle.sqlite.specs.State.{HasCleanDisk, IsUnchanged, Survives}
use Rattle.sqlite.specs.Held.{state}
use Rattle.store_items.specs.ConsistentRows.{IsKeptAt}
use Rattle.store_watches.specs.Watched.{AreItems, item_found}
use Rattle.store_watches.proofs.watched_items.items_at.Given as goal

abbrev pub invariant-loop-number : goal.invariant-loop-number
invariant-loop-number g l =
    let old = state g.S.Store l.fn.conn in
    let now = state g.S.Store l.conn in
    record {
      survives : Survives old now (λ _. ⊥);
      same : HasCleanDisk now → IsUnchanged old now;
      mode : l.fn.conn.in_transaction ≡ false → l.conn.in_transaction ≡ false;
      found : HasCleanDisk now → l.items.items ++ flat_map (item_found old.now.trees) (drop l.number-index l.numbers) ≡ flat_map (item_found old.now.trees) l.numbers;
      fits : AreItems l.rules.editions l.items.items;
      kept : HasCleanDisk now → AllByRecursion (IsKeptAt l.rules.editions old.now.trees) (take l.number-index l.numbers);
    }
