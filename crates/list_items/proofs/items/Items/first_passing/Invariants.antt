use Rattle.std.proofs.Common.{◌≡◌, Bool, Bor, take, filter, map}
use Rattle.house_rows.specs.Tables.{ItemRow}
use Rattle.house_rows.specs.declared.item.Item.{Item}
use Rattle.list_items.specs.Indexed.{number_of}
use Rattle.list_items.specs.Rising.{rows_at}
use Rattle.list_items.proofs.items.Items.first_passing.Given as goal

-- those of the items so far that pass were copied
abbrev pub invariant-loop-number : goal.invariant-loop-number
invariant-loop-number g l = goal.F-IsAlwaysCallable g l.passes
    × ((test : Item → Bool) → ((item : Bor Item) (answer : Bool) → goal.F-post g l.passes item answer → answer ≡ test item.now)
    → l.found.items ≡ take l.most (filter test (map (λ (row : ItemRow). row.item) (rows_at number_of (take l.number-index l.numbers) l.self))))
