-- Watches that are counted in rows of the database are counted in its tables.
use Rattle.std.proofs.Common.{◌≡◌, ℕ, List, map, filter, length, ap, ◌∙◌}
use Rattle.std.specs.Prelude.{◌==◌}
use Rattle.std.proofs.lemmas.List.{length-map}
use Rattle.sqlite_trees.specs.Tree.{Trees}
use Rattle.house_rows.specs.Found.{watch_count}
use Rattle.house_rows.specs.Watches.{WatchRow}
use Rattle.store_rows.specs.Sorted.{sorted_watches}
use Rattle.store_rows.specs.Tables.{tables_in}

pub watches_are : (db : Trees) (member : ℕ) (items : List ℕ) → items ≡ map (λ (w : WatchRow). w.item) (filter (λ w. w.member == member) (sorted_watches db)) → length items ≡ watch_count (tables_in db) member
unfolding tables_in
watches_are db member items is = ap length is ∙ length-map (filter (λ w. w.member == member) (sorted_watches db)) (λ (w : WatchRow). w.item)
