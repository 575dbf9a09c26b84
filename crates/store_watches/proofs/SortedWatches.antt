-- What the writes of watches make of them in the order of their keys.
use Rattle.std.proofs.Common.{◌≡◌, ℕ, not, ap, sym, ◌∙◌}
use Rattle.sqlite.specs.Effect.{Database}
use Rattle.house_rows.specs.History.{put_by}
use Rattle.house_rows.specs.Watches.{WatchRow, is_watch, unwatched, watch_key}
use Rattle.store_rows.specs.House.{AddsWatch, RemovesWatch}
use Rattle.store_rows.specs.Sorted.{sorted_by, sorted_watches}
use Rattle.store_rows.proofs.Sorting.{filter-sorted, sorted_more}

pub adds_watch_sorted : (watch : WatchRow) (old new : Database) → AddsWatch watch old new → sorted_watches new.trees ≡ put_by watch_key watch (sorted_watches old.trees)
adds_watch_sorted watch old new w = ap (sorted_by watch_key) w.watches ∙ sorted_more watch_key _ watch

pub removes_watch_sorted : (member item : ℕ) (old new : Database) → RemovesWatch member item old new → sorted_watches new.trees ≡ unwatched member item (sorted_watches old.trees)
removes_watch_sorted member item old new w = ap (sorted_by watch_key) w.watches ∙ sym (filter-sorted watch_key (λ v. not (is_watch member item v)) _)
