-- What the look-up of a watch finds.
use Rattle.std.proofs.Common.{◌≡◌, ◌==◌, ◌<◌, ◌^◌, ℕ, pos, not, List, [], ◌∷◌, length, ap, ◌∙◌, eqb, ◌&&◌}
use Rattle.std.specs.List.{list_any}
use Rattle.sqlite_value.specs.declared.value.Value.TheVariants.{Null, Int}
use Rattle.sqlite_value.specs.Order.{Row, column}
use Rattle.sqlite_sql.specs.Term.{col}
use Rattle.sqlite_sql.specs.Program.{overlay}
use Rattle.sqlite.specs.State.{State, Shown}
use Rattle.sqlite.proofs.Callers.{reads_as}
use Rattle.house_rows.specs.Watches.{is_watch, watch_key}
use Rattle.store_rows.specs.House.{IsHouse}
use Rattle.store_rows.specs.Rows.{number_in, watch_in}
use Rattle.store_watches.proofs.WatchLemmas.{IsWatch, are_watches}
use Rattle.store_rows.proofs.RowLemmas.{equals_number, alone}
use Rattle.store_rows.proofs.Select.{listed}
use Rattle.store_rows.specs.Sorted.{sorted_watches}
use Rattle.store_rows.proofs.Found.{rows_counted, some_counted}
use Rattle.store_watches.proofs.FindMeaning.{is_watched_is, is_watched_text}
use Rattle.store_rows.proofs.FindMeaning.{of_pair}

pub watch_found : (member item : ℕ) → member < 2 ^ 32 → item < 2 ^ 32 → (old new : State) (answer : List Row) → IsHouse old.now → Shown is_watched_text (Int (pos member) ∷ Int (pos item) ∷ []) old new answer
    → not (length answer == 0) ≡ list_any (is_watch member item) (sorted_watches old.now.trees)
watch_found member item low small old new answer house h =
    let params : Row = Int (pos member) ∷ Int (pos item) ∷ [] in
    let table = old.now.trees 10 in
    let read = reads_as is_watched_text params old new _ house.schema _ (is_watched_is _).0 (is_watched_is _).2 (is_watched_is _).1 answer h in
    let listing = listed 10 of_pair (col 1 2 ∷ []) [] (overlay old.now.trees []) params answer (read.answer Null) in
    let many = rows_counted of_pair (col 1 2 ∷ []) [] params table answer listing watch_key watch_in (is_watch member item) IsWatch
    (λ r is. rw (equals_number (column r 1) member is.0 low, equals_number (column r 2) item is.1 small) (ap (λ b. eqb (number_in (column r 1)) member && b) (alone _))) (are_watches old.now house) in
    ap (λ n. not (n == 0)) many ∙ some_counted (is_watch member item) (sorted_watches old.now.trees)
