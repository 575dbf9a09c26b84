-- what is left to look at decides
use Rattle.std.proofs.Common.{◌≡◌, ◌≤◌, drop, slice_range}
use Rattle.std.specs.List.{list_any}
use Rattle.wire.specs.Fields.{is_close, names_close, pieces_after}
use Rattle.wire.proofs.fields.has_close.Given as goal

abbrev pub invariant-loop-place : goal.invariant-loop-place
invariant-loop-place l =
    (l.start ≤ l.place)
    × (names_close l.list ≡ list_any is_close (pieces_after (slice_range l.list l.start l.place) (drop l.place l.list)))
