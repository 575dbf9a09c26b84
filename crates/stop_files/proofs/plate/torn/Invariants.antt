-- What is left so far.
use Rattle.std.proofs.Common.{◌≡◌, ◌<◌, ℕ, length, slice_index}
use Rattle.stop_files.specs.Left.{byte_left}
use Rattle.stop_files.proofs.plate.torn.Given as goal

abbrev pub invariant-loop-place : goal.invariant-loop-place
invariant-loop-place l = record {
  long : length l.left.items ≡ l.place;
  each : (i : ℕ) → i < l.place → slice_index l.left.items i ≡ byte_left l.lost l.seen l.synced i;
}
