use Rattle.std.proofs.Common.{◌≡◌, length}
use Rattle.std.specs.Iterator.Adapters.{zip_first, zip_second}
use Rattle.std.specs.Slice.Iter.{iter_rest}
use Rattle.store_house.proofs.same.all_same.Given as goal

abbrev pub invariant-loop-this : goal.invariant-loop-this
invariant-loop-this g l =
    let xs = iter_rest (zip_first l.this-iterator) in
    let ys = iter_rest (zip_second l.this-iterator) in
    (length xs ≡ length ys) × (xs ≡ ys → l.these ≡ l.those)
