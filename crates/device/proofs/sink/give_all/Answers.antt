use Rattle.std.proofs.Common.{◌≡◌, ℕ, ◌≤◌, ◌+◌, List, Option, length, take, drop, ap, ◌∙◌, arith, true, false}
use Rattle.std.proofs.lemmas.List.{length-drop, take_rest}
use Rattle.std.proofs.Math.Seq.{take-add}
use Rattle.std.proofs.KnownBytes.{Appends-trans}
use Rattle.std.specs.Io.KnownBytes.{Appends}
use Rattle.device.proofs.sink.give_all.Goals as goal

-- where the first `at` bytes were taken, and then n of the rest, the first `at + n` are
both : (old mid new : Option (List ℕ)) (bytes : List ℕ) (at n : ℕ) → Appends old mid (take at bytes)
    → Appends mid new (take n (drop at bytes)) → Appends old new (take (at + n) bytes)
both old mid new bytes at n first then = rw (take-add at n bytes) (Appends-trans old mid new (take at bytes) (take n (drop at bytes)) first then)

pub loop-at-preserved : goal.loop-at-preserved
loop-at-preserved g c =
    let n = c.in_ok-at.field-0 in
    let at = c.loop-at.at in
    let bytes = c.args.bytes.now in
    let sunk = c.loop-at.invariant in
    let bound : n ≤ length (drop at bytes) = rw (take_rest bytes at) at c.in_ok-at.ensures.bound in
    record {
      within = omega (arith, bound, length-drop at bytes, sunk.within);
      appended = both _ _ _ bytes at n sunk.appended (rw (take_rest bytes at) at c.in_ok-at.ensures.bytes);
      -- a sink that had failed took nothing
      first = λ failed.
          let never : false ≡ true = c.in_ok-at.ensures.failed.1 (c.in_ok-at.ensures.stays (ap g.W.Sink.has_failed (sunk.first failed) ∙ failed)) in
          absurd cc;
    }

pub returns-then-at-bytes-clause-part : goal.returns-then-at-bytes-clause-part
returns-then-at-bytes-clause-part g c =
    let n = c.in_ok-at.field-0 in
    let at = c.loop-at.at in
    let bytes = c.args.bytes.now in
    let sunk = c.loop-at.invariant in
    let bound : n ≤ length (drop at bytes) = rw (take_rest bytes at) at c.in_ok-at.ensures.bound in
    let within : at + n ≤ length bytes = omega (arith, bound, length-drop at bytes, sunk.within) in
    (at + n, within, both _ _ _ bytes at n sunk.appended (rw (take_rest bytes at) at c.in_ok-at.ensures.bytes))
