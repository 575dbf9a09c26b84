-- The parts, one after the other.
use Rattle.std.proofs.Common.{◌≡◌, ℕ, List, ◌++◌, append_assoc}
use Rattle.wire.specs.Response.{response_bytes}
use Rattle.wire.proofs.response.Response.append_to.Goals as goal

joined : (old a b c d : List ℕ) → (((old ++ a) ++ b) ++ c) ++ d ≡ old ++ (((a ++ b) ++ c) ++ d)
joined old a b c d = simp append_assoc

pub returns-clause-ok : goal.returns-clause-ok
unfolding response_bytes
returns-clause-ok c =
    rw (
      c.in_ok-extend_from_slice-4.ensures.items,
      c.in_ok-extend_from_slice-3.ensures.items,
      c.in_ok-extend_from_slice-2.ensures.items,
      c.in_ok-extend_from_slice.ensures.items,
      c.in_ok-reserve.ensures.items,
      c.head_start.ensures,
      c.as_bytes.ensures.value,
      c.format.ensures.text,
      c.head_end.ensures,
    ) (joined c.args.out.now.items _ _ _ _)
