use Rattle.std.proofs.Common.{if◌then◌else◌, ◌≡◌, ◌+◌, ◌-◌, ◌*◌, ◌^◌, true, length, map}
use Rattle.std.specs.Io.KnownBytes.{IsAtEnd}
use Rattle.site_audit.proofs.Cuts.{Reading}
use Rattle.site_audit.proofs.messages.read_messages.Given as goal

-- what was read is the messages so far, and what is held
abbrev pub invariant-loop-request : goal.invariant-loop-request
invariant-loop-request g l = record {
  so : Reading (g.R.Source.left l.fn.source) (g.R.Source.left l.source)
      (map (λ m. m.items) l.messages.items) l.text.items l.inbox.held l.cut;
  end : l.ended ≡ true → IsAtEnd (g.R.Source.left l.source);
  source : g.R.Source.has_failed l.source ≡ true → g.R.Source.has_failed l.fn.source ≡ true;
}

-- more was read, or a message was cut off, or the stream has ended
abbrev pub decreases-loop-request : goal.decreases-loop-request
decreases-loop-request g l =
    2 * (2 ^ 64 - length l.text.items) + length l.inbox.held + (if l.ended then 0 else 1)
