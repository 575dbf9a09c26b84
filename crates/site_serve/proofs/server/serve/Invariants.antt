use Rattle.std.proofs.Common.{if◌then◌else◌, ◌-◌, ◌<◌, ◌≡◌, ◌≤◌, false, true, length, ◌+◌, ◌*◌}
use Rattle.std.specs.Io.KnownBytes.{IsAtEnd}
use Rattle.site.specs.Replies.{IsStep, zone_of}
use Rattle.site_serve.specs.Serving.{IsFlushed, keep_of}
use Rattle.site_serve.proofs.Runs.{Serving}
use Rattle.site_serve.proofs.server.serve.Given as goal

-- what was read is the messages so far and what is held; their replies were written, and handed on but for those since the last flush
abbrev pub invariant-loop-messages : goal.invariant-loop-messages
invariant-loop-messages g l = record {
  run : Serving (IsStep g.K.Keep.content g.K.Keep.is_failed g.K.Keep.is_honest g.K.Keep.may_leave (zone_of l.fn.site))
      (g.R.Source.left l.fn.source) (g.R.Source.left l.source)
      (g.W.Sink.taken l.fn.sink) (g.W.Sink.taken l.sink) (keep_of l.fn.site) (keep_of l.site) l.inbox.held l.messages;
  few : l.messages ≤ l.most;
  end : l.ended ≡ true → IsAtEnd (g.R.Source.left l.source);
  some : l.given ≡ true → 0 < l.messages;
  flushed : l.given ≡ false → IsFlushed g.W.Sink.handed_on g.W.Sink.taken l.fn.sink l.sink;
  source : g.R.Source.has_failed l.source ≡ true → g.R.Source.has_failed l.fn.source ≡ true;
  zone : zone_of l.site ≡ zone_of l.fn.site;
}

-- a message is done, or more is held, or the input has ended
abbrev pub decreases-loop-messages : goal.decreases-loop-messages
decreases-loop-messages g l = (l.most - l.messages) * 24578 + (24576 - length l.inbox.held) + (if l.ended then 0 else 1)
