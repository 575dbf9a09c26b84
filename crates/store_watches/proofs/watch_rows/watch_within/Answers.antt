use Rattle.std.proofs.Common.{arith}
use Rattle.store_rows.proofs.StateLemmas.{ok_then}
use Rattle.store_watches.proofs.Written.{watches}
use Rattle.store_watches.proofs.watch_rows.watch_within.Goals as goal

pub returns-clause-ok : goal.returns-clause-ok
returns-clause-ok g c clean =
    ok_then c.put_watch.result (c.put_watch.ensures.ok clean) (λ _ w.
    watches _ _ _ _ _ (c.requires.numbered (omega (arith, c.put_watch.ensures.write.crash.clean, c.cut_watch.ensures.write.crash.clean))) (c.in_ok-cut_watch.ensures.ok (omega (arith, c.put_watch.ensures.write.crash.clean))) w)
