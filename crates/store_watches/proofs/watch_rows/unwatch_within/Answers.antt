use Rattle.std.proofs.Common.{arith}
use Rattle.store_rows.proofs.StateLemmas.{ok_then}
use Rattle.store_watches.proofs.Written.{unwatches}
use Rattle.store_watches.proofs.watch_rows.unwatch_within.Goals as goal

pub returns-clause-ok : goal.returns-clause-ok
returns-clause-ok g c clean = ok_then c.cut_watch.result (c.cut_watch.ensures.ok clean) (λ _ w. unwatches _ _ _ _ (c.requires.numbered (omega (arith, c.cut_watch.ensures.write.crash.clean))) w)
