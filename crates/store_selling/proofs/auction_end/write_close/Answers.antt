use Rattle.std.proofs.Common.{arith}
use Rattle.sqlite.specs.Held.{state}
use Rattle.sqlite.specs.State.{HasCleanDisk}
use Rattle.store_rows.proofs.StateLemmas.{ok_then}
use Rattle.store_selling.proofs.Closed.{starts_fit}
use Rattle.store_selling.proofs.Sold.{closes}
use Rattle.store_selling.proofs.auction_end.write_close.Goals as goal

pub returns-clause-ok : goal.returns-clause-ok
returns-clause-ok g c clean =
    let mid : HasCleanDisk (state g.S.Store c.close_items.new.tx.conn.now) = omega (arith, c.set_clock.ensures.write.crash.clean) in
    let old : HasCleanDisk (state g.S.Store c.args.tx.now.conn.now) = omega (arith, c.close_items.ensures.write.crash.clean) in
    ok_then c.set_clock.result (c.set_clock.ensures.ok clean)
    (λ _ clock. closes c.args.moment c.args.due.now (state g.S.Store c.args.tx.now.conn.now).now _ _ (c.requires.begun.serves old).1 (c.requires.numbered old) (c.requires.due old) (c.in_ok-close_items.ensures.ok mid) clock)

pub close_items-requires-clause-fits : goal.close_items-requires-clause-fits
close_items-requires-clause-fits g c clean = starts_fit c.args.moment c.args.due.now (state g.S.Store c.args.tx.now.conn.now).now (c.requires.begun.serves clean).1 (c.requires.due clean)
