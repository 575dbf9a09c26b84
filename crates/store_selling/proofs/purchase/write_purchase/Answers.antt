use Rattle.std.proofs.Common.{arith, rules}
use Rattle.sqlite.specs.Held.{state}
use Rattle.sqlite.specs.State.{HasCleanDisk}
use Rattle.store_rows.proofs.StateLemmas.{err_then, ok_then, still_committed}
use Rattle.store_selling.proofs.Sold.{buys}
use Rattle.store_selling.proofs.purchase.write_purchase.Goals as goal

pub returns-clause-ok : goal.returns-clause-ok
returns-clause-ok g c clean =
    let mid_clean : HasCleanDisk (state g.S.Store c.set_bought.new.tx.conn.now) = omega (arith, c.set_clock.ensures.write.crash.clean) in
    let old_clean : HasCleanDisk (state g.S.Store c.args.tx.now.conn.now) = omega (arith, c.set_bought.ensures.write.crash.clean) in
    ok_then c.set_clock.result (c.set_clock.ensures.ok clean) (λ _ clock. buys c.args.moment c.args.item c.args.buyer c.args.price _ _ _ (c.requires.numbered old_clean) (c.requires.fits old_clean) (c.in_ok-set_bought.ensures.ok mid_clean) clock)

pub returns-clause-write : goal.returns-clause-write
returns-clause-write g c = record {
  inside = search rules;
  err = λ clean.
      let mid_clean : HasCleanDisk (state g.S.Store c.set_bought.new.tx.conn.now) = omega (arith, c.set_clock.ensures.write.crash.clean) in
      let old_clean : HasCleanDisk (state g.S.Store c.args.tx.now.conn.now) = omega (arith, c.set_bought.ensures.write.crash.clean) in
      err_then c.set_clock.result (c.set_clock.ensures.write.err clean)
      (λ _ kept. still_committed (state g.S.Store c.args.tx.now.conn.now) (state g.S.Store c.set_bought.new.tx.conn.now) (state g.S.Store c.set_clock.new.tx.conn.now) (c.requires.begun.serves old_clean).0 (c.in_ok-set_bought.ensures.write.inside mid_clean).committed kept);
  crash = search rules;
}
