use Rattle.std.proofs.Common.{◌∙◌, arith}
use Rattle.sqlite.specs.Held.{state}
use Rattle.sqlite.specs.State.{HasCleanDisk}
use Rattle.store_rows.proofs.StateLemmas.{err_then, ok_then, still_committed}
use Rattle.store_rows.proofs.Steps.{both_survive}
use Rattle.store_items.proofs.ConsistentRows.{ok_so}
use Rattle.store_bids.proofs.Written.{bids}
use Rattle.store_bids.proofs.bidding.write_bid.Goals as goal

pub returns-clause-ok : goal.returns-clause-ok
returns-clause-ok g c clean =
    let last : HasCleanDisk (state g.S.Store c.set_standing.new.tx.conn.now) = omega (arith, c.set_clock.ensures.write.crash.clean) in
    let mid : HasCleanDisk (state g.S.Store c.put_bid.new.tx.conn.now) = omega (arith, c.set_standing.ensures.write.crash.clean) in
    let old : HasCleanDisk (state g.S.Store c.args.tx.now.conn.now) = omega (arith, c.put_bid.ensures.write.crash.clean) in
    ok_then c.set_clock.result (c.set_clock.ensures.ok clean) (λ _ clock. bids c.args.moment c.args.item c.args.placed c.args.standing.now _ _ _ _ (c.requires.numbered old) c.requires.led (c.requires.fits old) (c.in_ok-put_bid.ensures.ok mid) (c.in_ok-set_standing.ensures.ok last) clock)

pub returns-clause-free : goal.returns-clause-free
returns-clause-free g c clean =
    let last : HasCleanDisk (state g.S.Store c.set_standing.new.tx.conn.now) = omega (arith, c.set_clock.ensures.write.crash.clean) in
    let mid : HasCleanDisk (state g.S.Store c.put_bid.new.tx.conn.now) = omega (arith, c.set_standing.ensures.write.crash.clean) in
    ok_so c.set_clock.result (c.in_ok-put_bid.ensures.free mid)

pub returns-clause-write : goal.returns-clause-write
returns-clause-write g c =
    let old = state g.S.Store c.args.tx.now.conn.now in
    let one = state g.S.Store c.put_bid.new.tx.conn.now in
    let two = state g.S.Store c.set_standing.new.tx.conn.now in
    let new = state g.S.Store c.set_clock.new.tx.conn.now in
    record {
      inside = λ clean. (let last : HasCleanDisk two = omega (arith, c.set_clock.ensures.write.crash.clean, clean) in
          let mid : HasCleanDisk one = omega (arith, c.set_standing.ensures.write.crash.clean, last) in
          ok_then c.set_clock.result (c.set_clock.ensures.write.inside clean) (λ _ it. record {
            mode = it.mode;
            is_open = it.is_open;
            committed = it.committed ∙ (c.in_ok-set_standing.ensures.write.inside last).committed ∙ (c.in_ok-put_bid.ensures.write.inside mid).committed;
          }));
      err = λ clean. (let last : HasCleanDisk two = omega (arith, c.set_clock.ensures.write.crash.clean, clean) in
          let mid : HasCleanDisk one = omega (arith, c.set_standing.ensures.write.crash.clean, last) in
          let first : HasCleanDisk old = omega (arith, c.put_bid.ensures.write.crash.clean, mid) in
          err_then c.set_clock.result (c.set_clock.ensures.write.err clean) (λ _ kept. still_committed old two new (c.requires.begun.serves first).0
          ((c.in_ok-set_standing.ensures.write.inside last).committed ∙ (c.in_ok-put_bid.ensures.write.inside mid).committed) kept));
      crash = both_survive old two new (both_survive old one two c.put_bid.ensures.write.crash c.set_standing.ensures.write.crash) c.set_clock.ensures.write.crash;
    }
