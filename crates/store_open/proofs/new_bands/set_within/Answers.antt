use Rattle.std.proofs.Common.{◌∙◌, arith}
use Rattle.sqlite.specs.Held.{state}
use Rattle.sqlite.specs.State.{HasCleanDisk}
use Rattle.store_rows.proofs.StateLemmas.{err_then, ok_then, still_committed}
use Rattle.store_rows.proofs.Steps.{both_survive}
use Rattle.store_open.proofs.WrittenEditions.{sets}
use Rattle.store_open.proofs.new_bands.set_within.Goals as goal

pub returns-clause-ok : goal.returns-clause-ok
returns-clause-ok g c clean =
    let third : HasCleanDisk (state g.S.Store c.put_bands.new.tx.conn.now) = omega (arith, c.set_clock.ensures.write.crash.clean) in
    let second : HasCleanDisk (state g.S.Store c.put_edition.new.tx.conn.now) = omega (arith, c.put_bands.ensures.write.crash.clean, third) in
    let first : HasCleanDisk (state g.S.Store c.args.tx.now.conn.now) = omega (arith, c.put_edition.ensures.write.crash.clean, second) in
    ok_then c.set_clock.result (c.set_clock.ensures.ok clean) (λ _ w.
    sets c.args.edition c.args.first c.args.moment c.args.bands _ _ _ _ (c.requires.numbered first) (c.requires.next first) (c.requires.begins first)
    (c.in_ok-put_edition.ensures.ok second) (c.in_ok-put_bands.ensures.ok third) w)

pub returns-clause-write : goal.returns-clause-write
returns-clause-write g c =
    let old = state g.S.Store c.args.tx.now.conn.now in
    let one = state g.S.Store c.put_edition.new.tx.conn.now in
    let two = state g.S.Store c.put_bands.new.tx.conn.now in
    let new = state g.S.Store c.set_clock.new.tx.conn.now in
    record {
      inside = λ clean. (let last : HasCleanDisk two = omega (arith, c.set_clock.ensures.write.crash.clean, clean) in
          let mid : HasCleanDisk one = omega (arith, c.put_bands.ensures.write.crash.clean, last) in
          ok_then c.set_clock.result (c.set_clock.ensures.write.inside clean) (λ _ it. record {
            mode = it.mode;
            is_open = it.is_open;
            committed = it.committed ∙ (c.in_ok-put_bands.ensures.write.inside last).committed ∙ (c.in_ok-put_edition.ensures.write.inside mid).committed;
          }));
      err = λ clean. (let last : HasCleanDisk two = omega (arith, c.set_clock.ensures.write.crash.clean, clean) in
          let mid : HasCleanDisk one = omega (arith, c.put_bands.ensures.write.crash.clean, last) in
          let first : HasCleanDisk old = omega (arith, c.put_edition.ensures.write.crash.clean, mid) in
          err_then c.set_clock.result (c.set_clock.ensures.write.err clean) (λ _ kept. still_committed old two new (c.requires.begun.serves first).0
          ((c.in_ok-put_bands.ensures.write.inside last).committed ∙ (c.in_ok-put_edition.ensures.write.inside mid).committed) kept));
      crash = both_survive old two new (both_survive old one two c.put_edition.ensures.write.crash c.put_bands.ensures.write.crash) c.set_clock.ensures.write.crash;
    }
