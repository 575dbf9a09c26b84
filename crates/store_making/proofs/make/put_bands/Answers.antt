use Rattle.std.proofs.Common.{◌∙◌, arith, refl, rules}
use Rattle.sqlite.specs.State.{HasCleanDisk}
use Rattle.sqlite.specs.Held.{state}
use Rattle.store_making.proofs.MadeHouses.{band_more}
use Rattle.store_making.proofs.make.put_bands.Goals as goal

pub loop-from-preserved : goal.loop-from-preserved
loop-from-preserved g c = (
  search rules,
  search rules,
  λ clean.
      let held = c.loop-from.invariant in
      let early : HasCleanDisk (state g.S.Store c.loop-from.tx.conn.now) = omega (arith, c.put_band.ensures.write.crash.clean) in
      let inside = c.in_ok-put_band.ensures.write.inside clean in
      (inside.is_open, inside.mode, inside.committed ∙ (held.2 early).2, band_more c.args.bands.now c.loop-from.from-index _ _ _ _ c.requires.valid c.loop-from-test.true refl (held.2 early).3 (c.in_ok-put_band.ensures.ok clean)),
)
