use Rattle.std.proofs.Common.{arith, rules}
use Rattle.sqlite.specs.Held.{state}
use Rattle.sqlite.specs.State.{HasCleanDisk}
use Rattle.store_rows.proofs.StateLemmas.{on_error, still_committed}
use Rattle.store_making.proofs.tables.make_later.Goals as goal

pub returns-in_err-make_later_step-clause-write : goal.returns-in_err-make_later_step-clause-write
returns-in_err-make_later_step-clause-write g c = record {
  inside = search rules;
  err = λ clean.
      let held = c.loop-step.invariant in
      let now_clean : HasCleanDisk (state g.S.Store c.loop-step.tx.conn.now) = omega (arith, c.make_later_step.ensures.write.crash.clean) in
      let old_clean : HasCleanDisk (state g.S.Store c.args.tx.now.conn.now) = omega (arith, held.1.clean) in
      on_error c.from_residual.result (still_committed (state g.S.Store c.args.tx.now.conn.now) (state g.S.Store c.loop-step.tx.conn.now) _ (c.requires.before old_clean).0 (held.2 now_clean).2 (c.in_err-make_later_step.ensures.write.err clean));
  crash = search rules;
}
