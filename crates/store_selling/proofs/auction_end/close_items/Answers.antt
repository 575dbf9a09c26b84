use Rattle.std.proofs.Common.{arith, ◌∙◌}
use Rattle.sqlite.specs.Held.{state}
use Rattle.sqlite.specs.State.{HasCleanDisk}
use Rattle.sqlite.proofs.StateLemmas.{survives_then}
use Rattle.store_selling.proofs.Closed.{closing_done, closing_steps}
use Rattle.store_selling.proofs.auction_end.close_items.Goals as goal

pub loop-terms-preserved : goal.loop-terms-preserved
loop-terms-preserved g c =
    let held = c.loop-terms.invariant in
    let old = state g.S.Store c.args.tx.now.conn.now in
    let now = state g.S.Store c.loop-terms.tx.conn.now in
    let next = state g.S.Store c.set_closed.new.tx.conn.now in (
      c.set_closed.ensures.same_reference ∙ held.0,
      survives_then old now next (λ _. ⊥) (λ _. ⊥) (λ _. ⊥) (λ _ _ none. none) (λ _ _ none. none) held.1 c.set_closed.ensures.write.crash,
      λ clean. let now_clean : HasCleanDisk now = omega (arith, c.set_closed.ensures.write.crash.clean) in
          let so = held.2 now_clean in
          let inside = c.in_ok-set_closed.ensures.write.inside clean in (
            inside.is_open,
            inside.mode,
            inside.committed ∙ so.2,
            closing_steps c.args.due.now c.loop-terms.terms-index c.terms-item.result c.close_sells.result old.now now.now next.now (omega (arith, c.loop-terms-test.true)) c.terms-item.is c.close_sells.ensures so.3 (c.in_ok-set_closed.ensures.ok clean),
          ),
    )

pub returns-clause-ok : goal.returns-clause-ok
returns-clause-ok g c clean =
    closing_done c.args.due.now c.loop-terms.terms-index (state g.S.Store c.args.tx.now.conn.now).now (state g.S.Store c.loop-terms.tx.conn.now).now (omega (arith, c.loop-terms-test.false)) (c.loop-terms.invariant.2 clean).3
