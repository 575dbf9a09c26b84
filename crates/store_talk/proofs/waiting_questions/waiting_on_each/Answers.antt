use Rattle.std.proofs.Common.{◌≡◌, ◌++◌, ◌∙◌, ap, arith, rules, subst, sym}
use Rattle.sqlite.specs.Effect.{Database}
use Rattle.sqlite.specs.Held.{state}
use Rattle.house_rows.specs.declared.item.Terms.{Terms}
use Rattle.store_talk.specs.Waiting.{WaitingFit, waiting_in}
use Rattle.store_items.proofs.IsConsistent.{row_has}
use Rattle.store_rows.proofs.Steps.{both_same, both_survive, clean_before, found_more}
use Rattle.store_talk.proofs.waiting_questions.waiting_on_each.Goals as goal

pub loop-terms-preserved : goal.loop-terms-preserved
loop-terms-preserved g c =
    let old = state g.S.Store c.args.conn.now in
    let mid = state g.S.Store c.loop-terms.conn in
    let new = state g.S.Store c.add_waiting.new.conn in
    let held = c.loop-terms.invariant in
    let crash = c.add_waiting.ensures.finds.read.crash in
    let F = λ (t : Terms). waiting_in old.now.trees t.item in
    record {
      survives = both_survive old mid new held.survives crash;
      same = λ clean. both_same old mid new (held.same (clean_before mid new crash clean)) (c.in_ok-add_waiting.ensures.finds.read.same clean);
      mode = λ out. c.add_waiting.ensures.finds.read.mode (held.mode out);
      found = λ clean. (let before = clean_before mid new crash clean in
          found_more F c.args.own.now c.loop-terms.terms-index c.terms-item.result c.loop-terms.asked.items c.add_waiting.new.asked.items _ c.loop-terms-test.true (held.found before)
          (subst (λ (db : Database). c.add_waiting.new.asked.items ≡ c.loop-terms.asked.items ++ waiting_in db.trees c.terms-item.result.item) (held.same before).0.now_is (c.in_ok-add_waiting.ensures.finds.value clean)
          ∙ ap (λ (t : Terms). c.loop-terms.asked.items ++ F t) c.terms-item.is));
      fits = c.in_ok-add_waiting.ensures.fits held.fits;
    }

pub returns-in_err-add_waiting-clause-finds : goal.returns-in_err-add_waiting-clause-finds
returns-in_err-add_waiting-clause-finds g c =
    let old = state g.S.Store c.args.conn.now in
    let mid = state g.S.Store c.loop-terms.conn in
    record {
      value = search rules;
      damaged = λ clean fits is. (
          let before = clean_before mid (state g.S.Store c.add_waiting.new.conn) c.add_waiting.ensures.finds.read.crash clean in
          let P = λ (t : Terms). WaitingFit old.now.trees t.item in
          let here = row_has P c.args.own.now c.loop-terms.terms-index c.terms-item.result (omega (arith, c.loop-terms-test.true)) fits in
          c.in_err-add_waiting.ensures.finds.damaged clean (subst (λ (db : Database). WaitingFit db.trees c.terms-item.result.item) (sym (c.loop-terms.invariant.same before).0.now_is) (subst P (sym c.terms-item.is) here)) (search rules));
      read = search rules;
    }
