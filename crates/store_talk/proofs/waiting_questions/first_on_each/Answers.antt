use Rattle.std.proofs.Common.{◌≡◌, ◌<◌, ◌+◌, ◌++◌, ◌∙◌, ap, drop, get_or, length, rules, subst, sym, take}
use Rattle.std.proofs.lemmas.List.{drop_more}
use Rattle.sqlite.specs.Effect.{Database}
use Rattle.sqlite.specs.Held.{state}
use Rattle.house_rows.specs.Limits.{most_shown}
use Rattle.house_rows.specs.declared.item.Terms.{Terms}
use Rattle.store_talk.specs.Waiting.{WaitingFit, WaitingInTurn, waiting_in}
use Rattle.store_rows.proofs.Steps.{both_same, both_survive, clean_before, first_found_all, first_found_full, first_found_more}
use Rattle.store_talk.proofs.WaitingTurn.{next_in_turn}
use Rattle.store_talk.proofs.waiting_questions.first_on_each.Goals as goal

pub loop-terms-preserved : goal.loop-terms-preserved
loop-terms-preserved g c =
    let old = state g.S.Store c.args.conn.now in
    let mid = state g.S.Store c.loop-terms.conn in
    let new = state g.S.Store c.add_first_waiting.new.conn in
    let held = c.loop-terms.invariant in
    let crash = c.add_first_waiting.ensures.finds.read.crash in
    let F = λ (t : Terms). waiting_in old.now.trees t.item in
    record {
      survives = both_survive old mid new held.survives crash;
      same = λ clean. both_same old mid new (held.same (clean_before mid new crash clean)) (c.in_ok-add_first_waiting.ensures.finds.read.same clean);
      mode = λ out. c.add_first_waiting.ensures.finds.read.mode (held.mode out);
      few = c.in_ok-add_first_waiting.ensures.few;
      found = λ clean. (let before = clean_before mid new crash clean in
          first_found_more most_shown F c.args.own.now c.loop-terms.terms-index c.terms-item.result c.loop-terms.asked.items c.add_first_waiting.new.asked.items _ c.loop-terms-test.true (held.found before)
          (subst (λ (db : Database). c.add_first_waiting.new.asked.items ≡ take most_shown (c.loop-terms.asked.items ++ waiting_in db.trees c.terms-item.result.item)) (held.same before).0.now_is (c.in_ok-add_first_waiting.ensures.finds.value clean)
          ∙ ap (λ (t : Terms). take most_shown (c.loop-terms.asked.items ++ F t)) c.terms-item.is));
      fits = c.in_ok-add_first_waiting.ensures.fits held.fits;
      reached = λ clean fit. (let before = clean_before mid new crash clean in
          let now = subst (WaitingInTurn old.now.trees (length c.loop-terms.asked.items)) (drop_more c.args.own.now c.loop-terms.terms-index c.terms-item.result c.loop-terms-test.true) (held.reached before fit) in
          let more = subst (λ (db : Database). c.add_first_waiting.new.asked.items ≡ take most_shown (c.loop-terms.asked.items ++ waiting_in db.trees c.terms-item.result.item)) (held.same before).0.now_is (c.in_ok-add_first_waiting.ensures.finds.value clean) in
          next_in_turn old.now.trees c.loop-terms.asked.items c.add_first_waiting.new.asked.items (get_or c.args.own.now c.loop-terms.terms-index c.terms-item.result) (drop (c.loop-terms.terms-index + 1) c.args.own.now)
          (more ∙ ap (λ (t : Terms). take most_shown (c.loop-terms.asked.items ++ F t)) c.terms-item.is) now);
    }

pub returns-then-len-ge-MOST_SHOWN-clause-finds : goal.returns-then-len-ge-MOST_SHOWN-clause-finds
returns-then-len-ge-MOST_SHOWN-clause-finds g c =
    let held = c.loop-terms.invariant in
    record {
      value = λ clean. first_found_full most_shown c.loop-terms.asked.items _ _ held.few (search rules) (held.found clean);
      damaged = search rules;
      read = search rules;
    }

pub returns-clause-finds : goal.returns-clause-finds
returns-clause-finds g c =
    let held = c.loop-terms.invariant in
    let F = λ (t : Terms). waiting_in (state g.S.Store c.args.conn.now).now.trees t.item in
    record {
      value = λ clean. first_found_all most_shown F c.args.own.now c.loop-terms.terms-index c.loop-terms.asked.items _ held.few c.loop-terms-test.false (held.found clean);
      damaged = search rules;
      read = search rules;
    }

pub returns-in_err-add_first_waiting-clause-finds : goal.returns-in_err-add_first_waiting-clause-finds
returns-in_err-add_first_waiting-clause-finds g c =
    let old = state g.S.Store c.args.conn.now in
    let mid = state g.S.Store c.loop-terms.conn in
    let held = c.loop-terms.invariant in
    record {
      value = search rules;
      damaged = λ clean fit is. (
          let before = clean_before mid (state g.S.Store c.add_first_waiting.new.conn) c.add_first_waiting.ensures.finds.read.crash clean in
          let few : length c.loop-terms.asked.items < most_shown = search rules in
          let now = subst (WaitingInTurn old.now.trees (length c.loop-terms.asked.items)) (drop_more c.args.own.now c.loop-terms.terms-index c.terms-item.result c.loop-terms-test.true) (held.reached before fit) in
          let here = subst (λ (t : Terms). WaitingFit old.now.trees t.item) (sym c.terms-item.is) (now.0 few) in
          c.in_err-add_first_waiting.ensures.finds.damaged clean (subst (λ (db : Database). WaitingFit db.trees c.terms-item.result.item) (sym (held.same before).0.now_is) here) (search rules));
      read = search rules;
    }
