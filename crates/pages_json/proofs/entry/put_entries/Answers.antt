use Rattle.std.proofs.Common.{arith, rules}
use Rattle.pages_json.proofs.Texts.{entries_done, entries_step, front_kept, front_then}
use Rattle.pages_json.proofs.entry.put_entries.Goals as goal

pub returns-in_err-put-clause-front : goal.returns-in_err-put-clause-front
returns-in_err-put-clause-front g c =
    front_then _ c.push.new.self.items _ (front_then _ c.loop-entry.out.items _ c.loop-entry.invariant.front (search (rules, front_kept))) (search rules)

pub loop-entry-preserved : goal.loop-entry-preserved
loop-entry-preserved g c = record {
  text = entries_step (g.F.Shows.tree c.args.form.now) _ c.loop-entry.out.items c.push.new.self.items c.put.new.out.items c.args.entries.now c.loop-entry.entry-index c.entry-item.result
      (omega arith) (search rules) c.loop-entry.invariant.text c.in_ok-push.ensures.items c.in_ok-put.ensures.text;
  front = front_then _ c.push.new.self.items _ (front_then _ c.loop-entry.out.items _ c.loop-entry.invariant.front (front_kept _ _ _ c.in_ok-push.ensures.items)) (search rules);
}

pub returns-clause-text : goal.returns-clause-text
returns-clause-text g c = entries_done (g.F.Shows.tree c.args.form.now) _ c.loop-entry.out.items c.args.entries.now c.loop-entry.entry-index (omega arith) c.loop-entry.invariant.text
