use Rattle.std.proofs.Common.{◌≡◌, ◌++◌, drop, false, flat_map}
use Rattle.std.specs.List.{AllByRecursion}
use Rattle.sqlite.specs.State.{HasCleanDisk, IsUnchanged, Survives}
use Rattle.sqlite.specs.Held.{state}
use Rattle.house_rows.specs.Fits.{QuestionFits}
use Rattle.house_rows.specs.declared.item.Terms.{Terms}
use Rattle.store_talk.specs.Waiting.{waiting_in}
use Rattle.store_talk.proofs.waiting_questions.waiting_on_each.Given as goal

abbrev pub invariant-loop-terms : goal.invariant-loop-terms
invariant-loop-terms g l =
    let old = state g.S.Store l.fn.conn in
    let now = state g.S.Store l.conn in
    record {
      survives : Survives old now (λ _. ⊥);
      same : HasCleanDisk now → IsUnchanged old now;
      mode : l.fn.conn.in_transaction ≡ false → l.conn.in_transaction ≡ false;
      found : HasCleanDisk now → l.asked.items ++ flat_map (λ (t : Terms). waiting_in old.now.trees t.item) (drop l.terms-index l.own) ≡ flat_map (λ (t : Terms). waiting_in old.now.trees t.item) l.own;
      fits : AllByRecursion QuestionFits l.asked.items;
    }
