use Rattle.std.proofs.Common.{◌≡◌, rules}
use Rattle.store_rows.specs.Tables.{tables_in}
use Rattle.store.proofs.keep.SqlKeepKeep.ask_count.Goals as goal

pub returns-in-Ok-ask_count : goal.returns-in-Ok-ask_count
unfolding tables_in
returns-in-Ok-ask_count g c = record {
  value = let on : c.in-Ok.item ≡ c.args.item = search rules in
      let by : c.in-Ok-try_from.asker ≡ c.args.asker = search rules in
      rw (← c.self.view_is, ← on, ← by) (λ honest. c.in-Ok-ask_count.ensures.finds.value honest);
  faults = search rules;
  damaged = search rules;
  read = search rules;
}
