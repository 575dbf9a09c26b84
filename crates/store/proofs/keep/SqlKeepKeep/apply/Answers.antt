use Rattle.std.proofs.Common.{rules}
use Rattle.store.proofs.keep.SqlKeepKeep.apply.Goals as goal

pub returns : goal.returns
returns g c = record {
  ok = search rules;
  err = search rules;
  faults = search rules;
  honest = search rules;
  stays = search rules;
  kept = search rules;
  crash = search rules;
}
