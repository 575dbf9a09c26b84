use Rattle.std.proofs.Common.{ap, rules}
use Rattle.house_rows.specs.Tables.{band_tables}
use Rattle.store_list.proofs.keep.ListKeepKeep.editions.Goals as goal

pub returns : goal.returns
returns c = record {
  value = λ _. ap band_tables c.self.view_is;
  faults = search rules;
  damaged = search rules;
  read = search rules;
}
