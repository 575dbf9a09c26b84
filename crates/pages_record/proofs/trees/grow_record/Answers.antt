use Rattle.std.proofs.Common.{rules}
use Rattle.pages_record.proofs.Parts.{record_grown}
use Rattle.pages_record.proofs.trees.grow_record.Goals as goal

pub returns : goal.returns
returns g c = record {
  grown = λ honest. record_grown (g.K.Keep.content c.args.keep.now) _ c.grow_all.new.members
      c.new-members.ensures.empty (c.in_ok-grow_all.ensures.grown honest);
  faults = search rules;
  damaged = search rules;
  read = search rules;
}
