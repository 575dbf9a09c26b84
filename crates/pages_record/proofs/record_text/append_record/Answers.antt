use Rattle.std.proofs.Common.{rules, arith}
use Rattle.pages_record.proofs.Parts.{front_stays}
use Rattle.pages_record.proofs.Public.{record_same}
use Rattle.pages_record.proofs.record_text.append_record.Goals as goal

pub returns : goal.returns
returns g c = record {
  tables = search rules;
  shown = search (rules, record_same);
  front = front_stays c.finish.result c.len-before.result c.args.out.now.items c.put_record-put.new.out.items c.finish.new.out.items (omega arith)
      c.put_record-put.ensures.front c.finish.ensures.ok c.finish.ensures.err;
  err = search rules;
  faults = search rules;
  damaged = search rules;
  read = search rules;
}
