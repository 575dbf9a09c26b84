-- The file is filled up to the end of the bytes, and then they are put in the place of others.
use Rattle.std.proofs.Common.{arith, vec_len}
use Rattle.stop_files.proofs.Bytes.{overlaid-filled}
use Rattle.stop_files.proofs.plate.put.Goals as goal

pub returns-clause-written : goal.returns-clause-written
returns-clause-written c =
    overlaid-filled c.args.file.now.items c.resize.new.self.items c.deref_mut.result.now c.overwrite.new.file c.args.bytes.now c.args.at
    c.resize.new.self.len (vec_len c.args.file.now) c.max.result c.in_ok-resize.ensures.items (omega arith) (omega arith)
    c.deref_mut.ensures.value c.overwrite.ensures (omega arith)
