-- What is copied out of the file is what an honest one answers.
use Rattle.std.proofs.Common.{◌≡◌, ◌+◌, ◌-◌, length, ap, arith, ◌∙◌}
use Rattle.stop_files.specs.Plate.{seen_on}
use Rattle.stop_files.proofs.Bytes.{agrees-copied}
use Rattle.stop_files.proofs.plate.Plate.read.Goals as goal

pub returns-clause-value : goal.returns-clause-value
returns-clause-value c =
    let same : length c.spend.new.self.seen.items ≡ length c.args.self.now.seen.items = ap length c.spend.ensures.bytes.seen in
    agrees-copied (seen_on c.args.self.now) c.deref.result.now c.args.buf.now c.copy_from_slice.new.self c.args.at c.min-count.result
    (c.args.at + c.min-count.result - c.args.at)
    (omega arith) (omega arith) (omega arith) (c.deref.ensures.value ∙ c.spend.ensures.bytes.seen)
    c.copy_from_slice.ensures.len c.copy_from_slice.ensures.after
