-- Cutting and filling up is what the model calls padding.
use Rattle.std.proofs.Common.{rules}
use Rattle.stop_files.proofs.Bytes.{padded-cut}
use Rattle.stop_files.proofs.plate.Plate.resize.Goals as goal

pub returns-clause-cut : goal.returns-clause-cut
returns-clause-cut c = rw padded-cut (search rules)
