-- A whole write, and the half that is written where the file stops, are what a torn write may leave.
use Rattle.stop_files.proofs.Bytes.{Torn-part}
use Rattle.sqlite_disk.proofs.EventLemmas.{Torn-overlaid}
use Rattle.stop_files.proofs.plate.Plate.write.Goals as goal

pub returns-in_ok-put-in-Ok-2-clause-torn : goal.returns-in_ok-put-in-Ok-2-clause-torn
returns-in_ok-put-in-Ok-2-clause-torn c = rw (c.in_ok-put-in-Ok-2.ensures.written, c.spend.ensures.bytes.seen) (Torn-overlaid _ _ _)

pub returns-in_ok-put-in-Err-clause-torn : goal.returns-in_ok-put-in-Err-clause-torn
returns-in_ok-put-in-Err-clause-torn c = rw (c.in_ok-put-in-Err.ensures.written, c.spend.ensures.bytes.seen) (Torn-part _ _ _ _)
