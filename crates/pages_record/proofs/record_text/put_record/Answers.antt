use Rattle.std.proofs.Common.{arith}
use Rattle.pages_record.proofs.Parts.{record_put}
use Rattle.pages_record.proofs.record_text.put_record.Goals as goal

pub returns : goal.returns
returns g c =
    record_put g.K.Keep c.len-start.result (omega arith) c.in_ok-put_all.ensures
    c.in_ok-end_object.ensures.text c.in_ok-end_object.ensures.front
