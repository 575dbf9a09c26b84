use Rattle.std.proofs.Common.{ℕ, List, Result, Ok, Err, refl}
use Rattle.wire.specs.Frame.{IsFrame}
use Rattle.wire.specs.Message.{Message}
use Rattle.site_request.specs.Asked.{asked_of}
use Rattle.site_request.specs.Reading.{IsRead, IsRequestRead}
use Rattle.site_request.specs.declared.asked.Asked.{Asked}
use Rattle.site_request.specs.declared.asked.NoMemory.{NoMemory}
use Rattle.site_request.proofs.reading.read.Goals as goal

-- what a message is read as, its text is read as
text_read : (text : List ℕ) (m : Message) (r : Result Asked NoMemory) → IsFrame text (Ok m)
    → IsRequestRead m r → IsRead text r
unfolding asked_of
text_read text m (Ok asked) is same = (Ok m, is, same)
text_read text m (Err refused) is closes = (asked_of (Ok m), (Ok m, is, refl), closes)

pub returns-in-Ok : goal.returns-in-Ok
returns-in-Ok c = text_read c.args.text.now c.in-Ok.request c.read_request.result c.in-Ok.ensures c.read_request.ensures

pub returns-in-Err : goal.returns-in-Err
unfolding asked_of
returns-in-Err c = (Err c.in-Err.fault, c.in-Err.ensures, refl)
