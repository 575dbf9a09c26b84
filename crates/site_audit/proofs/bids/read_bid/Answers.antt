use Rattle.std.proofs.Common.{◌∙◌, ap}
use Rattle.site_request.specs.declared.asked.Asked.{Asked}
use Rattle.site_audit.specs.SealedBids.{sealed_in}
use Rattle.site_audit.proofs.SealedBids.{one_meaning}
use Rattle.site_audit.proofs.bids.read_bid.Goals as goal

pub returns-in-Ok-read-clause-read : goal.returns-in-Ok-read-clause-read
returns-in-Ok-read-clause-read c = λ asked is.
    c.bid_in.ensures ∙ ap (λ (a : Asked). sealed_in a.message) (one_meaning c.args.text.now c.in-Ok-read.asked asked c.in-Ok-read.ensures is)
