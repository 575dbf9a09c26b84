use Rattle.std.proofs.Common.{rules}
use Rattle.house.proofs.Decides.{accepts, refuses}
use Rattle.house.proofs.Listings.{list_accepts, list_refusal, listing_fits, offered}
use Rattle.house.proofs.listing.list.Goals as goal

pub returns-in-Err : goal.returns-in-Err
returns-in-Err g c = refuses c.in_ok-taken.ensures.answers.faults c.in_ok-taken.ensures.answers.read (λ honest settings h is e.
    list_refusal (g.K.Keep.content c.args.keep.now) settings h c.args.moment c.args.caller c.args.offer.now c.in-Err.refusal e
    (rw c.in-Err.is at (c.in_ok-taken.ensures.answers.value honest)))
    (λ honest rows. rw c.in-Err.is at (c.in_ok-taken.ensures.answers.value honest))

pub returns : goal.returns
returns g c = accepts c.in_ok-taken.ensures.answers.faults c.in_ok-taken.ensures.answers.read
    (λ honest settings h is e.
    let same = rw c.in-Ok.is at (c.in_ok-taken.ensures.same honest) in
    list_accepts (g.K.Keep.content c.args.keep.now) settings h c.args.moment c.args.caller c.args.offer.now _ is
    (offered c.args.caller c.args.offer.now c.in-Ok.taken same) e
    (rw c.in-Ok.is at (c.in_ok-taken.ensures.answers.value honest)))
    (λ honest rows. rw c.in-Ok.is at (c.in_ok-taken.ensures.answers.value honest))
    (λ honest rows change_rows.
    let same = rw c.in-Ok.is at (c.in_ok-taken.ensures.same honest) in
    listing_fits (g.K.Keep.content c.args.keep.now) c.args.moment c.args.caller c.args.offer.now _
    (offered c.args.caller c.args.offer.now c.in-Ok.taken same)
    (rw c.in-Ok.is at (c.in_ok-taken.ensures.answers.value honest)))
    (search rules)
