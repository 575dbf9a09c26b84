use Rattle.std.proofs.Common.{◌≡◌, ◌∙◌, ◌+◌, ◌-◌, ◌<◌, ap, arith, length, map, subst, sym}
use Rattle.std.proofs.lemmas.List.{length-map}
use Rattle.site_request.specs.Asked.{IsAsked}
use Rattle.site_audit.specs.Places.{IsHeard}
use Rattle.site_audit.proofs.Lists.{zip_length}
use Rattle.site_audit.proofs.SealedBids.{found_at, none_at, parted_map}
use Rattle.site_audit.proofs.bids.bid_at.Goals as goal

pub returns-in-Some-clause-found : goal.returns-in-Some-clause-found
returns-in-Some-clause-found c = λ heards are.
    let p = parted_map (λ m. m.items) IsHeard c.args.messages.now heards (c.args.place - 1) c.in-Some.text.now are c.in-Some.ensures.lookup.3.0 in
    let read = c.deref.ensures.value ∙ ap (λ m. m.items) c.in-Some.ensures.lookup.1 in
    let asks : IsAsked c.deref.result.now p.here.asked = subst (λ t. IsAsked t p.here.asked) (sym read) p.belongs.asks in
    let placed : c.args.place ≡ length p.before + 1 = (let at' = p.placed in omega (arith, at', c.if-place-eq0.false)) in
    found_at c.args.place p.before p.here p.later heards c.read_bid.result p.parts placed (c.read_bid.ensures.read p.here.asked asks)

pub returns-in-None-clause-found : goal.returns-in-None-clause-found
returns-in-None-clause-found c = λ heards are.
    let long = zip_length IsHeard (map (λ m. m.items) c.args.messages.now) heards are in
    let past : length heards < c.args.place = omega (arith, long, length-map c.args.messages.now (λ m. m.items), c.in-None.ensures.lookup, c.if-place-eq0.false) in
    none_at c.args.place heards past
