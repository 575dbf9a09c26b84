use Rattle.std.proofs.Common.{◌∙◌, ap, map, refl, subst, sym, Err}
use Rattle.std.specs.List.{AllZip}
use Rattle.house_laws.specs.Covered.{raised}
use Rattle.site.specs.Replies.{zone_of}
use Rattle.site.proofs.Raised.{zip_raised}
use Rattle.site_bids.specs.Spelt.{bid_text}
use Rattle.site_audit.specs.AuditsFrom.{IsFoundFrom}
use Rattle.site_audit.specs.Places.{IsHeard, keep_of}
use Rattle.site_audit.proofs.Pairs.{memory_gave}
use Rattle.site_audit.proofs.RaisedRuns.{fault_gave}
use Rattle.site_audit.proofs.raised_bid.compare_with.Goals as goal

pub returns-in_err-list-clause-found : goal.returns-in_err-list-clause-found
returns-in_err-list-clause-found g c = λ honest honest' settings h is e d heards are text spelt.
    let n = g.K.Keep in
    let zone = zone_of c.args.left.now in
    let left = keep_of c.args.left.now in
    let right = keep_of c.args.right.now in
    let rights = raised c.args.place text heards in
    fault_gave (λ r. IsFoundFrom n.content n.is_failed settings zone c.args.other h h heards rights
    left right r) c.in_err-list.field-0.0 c.from_residual.result c.from_residual.ensures
    (subst (λ f. IsFoundFrom n.content n.is_failed settings zone c.args.other h h heards rights left
    right (Err f)) (sym c.in_err-list.ensures.err) tt)

pub returns-clause-found : goal.returns-clause-found
returns-clause-found g c = λ honest honest' settings h is e d heards are text spelt.
    let rights = raised c.args.place text heards in
    let list = ap (λ l. map (λ m. m.items) l) c.deref.ensures.value ∙ c.in_ok-list.ensures.list in
    c.audit_from.ensures.found honest honest' settings h h is is
    (record { public = refl; own = refl; waiting = refl }) e d heards rights are
    (subst (λ l. AllZip IsHeard l rights) (sym list)
    (zip_raised IsHeard c.args.place (map (λ m. m.items) c.args.messages.now) heards
    (bid_text c.args.bid) text are spelt))

pub returns-in_err-list-clause-never : goal.returns-in_err-list-clause-never
returns-in_err-list-clause-never g c =
    memory_gave c.in_err-list.field-0.0 c.from_residual.result c.from_residual.ensures
    c.in_err-list.ensures.err
