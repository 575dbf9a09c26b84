use Rattle.std.proofs.Common.{inl, inr, refl}
use Rattle.std.proofs.lemmas.Result.{err_from_is_err_and}
use Rattle.auction_runs.proofs.Begun.{unbegun}
use Rattle.auction_runs.proofs.Unready.{unfound}
use Rattle.auction_runs.proofs.import.check_house.Goals as goal

pub returns-in_err-check_zone-clause-cause : goal.returns-in_err-check_zone-clause-cause
returns-in_err-check_zone-clause-cause g c =
    let k = g.K.Keep in
    let p = err_from_is_err_and c.from_residual.result c.from_residual.ensures.1 in
    rw (p.1, p.2) (inl (unbegun {S = Unit {0}} (k.is_honest c.args.keep.now) (k.is_failed c.args.keep.now)
    (k.content c.args.keep.now) _ c.in_err-check_zone.ensures))

pub returns-in_err-check_member-clause-cause : goal.returns-in_err-check_member-clause-cause
returns-in_err-check_member-clause-cause g c =
    let e = c.in_err-check_member.ensures in
    let p = err_from_is_err_and c.from_residual-in_err-check_member.result
    c.from_residual-in_err-check_member.ensures.1 in
    rw (p.1, p.2) (inr (unfound g.K.Keep c.args.member c.args.keep.now c.check_member.new.keep _
    (λ honest. c.in_ok-check_zone.ensures.readable honest refl)
    (λ honest is. let same = is in e.unknown honest cc) (λ is. e.store.0 cc, λ failed. let is = e.store.1 failed in cc)
    (λ honest sound is. e.damaged honest sound cc) (λ honest fit is. e.undamaged honest fit cc) e.fault))
