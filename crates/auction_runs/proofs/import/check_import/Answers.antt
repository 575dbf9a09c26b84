use Rattle.std.proofs.lemmas.Result.{err_from_is_err_and}
use Rattle.std.proofs.Common.{inl}
use Rattle.auction_runs.proofs.Unready.{unopened}
use Rattle.auction_runs.proofs.import.check_import.Goals as goal

pub returns-in_err-check_house-clause-cause : goal.returns-in_err-check_house-clause-cause
returns-in_err-check_house-clause-cause g c =
    let p = err_from_is_err_and c.from_residual.result c.from_residual.ensures.1 in
    rw (p.1, p.2) (record {
      read = c.in_err-check_house.ensures.read;
      why = inl c.in_err-check_house.ensures.cause;
    })

pub returns-clause-cause : goal.returns-clause-cause
returns-clause-cause g c = unopened g.K.Keep c.args.lots c.args.member c.args.keep.now c.check_house.new.keep
    c.in_ok-check_house.ensures.zone c.in_ok-check_house.ensures.known
