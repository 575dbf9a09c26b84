use Rattle.std.proofs.Common.{[], refl, ap, None}
use Rattle.house_rows.specs.declared.command.Command.TheVariants.{Unwatch}
use Rattle.house.proofs.Decides.{accepts, refuses}
use Rattle.house.proofs.OnItems.{row_there}
use Rattle.house.proofs.Reported.{of_found}
use Rattle.house.proofs.Watched.{unwatch_accepts, unwatch_fits, unwatch_refused}
use Rattle.house.proofs.watch_removal.unwatch.Goals as goal

pub returns-in-Err : goal.returns-in-Err
returns-in-Err g c = refuses c.in_ok-refusal.ensures.faults c.in_ok-refusal.ensures.read (λ honest settings h is e.
    unwatch_refused (g.K.Keep.content c.args.keep.now) settings h c.args.moment c.args.caller c.args.item c.in-Err.refusal e (rw c.in-Err.is at c.in_ok-refusal.ensures.value honest))
    (λ honest rows. (rw c.in-Err.is at c.in_ok-refusal.ensures.value honest) (λ terms. []))

pub returns-in-Ok : goal.returns-in-Ok
returns-in-Ok g c = accepts c.in_ok-refusal.ensures.faults c.in_ok-refusal.ensures.read
    (λ honest settings h is e.
    let on = rw c.in-Ok.is at c.in_ok-refusal.ensures.value honest in
    unwatch_accepts (g.K.Keep.content c.args.keep.now) settings h c.args.moment c.args.caller c.args.item c.in-Ok.on.terms c.in-Ok.on.member e on.0 on.1 on.2)
    (λ honest rows.
    let on = rw c.in-Ok.is at c.in_ok-refusal.ensures.value honest in
    of_found (g.K.Keep.content c.args.keep.now) c.args.moment c.args.caller c.args.item c.in-Ok.on.terms (λ terms. []) None on.1 on.2 refl)
    (λ honest rows change_rows.
    let on = rw c.in-Ok.is at c.in_ok-refusal.ensures.value honest in
    unwatch_fits (g.K.Keep.content c.args.keep.now) c.args.moment c.args.caller c.args.item c.in-Ok.on.terms c.in-Ok.on.member on.0 on.1 on.2)
    (λ honest.
    let on = rw c.in-Ok.is at c.in_ok-refusal.ensures.value honest in
    record { same_command = ap Unwatch (row_there (g.K.Keep.content c.args.keep.now) c.args.item c.in-Ok.on.terms on.1).numbered; same_caller = on.0; same_moment = tt })
