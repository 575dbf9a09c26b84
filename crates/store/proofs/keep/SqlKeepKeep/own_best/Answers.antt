use Rattle.std.proofs.Common.{ap, arith, ◌≡◌, rules}
use Rattle.house_rows.proofs.Sound.{fit_where}
use Rattle.std.specs.Prelude.{Err}
use Rattle.sqlite.specs.Held.{state}
use Rattle.sqlite.specs.State.{HasCleanDisk}
use Rattle.store_rows.specs.Tables.{tables_in}
use Rattle.store.proofs.Known.{own_fit, failed_look}
use Rattle.store.proofs.keep.SqlKeepKeep.own_best.Goals as goal

pub returns-in-Err : goal.returns-in-Err
returns-in-Err g c = failed_look _ _ c.reported_fault.ensures.fault c.reported_fault.ensures.store
    (λ sound. fit_where _ _ _ sound.bids)
    (rw (← c.self.view_is) (λ honest fits is.
    let clean : HasCleanDisk (state g.S.Store c.own_best.new.conn) = omega (arith, c.reported_fault.ensures.crash.clean, honest) in
    let item : c.in-Ok-Ok.item ≡ c.args.item = search rules in
    let member : c.in-Ok-Ok.member ≡ c.args.member = search rules in
    let stored = rw (← item, ← member) at fits in
    c.in-Err.ensures.damaged clean (own_fit (tables_in (state g.S.Store c.self.inside.conn).now.trees) _ _ stored) (ap Err is)))
    (search rules)
