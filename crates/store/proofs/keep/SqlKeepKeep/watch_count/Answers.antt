use Rattle.std.proofs.Common.{ap, arith, ◌≡◌, rules, subst, sym, ℕ}
use Rattle.house_rows.proofs.Sound.{fit_where}
use Rattle.std.specs.Prelude.{Err, ◌==◌}
use Rattle.sqlite.specs.Held.{state}
use Rattle.sqlite.specs.State.{HasCleanDisk}
use Rattle.house_rows.specs.Fits.{WatchRowFits}
use Rattle.house_rows.specs.Taken.{FitWhere}
use Rattle.house_rows.specs.Watches.{WatchRow}
use Rattle.store_rows.specs.Rows.{watches_in}
use Rattle.store_rows.proofs.Sound.{watches_where}
use Rattle.store.proofs.Known.{failed_look}
use Rattle.store.proofs.keep.SqlKeepKeep.watch_count.Goals as goal

pub returns-in-Err : goal.returns-in-Err
returns-in-Err g c = failed_look _ _ c.reported_fault.ensures.fault c.reported_fault.ensures.store
    (λ sound. fit_where _ _ _ sound.watches)
    (rw (← c.self.view_is) (λ honest fits is.
    let clean : HasCleanDisk (state g.S.Store c.watch_count.new.conn) = omega (arith, c.reported_fault.ensures.crash.clean, honest) in
    let before : HasCleanDisk (state g.S.Store c.self.inside.conn) = omega (arith, c.in-Err.ensures.read.crash.clean, clean) in
    let same : c.in-Ok.member ≡ c.args.member = search rules in
    let db = (state g.S.Store c.self.inside.conn).now.trees in
    let mine = λ (member : ℕ). FitWhere (λ (w : WatchRow). w.member == member) WatchRowFits (watches_in db) in
    c.in-Err.ensures.damaged clean (subst mine (sym same) (watches_where db _ fits)) (ap Err is)))
    (search rules)
