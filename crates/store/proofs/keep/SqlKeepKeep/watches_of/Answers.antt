use Rattle.std.proofs.Common.{ap, arith, ◌≡◌, rules, subst, sym, ℕ}
use Rattle.house_rows.proofs.Sound.{fit_where}
use Rattle.std.specs.Prelude.{Err, ◌==◌}
use Rattle.sqlite.specs.Held.{state}
use Rattle.sqlite.specs.State.{HasCleanDisk}
use Rattle.house_rows.specs.Fits.{WatchRowFits}
use Rattle.house_rows.specs.Found.{is_watched}
use Rattle.house_rows.specs.Keeping.{FitsBy}
use Rattle.house_rows.specs.Taken.{FitWhere}
use Rattle.house_rows.specs.Tables.{ItemRow}
use Rattle.house_rows.specs.Watches.{WatchRow}
use Rattle.store_rows.specs.ItemRows.{items_in}
use Rattle.store_rows.specs.Rows.{watches_in}
use Rattle.store_rows.specs.Tables.{tables_in}
use Rattle.store_rows.proofs.Sound.{watches_where}
use Rattle.store.proofs.Known.{items_are_consistent, known_serves, known_where, row_is_kept, works, failed_look}
use Rattle.store.proofs.keep.SqlKeepKeep.watches_of.Goals as goal

pub items_watched-requires : goal.items_watched-requires
items_watched-requires g c = known_serves g.S.Store _ c.self.invariant (works _ _ c.self.view_is c.in_ok-serves.ensures.ok)

pub returns-in-Err-clause-answers : goal.returns-in-Err-clause-answers
returns-in-Err-clause-answers g c = failed_look _ _ c.reported_fault.ensures.fault c.reported_fault.ensures.store
    (λ sound. (fit_where _ _ _ sound.watches, fit_where _ _ _ sound.items))
    (rw (← c.self.view_is) (λ honest taken is.
    let watches = taken.0 in
    let items = taken.1 in
    let clean : HasCleanDisk (state g.S.Store c.items_watched.new.conn) = omega (arith, c.reported_fault.ensures.crash.clean, honest) in
    let before : HasCleanDisk (state g.S.Store c.self.inside.conn) = omega (arith, c.in-Err.ensures.finds.read.crash.clean, clean) in
    let same : c.in-Ok.member ≡ c.args.member = search rules in
    let db = (state g.S.Store c.self.inside.conn).now.trees in
    let mine = λ (member : ℕ). FitWhere (λ (w : WatchRow). w.member == member) WatchRowFits (watches_in db) in
    let theirs = λ (member : ℕ). FitWhere (λ (row : ItemRow). is_watched (tables_in db) member row.item.terms.item) (FitsBy c.self.inside.rules.editions) (items_in db) in
    c.in-Err.ensures.finds.damaged clean (record { watches = subst mine (sym same) (watches_where db _ watches); items = subst theirs (sym same) (known_where _ _ _ _ _ (c.self.invariant.known (works _ _ c.self.view_is c.in_ok-serves.ensures.ok) before) _ items) }) (ap Err is)))
    (search rules)

pub returns-in-Ok-items_watched-clause-is_consistent : goal.returns-in-Ok-items_watched-clause-is_consistent
returns-in-Ok-items_watched-clause-is_consistent g c = λ honest.
    let before : HasCleanDisk (state g.S.Store c.self.inside.conn) = omega (arith, c.in-Ok-items_watched.ensures.finds.read.crash.clean, honest) in
    rw (← c.self.view_is) (items_are_consistent _ _ _ _ _ (c.self.invariant.known (works _ _ c.self.view_is c.in_ok-serves.ensures.ok) before) _ c.in-Ok-items_watched.ensures.fits.is_consistent)

pub returns-in-Ok-items_watched-clause-kept : goal.returns-in-Ok-items_watched-clause-kept
returns-in-Ok-items_watched-clause-kept g c = λ honest.
    let before : HasCleanDisk (state g.S.Store c.self.inside.conn) = omega (arith, c.in-Ok-items_watched.ensures.finds.read.crash.clean, honest) in
    let same : c.in-Ok.member ≡ c.args.member = search rules in
    rw (← c.self.view_is, ← same) (λ item is. row_is_kept _ _ _ _ _ (c.self.invariant.known (works _ _ c.self.view_is c.in_ok-serves.ensures.ok) before) item (c.in-Ok-items_watched.ensures.kept honest item is))
