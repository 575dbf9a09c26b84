use Rattle.std.proofs.Common.{ap, arith, ◌≡◌, rules, subst, sym, ℕ}
use Rattle.std.specs.Prelude.{Err}
use Rattle.sqlite.specs.Held.{state}
use Rattle.sqlite.specs.State.{HasCleanDisk}
use Rattle.house_rows.specs.Taken.{start_of}
use Rattle.store_rows.specs.Tables.{tables_in}
use Rattle.house_rows.specs.Taken.{PublishedFit}
use Rattle.store_talk.proofs.Sound.{published_sound}
use Rattle.store.proofs.Known.{failed_look}
use Rattle.store.proofs.keep.SqlKeepKeep.published.Goals as goal

pub returns-in-Err-clause-answers : goal.returns-in-Err-clause-answers
returns-in-Err-clause-answers g c = failed_look _ _ c.reported_fault.ensures.fault c.reported_fault.ensures.store
    (rw (← c.self.view_is) (λ sound. published_sound _ sound _ _))
    (rw (← c.self.view_is) (λ honest fits is.
    let clean : HasCleanDisk (state g.S.Store c.published_on.new.conn) = omega (arith, c.reported_fault.ensures.crash.clean, honest) in
    let same : c.in-Ok.item ≡ c.args.item = search rules in
    let taken = λ (item : ℕ). PublishedFit item (start_of c.args.from) (tables_in (state g.S.Store c.self.inside.conn).now.trees).questions in
    c.in-Err.ensures.finds.damaged clean (subst taken (sym same) fits) (ap Err is)))
    (search rules)
