use Rattle.std.proofs.Common.{ap, arith, ◌≡◌, rules, subst, sym, ℕ}
use Rattle.std.specs.Prelude.{Err}
use Rattle.sqlite.specs.Held.{state}
use Rattle.sqlite.specs.State.{HasCleanDisk}
use Rattle.house_rows.specs.Taken.{start_of}
use Rattle.store_rows.specs.Tables.{tables_in}
use Rattle.house_rows.specs.Taken.{GivenFit}
use Rattle.store_talk.proofs.Sound.{given_sound}
use Rattle.store.proofs.Known.{failed_look}
use Rattle.store.proofs.keep.SqlKeepKeep.feedback_for.Goals as goal

pub returns-in-Err-clause-answers : goal.returns-in-Err-clause-answers
returns-in-Err-clause-answers g c = failed_look _ _ c.reported_fault.ensures.fault c.reported_fault.ensures.store
    (rw (← c.self.view_is) (λ sound. given_sound _ sound _ _))
    (rw (← c.self.view_is) (λ honest fits is.
    let clean : HasCleanDisk (state g.S.Store c.feedback_to.new.conn) = omega (arith, c.reported_fault.ensures.crash.clean, honest) in
    let same : c.in-Ok.member ≡ c.args.member = search rules in
    let taken = λ (member : ℕ). GivenFit member (start_of c.args.from) (tables_in (state g.S.Store c.self.inside.conn).now.trees).feedback in
    c.in-Err.ensures.finds.damaged clean (subst taken (sym same) fits) (ap Err is)))
    (search rules)
