use Rattle.std.proofs.Common.{arith, subst, sym}
use Rattle.std.proofs.lemmas.Result.{err_from_is_err_and}
use Rattle.sqlite.specs.Held.{state}
use Rattle.sqlite.specs.State.{HasCleanDisk}
use Rattle.store_house.specs.Named.{IsArranged}
use Rattle.store_house.specs.Over.{over_numbers}
use Rattle.store_open.proofs.InOrder.{follows_on, holds_unreadable}
use Rattle.store_open.proofs.open.open_house.Goals as goal

pub returns-clause-arranged : goal.returns-clause-arranged
returns-clause-arranged g c clean =
    let whole = c.in_ok-whole in
    let opened = c.in_ok-opened.ensures in
    let early : HasCleanDisk (state (over_numbers g.S.Store) whole.whole) = omega (arith, opened.follows.clean, clean) in
    subst (IsArranged (state g.S.Store c.args.conn).committed.trees) (sym (opened.same clean)) (whole.ensures.arranged early)

pub returns-clause-follows : goal.returns-clause-follows
returns-clause-follows g c =
    let whole = c.in_ok-whole in
    follows_on g.S.Store c.args.conn whole.whole _ whole.ensures.follows whole.ensures.rests whole.ensures.arranged c.in_ok-opened.ensures.follows

-- an error gives the store back

pub returns-in_err-whole-clause-damaged : goal.returns-in_err-whole-clause-damaged
returns-in_err-whole-clause-damaged g c =
    let p = err_from_is_err_and c.from_residual.result c.from_residual.ensures.1 in
    rw (p.1, p.2) (λ is clean held. c.in_err-whole.ensures.damaged is clean (held.0, held.1.house, held.2))

pub returns-in_err-opened-clause-left : goal.returns-in_err-opened-clause-left
returns-in_err-opened-clause-left g c =
    let whole = c.in_ok-whole in
    let p = err_from_is_err_and c.from_residual-in_err-opened.result c.from_residual-in_err-opened.ensures.1 in
    let follows = follows_on g.S.Store c.args.conn whole.whole _ whole.ensures.follows whole.ensures.rests whole.ensures.arranged c.in_err-opened.ensures.left in
    rw (p.1, p.2) follows

pub returns-in_err-opened-clause-damaged : goal.returns-in_err-opened-clause-damaged
returns-in_err-opened-clause-damaged g c =
    let whole = c.in_ok-whole in
    let p = err_from_is_err_and c.from_residual-in_err-opened.result c.from_residual-in_err-opened.ensures.1 in
    rw (p.1, p.2) (λ is clean.
    let early : HasCleanDisk (state (over_numbers g.S.Store) whole.whole) = omega (arith, c.in_err-opened.ensures.left.clean, clean) in
    holds_unreadable (state g.S.Store c.args.conn).committed.trees (state (over_numbers g.S.Store) whole.whole).now (whole.ensures.arranged early) (c.in_err-opened.ensures.damaged is clean))
