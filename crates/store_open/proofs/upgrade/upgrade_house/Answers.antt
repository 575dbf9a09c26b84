use Rattle.std.proofs.Common.{arith, subst, sym}
use Rattle.std.proofs.lemmas.Result.{err_from_is_err_and}
use Rattle.sqlite.specs.Held.{state}
use Rattle.sqlite.specs.State.{HasCleanDisk}
use Rattle.store_house.specs.Named.{IsArranged}
use Rattle.store_house.specs.Over.{over_numbers}
use Rattle.store_open.proofs.InOrder.{follows_on, follows_or_grows_in_order, grows_on, holds_no_first, holds_no_house, holds_unreadable, holds_unsound}
use Rattle.store_open.proofs.upgrade.upgrade_house.Goals as goal

pub returns-in_ok-upgrade_first-clause-upgraded : goal.returns-in_ok-upgrade_first-clause-upgraded
returns-in_ok-upgrade_first-clause-upgraded g c clean _ =
    let whole = c.in_ok-whole in
    let grown = c.in_ok-upgrade_first.ensures in
    record {
      old = (state (over_numbers g.S.Store) whole.whole).now.trees;
      arranged = whole.ensures.arranged (grown.clean clean);
      upgrades = grown.upgraded clean;
    }

pub returns-in_ok-upgrade_first-clause-clean : goal.returns-in_ok-upgrade_first-clause-clean
returns-in_ok-upgrade_first-clause-clean g c clean =
    omega (arith, c.in_ok-whole.ensures.follows.clean, c.in_ok-upgrade_first.ensures.clean clean)

pub returns-in_ok-opened_house-clause-kept : goal.returns-in_ok-opened_house-clause-kept
returns-in_ok-opened_house-clause-kept g c clean _ =
    let whole = c.in_ok-whole in
    let opened = c.in_ok-opened_house.ensures in
    let early : HasCleanDisk (state (over_numbers g.S.Store) whole.whole) = omega (arith, opened.follows.clean, clean) in
    subst (IsArranged (state g.S.Store c.args.conn).committed.trees) (sym (opened.same clean)) (whole.ensures.arranged early)

pub returns-in_ok-opened_house-clause-follows : goal.returns-in_ok-opened_house-clause-follows
returns-in_ok-opened_house-clause-follows g c _ =
    let whole = c.in_ok-whole in
    follows_on g.S.Store c.args.conn whole.whole _ whole.ensures.follows whole.ensures.rests whole.ensures.arranged c.in_ok-opened_house.ensures.follows

pub returns-in_ok-opened_house-clause-clean : goal.returns-in_ok-opened_house-clause-clean
returns-in_ok-opened_house-clause-clean g c clean =
    omega (arith, c.in_ok-whole.ensures.follows.clean, c.in_ok-opened_house.ensures.follows.clean, clean)

-- an error gives the store back

pub returns-in_err-whole-clause-left : goal.returns-in_err-whole-clause-left
returns-in_err-whole-clause-left g c =
    let p = err_from_is_err_and c.from_residual.result c.from_residual.ensures.1 in
    rw (p.1, p.2) (λ _. c.in_err-whole.ensures.left)

pub returns-in_err-whole-clause-grown : goal.returns-in_err-whole-clause-grown
returns-in_err-whole-clause-grown g c =
    let p = err_from_is_err_and c.from_residual.result c.from_residual.ensures.1 in
    let grown = follows_or_grows_in_order g.S.Store c.args.conn _ c.in_err-whole.ensures.left in
    rw (p.1, p.2) grown

pub returns-in_err-whole-clause-damaged : goal.returns-in_err-whole-clause-damaged
returns-in_err-whole-clause-damaged g c =
    let p = err_from_is_err_and c.from_residual.result c.from_residual.ensures.1 in
    rw (p.1, p.2) (λ is clean.
    let none = c.in_err-whole.ensures.damaged is clean in
    ((λ held. none.0 (held.0, held.1.house, held.2)), (λ held. none.1 (held.0, held.1.house, held.2))))

pub returns-in_err-upgrade_first-clause-left : goal.returns-in_err-upgrade_first-clause-left
returns-in_err-upgrade_first-clause-left g c =
    let whole = c.in_ok-whole in
    let p = err_from_is_err_and c.from_residual-in_err-upgrade_first.result c.from_residual-in_err-upgrade_first.ensures.1 in
    rw (p.1, p.2) (λ other. follows_on g.S.Store c.args.conn whole.whole _ whole.ensures.follows whole.ensures.rests whole.ensures.arranged (c.in_err-upgrade_first.ensures.left other))

pub returns-in_err-upgrade_first-clause-grown : goal.returns-in_err-upgrade_first-clause-grown
returns-in_err-upgrade_first-clause-grown g c =
    let whole = c.in_ok-whole in
    let grown = grows_on g.S.Store c.args.conn whole.whole _ whole.ensures.follows whole.ensures.rests whole.ensures.arranged c.in_err-upgrade_first.ensures.grown in
    let p = err_from_is_err_and c.from_residual-in_err-upgrade_first.result c.from_residual-in_err-upgrade_first.ensures.1 in
    rw (p.1, p.2) grown

pub returns-in_err-upgrade_first-clause-damaged : goal.returns-in_err-upgrade_first-clause-damaged
returns-in_err-upgrade_first-clause-damaged g c =
    let whole = c.in_ok-whole in
    let now = (state (over_numbers g.S.Store) whole.whole).now in
    let below = (state g.S.Store c.args.conn).committed.trees in
    let p = err_from_is_err_and c.from_residual-in_err-upgrade_first.result c.from_residual-in_err-upgrade_first.ensures.1 in
    rw (p.1, p.2) (λ is clean.
    let early : HasCleanDisk (state (over_numbers g.S.Store) whole.whole) = omega (arith, c.in_err-upgrade_first.ensures.grown.clean, clean) in
    let first = (whole.ensures.first early c.if-is_first.true).1 in (
      holds_no_house below now (whole.ensures.arranged early) first,
      holds_unsound below now (whole.ensures.arranged early) first (c.in_err-upgrade_first.ensures.damaged is clean),
    ))

pub returns-in_err-opened_house-clause-left : goal.returns-in_err-opened_house-clause-left
returns-in_err-opened_house-clause-left g c =
    let whole = c.in_ok-whole in
    let follows = follows_on g.S.Store c.args.conn whole.whole _ whole.ensures.follows whole.ensures.rests whole.ensures.arranged c.in_err-opened_house.ensures.left in
    let p = err_from_is_err_and c.from_residual-in_err-opened_house.result c.from_residual-in_err-opened_house.ensures.1 in
    rw (p.1, p.2) (λ _. follows)

pub returns-in_err-opened_house-clause-grown : goal.returns-in_err-opened_house-clause-grown
returns-in_err-opened_house-clause-grown g c =
    let whole = c.in_ok-whole in
    let follows = follows_on g.S.Store c.args.conn whole.whole _ whole.ensures.follows whole.ensures.rests whole.ensures.arranged c.in_err-opened_house.ensures.left in
    let grown = follows_or_grows_in_order g.S.Store c.args.conn _ follows in
    let p = err_from_is_err_and c.from_residual-in_err-opened_house.result c.from_residual-in_err-opened_house.ensures.1 in
    rw (p.1, p.2) grown

pub returns-in_err-opened_house-clause-damaged : goal.returns-in_err-opened_house-clause-damaged
returns-in_err-opened_house-clause-damaged g c =
    let whole = c.in_ok-whole in
    let now = (state (over_numbers g.S.Store) whole.whole).now in
    let below = (state g.S.Store c.args.conn).committed.trees in
    let p = err_from_is_err_and c.from_residual-in_err-opened_house.result c.from_residual-in_err-opened_house.ensures.1 in
    rw (p.1, p.2) (λ is clean.
    let early : HasCleanDisk (state (over_numbers g.S.Store) whole.whole) = omega (arith, c.in_err-opened_house.ensures.left.clean, clean) in
    let house = (whole.ensures.house early c.if-is_first.false).1 in (
      holds_unreadable below now (whole.ensures.arranged early) (c.in_err-opened_house.ensures.damaged is clean),
      holds_no_first below now (whole.ensures.arranged early) house,
    ))
