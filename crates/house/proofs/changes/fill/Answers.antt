use Rattle.std.proofs.Common.{◌≡◌, ◌∙◌, ◌+◌, ap, sym, ◌∷◌, ◌++◌, get_or, take, drop}
use Rattle.std.proofs.lemmas.List.{drop_more, take_more, take-append-drop}
use Rattle.std.proofs.lemmas.Result.{err_from_is_err_and}
use Rattle.house_rows.proofs.Sound.{change_rows_fit}
use Rattle.house.specs.Filled.{FitInTurn, IsBegun}
use Rattle.house.proofs.Begun.{crash_now, free_next, not_failed, on_err, one_made, rows_next}
use Rattle.house.proofs.changes.fill.Goals as goal

pub returns-in_err-apply-clause-err : goal.returns-in_err-apply-clause-err
returns-in_err-apply-clause-err g c = λ honest going.
    let i = c.loop-change.change-index in
    on_err _ (IsBegun (g.K.Keep.content c.args.keep.now) c.args.changes.now (g.K.Keep.content c.apply.new.self)) (record {
      made = take i c.args.changes.now;
      rest = drop i c.args.changes.now;
      parts = sym (take-append-drop i c.args.changes.now);
      leads = c.in_err-apply.ensures.err honest going ∙ c.loop-change.invariant.leads (c.in_err-apply.ensures.honest honest);
    })

pub returns-in_err-apply-clause-crash : goal.returns-in_err-apply-clause-crash
returns-in_err-apply-clause-crash g c = λ honest t may.
    let i = c.loop-change.change-index in
    let changes = c.args.changes.now in
    let x = get_or changes i c.change-item.result in
    let more : drop i changes ≡ x ∷ drop (i + 1) changes = drop_more changes i c.change-item.result c.loop-change-test.true in
    let whole : take i changes ++ x ∷ drop (i + 1) changes ≡ changes = ap (λ l. take i changes ++ l) (sym more) ∙ take-append-drop i changes in
    rw (← whole) (crash_now g.K.Keep.content g.K.Keep.is_failed g.K.Keep.is_honest g.K.Keep.may_leave c.args.keep.now c.loop-change.keep (take i changes) (drop (i + 1) changes) x t _ _
    (rw more at c.loop-change.invariant) (c.in_err-apply.ensures.honest honest) (rw c.change-item.is at c.in_err-apply.ensures.crash honest t may))

pub returns-in_err-apply-clause-damaged : goal.returns-in_err-apply-clause-damaged
returns-in_err-apply-clause-damaged g c = λ honest sound free.
    let i = c.loop-change.change-index in
    let changes = c.args.changes.now in
    let x = get_or changes i c.change-item.result in
    let before = c.in_err-apply.ensures.honest honest in
    let more : drop i changes ≡ x ∷ drop (i + 1) changes = drop_more changes i c.change-item.result c.loop-change-test.true in
    let whole : take i changes ++ x ∷ drop (i + 1) changes ≡ changes = ap (λ l. take i changes ++ l) (sym more) ∙ take-append-drop i changes in
    let next = free_next (g.K.Keep.content c.args.keep.now) (take i changes) x (drop (i + 1) changes) (rw whole free) in
    let now = g.K.Keep.content c.loop-change.keep in
    let way : FitInTurn now (x ∷ drop (i + 1) changes) = rw more at c.loop-change.invariant.fits before in
    let rows = change_rows_fit now x (c.loop-change.invariant.sound before sound) in
    let exit = err_from_is_err_and c.from_residual.result c.from_residual.ensures.1 in
    rw (exit.1, exit.2) (c.in_err-apply.ensures.faults.damaged honest (rw c.change-item.is way.0) (rw c.change-item.is rows) (rw (c.loop-change.invariant.leads before, c.change-item.is) next))

pub returns-in_err-apply-clause-rows : goal.returns-in_err-apply-clause-rows
returns-in_err-apply-clause-rows g c = λ honest fit free.
    let i = c.loop-change.change-index in
    let changes = c.args.changes.now in
    let x = get_or changes i c.change-item.result in
    let old = g.K.Keep.content c.args.keep.now in
    let before = c.in_err-apply.ensures.honest honest in
    let more : drop i changes ≡ x ∷ drop (i + 1) changes = drop_more changes i c.change-item.result c.loop-change-test.true in
    let whole : take i changes ++ x ∷ drop (i + 1) changes ≡ changes = ap (λ l. take i changes ++ l) (sym more) ∙ take-append-drop i changes in
    let next = free_next old (take i changes) x (drop (i + 1) changes) (rw whole free) in
    let rows = rows_next old (take i changes) x (drop (i + 1) changes) (rw whole fit) in
    let way : FitInTurn (g.K.Keep.content c.loop-change.keep) (x ∷ drop (i + 1) changes) = rw more at c.loop-change.invariant.fits before in
    let exit = err_from_is_err_and c.from_residual.result c.from_residual.ensures.1 in
    rw (exit.1, exit.2) (c.in_err-apply.ensures.faults.damaged honest (rw c.change-item.is way.0) (rw (c.loop-change.invariant.leads before, c.change-item.is) rows) (rw (c.loop-change.invariant.leads before, c.change-item.is) next))

pub loop-change-preserved : goal.loop-change-preserved
loop-change-preserved g c =
    let i = c.loop-change.change-index in
    let changes = c.args.changes.now in
    let x = c.change-item.result in
    let more = drop_more changes i x c.loop-change-test.true in
    rw (take_more changes i x c.loop-change-test.true, ← c.change-item.is)
    (one_made g.K.Keep.content g.K.Keep.is_failed g.K.Keep.is_honest g.K.Keep.may_leave c.args.keep.now c.loop-change.keep c.apply.new.self (take i changes) (drop (i + 1) changes) x
    (rw (more, ← c.change-item.is) at c.loop-change.invariant) c.in_ok-apply.ensures.ok c.in_ok-apply.ensures.faults.taken c.in_ok-apply.ensures.honest (λ going. not_failed (g.K.Keep.is_failed c.apply.new.self) (λ e. let report = c.in_ok-apply.ensures.faults.store.1 e in cc)) c.in_ok-apply.ensures.stays c.in_ok-apply.ensures.kept)
