use Rattle.std.proofs.Common.{◌≡◌, arith, length, subst, sym}
use Rattle.sqlite.specs.Effect.{Database}
use Rattle.sqlite.specs.Held.{state}
use Rattle.sqlite.specs.State.{HasCleanDisk}
use Rattle.store_house.specs.Numbers.{AreWithin}
use Rattle.store_house.proofs.NumbersLemmas.{finds_err, finds_ok, reads_err, reads_still, reads_then}
use Rattle.store_house.proofs.numbers.count_numbered.Goals as goal

pub returns-in_err-count_rows-clause-read : goal.returns-in_err-count_rows-clause-read
returns-in_err-count_rows-clause-read g c = reads_err _ _ _ c.from_residual.ensures.1 c.in_err-count_rows.ensures.read

pub returns-in_err-count_rows-clause-finds : goal.returns-in_err-count_rows-clause-finds
returns-in_err-count_rows-clause-finds g c tree is counts lows highs =
    finds_err _ _ _ _ _ _ _ c.from_residual.ensures.1
    (λ clean _. (c.in_err-count_rows.ensures.finds tree is counts).damaged clean tt)
    (returns-in_err-count_rows-clause-read g c)

pub returns-in_err-most-clause-read : goal.returns-in_err-most-clause-read
returns-in_err-most-clause-read g c = reads_still _ _ _ c.in_ok-count_rows.ensures.read

pub returns-in_err-most-clause-finds : goal.returns-in_err-most-clause-finds
returns-in_err-most-clause-finds g c tree is counts lows highs =
    let finds = c.in_ok-count_rows.ensures.finds tree is counts in
    finds_err _ _ _ _ _ _ _ c.from_residual-in_err-most.ensures.1
    (λ clean fits. c.in_err-most.ensures.damaged (omega (arith, finds.value clean, fits.few)))
    (returns-in_err-most-clause-read g c)

pub returns-in_err-check_numbers-clause-read : goal.returns-in_err-check_numbers-clause-read
returns-in_err-check_numbers-clause-read g c =
    reads_then _ _ _ _ c.in_ok-count_rows.ensures.read
    (reads_err _ _ _ c.from_residual-in_err-check_numbers.ensures.1 c.in_err-check_numbers.ensures.read)

pub returns-in_err-check_numbers-clause-finds : goal.returns-in_err-check_numbers-clause-finds
returns-in_err-check_numbers-clause-finds g c tree is counts lows highs =
    let finds = c.in_ok-count_rows.ensures.finds tree is counts in
    let checks = c.in_err-check_numbers.ensures.finds tree is lows highs in
    let table = (state g.S.Store c.args.conn.now).now.trees tree in
    finds_err _ _ _ _ _ _ _ c.from_residual-in_err-check_numbers.ensures.1
    (λ clean fits.
    let early : HasCleanDisk (state g.S.Store c.count_rows.new.conn) = omega (arith, c.check_numbers.ensures.read.crash.clean, clean) in
    let same = (c.in_ok-count_rows.ensures.read.same early).0.now_is in
    let many : length table ≡ c.in_ok-most.most = omega (arith, finds.value early, c.in_ok-most.ensures.value, fits.few) in
    let within = subst (λ n. AreWithin n table) many fits.within in
    checks.damaged clean (subst (λ (db : Database). AreWithin c.in_ok-most.most (db.trees tree)) (sym same) within))
    (returns-in_err-check_numbers-clause-read g c)

pub returns-clause-read : goal.returns-clause-read
returns-clause-read g c =
    reads_then _ _ _ _ c.in_ok-count_rows.ensures.read (reads_still _ _ _ c.in_ok-check_numbers.ensures.read)

pub returns-clause-finds : goal.returns-clause-finds
returns-clause-finds g c tree is counts lows highs =
    let finds = c.in_ok-count_rows.ensures.finds tree is counts in
    let checks = c.in_ok-check_numbers.ensures.finds tree is lows highs in
    finds_ok _ _ _ _ _ _
    (λ clean.
    let early : HasCleanDisk (state g.S.Store c.count_rows.new.conn) = omega (arith, c.check_numbers.ensures.read.crash.clean, clean) in
    let same = (c.in_ok-count_rows.ensures.read.same early).0.now_is in
    record {
      count = omega (arith, finds.value early, c.in_ok-most.ensures.value);
      few = omega arith;
      within = subst (λ (db : Database). AreWithin c.in_ok-most.most (db.trees tree)) same (checks.value clean);
    })
    (returns-clause-read g c)
