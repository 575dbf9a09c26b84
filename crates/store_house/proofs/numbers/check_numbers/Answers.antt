use Rattle.std.proofs.Common.{◌≡◌, ◌<◌, ◌^◌, [], ◌∷◌, pos, false, subst, sym, arith}
use Rattle.std.specs.List.{AllByRecursion}
use Rattle.std.proofs.lemmas.Result.{on_ok_weaker}
use Rattle.sqlite_value.specs.declared.value.Value.TheVariants.{Int}
use Rattle.sqlite.specs.Effect.{Database}
use Rattle.sqlite.specs.Held.{state}
use Rattle.sqlite.specs.State.{HasCleanDisk}
use Rattle.store_rows.specs.Plain.{passes}
use Rattle.store_house.specs.Numbers.{AreWithin, is_above, is_below}
use Rattle.store_house.proofs.NumbersLemmas.{between, finds_err, none_pass, none_shown, reads_err, reads_then, within}
use Rattle.store_house.proofs.numbers.check_numbers.Goals as goal

pub returns-in_err-shows_none-clause-read : goal.returns-in_err-shows_none-clause-read
returns-in_err-shows_none-clause-read g c = reads_err _ _ _ c.from_residual.ensures.1 c.in_err-shows_none.ensures.read

pub returns-in_err-shows_none-clause-finds : goal.returns-in_err-shows_none-clause-finds
returns-in_err-shows_none-clause-finds g c tree is lows highs =
    let old = state g.S.Store c.args.conn.now in
    let middle = state g.S.Store c.shows_none.new.conn in
    let low : c.args.most < 2 ^ 32 = omega (arith, c.ranges.most) in
    finds_err _ _ _ _ _ _ _ c.from_residual.ensures.1
    (λ clean all. c.in_err-shows_none.ensures.damaged clean
    (none_shown tree is old middle (c.shows_none.ensures.house clean) c.args.below.now is_below [] c.requires.plain.0 lows (between c.args.most low (old.now.trees tree) all).0))
    (returns-in_err-shows_none-clause-read g c)

pub returns-clause-read : goal.returns-clause-read
returns-clause-read g c = reads_then _ _ _ _ c.in_ok-shows_none.ensures.read c.shows_none-2.ensures.read

pub returns-clause-finds : goal.returns-clause-finds
returns-clause-finds g c tree is lows highs =
    let old = state g.S.Store c.args.conn.now in
    let middle = state g.S.Store c.shows_none.new.conn in
    let new = state g.S.Store c.shows_none-2.new.conn in
    let low : c.args.most < 2 ^ 32 = omega (arith, c.ranges.most) in
    let early : HasCleanDisk new → HasCleanDisk middle = λ clean. omega (arith, c.shows_none-2.ensures.read.crash.clean, clean) in
    let same : HasCleanDisk new → middle.now ≡ old.now = λ clean. (c.in_ok-shows_none.ensures.read.same (early clean)).0.now_is in
    record {
      value = λ clean. (
          let house = c.shows_none.ensures.house (early clean) in
          let below = none_pass tree is old middle house c.args.below.now is_below [] c.requires.plain.0 lows (c.in_ok-shows_none.ensures.none (early clean)) in
          let seen = rw c.params-to_sql.ensures at (c.shows_none-2.ensures.none clean) in
          on_ok_weaker c.shows_none-2.result (λ shown. within c.args.most low (old.now.trees tree) (is.shaped old.now house).1 below
          (subst (λ (db : Database). AllByRecursion (λ r. passes is_above (Int (pos c.args.most) ∷ []) r ≡ false) (db.trees tree)) (same clean)
          (none_pass tree is middle new (c.shows_none-2.ensures.house clean) c.args.above.now is_above (Int (pos c.args.most) ∷ []) c.requires.plain.1 highs shown))) seen);
      damaged = λ clean all. (
          let still = subst (λ (db : Database). AreWithin c.args.most (db.trees tree)) (sym (same clean)) all in
          let none = (between c.args.most low (middle.now.trees tree) still).1 in
          c.shows_none-2.ensures.damaged clean (λ rows shown. none_shown tree is middle new (c.shows_none-2.ensures.house clean) c.args.above.now is_above (Int (pos c.args.most) ∷ []) c.requires.plain.1 highs none rows (rw c.params-to_sql.ensures at shown)));
      read = returns-clause-read g c;
    }
