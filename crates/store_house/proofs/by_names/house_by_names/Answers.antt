use Rattle.std.proofs.Common.{rules, ◌≡◌, Err, sym, ◌∙◌, arith, true≢false}
use Rattle.sqlite.specs.Held.{state}
use Rattle.sqlite.specs.State.{HasCleanDisk}
use Rattle.store_house.proofs.NamedLemmas.{gives_back_in_order, held_schema}
use Rattle.store_house.specs.Over.{over_numbers}
use Rattle.store_house.proofs.by_names.house_by_names.Goals as goal

pub returns-in_err-again-clause-damaged : goal.returns-in_err-again-clause-damaged
returns-in_err-again-clause-damaged g c =
    let is : c.from_residual.result ≡ Err c.in_err-again.field-0.0 = search rules in
    rw is (λ damaged clean. c.in_err-again.ensures.damaged damaged clean)

pub returns-then-is_house-clause-house : goal.returns-then-is_house-clause-house
returns-then-is_house-clause-house g c clean =
    let again = c.in_ok-again.ensures in
    let found = c.in-Ok.ensures.value.0 c.if-is_house.true in
    ((again.rests clean).0, again.house clean (found.0, sym c.schema.ensures.value ∙ found.1))

-- an error gives the store back

pub returns-in-Err-clause-left : goal.returns-in-Err-clause-left
returns-in-Err-clause-left g c =
    let again = c.in_ok-again in
    let left = c.into_store in
    gives_back_in_order g.S.Store c.args.conn again.again left.result again.ensures.follows (λ clean. (again.ensures.rests clean).1) left.ensures.undone left.ensures.quiet

pub returns-else-is_house-clause-left : goal.returns-else-is_house-clause-left
returns-else-is_house-clause-left g c =
    let again = c.in_ok-again in
    let left = c.into_store-else-is_house in
    gives_back_in_order g.S.Store c.args.conn again.again left.result again.ensures.follows (λ clean. (again.ensures.rests clean).1) left.ensures.undone left.ensures.quiet

pub returns-else-is_house-clause-damaged : goal.returns-else-is_house-clause-damaged
returns-else-is_house-clause-damaged g c is clean held =
    let again = state (over_numbers g.S.Store) c.in_ok-again.again in
    let early : HasCleanDisk again = omega (arith, c.into_store-else-is_house.ensures.quiet.clean, clean) in
    let sound = (c.schema.ensures.live (c.in_ok-again.ensures.rests early).0).0 in
    let one = held_schema (state g.S.Store c.args.conn).committed.trees again.now (c.in_ok-again.ensures.arranged early) sound in
    let same = c.in-Ok.ensures.value.1 (held.1.is_indexed, c.schema.ensures.value ∙ one held.0 held.1.sound held.2 ∙ held.1.schema) in
    absurd (true≢false (sym same ∙ c.if-is_house.false))
