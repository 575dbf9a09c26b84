use Rattle.std.proofs.Common.{◌≡◌, ◌==◌, ℕ, List, [], ◌∷◌, true, false, length, sym, arith, inl}
use Rattle.std.proofs.lemmas.Bool.{eqb-true}
use Rattle.wire.specs.Front.{EndsInHead}
use Rattle.wire.proofs.Fronts.{ended_in_head, fault_of}
use Rattle.wire.proofs.Nothing.{nothing_ends_in_head}
use Rattle.wire.proofs.look.look_at.Goals as goal

nothing_held : (held : List ℕ) → true ≡ (length held == 0) → EndsInHead held
nothing_held [] test = nothing_ends_in_head
nothing_held (b ∷ held) test =
    let none : length (b ∷ held) ≡ 0 = eqb-true (length (b ∷ held)) 0 (sym test) in
    absurd (omega (arith, none))

something_held : (held : List ℕ) → false ≡ (length held == 0) → held ≡ [] → ⊥
something_held [] test none = cc
something_held (b ∷ held) test none = cc

pub returns-else-ended : goal.returns-else-ended
returns-else-ended c = (c.if-ended.false, inl (nothing_held c.args.held.now c.if-is_empty.ensures))

pub returns-in-Err-Fault : goal.returns-in-Err-Fault
returns-in-Err-Fault c = (
  something_held c.args.held.now c.if-is_empty.ensures,
  fault_of c.args.held.now c.args.ended c.in-Err-Fault.fault (rw c.in-Err-Fault.field-0-is at c.in-Err-Fault.ensures),
)

pub returns-then-ended-2 : goal.returns-then-ended-2
returns-then-ended-2 c = (
  something_held c.args.held.now c.if-is_empty.ensures,
  ended_in_head c.args.held.now c.args.ended c.if-ended-2.true (rw c.in-Err-Head.field-0-is at c.in-Err-Head.ensures),
)
