use Rattle.std.proofs.Common.{◌≡◌, ℕ, length, get_or, ◌<◌, arith, inl, inr, true, false, sym, ap, ◌∙◌, eqb}
use Rattle.std.specs.List.{list_any}
use Rattle.std.proofs.lemmas.Grind.{common_steps}
use Rattle.tree_order.proofs.InverseLemmas.{too_high, twice, left_out, inverse_of, any_there, none_there}
use Rattle.tree_order.proofs.numbers.inverse.Goals as goal
use Rattle.tree_order.proofs.numbers.inverse.Goals.{then-number-len-via-then-number-len, then-number-len-via-else-number-len+then-index}

pub returns-then-number-len : goal.returns-then-number-len
returns-then-number-len c = λ outer h.
    let numbers = c.args.numbers.now in
    let tree = c.loop-tree.tree in
    let within : tree < length numbers = omega arith in
    elim c.then-number-len.branch [
      | then-number-len-via-then-number-len w ↦ too_high numbers outer tree within (omega (arith, c.loop-tree.invariant.same)) h
      | then-number-len-via-else-number-len+then-index w ↦
          let low : get_or numbers tree 0 < length numbers = omega (arith, c.loop-tree.invariant.same) in
          elim (c.loop-tree.invariant.back (get_or numbers tree 0) low) [
            | inl unset ↦ absurd (grind (arith, common_steps))
            | inr found ↦ twice numbers outer _ tree found.0 within found.1 h
          ]
    ]

pub returns-then-contains : goal.returns-then-contains
returns-then-contains c = λ outer h.
    let tested : list_any (λ y. eqb y 4294967295) c.loop-tree.outer.items ≡ true = ap (list_any (λ y. eqb y 4294967295)) (sym c.deref.ensures.value) ∙ sym c.contains.ensures.value ∙ c.if-contains.true in
    let some = any_there c.loop-tree.outer.items 4294967295 tested in
    let low : some.0 < length c.args.numbers.now = omega (arith, some.1, c.loop-tree.invariant.same) in
    left_out c.args.numbers.now outer c.loop-tree.outer.items some.0 low (λ t within. (c.loop-tree.invariant.met t (omega arith)).1) some.2 h

pub returns : goal.returns
returns c =
    let numbers = c.args.numbers.now in
    let found = c.loop-tree.outer.items in
    let tested : list_any (λ y. eqb y 4294967295) found ≡ false = ap (list_any (λ y. eqb y 4294967295)) (sym c.deref.ensures.value) ∙ sym c.contains.ensures.value ∙ c.if-contains.false in
    let back : (n : ℕ) → n < length numbers → (get_or found n 0 < length numbers) × (get_or numbers (get_or found n 0) 0 ≡ n) = λ n low.
    elim (c.loop-tree.invariant.back n low) [
      | inl unset ↦ absurd (none_there found 4294967295 tested n (omega (arith, c.loop-tree.invariant.same)) unset)
      | inr set ↦ (omega (arith, set.0, c.loop-tree.auto.tree-end), set.1)
    ]
    in
    inverse_of numbers found c.loop-tree.invariant.few c.loop-tree.invariant.same (λ t low. c.loop-tree.invariant.met t (omega arith)) back
