use Rattle.std.proofs.Common.{◌≡◌, ◌<◌, ◌∙◌, ◌++◌, ◌∷◌, [], rules, ap, arith, subst, sym}
use Rattle.std.specs.Prelude.{All}
use Rattle.store_rows.specs.Reserves.{AreRising, item_at, no_row}
use Rattle.store_rows.specs.declared.reserve.ReserveRow.{ReserveRow}
use Rattle.store_rows.proofs.ReservePlaces.{after_push, below_last, none_last, rising_more, slice_get_is}
use Rattle.store_rows.proofs.reserves.Reserves.add.Goals as goal
use Rattle.store_rows.proofs.reserves.Reserves.add.Goals.{in_default-via-in-Some+else-last-item, in_default-via-in_default}

pub invariant_of-self : goal.invariant_of-self
invariant_of-self c =
    let same : c.deref.result.now ≡ c.self.inside.rows.items = search rules in
    let rising = subst AreRising (sym same) c.self.invariant in
    elim c.in_default.branch [
      | in_default-via-in-Some+else-last-item w ↦ (
          let last = slice_get_is c.deref.result.now _ w.in-Some.last.now (sym w.in-Some.ensures.value) in
          let here : c.deref.result.now ≡ c.in_default.self-inside.rows.items = same ∙ sym (ap (λ s. s.rows.items) w.self-inside-is) in
          let more = rising_more c.deref.result.now (record { item = c.args.item; amount = c.args.amount }) rising (λ i lt. let low = below_last c.deref.result.now rising i lt in omega (arith, low, last.1, w.if-last-item.false)) in
          after_push _ _ _ c.push.result c.push.ensures.ok c.push.ensures.err (subst AreRising here rising)
          (subst (λ rows. AreRising (rows ++ record { item = c.args.item; amount = c.args.amount } ∷ [])) here more))
      | in_default-via-in_default w ↦ (
          let none = none_last c.deref.result.now (sym w.in_default.ensures.value) in
          let here : c.deref.result.now ≡ c.in_default.self-inside.rows.items = same ∙ sym (ap (λ s. s.rows.items) w.self-inside-is) in
          let more = rising_more c.deref.result.now (record { item = c.args.item; amount = c.args.amount }) rising (λ i lt. absurd (omega (arith, none, lt))) in
          after_push _ _ _ c.push.result c.push.ensures.ok c.push.ensures.err (subst AreRising here rising)
          (subst (λ rows. AreRising (rows ++ record { item = c.args.item; amount = c.args.amount } ∷ [])) here more))
    ]

pub returns-in-Some-clause-sound : goal.returns-in-Some-clause-sound
returns-in-Some-clause-sound c lesser was =
    let same : c.deref.result.now ≡ c.args.self.now = search rules in
    let last = slice_get_is c.deref.result.now _ c.in-Some.last.now (sym c.in-Some.ensures.value) in
    let low = (subst (All (λ (r : ReserveRow). r.item < c.args.item)) (sym same) lesser) _ no_row last.0 in
    let is : item_at c.deref.result.now _ ≡ c.in-Some.last.now.item = last.1 in
    omega (arith, low, is, c.if-last-item.true)
