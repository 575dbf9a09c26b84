use Rattle.std.proofs.Common.{◌≡◌, ◌+◌, ◌<◌, length, map, set, sym, subst, ◌∙◌, ap}
use Rattle.house_rows.specs.Changed.{with_settlement}
use Rattle.list_items.specs.Groups.{has_end, number_at, numbers_at}
use Rattle.list_items.specs.Indexed.{IsIndexed, number_of}
use Rattle.list_items.proofs.Alike.{like_settlement, noted_settlement, settlement_apart}
use Rattle.list_items.proofs.Known.{indexed_changed}
use Rattle.list_items.proofs.Placed.{placed, unplaced}
use Rattle.list_items.proofs.items.Items.settle.Goals as goal

pub returns-in_default : goal.returns-in_default
returns-in_default c =
    rw (← c.self.view_is) (unplaced number_of (with_settlement c.args.item) c.self.inside.rows.items c.args.item c.self.invariant.in_turn (settlement_apart c.args.item) (rw c.deref.ensures.value at c.place_of.ensures.none c.in_default.is))

pub invariant_of-self : goal.invariant_of-self
invariant_of-self c =
    let within : (c.in-Some.place < length c.deref.result.now) × (c.in-Some.place + 1 ≡ c.args.item) = c.in-Some.ensures.within in
    let there : c.in-Some.place < length c.self.inside.rows.items = rw c.deref.ensures.value at within.0 in
    let made : map (with_settlement c.args.item) c.self.inside.rows.items ≡ set c.self.inside.rows.items c.in-Some.place c.settle.new.self =
    sym (placed number_of (with_settlement c.args.item) c.self.inside.rows.items c.in-Some.place c.args.item c.index_mut-row.result.now c.settle.new.self c.self.invariant.in_turn (settlement_apart c.args.item) there within.1 c.index_mut-row.ensures.value c.settle.ensures) in
    subst (λ rows. IsIndexed rows (number_at c.self.inside.lots) (numbers_at c.self.inside.categories) (numbers_at c.self.inside.sellers) (numbers_at c.self.inside.purchases) (has_end c.self.inside.ends)) made
    (indexed_changed (with_settlement c.args.item) c.self.inside.rows.items (number_at c.self.inside.lots) (numbers_at c.self.inside.categories) (numbers_at c.self.inside.sellers) (numbers_at c.self.inside.purchases) (numbers_at c.self.inside.purchases) (has_end c.self.inside.ends) (like_settlement c.args.item) (noted_settlement (numbers_at c.self.inside.purchases) c.args.item) c.self.invariant)

pub returns : goal.returns
returns c =
    let within : (c.in-Some.place < length c.deref.result.now) × (c.in-Some.place + 1 ≡ c.args.item) = c.in-Some.ensures.within in
    let there : c.in-Some.place < length c.self.inside.rows.items = rw c.deref.ensures.value at within.0 in
    placed number_of (with_settlement c.args.item) c.self.inside.rows.items c.in-Some.place c.args.item c.index_mut-row.result.now c.settle.new.self c.self.invariant.in_turn (settlement_apart c.args.item) there within.1 c.index_mut-row.ensures.value c.settle.ensures
    ∙ ap (map (with_settlement c.args.item)) c.self.view_is
