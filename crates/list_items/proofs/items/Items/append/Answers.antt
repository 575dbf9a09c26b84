use Rattle.std.proofs.Common.{◌≡◌, ◌+◌, None, length, refl, sym, ◌∙◌, arith}
use Rattle.list_items.specs.Groups.{has_end, number_at, numbers_at}
use Rattle.list_items.specs.Indexed.{IsIndexed}
use Rattle.list_items.proofs.Known.{ends_added, lots_as, with_room}
use Rattle.list_items.proofs.Listed.{ends_same, ends_stay, row_listed}
use Rattle.list_items.proofs.items.Items.append.Goals as goal

pub invariant_of-self-in_err-reserve : goal.invariant_of-self-in_err-reserve
invariant_of-self-in_err-reserve c =
    rw c.try_reserve.ensures.items (with_room c.self.inside.rows.items (number_at c.self.inside.lots) (numbers_at c.self.inside.categories) (numbers_at c.reserve.new.groups) (numbers_at c.self.inside.sellers) (numbers_at c.self.inside.sellers) (numbers_at c.self.inside.purchases) (has_end c.self.inside.ends) c.reserve.ensures.same (λ seller. refl) c.self.invariant)

pub invariant_of-self-in_err-reserve-2 : goal.invariant_of-self-in_err-reserve-2
invariant_of-self-in_err-reserve-2 c =
    rw c.try_reserve.ensures.items (with_room c.self.inside.rows.items (number_at c.self.inside.lots) (numbers_at c.self.inside.categories) (numbers_at c.reserve.new.groups) (numbers_at c.self.inside.sellers) (numbers_at c.reserve-2.new.groups) (numbers_at c.self.inside.purchases) (has_end c.self.inside.ends) c.reserve.ensures.same c.reserve-2.ensures.same c.self.invariant)

pub invariant_of-self-in_default-insert : goal.invariant_of-self-in_default-insert
invariant_of-self-in_default-insert c =
    let known : IsIndexed c.self.inside.rows.items (number_at c.self.inside.lots) (numbers_at c.reserve.new.groups) (numbers_at c.reserve-2.new.groups) (numbers_at c.self.inside.purchases) (has_end c.self.inside.ends) =
    with_room c.self.inside.rows.items (number_at c.self.inside.lots) (numbers_at c.self.inside.categories) (numbers_at c.reserve.new.groups) (numbers_at c.self.inside.sellers) (numbers_at c.reserve-2.new.groups) (numbers_at c.self.inside.purchases) (has_end c.self.inside.ends) c.reserve.ensures.same c.reserve-2.ensures.same c.self.invariant in
    rw c.try_reserve.ensures.items (ends_added c.self.inside.rows.items (number_at c.self.inside.lots) (numbers_at c.reserve.new.groups) (numbers_at c.reserve-2.new.groups) (numbers_at c.self.inside.purchases) (has_end c.self.inside.ends) (has_end c.insert.new.self)
    (ends_same c.self.inside.ends c.insert.new.self c.in_default-insert.ensures.err) known)

pub invariant_of-self-in_err-add_lot : goal.invariant_of-self-in_err-add_lot
invariant_of-self-in_err-add_lot c =
    let known : IsIndexed c.self.inside.rows.items (number_at c.self.inside.lots) (numbers_at c.reserve.new.groups) (numbers_at c.reserve-2.new.groups) (numbers_at c.self.inside.purchases) (has_end c.self.inside.ends) =
    with_room c.self.inside.rows.items (number_at c.self.inside.lots) (numbers_at c.self.inside.categories) (numbers_at c.reserve.new.groups) (numbers_at c.self.inside.sellers) (numbers_at c.reserve-2.new.groups) (numbers_at c.self.inside.purchases) (has_end c.self.inside.ends) c.reserve.ensures.same c.reserve-2.ensures.same c.self.invariant in
    rw c.try_reserve.ensures.items (lots_as c.self.inside.rows.items (number_at c.self.inside.lots) (number_at c.add_lot.new.sellers) (numbers_at c.reserve.new.groups) (numbers_at c.reserve-2.new.groups) (numbers_at c.self.inside.purchases) (has_end c.insert.new.self) c.in_err-add_lot.ensures.err
    (ends_added c.self.inside.rows.items (number_at c.self.inside.lots) (numbers_at c.reserve.new.groups) (numbers_at c.reserve-2.new.groups) (numbers_at c.self.inside.purchases) (has_end c.self.inside.ends) (has_end c.insert.new.self)
    (ends_stay c.self.inside.ends c.insert.new.self (c.args.item.now.end, c.len.result + 1) c.in-Ok-insert.ensures.updates) known))

pub invariant_of-self-2 : goal.invariant_of-self-2
invariant_of-self-2 c =
    let known : IsIndexed c.self.inside.rows.items (number_at c.self.inside.lots) (numbers_at c.reserve.new.groups) (numbers_at c.reserve-2.new.groups) (numbers_at c.self.inside.purchases) (has_end c.self.inside.ends) =
    with_room c.self.inside.rows.items (number_at c.self.inside.lots) (numbers_at c.self.inside.categories) (numbers_at c.reserve.new.groups) (numbers_at c.self.inside.sellers) (numbers_at c.reserve-2.new.groups) (numbers_at c.self.inside.purchases) (has_end c.self.inside.ends) c.reserve.ensures.same c.reserve-2.ensures.same c.self.invariant in
    let next : c.len.result + 1 ≡ length c.self.inside.rows.items + 1 = omega (arith, c.len.ensures, c.self.inside.rows.ok.0) in
    rw (c.in-Ok-push.ensures.items, c.try_reserve.ensures.items)
    (row_listed c.self.inside.rows.items c.in_ok-entry.entry (c.len.result + 1) c.args.item.now c.from-seller.result c.from-category.result
    (number_at c.self.inside.lots) (number_at c.add_lot.new.sellers) (numbers_at c.reserve.new.groups) (numbers_at c.add.new.groups) (numbers_at c.reserve-2.new.groups) (numbers_at c.add-2.new.groups) (numbers_at c.self.inside.purchases) (has_end c.self.inside.ends) (has_end c.insert.new.self)
    c.in_ok-entry.ensures.value next c.from-seller.ensures c.from-category.ensures c.in_ok-add_lot.ensures.free c.in_ok-add_lot.ensures.ok
    (ends_stay c.self.inside.ends c.insert.new.self (c.args.item.now.end, c.len.result + 1) c.in-Ok-insert.ensures.updates) c.in-Ok-insert.ensures.updates.1
    c.add.ensures c.add-2.ensures known)

pub returns-clause-free : goal.returns-clause-free
returns-clause-free c =
    let none : number_at c.self.inside.lots c.args.item.now.seller c.args.item.now.lot.now ≡ None = rw c.from-seller.ensures at c.in_ok-add_lot.ensures.free in
    rw (← c.self.view_is) (sym (c.self.invariant.lots c.args.item.now.seller c.args.item.now.lot.now) ∙ none)
