use Rattle.std.proofs.Common.{◌≡◌, ◌+◌, ◌<◌, length, map, set, sym, subst, ◌∙◌, ap}
use Rattle.house_rows.specs.Changed.{with_purchase}
use Rattle.list_rows.proofs.Making.{makes_ok}
use Rattle.list_items.specs.Groups.{has_end, number_at, numbers_at}
use Rattle.list_items.specs.Indexed.{IsIndexed, number_of}
use Rattle.list_items.proofs.Alike.{like_purchase, noted_purchase, purchase_apart}
use Rattle.list_items.proofs.Known.{indexed_changed, purchases_as}
use Rattle.list_items.proofs.Placed.{placed, unplaced}
use Rattle.list_items.proofs.items.Items.buy.Goals as goal

pub returns-in_default : goal.returns-in_default
returns-in_default c =
    makes_ok _ _ _ _ tt (rw (← c.self.view_is) (unplaced number_of (with_purchase c.args.item c.args.buyer c.args.price c.args.moment) c.self.inside.rows.items c.args.item c.self.invariant.in_turn (purchase_apart c.args.item c.args.buyer c.args.price c.args.moment) (rw c.deref.ensures.value at c.place_of.ensures.none c.in_default.is)))

pub invariant_of-self : goal.invariant_of-self
invariant_of-self c =
    purchases_as c.self.inside.rows.items (number_at c.self.inside.lots) (numbers_at c.self.inside.categories) (numbers_at c.self.inside.sellers) (numbers_at c.self.inside.purchases) (numbers_at c.reserve.new.groups) (has_end c.self.inside.ends) c.reserve.ensures.same c.self.invariant

pub invariant_of-self-2 : goal.invariant_of-self-2
invariant_of-self-2 c =
    let within : (c.in-Some.place < length c.deref.result.now) × (c.in-Some.place + 1 ≡ c.args.item) = c.in-Some.ensures.within in
    let there : c.in-Some.place < length c.self.inside.rows.items = rw c.deref.ensures.value at within.0 in
    let made : map (with_purchase c.args.item c.args.buyer c.args.price c.args.moment) c.self.inside.rows.items ≡ set c.self.inside.rows.items c.in-Some.place c.buy.new.self =
    sym (placed number_of (with_purchase c.args.item c.args.buyer c.args.price c.args.moment) c.self.inside.rows.items c.in-Some.place c.args.item c.index_mut-row.result.now c.buy.new.self c.self.invariant.in_turn (purchase_apart c.args.item c.args.buyer c.args.price c.args.moment) there within.1 c.index_mut-row.ensures.value c.buy.ensures) in
    subst (λ rows. IsIndexed rows (number_at c.self.inside.lots) (numbers_at c.self.inside.categories) (numbers_at c.self.inside.sellers) (numbers_at c.add.new.groups) (has_end c.self.inside.ends)) made
    (indexed_changed (with_purchase c.args.item c.args.buyer c.args.price c.args.moment) c.self.inside.rows.items (number_at c.self.inside.lots) (numbers_at c.self.inside.categories) (numbers_at c.self.inside.sellers) (numbers_at c.reserve.new.groups) (numbers_at c.add.new.groups) (has_end c.self.inside.ends)
    (like_purchase c.args.item c.args.buyer c.args.price c.args.moment)
    (λ row. noted_purchase (numbers_at c.reserve.new.groups) (numbers_at c.add.new.groups) c.args.item c.args.buyer c.args.price c.args.moment row (rw c.from-member.ensures at c.add.ensures))
    (purchases_as c.self.inside.rows.items (number_at c.self.inside.lots) (numbers_at c.self.inside.categories) (numbers_at c.self.inside.sellers) (numbers_at c.self.inside.purchases) (numbers_at c.reserve.new.groups) (has_end c.self.inside.ends) c.reserve.ensures.same c.self.invariant))

pub returns : goal.returns
returns c =
    let within : (c.in-Some.place < length c.deref.result.now) × (c.in-Some.place + 1 ≡ c.args.item) = c.in-Some.ensures.within in
    let there : c.in-Some.place < length c.self.inside.rows.items = rw c.deref.ensures.value at within.0 in
    makes_ok _ _ _ _ tt (placed number_of (with_purchase c.args.item c.args.buyer c.args.price c.args.moment) c.self.inside.rows.items c.in-Some.place c.args.item c.index_mut-row.result.now c.buy.new.self c.self.invariant.in_turn (purchase_apart c.args.item c.args.buyer c.args.price c.args.moment) there within.1 c.index_mut-row.ensures.value c.buy.ensures
    ∙ ap (map (with_purchase c.args.item c.args.buyer c.args.price c.args.moment)) c.self.view_is)
