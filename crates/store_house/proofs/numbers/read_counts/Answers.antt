use Rattle.std.proofs.Common.{◌∙◌, [], arith, refl, subst, sym}
use Rattle.sqlite.specs.Effect.{Database}
use Rattle.sqlite.specs.Held.{state}
use Rattle.sqlite.specs.State.{HasCleanDisk}
use Rattle.house_rows.specs.Tables.{ItemRow}
use Rattle.house_rows.specs.declared.people.Category.{Category}
use Rattle.house_rows.specs.declared.people.Member.{Member}
use Rattle.store_rows.specs.ItemRows.{item_row_in}
use Rattle.store_rows.specs.Rows.{category_in, member_in}
use Rattle.store_house.specs.Numbers.{row_number}
use Rattle.store_house.specs.Opening.{AreNumbered, IsCount}
use Rattle.store_house.proofs.NumbersLemmas.{finds_err, finds_ok, reads_err, reads_still, reads_then, row_count, typed_count}
use Rattle.store_house.proofs.NumbersMeaning.{categories_above_is, categories_below_is, category_tree, count_categories_is, count_items_is, count_members_is, item_tree, items_above_is, items_below_is, member_tree, members_above_is, members_below_is}
use Rattle.store_house.proofs.numbers.read_counts.Goals as goal

pub count_numbered-requires-clause-plain : goal.count_numbered-requires-clause-plain
count_numbered-requires-clause-plain g c = (count_members_is.1, members_below_is.1, members_above_is.1)

pub count_numbered-requires-2-clause-plain : goal.count_numbered-requires-2-clause-plain
count_numbered-requires-2-clause-plain g c = (count_categories_is.1, categories_below_is.1, categories_above_is.1)

pub count_numbered-requires-3-clause-plain : goal.count_numbered-requires-3-clause-plain
count_numbered-requires-3-clause-plain g c = (count_items_is.1, items_below_is.1, items_above_is.1)

pub returns-in_err-members : goal.returns-in_err-members
returns-in_err-members g c =
    let members = c.in_err-members.ensures.finds 2 member_tree count_members_is.0 members_below_is.0 members_above_is.0 in
    finds_err _ _ _ _ _ _ _ c.from_residual.ensures.1
    (λ clean are. members.damaged clean (row_count member_in (λ (m : Member). m.member) (λ r. refl) _ are.few_members are.members))
    (reads_err _ _ _ c.from_residual.ensures.1 members.read)

pub returns-in_err-categories : goal.returns-in_err-categories
returns-in_err-categories g c =
    let categories = c.in_err-categories.ensures.finds 4 category_tree count_categories_is.0 categories_below_is.0 categories_above_is.0 in
    finds_err _ _ _ _ _ _ _ c.from_residual-in_err-categories.ensures.1
    (λ clean was.
    let early : HasCleanDisk (state g.S.Store c.count_numbered.new.conn) = omega (arith, c.count_numbered-2.ensures.read.crash.clean, clean) in
    let are = subst (λ (db : Database). AreNumbered db.trees) (sym (c.in_ok-members.ensures.read.same early).0.now_is) was in
    categories.damaged clean (row_count category_in (λ (k : Category). k.category) (λ r. refl) _ are.few_categories are.categories))
    (reads_then _ _ _ _ c.in_ok-members.ensures.read (reads_err _ _ _ c.from_residual-in_err-categories.ensures.1 categories.read))

pub returns-in_err-items : goal.returns-in_err-items
returns-in_err-items g c =
    let items = c.in_err-items.ensures.finds 6 item_tree count_items_is.0 items_below_is.0 items_above_is.0 in
    finds_err _ _ _ _ _ _ _ c.from_residual-in_err-items.ensures.1
    (λ clean was.
    let later : HasCleanDisk (state g.S.Store c.count_numbered-2.new.conn) = omega (arith, c.count_numbered-3.ensures.read.crash.clean, clean) in
    let early : HasCleanDisk (state g.S.Store c.count_numbered.new.conn) = omega (arith, c.count_numbered-2.ensures.read.crash.clean, later) in
    let are = subst (λ (db : Database). AreNumbered db.trees) (sym ((c.in_ok-categories.ensures.read.same later).0.now_is ∙ (c.in_ok-members.ensures.read.same early).0.now_is)) was in
    items.damaged clean (row_count (item_row_in []) (λ (row : ItemRow). row.item.terms.item) (λ r. refl) _ are.few_items are.items))
    (reads_then _ _ _ _ c.in_ok-members.ensures.read
    (reads_then _ _ _ _ c.in_ok-categories.ensures.read (reads_err _ _ _ c.from_residual-in_err-items.ensures.1 items.read)))

pub returns : goal.returns
returns g c =
    let members = c.in_ok-members.ensures.finds 2 member_tree count_members_is.0 members_below_is.0 members_above_is.0 in
    let categories = c.in_ok-categories.ensures.finds 4 category_tree count_categories_is.0 categories_below_is.0 categories_above_is.0 in
    let items = c.in_ok-items.ensures.finds 6 item_tree count_items_is.0 items_below_is.0 items_above_is.0 in
    finds_ok _ _ _ _ _ _
    (λ clean.
    let later : HasCleanDisk (state g.S.Store c.count_numbered-2.new.conn) = omega (arith, c.count_numbered-3.ensures.read.crash.clean, clean) in
    let early : HasCleanDisk (state g.S.Store c.count_numbered.new.conn) = omega (arith, c.count_numbered-2.ensures.read.crash.clean, later) in
    let one = (c.in_ok-members.ensures.read.same early).0.now_is in
    let two = (c.in_ok-categories.ensures.read.same later).0.now_is ∙ one in
    let m = typed_count member_in (λ (m : Member). m.member) (λ r. refl) _ _ (members.value early) in
    let k = typed_count category_in (λ (k : Category). k.category) (λ r. refl) _ _ (subst (λ (db : Database). IsCount c.in_ok-categories.categories row_number (db.trees 4)) one (categories.value later)) in
    let i = typed_count (item_row_in []) (λ (row : ItemRow). row.item.terms.item) (λ r. refl) _ _ (subst (λ (db : Database). IsCount c.in_ok-items.items row_number (db.trees 6)) two (items.value clean)) in
    record {
      members = m.0;
      categories = k.0;
      items = i.0;
      numbered = record {
        few_members = m.1.few;
        members = m.1.within;
        few_categories = k.1.few;
        categories = k.1.within;
        few_items = i.1.few;
        items = i.1.within;
      };
    })
    (reads_then _ _ _ _ c.in_ok-members.ensures.read
    (reads_then _ _ _ _ c.in_ok-categories.ensures.read (reads_still _ _ _ c.in_ok-items.ensures.read)))
