use Rattle.std.proofs.Common.{◌≡◌, ◌++◌, ◌∙◌, ap, drop, refl, take}
use Rattle.serde_json.specs.Data.{string}
use Rattle.house_rows.specs.declared.item.ItemShown.{ItemShown}
use Rattle.pages_json.specs.Words.{members_text, whole}
use Rattle.pages_text.proofs.Members.{each_is_all, one_more}
use Rattle.pages_text.specs.Trees.{item_members}
use Rattle.pages_text.proofs.item.put_third.Goals as goal

pub returns-clause-text : goal.returns-clause-text
returns-clause-text c =
    let shown : ItemShown = record { item = c.args.item.now; edition = c.args.edition; floor = c.args.floor } in
    let old = c.args.out.now.items in
    let ms = drop 11 (item_members shown) in
    one_more c.put_member-5.new.out.items c.put_member-6.new.out.items (drop 6 ms) _ _ _ c.in_ok-put_member-6.ensures.text (ap string c.as_str-2.ensures)
    ∙ one_more c.put_member-4.new.out.items c.put_member-5.new.out.items (drop 5 ms) _ _ _ c.in_ok-put_member-5.ensures.text (ap string c.as_str.ensures)
    ∙ one_more c.put_member-3.new.out.items c.put_member-4.new.out.items (drop 4 ms) _ _ _ c.in_ok-put_member-4.ensures.text (ap string c.name.ensures)
    ∙ one_more c.put_member-2.new.out.items c.put_member-3.new.out.items (drop 3 ms) _ _ _ c.in_ok-put_member-3.ensures.text (ap whole c.value-2.ensures.value)
    ∙ one_more c.put_member.new.out.items c.put_member-2.new.out.items (drop 2 ms) _ _ _ c.in_ok-put_member-2.ensures.text (ap whole c.from.ensures)
    ∙ one_more old c.put_member.new.out.items (drop 1 ms) _ _ _ c.in_ok-put_member.ensures.text (ap whole c.value.ensures.value)
    ∙ each_is_all ms old
