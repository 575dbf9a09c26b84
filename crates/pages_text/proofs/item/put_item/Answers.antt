use Rattle.std.proofs.Common.{◌++◌, ◌∙◌, ap, arith, drop, take}
use Rattle.house_rows.specs.declared.item.ItemShown.{ItemShown}
use Rattle.pages_json.proofs.Texts.{front_kept, three_parts}
use Rattle.pages_json.specs.Words.{members_text, text_of}
use Rattle.pages_text.specs.Trees.{item_members, item_tree}
use Rattle.pages_text.proofs.item.put_item.Goals as goal

pub returns-clause-text : goal.returns-clause-text
returns-clause-text c =
    let shown : ItemShown = record { item = c.args.item.now; edition = c.args.edition; floor = c.args.floor } in
    let first = take 5 (item_members shown) in
    let second = take 6 (drop 5 (item_members shown)) in
    let third = drop 11 (item_members shown) in
    c.in_ok-end_object.ensures.text
    ∙ three_parts first second third c.args.out.now.items c.put_third.new.out.items c.len-start.result (omega arith)
    (c.in_ok-put_third.ensures.text ∙ ap (λ s. s ++ members_text third) (c.in_ok-put_second.ensures.text ∙ ap (λ s. s ++ members_text second) c.in_ok-put_first.ensures.text))

pub returns-clause-front : goal.returns-clause-front
returns-clause-front c =
    let shown : ItemShown = record { item = c.args.item.now; edition = c.args.edition; floor = c.args.floor } in
    front_kept c.args.out.now.items c.end_object.new.out.items (text_of (item_tree shown)) (returns-clause-text c)
